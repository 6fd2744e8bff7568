-- What holds between two turns stays true: when delays fall, when the period goes up, when a state goes on.
use Prim.Native.Nat.{ℕ, zero, suc, ◌+◌, ◌*◌, ◌-◌, ◌/◌, ◌%◌, ◌≤◌, ◌<◌}
use mathlib.Core.Path.{◌≡◌, refl, sym, subst}
use mathlib.Core.Logic.{◌⊎◌, inl, inr}
use mathlib.Core.List.{List}
use native.Mathlib.Omega.{arith}
use lib.ListN.{length, get_or}
use Rattle.timing.specs.Formulas.{register_load}
use Rattle.timing.specs.Ranges.{period_max}
use Rattle.rules.specs.Rules.{Rules}
use Rattle.rules.specs.Relaxed.{HasRoute}
use Rattle.plan.proofs.Truth.{split, equal}
use Rattle.costs.specs.Costs.{row_words}
use Rattle.layout.specs.Layout.{closes_at}
use Rattle.rows.specs.Rows.{view_of}
use Rattle.problem.specs.declared.Problem.{Problem}
use Rattle.problem.specs.Problem.{rules_for, Ready}
use Rattle.table.specs.Problem.{Room}
use Rattle.plan.proofs.Joined.{joined_in}
use Rattle.problem.proofs.Sizes.{cells_are}
use Rattle.rules.specs.Rules.{rules_of}
use Rattle.queue.specs.Queue.{Waits, Left}
use Rattle.delays.specs.Delays.{never, latest, closes_of}
use Rattle.spans.specs.Opens.{rules_at, Opens, Shuts}
use Rattle.spans.specs.Eases.{WaitsBelow, StartedAt, Eases}
use Rattle.spans.specs.Spread.{Spread, SpreadOut}
use Rattle.spans.proofs.Opens.{shuts-later}
use Rattle.spans.proofs.Eases.{spread-kept}
use Rattle.spans.proofs.Named.{limit-named}
use lib.Dec.{T}
use Rattle.earliest.specs.Earliest.{Handled, Going, Closed, Passing}

-- a lighter state of the cell is as early
pub record Lighter (words : List ℕ) (c l : ℕ) : Type 0 where
  pub load : ℕ
  pub is : l ≡ load + 1
  pub early : view_of words c load ≤ view_of words c l

module _ (p : Problem) (marks : List ℕ) where
  abbrev n : ℕ
  n = length marks

  abbrev limit : ℕ
  limit = p.elements.limit.0

  abbrev R : Rules
  R = rules_for p marks

  linked-in : Ready p marks → (c to : ℕ) → T (R.linked c to) → to < n
  unfolding rules_for rules_of
  linked-in ready c to w = omega (arith, (joined_in _ _ _ w).1, cells_are p marks ready)

  -- Each state that waited still waits, has gone on, or is idle; then all states are handled as they were.
  module _ {old new : List ℕ} {count next : ℕ} (lower : (c l : ℕ) → c < n → l ≤ limit → view_of new c l ≤ view_of old c l) (anew : (c l : ℕ) → c < n → l ≤ limit → view_of new c l < view_of old c l → WaitsBelow n new next c l) (keep : (c l d : ℕ) → c < n → Spread R n old c l d → Spread R n new c l d) (moved : (c l : ℕ) → c < n → l ≤ limit → Waits n old count (c * row_words + l) → Waits n new next (c * row_words + l) ⊎ (Spread R n new c l (view_of old c l) ⊎ Lighter old c l)) (was : (c l : ℕ) → c < n → l ≤ limit → view_of old c l < never → Handled p marks old count c l) where
    fallen : (c l m : ℕ) → l ≤ m → view_of new c l ≤ view_of new c m → WaitsBelow n new next c l → Handled p marks new next c m
    fallen c l m h k w = record { load = w.load; light = omega (arith, w.light); early = omega (arith, w.early); handled = inl w.waits }

    -- from the lighter loads of the cell
    turn : (c l : ℕ) → c < n → l ≤ limit → view_of new c l < never → ((k : ℕ) → k < l → view_of new c k < never → Handled p marks new next c k) → Handled p marks new next c l
    turn c l inside light known below = go (split (view_of old c l) (view_of new c l))
      where
        gone : (h : Handled p marks old count c l) → view_of old c l ≤ view_of new c l → view_of new c h.load ≡ view_of old c h.load → (Waits n new next (c * row_words + h.load) ⊎ (Spread R n new c h.load (view_of old c h.load) ⊎ Lighter old c h.load)) → Handled p marks new next c l
        gone h k e (inl waits) = record { load = h.load; light = h.light; early = omega (arith, h.early); handled = inl waits }
        gone h k e (inr (inl done)) = record { load = h.load; light = h.light; early = omega (arith, h.early); handled = inr (rw e done) }
        gone h k e (inr (inr idle)) =
            let q = lower c idle.load inside (omega (arith, idle.is, h.light)) in
            let r = below idle.load (omega (arith, idle.is, h.light)) (omega (arith, idle.early, h.early, lower c l inside light)) in
            record { load = r.load; light = omega (arith, r.light, idle.is, h.light); early = omega (arith, r.early, q, idle.early, h.early); handled = r.handled }

        stays : (h : Handled p marks old count c l) → view_of old c l ≤ view_of new c l → view_of new c h.load ≡ view_of old c h.load → Waits n old count (c * row_words + h.load) ⊎ Spread R n old c h.load (view_of old c h.load) → Handled p marks new next c l
        stays h k e (inl waits) = gone h k e (moved c h.load inside (omega (arith, h.light)) waits)
        stays h k e (inr done) = gone h k e (inr (inl (keep c h.load (view_of old c h.load) inside done)))

        same : (h : Handled p marks old count c l) → view_of old c l ≤ view_of new c l → (view_of old c h.load ≤ view_of new c h.load) ⊎ (view_of new c h.load < view_of old c h.load) → Handled p marks new next c l
        same h k (inl e) = stays h k (omega (arith, lower c h.load inside (omega (arith, h.light)))) h.handled
        same h k (inr f) = fallen c h.load l h.light (omega (arith, h.early)) (anew c h.load inside (omega (arith, h.light)) f)

        go : (view_of old c l ≤ view_of new c l) ⊎ (view_of new c l < view_of old c l) → Handled p marks new next c l
        go (inl k) = let h = was c l inside light (omega (arith, lower c l inside light)) in same h k (split (view_of old c h.load) (view_of new c h.load))
        go (inr f) = fallen c l l (omega arith) (omega arith) (anew c l inside light f)

    still : (m c l : ℕ) → l ≤ m → c < n → l ≤ limit → view_of new c l < never → Handled p marks new next c l
    still zero c l small inside light known = turn c l inside light known (λ k h q. absurd (omega arith))
    still (suc m) c l small inside light known =
        turn c l inside light known (λ k h q. still m c k (omega arith) inside (omega arith) q)

    pub handled-still : (c l : ℕ) → c < n → l ≤ limit → view_of new c l < never → Handled p marks new next c l
    handled-still c l = still l c l (omega arith)

  -- What the period was at changes to u, no earlier; the rows and closes of `mid` are those of `old`.
  module _ {t u : ℕ} (later : t ≤ u) {old mid new : List ℕ} {count between next : ℕ} (was : Passing p marks t old count) (long : length mid ≡ length old) (rows : (c l : ℕ) → c < n → l ≤ limit → view_of mid c l ≡ view_of old c l) (ends : (c : ℕ) → c < n → closes_of n mid c ≡ closes_of n old c) (e : Eases p marks u mid between new next) where
    below : (c l : ℕ) → c < n → l ≤ limit → view_of new c l ≤ view_of old c l
    below c l inside light = omega (arith, e.lower c l inside light, rows c l inside light)

    started-kept : (c : ℕ) → c < n → StartedAt p marks old c → StartedAt p marks new c
    started-kept c inside h = omega (arith, below c (register_load p.elements.register) inside was.ground.light)

    opens_kept : (c l : ℕ) → c < n → l ≤ limit → view_of new c l < never → Opens p marks u c l (view_of new c l)
    opens_kept c l inside light known = go (split (view_of mid c l) (view_of new c l))
      where
        go : (view_of mid c l ≤ view_of new c l) ⊎ (view_of new c l < view_of mid c l) → Opens p marks u c l (view_of new c l)
        go (inl h) =
            let same : view_of new c l ≡ view_of old c l = omega (arith, e.lower c l inside light, rows c l inside light) in
            subst (λ (d : ℕ). Opens p marks u c l d) (sym same) (λ v k. was.opens c l inside light (omega arith) v (omega arith))
        go (inr h) = e.opens c l inside light h

    closed-kept : Closed p marks u new
    closed-kept c inside known = go (split (closes_of n mid c) (closes_of n new c))
      where
        go : (closes_of n mid c ≤ closes_of n new c) ⊎ (closes_of n new c < closes_of n mid c) → (closes_of n new c ≤ latest) × Shuts p marks u c (closes_of n new c)
        go (inl h) =
            let same : closes_of n new c ≡ closes_of n old c = omega (arith, e.closer c inside, ends c inside) in
            let q = was.closed c inside (omega arith) in
            (omega (arith, q.0), subst (λ (z : ℕ). Shuts p marks u c z) (sym same) (shuts-later p marks q.1 later))
        go (inr h) = e.shuts c inside h

    -- at the same period
    going-kept : Going p marks u old → Going p marks u new
    going-kept g c inside soon other = go (split (closes_of n mid c) (closes_of n new c))
      where
        go : (closes_of n mid c ≤ closes_of n new c) ⊎ (closes_of n new c < closes_of n mid c) → StartedAt p marks new c
        go (inl h) = started-kept c inside (g c inside (omega (arith, e.closer c inside, ends c inside)) other)
        go (inr h) = e.going c inside h soon other

    spread-on : (c l d : ℕ) → c < n → Spread R n old c l d → Spread R n new c l d
    spread-on c l d inside = spread-kept p marks old new below (λ c inside. omega (arith, e.closer c inside, ends c inside)) R (limit-named p marks) c l d (linked-in was.ground.ready c)

    pub passing-next : u ≤ period_max → Going p marks u new → ((c l : ℕ) → c < n → l ≤ limit → Waits n old count (c * row_words + l) → Waits n new next (c * row_words + l) ⊎ (Spread R n new c l (view_of old c l) ⊎ Lighter old c l)) → ((b : ℕ) → p.elements.period ≤ b → b < u → HasRoute (rules_at p marks b) → ⊥) → Passing p marks u new next
    passing-next most going moved none =
        record {
          ground =
              record {
                ready = was.ground.ready;
                room = omega (arith, was.ground.room, long, e.same);
                light = was.ground.light;
                falling = e.falling;
                queue = e.queue;
              };
          least = omega (arith, was.least);
          most = most;
          opens = opens_kept;
          closed = closed-kept;
          going = going;
          begun = started-kept p.sink was.ground.ready.sink was.begun;
          handled = handled-still below (λ c l inside light h. e.anew c l inside light (omega (arith, rows c l inside light))) spread-on moved was.handled;
          none = none;
        }

  state-in : (c l : ℕ) → Ready p marks → c < n → l ≤ limit → c * row_words + l < n * row_words
  state-in c l ready inside light = omega (arith, ready.valid.limit)

  -- delays have fallen
  pub passing-eases : {t : ℕ} {old new : List ℕ} {count next : ℕ} → Passing p marks t old count → Eases p marks t old count new next → Passing p marks t new next
  passing-eases was e =
      passing-next (omega arith) was refl (λ c l inside light. refl) (λ c inside. refl) e was.most (going-kept (omega arith) was refl (λ c l inside light. refl) (λ c inside. refl) e was.going) (λ c l inside light w. inl (e.waits (c * row_words + l) (state-in c l was.ground.ready inside light) w)) was.none

  -- the period goes up
  pub passing-rises : {t u : ℕ} {old new : List ℕ} {count next : ℕ} → t ≤ u → u ≤ period_max → Passing p marks t old count → Eases p marks u old count new next → Going p marks u new → ((b : ℕ) → p.elements.period ≤ b → b < u → HasRoute (rules_at p marks b) → ⊥) → Passing p marks u new next
  passing-rises later most was e going none =
      passing-next later was refl (λ c l inside light. refl) (λ c inside. refl) e most going (λ c l inside light w. inl (e.waits (c * row_words + l) (state-in c l was.ground.ready inside light) w)) none

  -- a state goes on
  module _ {t : ℕ} {old mid new : List ℕ} {count next state : ℕ} (was : Passing p marks t old count) (left : Left n count old mid state) (e : Eases p marks t mid (count - 1) new next) (out : SpreadOut R n state mid new) where
    rows_same : (c l : ℕ) → c < n → l ≤ limit → view_of mid c l ≡ view_of old c l
    rows_same c l inside light = left.aside.low (c * row_words + l) (state-in c l was.ground.ready inside light)

    ends_same : (c : ℕ) → c < n → closes_of n mid c ≡ closes_of n old c
    ends_same c inside = left.aside.high (n * closes_at + c) (omega arith)

    moved : (c l : ℕ) → c < n → l ≤ limit → Waits n old count (c * row_words + l) → Waits n new next (c * row_words + l) ⊎ (Spread R n new c l (view_of old c l) ⊎ Lighter old c l)
    moved c l inside light w = go (equal (c * row_words + l) state) out
      where
        small : l < row_words
        small = omega (arith, was.ground.ready.valid.limit)

        go : (c * row_words + l ≡ state) ⊎ (c * row_words + l ≡ state → ⊥) → SpreadOut R n state mid new → Waits n new next (c * row_words + l) ⊎ (Spread R n new c l (view_of old c l) ⊎ Lighter old c l)
        go (inr other) _ =
            let in_plan = state-in c l was.ground.ready inside light in
            inl (e.waits (c * row_words + l) in_plan (left.waits (c * row_words + l) in_plan other w))
        go (inl is) (inl idle) =
            let cell : idle.cell ≡ c = omega (arith, idle.is, idle.light) in
            let load : l ≡ idle.load + 1 = omega (arith, idle.is, idle.light) in
            let early : view_of mid idle.cell idle.load ≤ get_or mid (c * row_words + l) 0 = rw is idle.early in
            let here : view_of mid c idle.load ≤ view_of mid c l = rw cell at early in
            inr (inr (record { load = idle.load; is = load; early = omega (arith, here, rows_same c l inside light, rows_same c idle.load inside (omega arith)) }))
        go (inl is) (inr done) =
            let cell : state / row_words ≡ c = omega arith in
            let load : state % row_words ≡ l = omega arith in
            let delay : get_or mid state 0 ≡ view_of old c l = subst (λ (s : ℕ). get_or mid s 0 ≡ view_of old c l) is (rows_same c l inside light) in
            inr (inl (rw (cell, load, delay) at done))

    pub passing-goes-on : Passing p marks t new next
    passing-goes-on =
        passing-next (omega arith) was left.aside.same rows_same ends_same e was.most (going-kept (omega arith) was left.aside.same rows_same ends_same e was.going) moved was.none

  -- at the start every word is `never`
  pub passing_begins : {words new : List ℕ} {next : ℕ} → Ready p marks → Room n words → register_load p.elements.register ≤ limit → ((k : ℕ) → k < n * row_words → get_or words k 0 ≡ never) → ((c : ℕ) → c < n → closes_of n words c ≡ never) → Eases p marks p.elements.period words 0 new next → StartedAt p marks new p.sink → Passing p marks p.elements.period new next
  passing_begins {words} {new} {next} ready room light rows ends e begun =
      record {
        ground = record { ready = ready; room = omega (arith, e.same); light = light; falling = e.falling; queue = e.queue };
        least = omega arith;
        most = ready.valid.most;
        opens = λ c l inside small known. e.opens c l inside small (fell c l inside small known);
        closed = λ c inside known. e.shuts c inside (omega (arith, ends c inside));
        going = λ c inside soon other. e.going c inside (omega (arith, ends c inside, ready.valid.most)) soon other;
        begun = begun;
        handled = λ c l inside small known. waits c l (e.anew c l inside small (fell c l inside small known));
        none = λ b h k r. omega arith;
      }
    where
      fell : (c l : ℕ) → c < n → l ≤ limit → view_of new c l < never → view_of new c l < view_of words c l
      fell c l inside small known = omega (arith, rows (c * row_words + l) (state-in c l ready inside small))

      waits : (c l : ℕ) → WaitsBelow n new next c l → Handled p marks new next c l
      waits c l w = record { load = w.load; light = w.light; early = w.early; handled = inl w.waits }
