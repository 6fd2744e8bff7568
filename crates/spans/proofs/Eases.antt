-- Laws of what steps leave in the scratch words: nothing done, one after another, a span that comes, a span that closes; and what is kept.
use Prim.Native.Nat.{ℕ, ◌+◌, ◌*◌, ◌≤◌, ◌<◌}
use mathlib.Core.Path.{◌≡◌, refl, ◌∙◌}
use mathlib.Core.List.{List}
use mathlib.Core.Logic.{◌⊎◌, inl, inr}
use native.Mathlib.Omega.{arith}
use lib.Dec.{T}
use lib.ListN.{length, get_or, set, length-set}
use lib.Seq.{get_or-set_same, get_or-set_other}
use Rattle.timing.specs.Formulas.{buffer_load}
use Rattle.rules.specs.Rules.{Rules}
use Rattle.rules.specs.Legal.{arrive}
use Rattle.plan.proofs.Truth.{split, equal}
use Rattle.budget.specs.Done.{stage}
use Rattle.costs.specs.Costs.{row_words}
use Rattle.layout.specs.Layout.{closes_at, hint_at, cell_words}
use Rattle.rows.specs.Words.{KeptFrom}
use Rattle.rows.specs.Rows.{view_of}
use Rattle.problem.specs.declared.Problem.{Problem}
use Rattle.problem.proofs.Sizes.{few-cells}
use Rattle.queue.specs.Queue.{Space, Waits}
use Rattle.delays.proofs.Easing.{lesser-min}
use Rattle.delays.proofs.Waiting.{queue-kept, waits_kept}
use Rattle.delays.specs.Delays.{latest, closes_of, Lesser, Eased}
use Rattle.spans.specs.Opens.{Opens, Shuts}
use Rattle.spans.specs.Eases.{WaitsBelow, Ground, StartedAt, Eases}
use Rattle.spans.specs.Spread.{Offered, Stepped, Spread}
use Rattle.spans.proofs.Opens.{opens-worse}

-- a word that fell is the delay
lesser-fell : {delay old new : ℕ} → Lesser delay old new → new < old → (delay < old) × (new ≡ delay)
lesser-fell (inl h) k = h
lesser-fell (inr h) k = absurd (omega arith)

-- where a span has come it is no later
pub eased-in : {n limit cell load delay : ℕ} {old : List ℕ} {count : ℕ} {new : List ℕ} {next : ℕ} → Eased n limit cell load delay old count new next → load ≤ limit → view_of new cell load ≤ delay
eased-in {load = load} e light = omega (arith, lesser-min (e.row load (omega arith) light))

-- The words after a close is written: no row, no word of the queue, no other close is touched.
pub record CloseSet (n cell close : ℕ) (old new : List ℕ) : Type 0 where
  pub same : length new ≡ length old
  pub low : (k : ℕ) → k < n * closes_at → get_or new k 0 ≡ get_or old k 0
  pub here : closes_of n new cell ≡ close
  pub others : (c : ℕ) → c < n → (c ≡ cell → ⊥) → closes_of n new c ≡ closes_of n old c
  pub rest : KeptFrom (n * cell_words) old new

module _ (n cell close : ℕ) (inside : cell < n) where
  pub closed-set : (old : List ℕ) → n * cell_words ≤ length old → CloseSet n cell close old (set old (n * closes_at + cell) close)
  closed-set old room =
      record {
        same = length-set old (n * closes_at + cell) close;
        low = λ k h. get_or-set_other old (n * closes_at + cell) k close 0 (λ z. omega arith);
        here = get_or-set_same old (n * closes_at + cell) close 0 (omega arith);
        others = λ c h d. get_or-set_other old (n * closes_at + cell) (n * closes_at + c) close 0 (λ z. d (omega arith));
        rest = λ k h. get_or-set_other old (n * closes_at + cell) k close 0 (λ z. omega arith);
      }

  -- and the hint
  pub closed-hint : (old new : List ℕ) (x : ℕ) → CloseSet n cell close old new → CloseSet n cell close old (set new (n * hint_at) x)
  closed-hint old new x w =
      record {
        same = length-set new (n * hint_at) x ∙ w.same;
        low = λ k h. get_or-set_other new (n * hint_at) k x 0 (λ z. omega arith) ∙ w.low k h;
        here = get_or-set_other new (n * hint_at) (n * closes_at + cell) x 0 (λ z. omega arith) ∙ w.here;
        others = λ c h d. get_or-set_other new (n * hint_at) (n * closes_at + c) x 0 (λ z. omega arith) ∙ w.others c h d;
        rest = λ k h. get_or-set_other new (n * hint_at) k x 0 (λ z. omega arith) ∙ w.rest k h;
      }

-- what waits below in words that only fall later
waits-below : (n : ℕ) (mid : List ℕ) (c1 : ℕ) (new : List ℕ) (c2 c l : ℕ) → WaitsBelow n mid c1 c l → c < n → l < row_words → ((s : ℕ) → s < n * row_words → Waits n mid c1 s → Waits n new c2 s) → ((m : ℕ) → m ≤ l → view_of new c m ≤ view_of mid c m) → view_of new c l ≡ view_of mid c l → WaitsBelow n new c2 c l
waits-below n mid c1 new c2 c l w h k waits lower same =
    record {
      load = w.load;
      light = w.light;
      early = omega (arith, lower w.load w.light, w.early);
      waits = waits (c * row_words + w.load) (omega (arith, w.light)) w.waits;
    }

module _ (p : Problem) (marks : List ℕ) where
  abbrev n : ℕ
  n = length marks

  abbrev limit : ℕ
  limit = p.elements.limit.0

  pub limit-row : {words : List ℕ} {count : ℕ} → Ground p marks words count → limit < row_words
  limit-row g = omega (arith, g.ready.valid.limit)

  pub ground-space : {words : List ℕ} {count : ℕ} → Ground p marks words count → Space n words
  ground-space g = record { small = few-cells p marks g.ready; room = omega (arith, g.room) }

  module _ (t : ℕ) where
    pub eases-self : (words : List ℕ) (count : ℕ) → Ground p marks words count → Eases p marks t words count words count
    eases-self words count g =
        record {
          same = refl;
          rest = λ k h. refl;
          falling = g.falling;
          queue = g.queue;
          waits = λ s h w. w;
          lower = λ c l h k. omega arith;
          closer = λ c h. omega arith;
          anew = λ c l h k f. absurd (omega arith);
          opens = λ c l h k f. absurd (omega arith);
          shuts = λ c h f. absurd (omega arith);
          going = λ c h f. absurd (omega arith);
        }

    pub ground-eases : (old : List ℕ) (count : ℕ) (new : List ℕ) (next : ℕ) → Ground p marks old count → Eases p marks t old count new next → Ground p marks new next
    ground-eases old count new next g e =
        record { ready = g.ready; room = omega (arith, g.room, e.same); light = g.light; falling = e.falling; queue = e.queue }

    -- One after another. Proof: what fell in the second part is told by it; what fell in the first part alone is as it left it, and still waits. Qed.
    module _ (old : List ℕ) (count : ℕ) (mid : List ℕ) (c1 : ℕ) (new : List ℕ) (c2 : ℕ) (g : Ground p marks old count) (a : Eases p marks t old count mid c1) (b : Eases p marks t mid c1 new c2) where
      pub eases-then : Eases p marks t old count new c2
      eases-then =
          record {
            same = b.same ∙ a.same;
            rest = λ k h. b.rest k h ∙ a.rest k h;
            falling = b.falling;
            queue = b.queue;
            waits = λ s h w. b.waits s h (a.waits s h w);
            lower = λ c l h k. omega (arith, b.lower c l h k, a.lower c l h k);
            closer = λ c h. omega (arith, b.closer c h, a.closer c h);
            anew = λ c l h k f. anew c l h k f (split (view_of mid c l) (view_of new c l));
            opens = λ c l h k f. opens c l h k f (split (view_of mid c l) (view_of new c l));
            shuts = λ c h f. shuts c h f (split (closes_of n mid c) (closes_of n new c));
            going = λ c h f. going c h f (split (closes_of n mid c) (closes_of n new c));
          }
        where
          row_same : (c l : ℕ) → c < n → l ≤ limit → view_of mid c l ≤ view_of new c l → view_of new c l ≡ view_of mid c l
          row_same c l h k q = omega (arith, b.lower c l h k)

          close-same : (c : ℕ) → c < n → closes_of n mid c ≤ closes_of n new c → closes_of n new c ≡ closes_of n mid c
          close-same c h q = omega (arith, b.closer c h)

          anew : (c l : ℕ) → c < n → l ≤ limit → view_of new c l < view_of old c l → (view_of mid c l ≤ view_of new c l) ⊎ (view_of new c l < view_of mid c l) → WaitsBelow n new c2 c l
          anew c l h k f (inl q) =
              waits-below n mid c1 new c2 c l (a.anew c l h k (omega arith)) h (omega (arith, limit-row g)) b.waits (λ m z. b.lower c m h (omega arith)) (row_same c l h k q)
          anew c l h k f (inr q) = b.anew c l h k q

          opens : (c l : ℕ) → c < n → l ≤ limit → view_of new c l < view_of old c l → (view_of mid c l ≤ view_of new c l) ⊎ (view_of new c l < view_of mid c l) → Opens p marks t c l (view_of new c l)
          opens c l h k f (inl q) = rw (row_same c l h k q) (a.opens c l h k (omega arith))
          opens c l h k f (inr q) = b.opens c l h k q

          shuts : (c : ℕ) → c < n → closes_of n new c < closes_of n old c → (closes_of n mid c ≤ closes_of n new c) ⊎ (closes_of n new c < closes_of n mid c) → (closes_of n new c ≤ latest) × Shuts p marks t c (closes_of n new c)
          shuts c h f (inl q) = rw (close-same c h q) (a.shuts c h (omega arith))
          shuts c h f (inr q) = b.shuts c h q

          going : (c : ℕ) → c < n → closes_of n new c < closes_of n old c → (closes_of n mid c ≤ closes_of n new c) ⊎ (closes_of n new c < closes_of n mid c) → closes_of n new c ≤ 2 * t → (c ≡ p.source → ⊥) → StartedAt p marks new c
          going c h f (inl q) k s =
              omega (arith, b.lower c _ h g.light, a.going c h (omega arith) (omega arith) s)
          going c h f (inr q) k s = b.going c h q k s

    -- A span has come. Proof: what fell lies in its row, within the limit, and is its delay; there the state waits. The closes lie higher. Qed.
    module _ (old : List ℕ) (count cell load delay : ℕ) (new : List ℕ) (next : ℕ) (g : Ground p marks old count) (inside : cell < n) (light : load ≤ limit) (e : Eased n limit cell load delay old count new next) where
      closes-same : (c : ℕ) → c < n → closes_of n new c ≡ closes_of n old c
      closes-same c h = e.high (n * closes_at + c) (omega arith)

      -- a word that is not of the row, or of a lighter state
      other : (c l : ℕ) → c < n → l ≤ limit → (c ≡ cell → l < load) → view_of new c l ≡ view_of old c l
      other c l h k f = go (split c cell) (split cell c)
        where
          go : (c ≤ cell) ⊎ (cell < c) → (cell ≤ c) ⊎ (c < cell) → view_of new c l ≡ view_of old c l
          go (inl x) (inl y) = e.others (c * row_words + l) (omega (arith, limit-row g)) (inl (omega (arith, f (omega arith))))
          go (inl x) (inr y) = e.others (c * row_words + l) (omega (arith, limit-row g)) (inl (omega (arith, limit-row g)))
          go (inr x) y = e.others (c * row_words + l) (omega (arith, limit-row g)) (inr (omega (arith, limit-row g)))

      -- what fell
      record Fell (c l : ℕ) : Type 0 where
        is : c ≡ cell
        heavy : load ≤ l
        later : delay < view_of old cell l
        now : view_of new cell l ≡ delay

      word : (c l : ℕ) → c < n → l ≤ limit → (view_of new c l ≤ view_of old c l) × (view_of new c l < view_of old c l → Fell c l)
      word c l h k = go (equal c cell) (split load l)
        where
          kept : (c ≡ cell → l < load) → (view_of new c l ≤ view_of old c l) × (view_of new c l < view_of old c l → Fell c l)
          kept f = let z = other c l h k f in (omega arith, λ q. absurd (omega arith))

          go : (c ≡ cell) ⊎ (c ≡ cell → ⊥) → (load ≤ l) ⊎ (l < load) → (view_of new c l ≤ view_of old c l) × (view_of new c l < view_of old c l → Fell c l)
          go (inl x) (inl y) =
              let r = e.row l y k in
              rw x (omega (arith, lesser-min r), λ q. let z = lesser-fell r q in record { is = refl; heavy = y; later = z.0; now = z.1 })
          go (inl x) (inr y) = kept (λ z. y)
          go (inr x) y = kept (λ z. absurd (x z))

      -- the state is earlier than it was
      earlier : (l : ℕ) → load ≤ l → l ≤ limit → delay < view_of old cell l → delay < view_of old cell load
      earlier l h k q = omega (arith, g.falling cell load l inside h k)

      pub eased-eases : Opens p marks t cell load delay → Eases p marks t old count new next
      eased-eases o =
          record {
            same = e.same;
            rest = λ k h. e.high k (omega arith);
            falling = e.falling;
            queue = e.queue;
            waits = e.waits;
            lower = λ c l h k. (word c l h k).0;
            closer = λ c h. omega (arith, closes-same c h);
            anew = λ c l h k f. waiting c l k ((word c l h k).1 f);
            opens = λ c l h k f. opened c l k ((word c l h k).1 f);
            shuts = λ c h f. absurd (omega (arith, closes-same c h));
            going = λ c h f. absurd (omega (arith, closes-same c h));
          }
        where
          waiting : (c l : ℕ) → l ≤ limit → Fell c l → WaitsBelow n new next c l
          waiting c l k f =
              rw f.is
              (record {
                load = load;
                light = f.heavy;
                early = omega (arith, f.now, eased-in e light);
                waits = e.here (earlier l f.heavy k f.later);
              })

          opened : (c l : ℕ) → l ≤ limit → Fell c l → Opens p marks t c l (view_of new c l)
          opened c l k f = rw (f.is, f.now) (opens-worse p marks t cell load delay l delay o f.heavy (omega arith))

    -- A close is written, and then rows are eased. The span that starts there may be among them.
    module _ (old : List ℕ) (count : ℕ) (mid : List ℕ) (cell close : ℕ) (g : Ground p marks old count) (w : CloseSet n cell close old mid) where
      row : (c l : ℕ) → c < n → l ≤ limit → view_of mid c l ≡ view_of old c l
      row c l h k = w.low (c * row_words + l) (omega (arith, limit-row g))

      pub ground-closed : Ground p marks mid count
      ground-closed =
          record {
            ready = g.ready;
            room = omega (arith, g.room, w.same);
            light = g.light;
            falling = λ c l m h k q. rw (row c m h q, row c l h (omega arith)) (g.falling c l m h k q);
            queue = queue-kept g.queue mid (λ k h. w.low k);
          }

      module _ (new : List ℕ) (next : ℕ) (most : close ≤ latest) (less : close < closes_of n old cell) (shut : Shuts p marks t cell close) (e : Eases p marks t mid count new next) where
        -- a close is as it was, or it is the one written
        closes : (c : ℕ) → c < n → (closes_of n mid c ≡ closes_of n old c) ⊎ ((c ≡ cell) × (closes_of n mid c ≡ close))
        closes c h = go (equal c cell)
          where
            go : (c ≡ cell) ⊎ (c ≡ cell → ⊥) → (closes_of n mid c ≡ closes_of n old c) ⊎ ((c ≡ cell) × (closes_of n mid c ≡ close))
            go (inl x) = inr (x, rw x w.here)
            go (inr x) = inl (w.others c h x)

        lower-close : (c : ℕ) → (closes_of n mid c ≡ closes_of n old c) ⊎ ((c ≡ cell) × (closes_of n mid c ≡ close)) → closes_of n mid c ≤ closes_of n old c
        lower-close c (inl q) = omega arith
        lower-close c (inr q) = rw q.0 (omega (arith, w.here))

        pub close-then : (close ≤ 2 * t → (cell ≡ p.source → ⊥) → StartedAt p marks new cell) → Eases p marks t old count new next
        close-then starts =
            record {
              same = e.same ∙ w.same;
              rest = λ k h. e.rest k h ∙ w.rest k h;
              falling = e.falling;
              queue = e.queue;
              waits = λ s h q. e.waits s h (waits_kept g.queue mid (λ k h. w.low k) s h q);
              lower = λ c l h k. omega (arith, e.lower c l h k, row c l h k);
              closer = λ c h. omega (arith, e.closer c h, lower-close c (closes c h));
              anew = λ c l h k f. e.anew c l h k (omega (arith, row c l h k));
              opens = λ c l h k f. e.opens c l h k (omega (arith, row c l h k));
              shuts = λ c h f. shuts c h f (split (closes_of n mid c) (closes_of n new c)) (closes c h);
              going = λ c h f. going c h f (split (closes_of n mid c) (closes_of n new c)) (closes c h);
            }
          where
            shuts : (c : ℕ) → c < n → closes_of n new c < closes_of n old c → (closes_of n mid c ≤ closes_of n new c) ⊎ (closes_of n new c < closes_of n mid c) → (closes_of n mid c ≡ closes_of n old c) ⊎ ((c ≡ cell) × (closes_of n mid c ≡ close)) → (closes_of n new c ≤ latest) × Shuts p marks t c (closes_of n new c)
            shuts c h f (inr q) r = e.shuts c h q
            shuts c h f (inl q) (inl r) = absurd (omega arith)
            shuts c h f (inl q) (inr r) =
                let z : closes_of n new c ≡ close = omega (arith, e.closer c h, r.1) in
                rw (z, r.0) (most, shut)

            going : (c : ℕ) → c < n → closes_of n new c < closes_of n old c → (closes_of n mid c ≤ closes_of n new c) ⊎ (closes_of n new c < closes_of n mid c) → (closes_of n mid c ≡ closes_of n old c) ⊎ ((c ≡ cell) × (closes_of n mid c ≡ close)) → closes_of n new c ≤ 2 * t → (c ≡ p.source → ⊥) → StartedAt p marks new c
            going c h f (inr q) r k s = e.going c h q k s
            going c h f (inl q) (inl r) k s = absurd (omega arith)
            going c h f (inl q) (inr r) k s =
                rw r.0 (starts (omega (arith, e.closer c h, r.1)) (λ z. s (r.0 ∙ z)))

  -- What was in the words is in them where no delay has risen.
  module _ (old new : List ℕ) (lower : (c l : ℕ) → c < n → l ≤ limit → view_of new c l ≤ view_of old c l) (closer : (c : ℕ) → c < n → closes_of n new c ≤ closes_of n old c) (R : Rules) (same : R.limit ≡ limit) where
    offered-kept : (cell load delay to : ℕ) → to < n → Offered R n old cell load delay to → Offered R n new cell load delay to
    offered-kept cell load delay to h o k q =
        let a = o k q in
        record {
          passes = omega (arith, lower to (arrive R cell (stage load delay) to).load h (omega arith), a.passes);
          buffers = λ code b s m r. omega (arith, lower to (buffer_load (R.buffer code)) h (omega arith), a.buffers code b s m r);
          closes = λ m r. omega (arith, closer to h, a.closes m r);
        }

    pub stepped_kept : (cell load delay to : ℕ) → Stepped R n old cell load delay to → Stepped R n new cell load delay to
    stepped_kept cell load delay to s h = offered-kept cell load delay to h (s h)

    pub spread-kept : (cell load delay : ℕ) → ((to : ℕ) → T (R.linked cell to) → to < n) → Spread R n old cell load delay → Spread R n new cell load delay
    spread-kept cell load delay inside s to h = offered-kept cell load delay to (inside to h) (s to h)
