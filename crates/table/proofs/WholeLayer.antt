-- The parts of a layer put together.
use Rattle.std.proofs.Common.{ℕ, ◌+◌, ◌*◌, ◌≤◌, ◌<◌, ◌≡◌, sym, ◌∙◌, Bool, ◌⊎◌, inl, inr, List, arith, T, get_or}
use Rattle.rules.specs.Rules.{Rules}
use Rattle.budget.specs.Table.{Table, given, layer}
use Rattle.budget.proofs.Active.{pushes-layer, given-most, layer-least, arrival-row, given-row}
use Rattle.costs.specs.Costs.{row_words}
use Rattle.layout.specs.Layout.{active_at, listed_at, seeds_at, trail_at}
use Rattle.rows.specs.Words.{Kept}
use Rattle.lists.specs.Lists.{flag_of, ListedAt, Listed, Taken}
use Rattle.lists.proofs.Lists.{bit-cases, listed-count}
use Rattle.trail.specs.declared.Trail.{Trail}
use Rattle.trail.specs.Trail.{Sound, TrailKept, History}
use Rattle.trail.proofs.History.{sound-kept, history-kept}
use Rattle.table.specs.declared.pushes.Grown.{Grown}
use Rattle.table.specs.Problem.{budget_of, seed_of}
use Rattle.table.specs.Layer.{arrivals, Settled, ActiveIn, Grew, SameRow, FlagsCleared, Raised, SpreadAll, Layered}
use Rattle.table.specs.Colours.{ActiveNeighbour}
use Rattle.table.proofs.Colours.{pushes-neighbour}
use Rattle.table.proofs.Views.{budget-kept, seeds-kept}

-- pushes after pushes
pub raised-more : (n : ℕ) (a b d : List ℕ) (k m : ℕ) → ((c l : ℕ) → budget_of n a c l ≤ budget_of n b c l) → ((c l : ℕ) → budget_of n b c l ≤ budget_of n d c l) → Raised n a b k → Raised n b d m → Raised n a d m
raised-more n a b d k m up1 up2 r s =
    record {
      same = s.same ∙ r.same;
      listed = s.listed;
      flags = λ c h. flags c (s.flags c h) (r.flags c h);
      quiet = λ c h z. quiet c h z (s.flags c h);
      kept = λ i lo hi. s.kept i lo hi ∙ r.kept i lo hi;
      seeds = λ i lo hi. s.seeds i lo hi ∙ r.seeds i lo hi;
    }
  where
    flags : (c : ℕ) → (flag_of n d c ≡ flag_of n b c) ⊎ ((flag_of n d c ≡ 1) × Grew n b d c) → (flag_of n b c ≡ flag_of n a c) ⊎ ((flag_of n b c ≡ 1) × Grew n a b c) → (flag_of n d c ≡ flag_of n a c) ⊎ ((flag_of n d c ≡ 1) × Grew n a d c)
    flags c (inl e) (inl f) = inl (e ∙ f)
    flags c (inl e) (inr f) = inr (e ∙ f.0, record { load = f.1.load; more = omega (arith, f.1.more, up2 c f.1.load) })
    flags c (inr e) f = inr (e.0, record { load = e.1.load; more = omega (arith, e.1.more, up1 c e.1.load) })

    quiet : (c : ℕ) → c < n → flag_of n d c ≡ 0 → (flag_of n d c ≡ flag_of n b c) ⊎ ((flag_of n d c ≡ 1) × Grew n b d c) → SameRow n a d c
    quiet c h z (inl e) l = s.quiet c h z l ∙ r.quiet c h (sym e ∙ z) l
    quiet c h z (inr e) l = absurd (omega (arith, e.0))

-- From the cleared flags, the pushes and the new list to the layer.
module _ (R : Rules) (n top : ℕ) (t : Trail) (old mid pushed new : List ℕ) (active : ℕ) (next : Grown) (cells : R.cell_count ≡ n) (start : Listed n old (n * active_at) active) (sound : Sound n old t) (cleared : FlagsCleared n old mid) (spread : SpreadAll R n top active t mid pushed next) (taken : Taken n next.count pushed new) where
  abbrev B : Table
  B = arrivals R n top old

  same-budget : (c l : ℕ) → budget_of n mid c l ≡ budget_of n old c l
  same-budget = budget-kept n old mid (λ k lo hi. cleared.low k lo (omega arith))

  final-budget : (c l : ℕ) → budget_of n new c l ≡ budget_of n pushed c l
  final-budget = budget-kept n pushed new (λ i lo hi. taken.low i (omega arith))

  same-list : (i : ℕ) → i < active → get_or mid (n * active_at + i) 0 ≡ get_or old (n * active_at + i) 0
  same-list i h = cleared.low (n * active_at + i) (omega arith) (omega (arith, listed-count start))

  -- what a cell on the list gives
  gives : (i : ℕ) → i < active → (c l : ℕ) → given R (arrivals R n top mid) (get_or mid (n * active_at + i) 0) c l ≡ given R B (get_or old (n * active_at + i) 0) c l
  gives i h c l =
      let x : ℕ = get_or old (n * active_at + i) 0 in
      let e : get_or mid (n * active_at + i) 0 ≡ x = same-list i h in
      rw e (given-row R B (arrivals R n top mid) x (arrival-row R (seed_of n old) (seed_of n mid) top (budget_of n old) (budget_of n mid) x (same-budget x) (seeds-kept n old mid (λ k lo hi. cleared.rest k lo) x (start.cells i h))) c l)

  least : (c l : ℕ) → budget_of n old c l ≤ budget_of n new c l
  least c l = omega (arith, same-budget c l, spread.least c l, final-budget c l)

  most : (c l : ℕ) → budget_of n new c l ≤ layer R (seed_of n old) top (budget_of n old) c l
  most c l =
      omega (
        arith,
        final-budget c l,
        spread.most (layer R (seed_of n old) top (budget_of n old) c l) c l
            (omega (arith, same-budget c l, layer-least R (seed_of n old) top (budget_of n old) c l))
            (λ i h.
            omega (
              arith,
              gives i h c l,
              given-most R (seed_of n old) top (budget_of n old) (get_or old (n * active_at + i) 0) c l (omega (arith, start.cells i h)),
            )),
      )

  -- where the list was right, the table has what a cell gives
  all : {P : ℕ → Bool} {count : ℕ} → ActiveIn R n top P old count → (x c l : ℕ) → x < n → T (P x) → given R B x c l ≤ budget_of n new c l
  all right x c l h t = go (bit-cases (flag_of n old x) (start.bits x h))
    where
      listed : ListedAt n old (n * active_at) active x → given R B x c l ≤ budget_of n new c l
      listed p =
          let q : given R B (get_or old (n * active_at + p.at) 0) c l ≤ budget_of n new c l = omega (arith, gives p.at p.below c l, spread.gave p.at p.below c l, final-budget c l) in
          rw p.holds at q

      go : (flag_of n old x ≡ 0) ⊎ (flag_of n old x ≡ 1) → given R B x c l ≤ budget_of n new c l
      go (inl z) = omega (arith, right.settled x h t z c l, least c l)
      go (inr z) = listed (start.covered x h z)

  flag-new : (c : ℕ) → flag_of n new c ≡ flag_of n pushed c
  flag-new c = taken.high (n * listed_at + c) (omega arith)

  grew : (c : ℕ) → c < n → flag_of n new c ≡ 1 → Grew n old new c
  grew c h f = go (spread.raised.flags c h)
    where
      go : (flag_of n pushed c ≡ flag_of n mid c) ⊎ ((flag_of n pushed c ≡ 1) × Grew n mid pushed c) → Grew n old new c
      go (inl e) = absurd (omega (arith, flag-new c, cleared.cleared c h))
      go (inr g) = record { load = g.1.load; more = omega (arith, g.1.more, same-budget c g.1.load, final-budget c g.1.load) }

  quiet : (c : ℕ) → c < n → flag_of n new c ≡ 0 → SameRow n old new c
  quiet c h f l = final-budget c l ∙ (spread.raised.quiet c h (sym (flag-new c) ∙ f) l ∙ same-budget c l)

  seeds : Kept (n * seeds_at) (n * trail_at) old new
  seeds i lo hi = taken.high i (omega arith) ∙ (spread.raised.seeds i lo hi ∙ cleared.rest i lo)

  neighbour : (c : ℕ) → c < n → flag_of n new c ≡ 1 → ActiveNeighbour R n old c
  neighbour c h f =
      let g = grew c h f in
      pushes-neighbour R n top t old mid pushed active next start same-list spread c g.load (omega (arith, g.more, same-budget c g.load, final-budget c g.load))

  taken-trail : TrailKept n pushed new
  taken-trail = record { near = λ i lo hi. taken.low i (omega arith); far = λ i lo hi. taken.high i (omega arith) }

  -- the cleared flags and the new list leave the table and the trail
  history : (u : ℕ) (Z : ℕ → Table) → u < t.stamp → History n old t u Z → History n new next.trail u Z
  history u Z below past =
      history-kept n pushed next.trail new spread.follows.sound taken-trail u Z (λ c h l k. taken.low (c * row_words + l) (omega arith))
      (spread.follows.history (λ c h e. absurd (omega (arith, cleared.cleared c h))) u Z below
      (history-kept n old t mid sound (record { near = λ i lo hi. cleared.low i (omega arith) (omega arith); far = λ i lo hi. cleared.rest i (omega arith) }) u Z (λ c h l k. cleared.low (c * row_words + l) (omega arith) (omega arith)) past))

  settled : {P : ℕ → Bool} {count : ℕ} → ActiveIn R n top P old count → (x : ℕ) → x < n → T (P x) → flag_of n new x ≡ 0 → Settled R n top new x
  settled right x h t f c l =
      omega (
        arith,
        given-row R B (arrivals R n top new) x
            (arrival-row R (seed_of n old) (seed_of n new) top (budget_of n old) (budget_of n new) x (quiet x h f) (seeds-kept n old new seeds x h)) c l,
        all right x c l h t,
      )

  pub layered : Layered R n top t old new next
  layered =
      record {
        same = taken.same ∙ (spread.raised.same ∙ cleared.same);
        listed = taken.listed;
        table = λ right c near l. pushes-layer R (seed_of n old) top (budget_of n old) (budget_of n new c l) c l (least c l) (most c l) (λ x h t. all right x c l (omega arith) (near x t));
        active = λ right. record { listed = taken.listed; settled = settled right };
        grew = grew;
        quiet = quiet;
        labels = λ i lo hi. taken.low i hi ∙ (spread.raised.kept i (omega arith) (omega arith) ∙ cleared.low i (omega arith) (omega arith));
        seeds = seeds;
        near = λ few i lo hi. taken.low i (omega arith) ∙ (spread.follows.near few i lo hi ∙ cleared.low i (omega arith) (omega arith));
        beyond = λ i h. taken.high i (omega arith) ∙ (spread.follows.beyond i h ∙ cleared.rest i (omega arith));
        sound = sound-kept n pushed next.trail new spread.follows.sound taken-trail;
        room = spread.follows.room;
        stamp = spread.follows.stamp;
        history = history;
        neighbour = neighbour;
      }
