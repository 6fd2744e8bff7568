-- `best` is the best route if there is one, and none if and only if no route is legal; for any number of FIFOs, and any cost that is the weight less a constant. The figures of the best route have a most.
use Prim.Native.Nat.{ℕ, zero, suc, ◌+◌, ◌≤◌, ◌<◌}
use mathlib.Core.Path.{◌≡◌, refl, ap}
use mathlib.Core.Logic.{◌↔◌}
use native.Mathlib.Omega.{arith}
use lib.Dec.{T}
use Rattle.rules.specs.Rules.{Rules}
use Rattle.rules.specs.Legal.{Route, legal}
use Rattle.rules.specs.Ranking.{steps, IsBest}
use Rattle.rules.proofs.Order.{best-unique}
use Rattle.budget.specs.Table.{Represents}
use Rattle.budget.specs.Done.{Least, Labels, Labelled, Lawful}
use Rattle.budget.specs.Emission.{exact_seed, Reaches, FirstEnding, emit}
use Rattle.budget.proofs.Reaches.{reaches-start, reaches-layer}
use Rattle.budget.proofs.Short.{most_steps, most_weight, least-short, done-in-plan}
use Rattle.budget.proofs.Best.{Costs, best-found, best-cost, best-steps}
use Rattle.budget.proofs.Best.{best_none as no-ending}
use Rattle.budget.proofs.Emit.{emit-first}
use Rattle.best.specs.Rows.{table_of, Bounded}
use Rattle.best.specs.Labels.{by_code}
use Rattle.best.specs.Search.{Labelling, Found}
use Rattle.best.specs.Best.{reach_rows, exits_at, labels_at, route_of, Outcome, found, none, outcome, best}
use Rattle.best.proofs.Rows.{Inside, empty-zero, layer-rows, layer-rows-inside}
use Rattle.best.proofs.Search.{Right, least, never}
use Rattle.best.proofs.Sides.{sink-right, sides-labelled}

-- the best route with figures that have a most, or no legal route
pub data Answers (R : Rules) (cost : Route → ℕ) (less : ℕ) : Outcome → Type 0 where
  is_best : {r : Route} → IsBest cost R r → steps r ≤ most_steps R R.fifos → cost r + less ≤ most_weight R 0 R.fifos → Answers R cost less (found r)
  none_legal : ((r : Route) → T (legal R r) → ⊥) → Answers R cost less none

module _ (R : Rules) (law : Lawful R) (bounded : Bounded R) where
  -- the tables of the emission
  module _ (m : ℕ → Labels) (f k : ℕ) where
    reach-inside : (u : ℕ) → Inside R (table_of (reach_rows R m f k u))
    unfolding reach_rows
    reach-inside zero = λ c l h. empty-zero c l
    reach-inside (suc u) = layer-rows-inside R bounded (exact_seed m k u) f (reach_rows R m f k u)

    reach-rows : (u : ℕ) → Represents (table_of (reach_rows R m f k u)) (Reaches R m f k u)
    unfolding reach_rows
    reach-rows zero = reaches-start R m f k empty-zero
    reach-rows (suc u) =
        reaches-layer R m f k law u (reach-rows u) (layer-rows R bounded (exact_seed m k u) f (reach_rows R m f k u) (reach-inside u))

  -- the ending written out is the first with the least figures
  module _ (k s q : ℕ) (m : Labelling) (labels : Labelled R 0 k q (by_code m.registers (exits_at R 0))) (fewest : Least R 0 (R.weight 0 + k) s R.sink R.start.load R.start.delay) where
    first : FirstEnding R 0 (R.weight 0 + k) s R.sink R.start.load R.start.delay (emit R (labels_at R m) (λ f k u. table_of (reach_rows R (labels_at R m f) f k u)) s 0 k R.sink R.start.load R.start.delay)
    first =
        emit-first R law (labels_at R m) k (sides-labelled R law bounded k q m labels) (λ f k u. table_of (reach_rows R (labels_at R m f) f k u)) (λ f k u. reach-rows (labels_at R m f) f k u)
        s 0 k R.sink R.start.load R.start.delay (omega arith) fewest

    route-answers : (cost : Route → ℕ) (less : ℕ) → Costs R cost less → Answers R cost less (found (route_of R k s m))
    unfolding route_of
    route-answers cost less costs =
        is_best (best-found R cost less costs (R.weight 0 + k) s fewest _ first in_plan)
        (omega (arith, short.0, best-steps R cost less costs (R.weight 0 + k) s fewest _ first in_plan))
        (omega (arith, short.1, best-cost R cost less costs (R.weight 0 + k) s fewest _ first in_plan))
      where
        in_plan : R.sink < R.cell_count
        in_plan = done-in-plan R law bounded.from_plan 0 (R.weight 0 + k) s R.sink R.start.load R.start.delay fewest.enough

        short : (s ≤ most_steps R R.fifos) × (R.weight 0 + k ≤ most_weight R 0 R.fifos)
        short = least-short R law bounded.from_plan k s R.sink R.start.load R.start.delay fewest

  module _ (cost : Route → ℕ) (less : ℕ) (costs : Costs R cost less) where
    best-answers : Answers R cost less (best R)
    unfolding best outcome
    best-answers = go (sink-right R law bounded)
      where
        go : {x : Found} → Right R 0 (exits_at R 0) x → Answers R cost less (outcome R x)
        go (least {k = k} {s = s} {q = q} {m = m} z labels fewest) = route-answers k s q m labels fewest cost less costs
        go (never nowhere labels watched) = none_legal (no-ending R (nowhere refl))

    -- it is r if and only if r is the best route
    pub best-is : (r : Route) → (best R ≡ found r) ↔ IsBest cost R r
    best-is r = ((λ e. to e best-answers), (λ h. from h best-answers))
      where
        to : {x : Outcome} → x ≡ found r → Answers R cost less x → IsBest cost R r
        to e (is_best {r = q} h most few) =
            let same : q ≡ r = cc in
            rw same at h
        to e (none_legal f) = let z : ◌≡◌ {A = ℕ} 0 1 = cc in absurd (omega arith)

        from : {x : Outcome} → IsBest cost R r → Answers R cost less x → x ≡ found r
        from h (is_best {r = q} g most few) = ap found (best-unique cost R q r g h)
        from h (none_legal f) = absurd (f r h.is_legal)

    -- it is none if and only if no route is legal
    pub best_none : (best R ≡ none) ↔ ((r : Route) → T (legal R r) → ⊥)
    best_none = ((λ e. to e best-answers), (λ f. from f best-answers))
      where
        to : {x : Outcome} → x ≡ none → Answers R cost less x → (r : Route) → T (legal R r) → ⊥
        to e (is_best h most few) = let z : ◌≡◌ {A = ℕ} 0 1 = cc in absurd (omega arith)
        to e (none_legal f) = f

        from : {x : Outcome} → ((r : Route) → T (legal R r) → ⊥) → Answers R cost less x → x ≡ none
        from f (is_best {r = r} h most few) = absurd (f r h.is_legal)
        from f (none_legal g) = refl

    -- its steps and its cost have a most
    pub best-most : (r : Route) → IsBest cost R r → (steps r ≤ most_steps R R.fifos) × (cost r + less ≤ most_weight R 0 R.fifos)
    best-most r h = go best-answers
      where
        go : {x : Outcome} → Answers R cost less x → (steps r ≤ most_steps R R.fifos) × (cost r + less ≤ most_weight R 0 R.fifos)
        go (is_best {r = q} g most few) =
            let e : r ≡ q = best-unique cost R r q h g in
            rw e (most, few)
        go (none_legal f) = absurd (f r h.is_legal)
