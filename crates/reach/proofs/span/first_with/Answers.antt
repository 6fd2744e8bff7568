use Prim.Native.Nat.{ℕ, ◌+◌, ◌/◌, ◌<◌, ◌≤◌}
use mathlib.Core.Logic.{inl, inr}
use mathlib.Core.List.{List}
use native.Mathlib.Omega.{arith}
use Rattle.labels.specs.Labels.{weight_word, order_of, LabelBy, Ordered}
use Rattle.labels.proofs.Labels.{known-word, ordered-count}
use Rattle.reach.specs.Reach.{weight_at, steps_at}
use Rattle.reach.proofs.span.first_with.Goals as goal
use Rattle.reach.proofs.span.first_with.Goals.{In-loop-low}

-- the order ascends by weight
heavier : {n set : ℕ} {words : List ℕ} {count : ℕ} → Ordered n set words count → (i j : ℕ) → i ≤ j → j < count → weight_at n set words i ≤ weight_at n set words j
heavier {n} {set} {words} o i j h k = go (o.ascending i j h k)
  where
    go : LabelBy n set words (weight_at n set words j) (steps_at n set words j) (order_of n set words i) → weight_at n set words i ≤ weight_at n set words j
    go (inl q) = omega arith
    go (inr q) = omega arith

-- the entry; the place in the middle, its cell and its label's word

abbrev mid : In-loop-low → ℕ
mid c = (c.loop-low.low + c.loop-low.high) / 2

middle : (c : In-loop-low) → mid c < c.args.count
middle c = omega (arith, c.loop-low.invariant.ordered, c.loop-low.invariant.within, c.loop-low-test.true)

small : (c : In-loop-low) → c.args.count ≤ c.args.n
small c = ordered-count c.requires.0

cell_in : (c : In-loop-low) → order_of c.args.n c.args.set c.args.scratch.now (mid c) < c.args.n
cell_in c = c.requires.0.cells (mid c) (middle c)

word_some : (c : In-loop-low) → 0 < weight_word c.args.n c.args.set c.args.scratch.now (order_of c.args.n c.args.set c.args.scratch.now (mid c))
word_some c = known-word _ _ _ _ (c.requires.0.known (mid c) (middle c))

pub loop-low-init : goal.loop-low-init
loop-low-init c =
    record {
      ordered = omega arith;
      within = omega arith;
      lighter = λ i h. absurd (omega arith);
      enough = λ i lo hi. absurd (omega arith);
    }

pub overflow_add-mid : goal.overflow_add-mid
overflow_add-mid c = omega (arith, c.loop-low.invariant.ordered, c.loop-low.invariant.within, small c, c.requires.1.small)

pub overflow_mul-cell : goal.overflow_mul-cell
overflow_mul-cell c = omega (arith, c.requires.1.small)

pub overflow_add-cell : goal.overflow_add-cell
overflow_add-cell c = omega (arith, c.requires.1.small, c.requires.1.low)

pub overflow_add-cell-in-loop-low : goal.overflow_add-cell-in-loop-low
overflow_add-cell-in-loop-low c = omega (arith, middle c, small c, c.requires.1.small, c.requires.1.low)

pub offset_bounds-scratch-set : goal.offset_bounds-scratch-set
offset_bounds-scratch-set c = omega (arith, middle c, small c, c.requires.1.small, c.requires.1.low)

pub bounds-scratch-set : goal.bounds-scratch-set
bounds-scratch-set c = omega (arith, middle (goal.at.bounds-scratch-set c).In-loop-low, small (goal.at.bounds-scratch-set c).In-loop-low, c.requires.1.room)

pub overflow_cast-cell : goal.overflow_cast-cell
overflow_cast-cell c = omega (arith, cell_in (goal.at.overflow_cast-cell c).In-loop-low, c.requires.1.small)

pub weight_word-requires : goal.weight_word-requires
weight_word-requires c = (c.requires.1, cell_in (goal.at.weight_word-requires c).In-loop-low)

pub loop-low-smaller-then-weight-weight_word : goal.loop-low-smaller-then-weight-weight_word
loop-low-smaller-then-weight-weight_word c = omega (arith, c.loop-low-test.true)

pub loop-low-preserved-then-weight-weight_word : goal.loop-low-preserved-then-weight-weight_word
loop-low-preserved-then-weight-weight_word c =
    let inv = c.loop-low.invariant in
    record {
      ordered = omega (arith, c.loop-low-test.true);
      within = omega (arith, middle (goal.at.loop-low-preserved-then-weight-weight_word c).In-loop-low);
      lighter = inv.lighter;
      enough = λ i lo hi. omega (arith, c.if-weight-weight_word.true, c.weight_word.ensures, heavier c.requires.0 _ i lo hi);
    }

pub overflow_add-low : goal.overflow_add-low
overflow_add-low c = omega (arith, middle (goal.at.overflow_add-low c).In-loop-low, small (goal.at.overflow_add-low c).In-loop-low, c.requires.1.small)

pub loop-low-smaller : goal.loop-low-smaller
loop-low-smaller c = omega (arith, c.loop-low-test.true)

pub loop-low-preserved : goal.loop-low-preserved
loop-low-preserved c =
    let inv = c.loop-low.invariant in
    record {
      ordered = omega (arith, c.loop-low-test.true);
      within = inv.within;
      lighter = λ i h. omega (arith, c.if-weight-weight_word.false, c.weight_word.ensures, word_some (goal.at.loop-low-preserved c).In-loop-low, heavier c.requires.0 i _ (omega arith) (middle (goal.at.loop-low-preserved c).In-loop-low));
      enough = inv.enough;
    }

pub returns : goal.returns
returns c =
    let inv = c.loop-low.invariant in
    record {
      within = omega (arith, inv.ordered, inv.within);
      lighter = inv.lighter;
      enough = λ i lo hi. inv.enough i (omega (arith, inv.ordered, c.loop-low-test.false)) hi;
    }
