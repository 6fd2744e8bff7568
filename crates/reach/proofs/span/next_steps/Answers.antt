-- `reach::span::next_steps`: the lesser of the next label's steps and `steps`.
use Rattle.std.proofs.Common.{◌<◌, arith}
use Rattle.labels.specs.Labels.{weight_word, order_of}
use Rattle.labels.proofs.Labels.{known-word, ordered-count}
use Rattle.reach.proofs.span.next_steps.Goals as goal
use Rattle.reach.proofs.span.next_steps.Goals.{Then-at-count}

-- there is a label at `at`

place-in : (c : Then-at-count) → c.args.at < c.args.n
place-in c = omega (arith, c.if-at-count.true, ordered-count c.requires.0)

cell_in : (c : Then-at-count) → order_of c.args.n c.args.set c.args.scratch.now c.args.at < c.args.n
cell_in c = c.requires.0.cells c.args.at c.if-at-count.true

word_some : (c : Then-at-count) → 0 < weight_word c.args.n c.args.set c.args.scratch.now (order_of c.args.n c.args.set c.args.scratch.now c.args.at)
word_some c = known-word _ _ _ _ (c.requires.0.known c.args.at c.if-at-count.true)

pub overflow_mul-cell : goal.overflow_mul-cell
overflow_mul-cell c = omega (arith, c.requires.1.small)

pub overflow_add-cell : goal.overflow_add-cell
overflow_add-cell c = omega (arith, c.requires.1.small, c.requires.1.low)

pub overflow_add-cell-then-at-count : goal.overflow_add-cell-then-at-count
overflow_add-cell-then-at-count c = omega (arith, place-in c, c.requires.1.small, c.requires.1.low)

pub offset_bounds-scratch-set : goal.offset_bounds-scratch-set
offset_bounds-scratch-set c = omega (arith, place-in c, c.requires.1.small, c.requires.1.low)

pub bounds-scratch-set : goal.bounds-scratch-set
bounds-scratch-set c = omega (arith, place-in (goal.at.bounds-scratch-set c).Then-at-count, c.requires.1.room)

pub overflow_cast-cell : goal.overflow_cast-cell
overflow_cast-cell c = omega (arith, cell_in (goal.at.overflow_cast-cell c).Then-at-count, c.requires.1.small)

pub weight_word-requires : goal.weight_word-requires
weight_word-requires c = (c.requires.1, cell_in (goal.at.weight_word-requires c).Then-at-count)

pub overflow_sub-weight_word : goal.overflow_sub-weight_word
overflow_sub-weight_word c = omega (arith, c.weight_word.ensures, word_some (goal.at.overflow_sub-weight_word c).Then-at-count)

pub steps_of-requires : goal.steps_of-requires
steps_of-requires c = (c.requires.1, cell_in (goal.at.steps_of-requires c).Then-at-count)

pub returns-then-weight_word-weight : goal.returns-then-weight_word-weight
returns-then-weight_word-weight c =
    record {
      within = omega arith;
      early = λ h e. omega (arith, c.steps_of.ensures);
      most = λ u h head. omega (arith, c.steps_of.ensures, head c.if-at-count.true (omega (arith, c.if-weight_word-weight.true, c.weight_word.ensures)));
    }

pub returns-else-weight_word-weight : goal.returns-else-weight_word-weight
returns-else-weight_word-weight c = record { within = omega arith; early = λ h e. absurd (omega (arith, c.if-weight_word-weight.false, c.weight_word.ensures, e)); most = λ u h head. h }

pub returns-else-at-count : goal.returns-else-at-count
returns-else-at-count c = record { within = omega arith; early = λ h e. absurd (omega (arith, c.if-at-count.false, h)); most = λ u h head. h }
