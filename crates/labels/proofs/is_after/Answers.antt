-- `labels::is_after`: weights first, then steps.
use Rattle.std.proofs.Common.{ℕ, ◌≤◌, false, sym, inl, List, arith, T}
use Rattle.labels.specs.Labels.{known_of, weight_word, Compared}
use Rattle.labels.proofs.Labels.{known-below, known-word, unknown-not}
use Rattle.labels.proofs.is_after.Goals as goal

module _ (n set : ℕ) (words : List ℕ) (k s c : ℕ) (known : T (known_of n set words c)) where
  lighter : weight_word n set words c ≤ k → Compared n set words k s c false
  lighter h = record { after = λ e. absurd (unknown-not (sym e) tt); by = λ e. inl (omega (arith, known-word n set words c known)) }

pub weight_word-word-requires : goal.weight_word-word-requires
weight_word-word-requires c = (c.requires.0, known-below _ _ _ _ c.requires.1)

pub returns-then-word-weight : goal.returns-then-word-weight
returns-then-word-weight c = lighter _ _ _ _ _ _ c.requires.1 (omega (arith, c.weight_word-word.ensures, c.if-word-weight.true))

pub steps_of-requires : goal.steps_of-requires
steps_of-requires c = (c.requires.0, known-below _ _ _ _ c.requires.1)
