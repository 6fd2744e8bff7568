-- The three tests are those of `ends_fault`, in its order.
use borrow.Author.Tests.{le-leb, lt-leb}
use Rattle.answers.specs.Ends.{ends_fault}
use Rattle.answers.proofs.ends.ends_fault.Goals as goal

pub returns-then-cells-source : goal.returns-then-cells-source
unfolding ends_fault
returns-then-cells-source c = simp (le-leb _ _ c.if-cells-source.true)

pub returns-then-cells-sink : goal.returns-then-cells-sink
unfolding ends_fault
returns-then-cells-sink c = simp (lt-leb _ _ c.if-cells-source.false, le-leb _ _ c.if-cells-sink.true)

pub returns : goal.returns
unfolding ends_fault
returns c = simp (lt-leb _ _ c.if-cells-source.false, lt-leb _ _ c.if-cells-sink.false)
