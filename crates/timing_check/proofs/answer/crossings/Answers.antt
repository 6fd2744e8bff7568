-- Each check is what the answer's contract computes to.
use mathlib.Core.Path.{ap}
use borrow.Author.Tests.{eq-eqb}
use Rattle.answers.specs.declared.answer.CrossingFigures.{CrossingFigures}
use Rattle.timing_check.proofs.answer.crossings.Goals as goal

pub expect-requires : goal.expect-requires
expect-requires c = eq-eqb c.number.result 0 c.number.ensures

pub expect-requires-2 : goal.expect-requires-2
expect-requires-2 c = eq-eqb c.number-2.result 8 c.number-2.ensures

pub expect-requires-3 : goal.expect-requires-3
expect-requires-3 c = eq-eqb c.figures.result.source 1 (ap (λ (f : CrossingFigures). f.source) c.figures.ensures)

pub expect-requires-4 : goal.expect-requires-4
expect-requires-4 c = eq-eqb c.figures-2.result.sink 0 (ap (λ (f : CrossingFigures). f.sink) c.figures-2.ensures)

pub expect-requires-5 : goal.expect-requires-5
expect-requires-5 c = eq-eqb c.number-3.result 7 c.number-3.ensures

pub expect-requires-6 : goal.expect-requires-6
expect-requires-6 c = eq-eqb c.figures-3.result.latency 0 (ap (λ (f : CrossingFigures). f.latency) c.figures-3.ensures)
