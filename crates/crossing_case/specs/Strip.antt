-- Two clocks on a strip of five cells with taps at cells 1 and 3, and the marks given at cell 2: document 01's worked tables, a FIFO with the register's figures, from cell 0 to cell 4.
use Rattle.std.specs.Prelude.{ℕ, [], ◌∷◌}
use Rattle.plan.specs.Plan.{Plan, plan_of}
use Rattle.timing.specs.Elements.{wire_of}
use Rattle.timing.specs.declared.elements.Elements.{Elements}
use Rattle.rules.specs.Rules.{Rules}
use Rattle.rules.specs.Crossing.{rules_between}
use Rattle.rules.specs.Legal.{Route}
use Rattle.budget.specs.Emission.{visit}
use Rattle.cases.specs.Cases.{tables}

abbrev pub strip_plan : ℕ → Plan
strip_plan marks = plan_of 5 1 (0 ∷ 2 ∷ marks ∷ 2 ∷ 0 ∷ [])

-- the rules with the periods of the source's clock and of the sink's
unfoldable pub two_clocks : ℕ → ℕ → ℕ → Rules
two_clocks marks source sink =
    let e : Elements = tables sink 63 (wire_of 2 3) [] in
    rules_between (strip_plan marks) e (record { fifos = 1; period = source; fifo = e.register }) 0 4

-- With a tap there, 12 and 26: the sink's side has one span of 26 over two cells, to the FIFO at cell 2; the source's side two spans of 12. Latency 50.
unfoldable pub crossed : Route
crossed = visit 4 7 ∷ visit 3 0 ∷ visit 2 8 ∷ visit 1 7 ∷ visit 0 7 ∷ []

-- With the tap blocked (document 02, C-17) the FIFO stands at cell 1: the sink's side has two spans, the source's one of 12. Latency 64.
unfoldable pub crossed_past : Route
crossed_past = visit 4 7 ∷ visit 3 7 ∷ visit 2 0 ∷ visit 1 8 ∷ visit 0 7 ∷ []
