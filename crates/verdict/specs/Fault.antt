-- "the first visit at fault (from 0) and the fault there, tried in this order" (document 02, C-11), said without the recursion of the verdict: the tests of every visit, and which of them fails first; "a period fault the signed figure of its close" (C-12).
use Rattle.std.specs.Prelude.{ℕ, zero, suc, ◌<◌, Bool, true, false, ◌&&◌, [], ◌∷◌, ◌≡◌, T, eqb, leb, ltb, ℤ, length, take, drop}
use Rattle.timing.specs.Slack.{slack_most}
use Rattle.answers.specs.declared.verdicts.VisitFault.{VisitFault}
use Rattle.answers.specs.declared.verdicts.VisitFault.TheVariants.{Cell, Wire, Site, Load, Period}
use Rattle.rules.specs.Rules.{Rules, register_code}
use Rattle.rules.specs.Legal.{Visit, Route, arrive, is_last, cell_right, wire_right, code_right, load_right, period_right}
use Rattle.rules.specs.Beginning.{Place, place_after}
use Rattle.rules.specs.Slack.{slack_at}

-- the place of a test in the order
unfoldable pub test_order : VisitFault → ℕ
test_order Cell = 0
test_order Wire = 1
test_order Site = 2
test_order Load = 3
test_order (Period z) = 4

-- the tests of the first visit
unfoldable pub sink_test : Rules → Visit → VisitFault → Bool
sink_test R v Cell = eqb v.cell R.sink && ltb v.cell R.cell_count
sink_test R v Wire = true
sink_test R v Site = eqb v.code register_code
sink_test R v Load = leb R.start.load R.limit
sink_test R v (Period z) = true

-- the tests of a later visit, from the place where the visits before it have come
unfoldable pub later_test : Rules → Place → Bool → Visit → VisitFault → Bool
later_test R a last v Cell = cell_right R last v
later_test R a last v Wire = wire_right R a.cell v
later_test R a last v Site = code_right R a.fifos last v
later_test R a last v Load = load_right R last (arrive R a.cell a.stage v.cell) v
later_test R a last v (Period z) = period_right R a.span a.fifos (arrive R a.cell a.stage v.cell) v

-- the tests of the visit that comes next
unfoldable pub next_test : Rules → Place → Route → VisitFault → Bool
next_test R a [] f = true
next_test R a (v ∷ vs) f = later_test R a (is_last vs) v f

-- the test for fault f at visit i of a route
unfoldable pub fault_test : Rules → Route → ℕ → VisitFault → Bool
fault_test R [] i f = true
fault_test R (v ∷ vs) zero f = sink_test R v f
fault_test R (v ∷ vs) (suc i) f = next_test R (place_after R v (take i vs)) (drop i vs) f

-- the spare figure of a span that closes at the visit that comes next
unfoldable pub next_figure : Rules → Place → Route → ℤ
next_figure R a [] = slack_most
next_figure R a (v ∷ vs) = slack_at R a v

-- the spare figure of a span that closes at visit i of a route; none closes at the first
unfoldable pub close_figure : Rules → Route → ℕ → ℤ
close_figure R [] i = slack_most
close_figure R (v ∷ vs) zero = slack_most
close_figure R (v ∷ vs) (suc i) = next_figure R (place_after R v (take i vs)) (drop i vs)

-- a period fault tells this figure
abbrev pub FigureIs : ℤ → VisitFault → Type 0
FigureIs z (Period y) = y ≡ z
FigureIs z Cell = Unit
FigureIs z Wire = Unit
FigureIs z Site = Unit
FigureIs z Load = Unit

-- Visit i is the first at fault, f the first fault there, and a period fault has the figure of its close.
pub record FirstFault (R : Rules) (r : Route) (i : ℕ) (f : VisitFault) : Type 0 where
  pub in_list : i < length r
  pub before : (j : ℕ) → j < i → (g : VisitFault) → T (fault_test R r j g)
  pub earlier : (g : VisitFault) → test_order g < test_order f → T (fault_test R r i g)
  pub fails : fault_test R r i f ≡ false
  pub figure : FigureIs (close_figure R r i) f
