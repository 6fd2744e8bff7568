-- The whole effect of the route call for a net between two clocks, for every input (document 02, C-15): refusals as for one clock, with 512 words a cell.
-- It says what the answer is and what the scratch words and the visits hold afterwards. The plan is only read.
use Rattle.std.specs.Prelude.{ℕ, ◌+◌, ◌*◌, cond, List, ◌≡◌, leb, ltb, length}
pub use Rattle.layout.specs.Layout.{crossing_words}
pub use Rattle.question.specs.Question.{Check, passes, fails, or_else}
unfoldable pub use Rattle.question.specs.Question.{cells_asked}
pub use Rattle.question.specs.Crossing.{CrossingQuestion, crossing_of}
unfoldable pub use Rattle.question.specs.Crossing.{crossing_checks}
unfoldable pub use Rattle.router.specs.Route.{visits_for, zeroed}
use Rattle.plan.specs.Plan.{plan_of}
use Rattle.rules.specs.Rules.{Rules}
use Rattle.rules.specs.Legal.{Route}
use Rattle.rules.specs.Ranking.{steps}
use Rattle.rules.specs.Slack.{least_slack}
use Rattle.rules.specs.Crossing.{rules_between, source_registers, sink_registers, crossing_latency}
use Rattle.best.specs.Best.{Outcome, found, none, best}
use Rattle.answers.specs.Tables.{elements_of}
use Rattle.answers.specs.Crossing.{clocks_of}
use Rattle.answers.specs.declared.refusal.Refusal.{Refusal}
use Rattle.answers.specs.declared.answer.CrossingFigures.{CrossingFigures}
use Rattle.answers.specs.Numbers.{CrossingAnswer}
use Rattle.answers.specs.declared.answer.RouteAnswer.{RouteAnswer}

-- the rules asked about: the tables' period is the sink's
unfoldable pub rules_crossed : CrossingQuestion → Rules
rules_crossed c =
    rules_between (plan_of c.question.width c.question.height c.question.marks) (elements_of c.question.tables c.question.buffers) (clocks_of c.crossing) c.question.source c.question.sink

-- refusals 1 to 6, in this order, or none of them
unfoldable pub checks : CrossingQuestion → ℕ → Check
checks c scratch =
    crossing_checks c (or_else (ltb scratch (cells_asked c.question * crossing_words)) Refusal.Scratch passes)

-- the best route's figures: registers of each side, steps, latency by both periods, and its smallest spare figure, each span by its own period
unfoldable pub figures_of : Rules → ℕ → ℕ → Route → CrossingFigures
figures_of R source sink r =
    record { source = source_registers r; sink = sink_registers r; steps = steps r; latency = crossing_latency source sink r; slack = least_slack R r }

-- of the net asked about, a route's figures and its latency
abbrev pub figures_crossed : CrossingQuestion → Route → CrossingFigures
figures_crossed c = figures_of (rules_crossed c) c.crossing.period c.question.tables.period

abbrev pub latency_crossed : CrossingQuestion → Route → ℕ
latency_crossed c = crossing_latency c.crossing.period c.question.tables.period

-- Found, 8 or 7, by the words lent for the visits: two a visit
unfoldable pub answer_for : Rules → ℕ → ℕ → ℕ → Outcome → CrossingAnswer
answer_for R source sink room (found r) =
    cond (leb (2 * (steps r + 1)) room) (RouteAnswer.Found (figures_of R source sink r)) (RouteAnswer.NoRoom (figures_of R source sink r))
answer_for R source sink room none = RouteAnswer.Refused Refusal.NoRoute

-- The three parts of the effect. `scratch` and `visits` are the words lent. Answer and visits are told under any rules R; the call's own are those asked about.

unfoldable pub answer_after : Check → Rules → CrossingQuestion → List ℕ → CrossingAnswer
answer_after passes R c visits = answer_for R c.crossing.period c.question.tables.period (length visits) (best R)
answer_after (fails r) R c visits = RouteAnswer.Refused r

abbrev pub crossing_answer_under : Rules → CrossingQuestion → List ℕ → List ℕ → CrossingAnswer
crossing_answer_under R c scratch visits = answer_after (checks c (length scratch)) R c visits

unfoldable pub crossing_answer_of : CrossingQuestion → List ℕ → List ℕ → CrossingAnswer
crossing_answer_of c scratch visits = crossing_answer_under (rules_crossed c) c scratch visits

unfoldable pub scratch_after : Check → CrossingQuestion → List ℕ → List ℕ
scratch_after passes c scratch = zeroed (cells_asked c.question * crossing_words) scratch
scratch_after (fails r) c scratch = scratch

unfoldable pub crossing_scratch_of : CrossingQuestion → List ℕ → List ℕ
crossing_scratch_of c scratch = scratch_after (checks c (length scratch)) c scratch

unfoldable pub visits_after : Check → Rules → List ℕ → List ℕ
visits_after passes R visits = visits_for (best R) visits
visits_after (fails r) R visits = visits

abbrev pub crossing_visits_under : Rules → CrossingQuestion → List ℕ → List ℕ → List ℕ
crossing_visits_under R c scratch visits = visits_after (checks c (length scratch)) R visits

unfoldable pub crossing_visits_of : CrossingQuestion → List ℕ → List ℕ → List ℕ
crossing_visits_of c scratch visits = crossing_visits_under (rules_crossed c) c scratch visits

-- All three: what a call answers, and what it leaves in the words lent.
pub record Crossed (c : CrossingQuestion) (scratch scratch' visits visits' : List ℕ) (r : CrossingAnswer) : Type 0 where
  pub answer : r ≡ crossing_answer_of c scratch visits
  pub scratch_left : scratch' ≡ crossing_scratch_of c scratch
  pub visits_left : visits' ≡ crossing_visits_of c scratch visits
