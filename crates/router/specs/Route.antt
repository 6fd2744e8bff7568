-- The whole effect of the route call, for every input: document 01, "Calls and what they leave" and the table of numbers.
-- It says what the answer is and what the scratch words (document 01: the bench) and the visits (the route sheet) hold afterwards. The plan is only read.
use Rattle.std.specs.Prelude.{ℕ, ◌+◌, ◌*◌, cond, List, ◌++◌, ◌≡◌, leb, ltb, length, drop, replicate}
pub use Rattle.layout.specs.Layout.{cell_words}
pub use Rattle.question.specs.Question.{Question, Check, passes, fails, question_of, or_else}
unfoldable pub use Rattle.question.specs.Question.{rules_asked, cells_asked, after_plan, after_tables, question_checks}
use Rattle.rules.specs.Rules.{Rules}
use Rattle.rules.specs.Legal.{Route}
use Rattle.rules.specs.Ranking.{registers, steps, latency, written}
use Rattle.rules.specs.Slack.{least_slack}
use Rattle.best.specs.Best.{Outcome, found, none, best}
use Rattle.answers.specs.declared.answer.Figures.{Figures}
use Rattle.answers.specs.declared.refusal.Refusal.{Refusal}
use Rattle.answers.specs.Numbers.{Answer}
use Rattle.answers.specs.declared.answer.RouteAnswer.{RouteAnswer}

-- refusals 1 to 6, in this order, or none of them
unfoldable pub checks : Question → ℕ → Check
checks q scratch = question_checks q (or_else (ltb scratch (cells_asked q * cell_words)) Refusal.Scratch passes)

-- the best route's figures; its smallest spare figure is by the rules R
unfoldable pub figures_of : Rules → ℕ → Route → Figures
figures_of R period r = record { registers = registers r; steps = steps r; latency = latency period r; slack = least_slack R r }

-- Found, 8 or 7, by the words lent for the visits: two a visit
unfoldable pub answer_for : Rules → ℕ → ℕ → Outcome → Answer
answer_for R period room (found r) =
    cond (leb (2 * (steps r + 1)) room) (RouteAnswer.Found (figures_of R period r)) (RouteAnswer.NoRoom (figures_of R period r))
answer_for R period room none = RouteAnswer.Refused Refusal.NoRoute

-- the visits filled from their start, if there is room; later words stay
unfoldable pub visits_for : Outcome → List ℕ → List ℕ
visits_for (found r) visits =
    cond (leb (2 * (steps r + 1)) (length visits)) (written r ++ drop (length (written r)) visits) visits
visits_for none visits = visits

-- the first n words zero, the rest as they were
unfoldable pub zeroed : ℕ → List ℕ → List ℕ
zeroed n words = replicate n 0 ++ drop n words

-- The three parts of the effect. `scratch` and `visits` are the words lent. Answer and visits are told under any rules R; the call's own are those of the question.

unfoldable pub answer_after : Check → Rules → Question → List ℕ → Answer
answer_after passes R q visits = answer_for R q.tables.period (length visits) (best R)
answer_after (fails r) R q visits = RouteAnswer.Refused r

unfoldable pub answer_under : Rules → Question → List ℕ → List ℕ → Answer
answer_under R q scratch visits = answer_after (checks q (length scratch)) R q visits

unfoldable pub answer_of : Question → List ℕ → List ℕ → Answer
answer_of q scratch visits = answer_under (rules_asked q) q scratch visits

unfoldable pub scratch_after : Check → Question → List ℕ → List ℕ
scratch_after passes q scratch = zeroed (cells_asked q * cell_words) scratch
scratch_after (fails r) q scratch = scratch

unfoldable pub scratch_of : Question → List ℕ → List ℕ
scratch_of q scratch = scratch_after (checks q (length scratch)) q scratch

unfoldable pub visits_after : Check → Rules → List ℕ → List ℕ
visits_after passes R visits = visits_for (best R) visits
visits_after (fails r) R visits = visits

unfoldable pub visits_under : Rules → Question → List ℕ → List ℕ → List ℕ
visits_under R q scratch visits = visits_after (checks q (length scratch)) R visits

unfoldable pub visits_of : Question → List ℕ → List ℕ → List ℕ
visits_of q scratch visits = visits_under (rules_asked q) q scratch visits

-- All three: what a call answers, and what it leaves in the words lent.
pub record Routed (q : Question) (scratch scratch' visits visits' : List ℕ) (r : Answer) : Type 0 where
  pub answer : r ≡ answer_of q scratch visits
  pub scratch_left : scratch' ≡ scratch_of q scratch
  pub visits_left : visits' ≡ visits_of q scratch visits
