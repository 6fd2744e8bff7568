-- The spare figure of a legal route of a question that the checks pass is the smallest of its spans'.
use mathlib.Core.Path.{◌≡◌}
use lib.Dec.{T}
use Rattle.plan.specs.Plan.{plan_of}
use Rattle.answers.specs.Tables.{elements_of}
use Rattle.rules.specs.Legal.{Route, legal}
use Rattle.rules.specs.Slack.{slacks, least_slack, Smallest}
use Rattle.rules.proofs.Slack.{slack-smallest}
use Rattle.question.specs.Question.{Question, Check, passes, rules_asked, question_checks}
use Rattle.question.specs.Checked.{problem_asked}
use Rattle.question.proofs.Checks.{passed-ready}

pub asked-smallest : (q : Question) (rest : Check) → question_checks q rest ≡ passes → (r : Route) → T (legal (rules_asked q) r) → Smallest (least_slack (rules_asked q) r) (slacks (rules_asked q) r)
unfolding rules_asked problem_asked
asked-smallest q rest pass r = slack-smallest (plan_of q.width q.height q.marks) (elements_of q.tables q.buffers) q.source q.sink r (passed-ready q rest pass).valid
