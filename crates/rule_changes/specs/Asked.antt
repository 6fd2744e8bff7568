-- The plan that a question is about.
use Rattle.plan.specs.Plan.{Plan, plan_of}
use Rattle.question.specs.Question.{Question}

abbrev pub plan_asked : Question → Plan
plan_asked q = plan_of q.width q.height q.marks
