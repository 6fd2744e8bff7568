-- What the checks hand back: the routing problem, or the first of refusals 1 to 5.
use Rattle.std.specs.Prelude.{Option, Result, Ok, Err}
use Rattle.timing.specs.declared.elements.Elements.{Elements}
use Rattle.answers.specs.Tables.{elements_of}
use Rattle.answers.specs.declared.refusal.Fault.{Fault}
use Rattle.answers.specs.declared.refusal.Refusal.{Refusal}
use Rattle.problem.specs.declared.Problem.{Problem}
use Rattle.question.specs.Question.{Question, Check, passes, fails, question_checks, checks_with}

-- the problem of these elements
abbrev pub problem_with : Elements → Question → Problem
problem_with elements q =
    record { width = q.width; height = q.height; source = q.source; sink = q.sink; elements = elements }

unfoldable pub problem_asked : Question → Problem
problem_asked q = problem_with (elements_of q.tables q.buffers) q

-- what is made where the checks pass, or the refusal
unfoldable pub checked_as : {A : Type 0} → Check → A → Result A Refusal
checked_as passes made = Ok made
checked_as (fails r) made = Err r

-- by the fault of the tables' check and its elements
unfoldable pub checked_with : Option Fault → Elements → Question → Result Problem Refusal
checked_with fault elements q = checked_as (checks_with fault q passes) (problem_with elements q)

-- with one clock
unfoldable pub checked_question : Question → Result Problem Refusal
checked_question q = checked_as (question_checks q passes) (problem_asked q)
