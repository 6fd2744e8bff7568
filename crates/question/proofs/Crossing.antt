-- What the checks of a net between two clocks say once they are known, and what passed checks give.
use Rattle.std.proofs.Common.{◌≡◌, length, Option, Ok, Err}
use Rattle.timing.specs.Clocks.{ValidClocks}
use Rattle.answers.specs.Crossing.{crossing_fault, clocks_of}
use Rattle.answers.specs.declared.refusal.Fault.{Fault}
use Rattle.answers.specs.declared.refusal.Refusal.{Refusal}
use Rattle.answers.proofs.FirstCrossing.{crossing-valid}
use Rattle.problem.specs.Problem.{Ready}
use Rattle.question.specs.Question.{Check, passes, fails, cells_asked}
use Rattle.problem.specs.declared.net.Net.{Net}
use Rattle.question.specs.Checked.{problem_asked}
use Rattle.question.specs.Crossing.{CrossingQuestion, crossing_checks, net_asked, crossing_checked}
use Rattle.question.proofs.Checks.{Passed, passed-with, first-five-with, five-fail-with, ready_with, cells-ready, as-fails, as-passes}

-- the fault of its tables
abbrev fault : CrossingQuestion → Option Fault
fault c = crossing_fault c.question.tables c.crossing c.question.buffers

pub crossing-passed : (c : CrossingQuestion) (rest : Check) → crossing_checks c rest ≡ passes → Passed (crossing_fault c.question.tables c.crossing c.question.buffers) c.question rest
unfolding crossing_checks
crossing-passed c rest e = passed-with (fault c) c.question rest e

-- the first five checks are the same whatever follows them, and so is a refusal of theirs
pub crossing-first-five : (c : CrossingQuestion) (rest : Check) → crossing_checks c passes ≡ passes → crossing_checks c rest ≡ rest
unfolding crossing_checks
crossing-first-five c rest e = first-five-with (fault c) c.question rest e

pub crossing-five-fail : (c : CrossingQuestion) (r : Refusal) (rest : Check) → crossing_checks c passes ≡ fails r → crossing_checks c rest ≡ fails r
unfolding crossing_checks
crossing-five-fail c r rest e = five-fail-with (fault c) c.question r rest e

module _ (c : CrossingQuestion) (rest : Check) (pass : crossing_checks c rest ≡ passes) where
  -- The question's problem is ready, and its clocks are valid.
  pub crossing-ready : Ready (problem_asked c.question) c.question.marks
  crossing-ready =
      let p = crossing-passed c rest pass in
      ready_with (fault c) c.question rest p (crossing-valid c.question.tables c.crossing c.question.buffers p.clean).0

  pub crossing-clocks : ValidClocks (clocks_of c.crossing)
  crossing-clocks = (crossing-valid c.question.tables c.crossing c.question.buffers (crossing-passed c rest pass).clean).1

  pub crossing-cells : length c.question.marks ≡ cells_asked c.question
  crossing-cells = cells-ready c.question crossing-ready

-- What `check_net` has handed back says of the checks.

pub crossing-told-fails : (c : CrossingQuestion) {r : Refusal} → crossing_checked c ≡ Err r → crossing_checks c passes ≡ fails r
unfolding crossing_checked
crossing-told-fails c e = as-fails (crossing_checks c passes) (net_asked c) e

pub crossing-told-passes : (c : CrossingQuestion) {net : Net} → crossing_checked c ≡ Ok net → (crossing_checks c passes ≡ passes) × (net ≡ net_asked c)
unfolding crossing_checked
crossing-told-passes c e = as-passes (crossing_checks c passes) (net_asked c) e
