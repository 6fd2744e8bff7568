-- What each check says once it is known, and what passed checks give.
use Rattle.std.proofs.Common.{◌≡◌, ◌*◌, Bool, true, false, length, Option, Some, None, Ok, Err, Result, refl, arith}
use Rattle.plan.specs.Plan.{plan_of, cells}
use Rattle.plan.specs.Check.{checked_plan}
use Rattle.plan.specs.declared.PlanFault.{PlanFault}
use Rattle.plan.specs.declared.PlanFault.TheVariants.{Grid, Length, Mark}
use Rattle.plan.proofs.Check.{valid-sized}
use Rattle.timing.specs.Valid as ranges
use Rattle.problem.specs.declared.Problem.{Problem}
use Rattle.answers.specs.Tables.{tables_fault, elements_of}
use Rattle.answers.specs.Ends.{ends_fault}
use Rattle.answers.specs.declared.refusal.Fault.{Fault}
use Rattle.answers.specs.declared.refusal.Refusal.{Refusal}
use Rattle.answers.specs.Numbers.{plan_refusal}
use Rattle.answers.proofs.GoodEnds.{ends-good}
use Rattle.answers.proofs.FirstFault.{tables-valid}
use Rattle.problem.specs.Problem.{plan_for, rules_for, Ready}
use Rattle.problem.proofs.Sizes.{cells-product}
use Rattle.question.specs.Question.{Question, Check, passes, fails, rules_asked, cells_asked, after_plan, after_tables, or_else, checks_with, question_checks}
use Rattle.question.specs.Checked.{problem_asked, checked_as, checked_question}

-- Known checks

-- refusals 1 to 3, or none of them, whatever follows
pub plan-fails : (k : Result Unit PlanFault) (rest : Check) {r : Refusal} → checked_as {A = Unit {0}} (after_plan k passes) tt ≡ Err r → after_plan k rest ≡ fails r
unfolding after_plan checked_as
plan-fails (Ok u) rest e = absurd cc
plan-fails (Err Grid) rest e = cc
plan-fails (Err Length) rest e = cc
plan-fails (Err Mark) rest e = cc

-- each fault of a plan has its refusal
pub plan-told : (f : PlanFault) → Err (plan_refusal f) ≡ checked_as {A = Unit {0}} (after_plan (Err f) passes) tt
unfolding after_plan checked_as
plan-told Grid = refl
plan-told Length = refl
plan-told Mark = refl

pub plan-passes : (k : Result Unit PlanFault) {u : Unit {0}} → checked_as {A = Unit {0}} (after_plan k passes) tt ≡ Ok u → k ≡ Ok tt
unfolding after_plan checked_as
plan-passes (Ok u) e = refl
plan-passes (Err Grid) e = absurd cc
plan-passes (Err Length) e = absurd cc
plan-passes (Err Mark) e = absurd cc

pub pass-with : (fault : Option Fault) (q : Question) (rest : Check) → checked_plan (plan_of q.width q.height q.marks) ≡ Ok tt → fault ≡ None → ends_fault (cells_asked q) q.source q.sink ≡ false → checks_with fault q rest ≡ rest
unfolding after_plan after_tables
pass-with fault q rest valid clean apart = rw (valid, after_plan, clean, after_tables, apart)

-- the same with one clock
pub all_pass : (q : Question) (rest : Check) → checked_plan (plan_of q.width q.height q.marks) ≡ Ok tt → tables_fault q.tables q.buffers ≡ None → ends_fault (cells_asked q) q.source q.sink ≡ false → question_checks q rest ≡ rest
unfolding question_checks
all_pass q rest valid clean apart = pass-with (tables_fault q.tables q.buffers) q rest valid clean apart

-- the outcome of checks says whether they pass
module _ {A : Type 0} where
  pub as-fails : (k : Check) (x : A) {r : Refusal} → checked_as k x ≡ Err r → k ≡ fails r
  unfolding checked_as
  as-fails passes x e = absurd cc
  as-fails (fails r) x e = cc

  pub as-passes : (k : Check) (x : A) {y : A} → checked_as k x ≡ Ok y → (k ≡ passes) × (y ≡ x)
  unfolding checked_as
  as-passes passes x e = (refl, cc)
  as-passes (fails r) x e = absurd cc

-- Checks that passed

plan-valid : (k : Result Unit PlanFault) (rest : Check) → after_plan k rest ≡ passes → (k ≡ Ok tt) × (rest ≡ passes)
unfolding after_plan
plan-valid (Ok u) rest e = (refl, e)
plan-valid (Err Grid) rest e = absurd cc
plan-valid (Err Length) rest e = absurd cc
plan-valid (Err Mark) rest e = absurd cc

nothing-named : (k : Option Fault) (rest : Check) → after_tables k rest ≡ passes → (k ≡ None) × (rest ≡ passes)
unfolding after_tables
nothing-named None rest e = (refl, e)
nothing-named (Some f) rest e = absurd cc

or_else-passes : (b : Bool) (r : Refusal) (rest : Check) → or_else b r rest ≡ passes → (b ≡ false) × (rest ≡ passes)
or_else-passes false r rest e = (refl, e)
or_else-passes true r rest e = absurd cc

-- each check, where all pass
pub record Passed (fault : Option Fault) (q : Question) (rest : Check) : Type 0 where
  pub valid : checked_plan (plan_of q.width q.height q.marks) ≡ Ok tt
  pub clean : fault ≡ None
  pub apart : ends_fault (cells_asked q) q.source q.sink ≡ false
  pub after : rest ≡ passes

pub passed-with : (fault : Option Fault) (q : Question) (rest : Check) → checks_with fault q rest ≡ passes → Passed fault q rest
passed-with fault q rest e =
    let a = plan-valid (checked_plan (plan_of q.width q.height q.marks)) _ e in
    let b = nothing-named fault _ a.1 in
    let c = or_else-passes (ends_fault (cells_asked q) q.source q.sink) Refusal.Ends rest b.1 in
    record { valid = a.0; clean = b.0; apart = c.0; after = c.1 }

pub passed : (q : Question) (rest : Check) → question_checks q rest ≡ passes → Passed (tables_fault q.tables q.buffers) q rest
unfolding question_checks
passed q rest e = passed-with (tables_fault q.tables q.buffers) q rest e

-- the first five checks are the same whatever follows them
pub first-five-with : (fault : Option Fault) (q : Question) (rest : Check) → checks_with fault q passes ≡ passes → checks_with fault q rest ≡ rest
first-five-with fault q rest e =
    let p = passed-with fault q passes e in
    pass-with fault q rest p.valid p.clean p.apart

pub first-five : (q : Question) (rest : Check) → question_checks q passes ≡ passes → question_checks q rest ≡ rest
unfolding question_checks
first-five q rest e = first-five-with (tables_fault q.tables q.buffers) q rest e

-- a refusal of the first five is the same whatever follows them
pub five-fail-with : (fault : Option Fault) (q : Question) (r : Refusal) (rest : Check) → checks_with fault q passes ≡ fails r → checks_with fault q rest ≡ fails r
unfolding after_plan after_tables
five-fail-with fault q r rest e =
    go (checked_plan (plan_of q.width q.height q.marks)) fault (ends_fault (cells_asked q) q.source q.sink) e
  where
    go : (k : Result Unit PlanFault) (f : Option Fault) (b : Bool) → after_plan k (after_tables f (or_else b Refusal.Ends passes)) ≡ fails r → after_plan k (after_tables f (or_else b Refusal.Ends rest)) ≡ fails r
    go (Err Grid) f b h = h
    go (Err Length) f b h = h
    go (Err Mark) f b h = h
    go (Ok u) (Some f) b h = h
    go (Ok u) None true h = h
    go (Ok u) None false h = absurd cc

pub five-fail : (q : Question) (r : Refusal) (rest : Check) → question_checks q passes ≡ fails r → question_checks q rest ≡ fails r
unfolding question_checks
five-fail q r rest e = five-fail-with (tables_fault q.tables q.buffers) q r rest e

-- Where the checks pass and the elements are valid, the question's problem is ready.
pub ready_with : (fault : Option Fault) (q : Question) (rest : Check) → Passed fault q rest → ranges.Valid (elements_of q.tables q.buffers) → Ready (problem_asked q) q.marks
unfolding plan_for cells cells_asked problem_asked
ready_with fault q rest p valid =
    let sized = valid-sized (plan_of q.width q.height q.marks) p.valid in
    let good = ends-good (q.width * q.height) q.source q.sink p.apart in
    record {
      sized = sized;
      valid = valid;
      source = omega (arith, sized.full, good.source_in);
      sink = omega (arith, sized.full, good.sink-in);
    }

pub cells-ready : (q : Question) → Ready (problem_asked q) q.marks → length q.marks ≡ cells_asked q
unfolding cells_asked problem_asked
cells-ready q ready = cells-product (problem_asked q) q.marks ready

module _ (q : Question) (rest : Check) (pass : question_checks q rest ≡ passes) where
  pub passed-ready : Ready (problem_asked q) q.marks
  passed-ready =
      let p = passed q rest pass in
      ready_with (tables_fault q.tables q.buffers) q rest p (tables-valid q.tables q.buffers p.clean)

  pub cells-asked : length q.marks ≡ cells_asked q
  cells-asked = cells-ready q passed-ready

-- its rules are those of the question
pub rules-asked : (q : Question) → rules_for (problem_asked q) q.marks ≡ rules_asked q
unfolding rules_for plan_for rules_asked problem_asked
rules-asked q = refl

-- What `check_question` has handed back says of the checks.

pub told-fails : (q : Question) {r : Refusal} → checked_question q ≡ Err r → question_checks q passes ≡ fails r
unfolding checked_question
told-fails q e = as-fails (question_checks q passes) (problem_asked q) e

pub told-passes : (q : Question) {p : Problem} → checked_question q ≡ Ok p → (question_checks q passes ≡ passes) × (p ≡ problem_asked q)
unfolding checked_question
told-passes q e = as-passes (question_checks q passes) (problem_asked q) e
