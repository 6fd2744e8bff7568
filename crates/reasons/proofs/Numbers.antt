-- Which numbers `explain` gives (document 02, C-13): 0 with a reason, 1 to 6 as a route call, 19. 7 and 8 never occur.
use Rattle.std.proofs.Common.{◌≡◌, ℕ, ◌*◌, ◌≤◌, Bool, true, false, ltb, ◌⊎◌, Option, Some, None, Ok, Err, Result, refl, arith}
use mathlib.Core.Logic.{inl, inr}
use Rattle.plan.specs.declared.PlanFault.{PlanFault}
use Rattle.plan.specs.declared.PlanFault.TheVariants.{Grid, Length, Mark}
use Rattle.answers.specs.Ends.{ends_fault}
use Rattle.answers.specs.Tables.{tables_fault}
use Rattle.answers.specs.Numbers.{refusal_number, explained_number}
use Rattle.answers.specs.declared.refusal.Refusal.{Refusal}
use Rattle.answers.specs.Numbers.{Explained}
use Rattle.answers.specs.declared.refusal.Fault.{Fault}
use Rattle.question.specs.Question.{Question, Check, passes, fails, after_plan, after_tables, or_else, question_checks}
use Rattle.router.specs.Route.{cells_asked, cell_words, checks}
use Rattle.reasons.specs.Explains.{Explains}
use Rattle.reasons.specs.Reasons.{explained_after, explained_of, rules_with}
use Rattle.reasons.proofs.Explained.{explained-true}

-- a check passes, or fails with 6 at most
abbrev UpToSix : Check → Type 0
UpToSix passes = Unit {0}
UpToSix (fails r) = refusal_number r ≤ 6

plan-checked : (k : Result Unit PlanFault) (rest : Check) → UpToSix rest → UpToSix (after_plan k rest)
unfolding after_plan
plan-checked (Ok u) rest h = h
plan-checked (Err Grid) rest h = omega arith
plan-checked (Err Length) rest h = omega arith
plan-checked (Err Mark) rest h = omega arith

tables-checked : (f : Option Fault) (rest : Check) → UpToSix rest → UpToSix (after_tables f rest)
unfolding after_tables
tables-checked None rest h = h
tables-checked (Some f) rest h = omega arith

else-checked : (fault : Bool) (r : Refusal) (rest : Check) → refusal_number r ≤ 6 → UpToSix rest → UpToSix (or_else fault r rest)
else-checked true r rest k h = k
else-checked false r rest k h = h

checks-number : (q : Question) (scratch : ℕ) → UpToSix (checks q scratch)
unfolding checks question_checks
checks-number q scratch =
    let short = ltb scratch (cells_asked q * cell_words) in
    let six = else-checked short Refusal.Scratch passes (omega arith) tt in
    let five = else-checked (ends_fault (cells_asked q) q.source q.sink) Refusal.Ends (or_else short Refusal.Scratch passes) (omega arith) six in
    plan-checked _ _ (tables-checked (tables_fault q.tables q.buffers) _ five)

explains-number : {q : Question} {x : Explained} → Explains q x → (explained_number x ≤ 6) ⊎ (explained_number x ≡ 19)
explains-number (Explains.has_route r h) = inr refl
explains-number (Explains.walled_off n c) = inl (omega arith)
explains-number (Explains.load n c f) = inl (omega arith)
explains-number (Explains.period t n r f over most is before) = inl (omega arith)
explains-number (Explains.too_short r f none) = inl (omega arith)

pub explained-number : (q : Question) (scratch : ℕ) → (explained_number (explained_of q scratch) ≤ 6) ⊎ (explained_number (explained_of q scratch) ≡ 19)
unfolding explained_of explained_after
explained-number q scratch = go (checks q scratch) refl (checks-number q scratch)
  where
    go : (k : Check) → checks q scratch ≡ k → UpToSix k → (explained_number (explained_after (checks q scratch) (rules_with q) q) ≤ 6) ⊎ (explained_number (explained_after (checks q scratch) (rules_with q) q) ≡ 19)
    go passes pass h = explains-number (explained-true q scratch pass)
    go (fails r) e h = rw e (inl h)
