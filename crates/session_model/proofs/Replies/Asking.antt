-- What the questions share: refusals, and scratch words that are zeroed.
use Prim.Native.Nat.{ℕ, ◌*◌}
use mathlib.Core.Bool.{Bool, true, false}
use mathlib.Core.List.{List}
use mathlib.Core.Path.{◌≡◌, refl}
use native.Mathlib.Omega.{arith}
use borrow.Author.Tests.{ne_eqb}
use lib.ListN.{length, take, replicate, length-replicate}
use lib.Seq.{take_at}
use Rattle.plan.specs.Plan.{cells}
use Rattle.plan.specs.Check.{grid_fault, length_fault, checked_plan}
use Rattle.answers.specs.declared.refusal.Refusal.{Refusal}
use Rattle.question.specs.Question.{Question, cells_asked, Check, passes, fails, after_plan, or_else, question_checks}
use Rattle.question.proofs.Checks.{passed}
use Rattle.router.specs.Route.{zeroed}
use Rattle.session_model.specs.Asks.Asking.{Asking, asked, list_checks, zeroed_words, zeros}

-- sides that are no sides of the plan's bytes: refused with 2, whatever the checks after it
pub other-sides : (a : Asking) (marks : List ℕ) (rest : Check) → grid_fault a.width a.height ≡ false → (length marks ≡ a.width * a.height → ⊥) → question_checks (asked a marks) rest ≡ fails Refusal.Length
unfolding question_checks after_plan checked_plan length_fault cells asked
other-sides a marks rest grid other = rw (grid, ne_eqb (length marks) (a.width * a.height) other)

-- where the checks pass, no list given is bad
pub lists-good : (q : Question) (bad : Bool) → list_checks q bad ≡ passes → bad ≡ false
unfolding list_checks
lists-good q bad e = go bad (passed q _ e).after
  where
    go : (b : Bool) → or_else b Refusal.RouteList passes ≡ passes → b ≡ false
    go false h = refl
    go true h = absurd (let z : ◌≡◌ {A = ℕ} 0 1 = cc in omega arith)

-- after the checks, the words taken as zeroed are all zero, whatever the scratch words held
pub zeros-taken : (words : ℕ) (q : Question) (scratch : List ℕ) → take (zeroed_words words passes q) (zeroed (cells_asked q * words) scratch) ≡ zeros words q
unfolding zeroed_words zeroed zeros
zeros-taken words q scratch = take_at (replicate (cells_asked q * words) 0) _ (zeroed_words words passes q) (length-replicate {A = ℕ} (cells_asked q * words) 0)
