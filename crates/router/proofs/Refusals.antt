-- The route call's effect once its checks are known.
use Prim.Native.Nat.{ℕ, ◌*◌, ◌≤◌, ◌<◌}
use mathlib.Core.Path.{◌≡◌, ◌∙◌}
use mathlib.Core.List.{List}
use borrow.Author.Tests.{le-ltb, lt-ltb}
use lib.ListN.{length}
use Rattle.answers.specs.Tables.{elements_of}
use Rattle.answers.specs.Numbers.{Answer}
use Rattle.answers.specs.declared.refusal.Refusal.{Refusal}
use Rattle.problem.specs.Problem.{plan_for, rules_for}
use Rattle.question.specs.Checked.{problem_asked}
use Rattle.question.proofs.Checks.{first-five, five-fail, cells-asked}
use Rattle.router.specs.Route.{Question, rules_asked, cell_words, passes, fails, question_checks, checks, answer_after, answer_under, answer_of, scratch_after, scratch_of, visits_after, visits_under, visits_of, Routed}
use Rattle.router.specs.Ready.{RouteDone}
use Rattle.answers.specs.declared.answer.RouteAnswer.{RouteAnswer}

module _ (q : Question) (scratch visits : List ℕ) where
  -- a refusal leaves everything as it is
  pub refused : (r : Refusal) → checks q (length scratch) ≡ fails r → Routed q scratch scratch visits visits (RouteAnswer.Refused r)
  unfolding answer_of answer_under scratch_of visits_of visits_under answer_after scratch_after visits_after
  refused r e = record { answer = rw e; scratch_left = rw e; visits_left = rw e }

  pub refused-five : (r : Refusal) → question_checks q passes ≡ fails r → checks q (length scratch) ≡ fails r
  unfolding checks
  refused-five r e = five-fail q r _ e

  module _ (five : question_checks q passes ≡ passes) where
    pub refused-scratch : length scratch < length q.marks * cell_words → checks q (length scratch) ≡ fails Refusal.Scratch
    unfolding checks
    refused-scratch h =
        first-five q _ five ∙ rw (lt-ltb (length scratch) _ (rw (cells-asked q passes five) at h))

    module _ (room : length q.marks * cell_words ≤ length scratch) where
      pub all-passed : checks q (length scratch) ≡ passes
      unfolding checks
      all-passed = first-five q _ five ∙ rw (le-ltb (length scratch) _ (rw (cells-asked q passes five) at room))

      -- the checks have passed, and the problem is routed
      pub routed : (scratch' visits' : List ℕ) (r : Answer) → RouteDone (problem_asked q) q.marks scratch scratch' visits visits' r → Routed q scratch scratch' visits visits' r
      unfolding answer_of answer_under scratch_of visits_of visits_under answer_after scratch_after visits_after rules_for plan_for rules_asked elements_of problem_asked
      routed scratch' visits' r d =
          record { answer = rw (all-passed, answer_after) d.answer; scratch_left = rw (all-passed, scratch_after) (rw (cells-asked q passes five) at d.zero-words); visits_left = rw (all-passed, visits_after) d.filled }
