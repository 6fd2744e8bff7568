-- The verdict call once its checks are known.
use Prim.Native.Nat.{ℕ}
use mathlib.Core.Bool.{true, false}
use mathlib.Core.List.{List}
use mathlib.Core.Path.{◌≡◌}
use Rattle.answers.specs.declared.refusal.Refusal.{Refusal}
use Rattle.std.specs.Prelude.{Ok, Err}
use Rattle.problem.specs.Problem.{rules_for}
use Rattle.question.specs.Question.{Question, passes, fails, or_else, question_checks}
use Rattle.question.specs.Checked.{problem_asked}
use Rattle.question.proofs.Checks.{first-five, five-fail, rules-asked}
use Rattle.verdict.specs.Verdict.{route_in, bad_list, judge_route, verdict_after, verdict_of}

module _ (q : Question) (ws : List ℕ) where
  pub verdict-refused : (r : Refusal) → question_checks q passes ≡ fails r → verdict_of q ws ≡ Err r
  unfolding verdict_of verdict_after
  verdict-refused r e = rw (five-fail q r (or_else (bad_list ws) Refusal.RouteList passes) e)

  module _ (five : question_checks q passes ≡ passes) where
    pub verdict-bad-list : bad_list ws ≡ true → verdict_of q ws ≡ Err Refusal.RouteList
    unfolding verdict_of verdict_after
    verdict-bad-list e = rw (first-five q (or_else (bad_list ws) Refusal.RouteList passes) five, e)

    pub verdict-judged : bad_list ws ≡ false → verdict_of q ws ≡ Ok (judge_route (rules_for (problem_asked q) q.marks) (route_in ws))
    unfolding verdict_of verdict_after
    verdict-judged e = rw (first-five q (or_else (bad_list ws) Refusal.RouteList passes) five, e, rules-asked q)
