-- The effect of the search without the route, once its checks are known.
use Prim.Native.Nat.{ℕ, ◌*◌, ◌≤◌}
use mathlib.Core.Path.{◌≡◌, ap}
use mathlib.Core.List.{List, []}
use Rattle.std.specs.Prelude.{Option}
use lib.ListN.{length}
use Rattle.answers.specs.Numbers.{Answer}
use Rattle.answers.specs.declared.refusal.Refusal.{Refusal}
use Rattle.question.specs.Checked.{problem_asked}
use Rattle.question.specs.Question.{Question, passes, fails, question_checks}
use Rattle.question.proofs.Checks.{cells-asked, rules-asked}
use Rattle.router.specs.Route.{cell_words, checks}
use Rattle.router.specs.Least.{Searched}
use Rattle.router.specs.declared.least.Least.{Least}
use Rattle.router.proofs.Refusals.{all-passed}
use Rattle.bench_entry.specs.Searched.{least_answer, searched_after, searched_of, WordsAfter, Searching}
use Rattle.answers.specs.declared.answer.RouteAnswer.{RouteAnswer}

module _ (q : Question) (scratch : List ℕ) where
  -- a refusal leaves everything as it is
  pub refused : (r : Refusal) → checks q (length scratch) ≡ fails r → Searching q scratch scratch (RouteAnswer.Refused r)
  unfolding searched_of searched_after WordsAfter
  refused r e = record { answer = rw e; scratch_left = rw e }

  -- the checks have passed, and the problem is searched
  pub searched : question_checks q passes ≡ passes → length q.marks * cell_words ≤ length scratch → (scratch' : List ℕ) (least : Option Least) → Searched (problem_asked q) q.marks scratch scratch' least → Searching q scratch scratch' (least_answer least)
  unfolding searched_of searched_after WordsAfter
  searched five room scratch' least d =
      let pass = all-passed q scratch [] five room in
      record {
        answer = rw (pass, searched_after) (ap least_answer (rw (rules-asked q) at d.least));
        scratch_left = rw (pass, WordsAfter) (d.same, rw (cells-asked q passes five) at d.rest);
      }
