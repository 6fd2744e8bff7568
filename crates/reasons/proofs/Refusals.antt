-- The effect of `explain` once its checks are known.
use Prim.Native.Nat.{ℕ, ◌*◌, ◌≤◌}
use mathlib.Core.Path.{◌≡◌}
use mathlib.Core.List.{List, []}
use lib.ListN.{length}
use Rattle.answers.specs.declared.refusal.Refusal.{Refusal}
use Rattle.answers.specs.Numbers.{Explained}
use Rattle.problem.specs.Problem.{plan_for}
use Rattle.question.specs.Checked.{problem_asked}
use Rattle.question.proofs.Checks.{cells-asked}
use Rattle.router.specs.Route.{Question, cell_words, passes, fails, question_checks, checks, scratch_after, scratch_of}
use Rattle.router.proofs.Refusals.{all-passed}
use Rattle.reasons.specs.Reasons.{explained_for, explained_after, explained_of, Explaining}
use Rattle.reasons.specs.Probe.{explained_by, ReasonDone}
use Rattle.std.specs.Prelude.{Ok, Err}

module _ (q : Question) (scratch : List ℕ) where
  -- a refusal leaves everything as it is
  pub refused : (r : Refusal) → checks q (length scratch) ≡ fails r → Explaining q scratch scratch (Err r)
  unfolding explained_of explained_after scratch_of scratch_after
  refused r e = record { answer = rw e; scratch_left = rw e }

  -- the checks have passed, and the problem is explained
  pub explained : question_checks q passes ≡ passes → length q.marks * cell_words ≤ length scratch → (scratch' : List ℕ) (r : Explained) → ReasonDone (problem_asked q) q.marks scratch scratch' r → Explaining q scratch scratch' r
  unfolding explained_of explained_after scratch_of scratch_after explained_by explained_for plan_for problem_asked
  explained five room scratch' r d =
      let pass = all-passed q scratch [] five room in
      record { answer = rw (pass, explained_after) d.answer; scratch_left = rw (pass, scratch_after) (rw (cells-asked q passes five) at d.zero-words) }
