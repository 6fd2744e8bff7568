-- What passed checks say.
use Prim.Native.Nat.{ℕ}
use mathlib.Core.Path.{◌≡◌}
use mathlib.Core.Logic.{◌↔◌}
use lib.Dec.{T}
use Rattle.plan.specs.Plan.{plan_of}
use Rattle.timing.specs.Valid as timing
use Rattle.rules.specs.Legal.{Route, legal}
use Rattle.rules.specs.Ranking.{registers, IsBest}
use Rattle.best.specs.Best.{found, none, best}
use Rattle.best.proofs.Document01.{rules-best, rules-none}
use Rattle.answers.specs.Tables.{elements_of}
use Rattle.question.specs.Checked.{problem_asked}
use Rattle.question.proofs.Checks.{passed-ready}
use Rattle.router.specs.Route.{Question, passes, rules_asked, checks}

pub passed-valid : (q : Question) (scratch : ℕ) → checks q scratch ≡ passes → timing.Valid (elements_of q.tables q.buffers)
unfolding checks problem_asked
passed-valid q scratch e = (passed-ready q _ e).valid

-- the executable best route of the question's rules is the best legal route, and there is none exactly where no route is legal
module _ (q : Question) (scratch : ℕ) (pass : checks q scratch ≡ passes) where
  pub asked-best : (r : Route) → (best (rules_asked q) ≡ found r) ↔ IsBest registers (rules_asked q) r
  unfolding rules_asked
  asked-best = rules-best (plan_of q.width q.height q.marks) (elements_of q.tables q.buffers) q.source q.sink (passed-valid q scratch pass)

  pub asked-none : (best (rules_asked q) ≡ none) ↔ ((r : Route) → T (legal (rules_asked q) r) → ⊥)
  unfolding rules_asked
  asked-none = rules-none (plan_of q.width q.height q.marks) (elements_of q.tables q.buffers) q.source q.sink (passed-valid q scratch pass)
