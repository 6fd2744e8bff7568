-- What one search tells.
use Prim.Native.Nat.{ℕ}
use mathlib.Core.Bool.{true, false}
use mathlib.Core.List.{List}
use mathlib.Core.Path.{◌≡◌, refl}
use native.Mathlib.Omega.{arith}
use Rattle.timing.specs.declared.elements.Elements.{Elements}
use Rattle.timing.specs.Valid.{Valid}
use Rattle.rules.specs.Rules.{Rules}
use Rattle.best.specs.Best.{Outcome, found, none, best}
use Rattle.problem.specs.declared.Problem.{Problem}
use Rattle.problem.specs.Problem.{plan_for, Ready}
use Rattle.std.proofs.Common.{is_some}
use Rattle.router.specs.Least.{least_of}
use Rattle.reasons.specs.Reasons.{routed}

-- there are figures exactly if there is a route
pub routed-some : (R : Rules) → is_some (least_of (best R)) ≡ routed R
unfolding routed least_of
routed-some R = go (best R)
  where
    go : (o : Outcome) → is_some (least_of o) ≡ elim o [ found r ↦ true | none ↦ false ]
    go (found r) = refl
    go none = refl

-- the problem with other elements
pub ready_with : (p : Problem) (marks : List ℕ) (e : Elements) → Ready p marks → Valid e → Ready (record { width = p.width; height = p.height; source = p.source; sink = p.sink; elements = e }) marks
unfolding plan_for
ready_with p marks e ready valid = record { sized = ready.sized; valid = valid; source = ready.source; sink = ready.sink }
