-- What `?` tells after the check of an element: it was made exactly where its test passes, or else the fault is the one that was named.
use Rattle.std.proofs.Common.{◌≡◌, Bool, true, false, cond, Option, Some, None, Result, Ok, Err, ok_or, refl, sym, ◌∙◌}
use Rattle.std.specs.Result.{result_err}
use Rattle.std.proofs.lemmas.Option.{cond_some}
use Rattle.answers.specs.declared.refusal.Fault.{Fault}
use Rattle.answers.specs.Tables.{unless_fault}

module _ {A : Type 0} (ok : Bool) (x : A) {o : Option A} (is : o ≡ cond ok (Some x) None) where
  pub made : {y : A} → o ≡ Some y → (ok ≡ true) × (y ≡ x)
  made {y} h = let p = cond_some ok x y (sym is ∙ h) in (p.0, sym p.1)

  pub named : {f e : Fault} → ◌≡◌ {A = Result A Fault} (Err e) (ok_or o f) → (ok ≡ false) × (e ≡ f)
  named {f} {e} h = go ok (rw is at h) where
    go : (b : Bool) → ◌≡◌ {A = Result A Fault} (Err e) (ok_or (cond b (Some x) None) f) → (b ≡ false) × (e ≡ f)
    go true k = absurd cc
    go false k = (refl, cc)

-- The outcome of a check tells whether it found a fault.
module _ {A : Type 0} where
  pub found-fault : (o : Option Fault) (x : A) {f : Fault} → unless_fault o x ≡ Err f → o ≡ Some f
  found-fault None x h = absurd cc
  found-fault (Some f) x h = cc

  pub found-none : (o : Option Fault) (x : A) {y : A} → unless_fault o x ≡ Ok y → (o ≡ None) × (y ≡ x)
  found-none None x h = (refl, cc)
  found-none (Some f) x h = absurd cc

  pub fault-found : (o : Option Fault) (x : A) → result_err (unless_fault o x) ≡ o
  fault-found None x = refl
  fault-found (Some f) x = refl
