-- `routed` tells whether a legal route exists.
use Prim.Native.Nat.{ℕ}
use mathlib.Core.Bool.{true, false}
use mathlib.Core.Path.{◌≡◌, refl, sym, ap}
use lib.Dec.{T}
use Rattle.plan.specs.Plan.{Plan}
use Rattle.plan.proofs.Truth.{of-true}
use Rattle.timing.specs.declared.elements.Elements.{Elements}
use Rattle.timing.specs.Valid.{Valid}
use Rattle.rules.specs.Rules.{Rules, rules_of}
use Rattle.rules.specs.Legal.{Route, legal}
use Rattle.rules.specs.Relaxed.{HasRoute}
use Rattle.best.specs.Best.{Outcome, found, none, best}
use Rattle.best.proofs.Document01.{rules-best, rules-none}
use Rattle.reasons.specs.Explains.{NoRoute}
use Rattle.reasons.specs.Reasons.{routed}

module _ (p : Plan) (e : Elements) (a b : ℕ) (valid : Valid e) where
  abbrev R : Rules
  R = rules_of p e a b

  pub routed-route : routed (rules_of p e a b) ≡ true → HasRoute (rules_of p e a b)
  unfolding routed
  routed-route = go (best R) refl
    where
      go : (o : Outcome) → best R ≡ o → elim o [ found r ↦ true | none ↦ false ] ≡ true → HasRoute R
      go (found r) is h = record { route = r; is_legal = ((rules-best p e a b valid r).0 is).is_legal }
      go none is h = absurd (of-true false h)

  pub routed-none : routed (rules_of p e a b) ≡ false → NoRoute (rules_of p e a b)
  unfolding routed
  routed-none = go (best R) refl
    where
      go : (o : Outcome) → best R ≡ o → elim o [ found r ↦ true | none ↦ false ] ≡ false → NoRoute R
      go (found r) is h = absurd (of-true false (sym h))
      go none is h = (rules-none p e a b valid).0 is

  pub route-routed : (r : Route) → T (legal (rules_of p e a b) r) → routed (rules_of p e a b) ≡ true
  unfolding routed
  route-routed r h = go (best R) refl
    where
      go : (o : Outcome) → best R ≡ o → elim o [ found r ↦ true | none ↦ false ] ≡ true
      go (found r) is = refl
      go none is = absurd ((rules-none p e a b valid).0 is r h)

  pub none-routed : NoRoute (rules_of p e a b) → routed (rules_of p e a b) ≡ false
  unfolding routed
  none-routed n = ap (λ (o : Outcome). elim o [ found r ↦ true | none ↦ false ]) ((rules-none p e a b valid).1 n)
