-- Which list is the better, by what is legal and what ranks before what; and the list handed back is legal and neither list ranks before it.
use Rattle.std.specs.Prelude.{Ok, Err}
use Prim.Native.Nat.{ℕ}
use mathlib.Core.Bool.{Bool, true, false, ◌&&◌, cond}
use mathlib.Core.List.{List}
use mathlib.Core.Path.{◌≡◌, refl}
use mathlib.Core.Logic.{◌↔◌, ◌⊎◌, inl, inr}
use native.Mathlib.Omega.{arith}
use denote.Ref.{Bor}
use lib.Dec.{T}
use Rattle.answers.specs.declared.refusal.Refusal.{Refusal}
use Rattle.answers.specs.Numbers.{Comparison}
use Rattle.answers.specs.declared.verdicts.Which.TheVariants.{First, Second}
use Rattle.rules.specs.Rules.{Rules}
use Rattle.rules.specs.Legal.{Route, legal}
use Rattle.rules.specs.Ranking.{registers, ranks_before}
use Rattle.rules.proofs.Order.{ranks-irreflexive, ranks-transitive}
use Rattle.verdict.specs.Verdict.{route_in}
use Rattle.comparison.specs.Better.{comparison_for, Handed}

-- The comparison by its three tests: `a` and `b`, the lists are legal; `c`, the second ranks before the first.

abbrev pub chosen : Bool → Bool → Bool → Comparison
chosen a b c = cond a (cond (b && c) (Ok Second) (Ok First)) (cond b (Ok Second) (Err Refusal.NoneLegal))

chosen-first : (a b c : Bool) → (chosen a b c ≡ Ok First) ↔ (T a × (T b → T c → ⊥))
chosen-first true true true = (λ e. absurd (let z : ◌≡◌ {A = ℕ} 0 1 = cc in omega arith), λ h. absurd (h.1 tt tt))
chosen-first true true false = (λ e. (tt, λ p q. q), λ h. refl)
chosen-first true false c = (λ e. (tt, λ p q. p), λ h. refl)
chosen-first false true c = (λ e. absurd (let z : ◌≡◌ {A = ℕ} 0 1 = cc in omega arith), λ h. absurd h.0)
chosen-first false false c = (λ e. absurd (let z : ◌≡◌ {A = ℕ} 0 1 = cc in omega arith), λ h. absurd h.0)

chosen-second : (a b c : Bool) → (chosen a b c ≡ Ok Second) ↔ (T b × (T a → T c))
chosen-second true true true = (λ e. (tt, λ p. tt), λ h. refl)
chosen-second true true false = (λ e. absurd (let z : ◌≡◌ {A = ℕ} 0 1 = cc in omega arith), λ h. absurd (h.1 tt))
chosen-second true false c = (λ e. absurd (let z : ◌≡◌ {A = ℕ} 0 1 = cc in omega arith), λ h. absurd h.0)
chosen-second false true c = (λ e. (tt, λ p. absurd p), λ h. refl)
chosen-second false false c = (λ e. absurd (let z : ◌≡◌ {A = ℕ} 0 1 = cc in omega arith), λ h. absurd h.0)

chosen_none : (a b c : Bool) → (chosen a b c ≡ Err Refusal.NoneLegal) ↔ ((T a → ⊥) × (T b → ⊥))
chosen_none true true true = (λ e. absurd (let z : ◌≡◌ {A = ℕ} 0 1 = cc in omega arith), λ h. absurd (h.0 tt))
chosen_none true true false = (λ e. absurd (let z : ◌≡◌ {A = ℕ} 0 1 = cc in omega arith), λ h. absurd (h.0 tt))
chosen_none true false c = (λ e. absurd (let z : ◌≡◌ {A = ℕ} 0 1 = cc in omega arith), λ h. absurd (h.0 tt))
chosen_none false true c = (λ e. absurd (let z : ◌≡◌ {A = ℕ} 0 1 = cc in omega arith), λ h. absurd (h.1 tt))
chosen_none false false c = (λ e. (λ p. p, λ p. p), λ h. refl)

-- a list of the two is handed back, or neither is legal
data Chosen (a b c : Bool) : Comparison → Type 0 where
  first : T a → (T b → T c → ⊥) → Chosen a b c (Ok First)
  second : T b → (T a → T c) → Chosen a b c (Ok Second)
  neither : (T a → ⊥) → (T b → ⊥) → Chosen a b c (Err Refusal.NoneLegal)

chosen-view : (a b c : Bool) → Chosen a b c (chosen a b c)
chosen-view true true true = second tt (λ p. tt)
chosen-view true true false = first tt (λ p q. q)
chosen-view true false c = first tt (λ p q. p)
chosen-view false true c = second tt (λ p. absurd p)
chosen-view false false c = neither (λ p. p) (λ p. p)

module _ (R : Rules) (a b : Route) where
  -- the first: it is legal, and the second is not or does not rank before it
  pub better-first : (comparison_for R a b ≡ Ok First) ↔ (T (legal R a) × (T (legal R b) → T (ranks_before registers b a) → ⊥))
  unfolding comparison_for
  better-first = chosen-first (legal R a) (legal R b) (ranks_before registers b a)

  -- the second: it is legal, and the first is not or the second ranks before it
  pub better-second : (comparison_for R a b ≡ Ok Second) ↔ (T (legal R b) × (T (legal R a) → T (ranks_before registers b a)))
  unfolding comparison_for
  better-second = chosen-second (legal R a) (legal R b) (ranks_before registers b a)

  -- 18: neither is legal
  pub better-none : (comparison_for R a b ≡ Err Refusal.NoneLegal) ↔ ((T (legal R a) → ⊥) × (T (legal R b) → ⊥))
  unfolding comparison_for
  better-none = chosen_none (legal R a) (legal R b) (ranks_before registers b a)

  -- the comparison where the three tests are known
  pub known : (x y z : Bool) → legal R a ≡ x → legal R b ≡ y → ranks_before registers b a ≡ z → chosen x y z ≡ comparison_for R a b
  unfolding comparison_for
  known x y z e f g = rw (e, f, g)

  better-view : Chosen (legal R a) (legal R b) (ranks_before registers b a) (comparison_for R a b)
  unfolding comparison_for
  better-view = chosen-view (legal R a) (legal R b) (ranks_before registers b a)

-- of equal routes, the first
pub better-equal : (R : Rules) (a : Route) → T (legal R a) → comparison_for R a a ≡ Ok First
better-equal R a h = (better-first R a a).1 (h, λ k before. ranks-irreflexive registers a before)

-- A route is legal, and neither of two that are legal ranks before it.
pub record BestOf (R : Rules) (a b r : Route) : Type 0 where
  pub is_legal : T (legal R r)
  pub first_after : T (legal R a) → T (ranks_before registers a r) → ⊥
  pub second_after : T (legal R b) → T (ranks_before registers b r) → ⊥

-- the list handed back by the rules
pub handed-best : (R : Rules) (a b r : Bor (List ℕ)) → Handed (comparison_for R (route_in a.now) (route_in b.now)) a b r → T (legal R (route_in a.now)) ⊎ T (legal R (route_in b.now)) → BestOf R (route_in a.now) (route_in b.now) (route_in r.now)
handed-best R a b r handed some = go (comparison_for R q s) handed (better-view R q s)
  where
    q : Route
    q = route_in a.now

    s : Route
    s = route_in b.now

    go : (x : Comparison) → Handed x a b r → Chosen (legal R q) (legal R s) (ranks_before registers s q) x → BestOf R q s (route_in r.now)
    go (Ok First) e (first h f) =
        rw e
        (record { is_legal = h; first_after = λ k before. ranks-irreflexive registers q before; second_after = f })
    go (Ok Second) e (second h f) =
        rw e
        (record {
          is_legal = h;
          first_after = λ k before. ranks-irreflexive registers q (ranks-transitive registers q s q before (f k));
          second_after = λ k before. ranks-irreflexive registers s before;
        })
    go (Err n) e (neither f g) = absurd (none some)
      where
        none : T (legal R q) ⊎ T (legal R s) → ⊥
        none (inl h) = f h
        none (inr h) = g h
