-- What the calls on two lists answer and hand back, of a question: refusals 1 to 5, then 17, then the comparison by document 01's rules.
use Rattle.std.specs.Prelude.{Ok, Err}
use Prim.Native.Nat.{ℕ}
use mathlib.Core.Bool.{true, false, ◌||◌}
use mathlib.Core.List.{List, []}
use mathlib.Core.Logic.{◌↔◌, ◌⊎◌, inl, inr}
use mathlib.Core.Path.{◌≡◌, refl, ap}
use native.Mathlib.Omega.{arith}
use denote.Ref.{Bor}
use lib.Dec.{T}
use Rattle.answers.specs.declared.refusal.Refusal.{Refusal}
use Rattle.answers.specs.Numbers.{Comparison}
use Rattle.answers.specs.declared.verdicts.Which.TheVariants.{First, Second}
use Rattle.rules.specs.Rules.{Rules}
use Rattle.rules.specs.Legal.{Route, legal}
use Rattle.rules.specs.Ranking.{registers, ranks_before}
use Rattle.rules.proofs.Order.{ranks-irreflexive}
use Rattle.question.specs.Question.{Question, rules_asked, Check, passes, fails, or_else, question_checks}
use Rattle.question.proofs.Checks.{first-five, five-fail}
use Rattle.verdict.specs.Verdict.{route_in, bad_list}
use Rattle.comparison.specs.Better.{comparison_for, comparison_after, comparison_of, Handed}
use Rattle.comparison.proofs.Better.{better-first, better-second, better-none, BestOf, handed-best}

-- The better of two routes by document 01's rules
pub record Ranked (R : Rules) (a b : Route) (answer : Comparison) : Type 0 where
  -- the first: it is legal, and the second is not or does not rank before it
  pub first : (answer ≡ Ok First) ↔ (T (legal R a) × (T (legal R b) → T (ranks_before registers b a) → ⊥))
  -- the second: it is legal, and the first is not or the second ranks before it
  pub second : (answer ≡ Ok Second) ↔ (T (legal R b) × (T (legal R a) → T (ranks_before registers b a)))
  -- 18: neither is legal
  pub neither : (answer ≡ Err Refusal.NoneLegal) ↔ ((T (legal R a) → ⊥) × (T (legal R b) → ⊥))

-- One of the two lists, the caller's own words: its route is legal, no legal one of the two ranks before it, and of equal lists it is the first.
pub record BetterOf (R : Rules) (a b r : Bor (List ℕ)) : Type 0 where
  pub own : (r ≡ a) ⊎ (r ≡ b)
  pub best : BestOf R (route_in a.now) (route_in b.now) (route_in r.now)
  pub equal : a.now ≡ b.now → r ≡ a

-- What is handed back: an empty part if the call is refused, or else the better list
pub data HandedBack (q : Question) (a b r : Bor (List ℕ)) : Type 0 where
  refused : (k : Refusal) → comparison_of q a.now b.now ≡ Err k → r.now ≡ [] → HandedBack q a b r
  answered : BetterOf (rules_asked q) a b r → HandedBack q a b r

-- All that the calls on two lists answer and hand back
pub record BetterRanks (q : Question) (a b : Bor (List ℕ)) : Type 0 where
  -- 1 to 5 come first, then 17 for either list
  pub five : (k : Refusal) → question_checks q passes ≡ fails k → comparison_of q a.now b.now ≡ Err k
  pub lists : question_checks q passes ≡ passes → (bad_list a.now || bad_list b.now) ≡ true → comparison_of q a.now b.now ≡ Err Refusal.RouteList
  -- where these pass, the ranking decides
  pub ranked : question_checks q passes ≡ passes → bad_list a.now ≡ false → bad_list b.now ≡ false → Ranked (rules_asked q) (route_in a.now) (route_in b.now) (comparison_of q a.now b.now)
  pub handed : (r : Bor (List ℕ)) → Handed (comparison_of q a.now b.now) a b r → HandedBack q a b r

-- The comparison where the checks are known

module _ (q : Question) (a b : List ℕ) where
  -- 1 to 5
  pub refused-five : (k : Refusal) → question_checks q passes ≡ fails k → comparison_of q a b ≡ Err k
  unfolding comparison_of comparison_after
  refused-five k e = rw (five-fail q k _ e, comparison_after)

  module _ (five : question_checks q passes ≡ passes) where
    -- 17: either list
    pub refused-list : (bad_list a || bad_list b) ≡ true → comparison_of q a b ≡ Err Refusal.RouteList
    unfolding comparison_of comparison_after
    refused-list e = rw (first-five q _ five, e, comparison_after)

    pub compared : bad_list a ≡ false → bad_list b ≡ false → comparison_of q a b ≡ comparison_for (rules_asked q) (route_in a) (route_in b)
    unfolding comparison_of comparison_after
    compared e f = rw (first-five q _ five, e, f, comparison_after)

-- a list is handed back only by the comparison of two routes
by-check : (k : Check) (q : Question) (a b : List ℕ) (x : Comparison) → comparison_after k (rules_asked q) a b ≡ x → ((j : Refusal) → Err j ≡ x → ⊥) → comparison_for (rules_asked q) (route_in a) (route_in b) ≡ x
unfolding comparison_after
by-check passes q a b x e n = e
by-check (fails j) q a b x e n = absurd (n j e)

module _ (q : Question) (a b : Bor (List ℕ)) where
  by-rules : (x : Comparison) → comparison_of q a.now b.now ≡ x → ((j : Refusal) → Err j ≡ x → ⊥) → comparison_for (rules_asked q) (route_in a.now) (route_in b.now) ≡ x
  unfolding comparison_of
  by-rules x e n = by-check (question_checks q (or_else (bad_list a.now || bad_list b.now) Refusal.RouteList passes)) q a.now b.now x e n

  handed-back : (r : Bor (List ℕ)) → Handed (comparison_of q a.now b.now) a b r → HandedBack q a b r
  handed-back r h = go (comparison_of q a.now b.now) refl h
    where
      R : Rules
      R = rules_asked q

      v : Route
      v = route_in a.now

      w : Route
      w = route_in b.now

      go : (x : Comparison) → comparison_of q a.now b.now ≡ x → Handed x a b r → HandedBack q a b r
      go (Ok First) e is =
          let f : comparison_for R v w ≡ Ok First = by-rules (Ok First) e (λ j g. let z : ◌≡◌ {A = ℕ} 0 1 = cc in omega arith) in
          answered (record {
            own = inl is;
            best = handed-best R a b r (rw f is) (inl ((better-first R v w).0 f).0);
            equal = λ same. is;
          })
      go (Ok Second) e is =
          let f : comparison_for R v w ≡ Ok Second = by-rules (Ok Second) e (λ j g. let z : ◌≡◌ {A = ℕ} 0 1 = cc in omega arith) in
          let s = (better-second R v w).0 f in
          answered (record {
            own = inr is;
            best = handed-best R a b r (rw f is) (inr s.0);
            equal = λ same. absurd (ranks-irreflexive registers w (rw (ap route_in same) at (s.1 (rw (ap route_in same) s.0))));
          })
      go (Err k) e is = refused k e is

pub better-ranks : (q : Question) (a b : Bor (List ℕ)) → BetterRanks q a b
better-ranks q a b =
    record {
      five = refused-five q a.now b.now;
      lists = refused-list q a.now b.now;
      ranked = λ five e f. rw (compared q a.now b.now five e f) (record { first = better-first _ _ _; second = better-second _ _ _; neither = better-none _ _ _ });
      handed = handed-back q a b;
    }
