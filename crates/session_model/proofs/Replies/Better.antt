-- The questions on two lists: what the calls hand back is what the rules give, and they give one reply.
use Rattle.std.specs.Prelude.{Ok, Err}
use Prim.Native.Nat.{ℕ}
use mathlib.Core.Bool.{Bool, true, false, ◌&&◌, ◌||◌, cond}
use mathlib.Core.List.{List}
use mathlib.Core.Path.{◌≡◌, refl, sym, ap}
use mathlib.Core.Logic.{◌↔◌}
use denote.Ref.{Bor}
use lib.Dec.{T}
use Rattle.rules.specs.Legal.{legal}
use Rattle.rules.specs.Ranking.{registers, ranks_before}
use Rattle.answers.specs.declared.refusal.Refusal.{Refusal}
use Rattle.answers.specs.Numbers.{Comparison}
use Rattle.answers.specs.declared.verdicts.Which.TheVariants.{First, Second}
use Rattle.question.specs.Question.{Question, rules_asked, Check, passes, fails}
use Rattle.verdict.specs.Verdict.{route_in, bad_list}
use Rattle.comparison.specs.Better.{comparison_for, comparison_after, comparison_of, Handed}
use Rattle.comparison.proofs.Better.{better-first, better-second, better-none}
use Rattle.session_model.specs.Asks.Asking.{asked, list_checks}
use Rattle.session_model.specs.Asks.Better.{PairAsk, AlikePairs, CompareAnswered, not_compared, first_better, second_better, neither_legal, BetterReply, LendsBack, handed_back, better_of, BetterAnswered, hands_first, hands_second, hands_none}

-- The comparison by its three tests: `x` and `y`, the lists are legal; `z`, the second ranks before the first.
by_tests : (x y z : Bool) (P : Comparison → Type 0) → (T x → (T y → T z → ⊥) → P (Ok First)) → (T y → (T x → T z) → P (Ok Second)) → ((T x → ⊥) → (T y → ⊥) → P (Err Refusal.NoneLegal)) → P (cond x (cond (y && z) (Ok Second) (Ok First)) (cond y (Ok Second) (Err Refusal.NoneLegal)))
by_tests true true true P first second none = second tt (λ h. tt)
by_tests true true false P first second none = first tt (λ h k. k)
by_tests true false z P first second none = first tt (λ h k. h)
by_tests false true z P first second none = second tt (λ h. absurd h)
by_tests false false z P first second none = none (λ h. h) (λ h. h)

module _ (q : Question) (a b : List ℕ) where
  -- The rules give one comparison, and it is the call's.
  pub compare-only : {c : Comparison} → CompareAnswered q a b c → c ≡ comparison_of q a b
  unfolding comparison_of comparison_after list_checks
  compare-only (not_compared r e) = rw e
  compare-only (first_better pass h k) = rw pass (sym ((better-first (rules_asked q) (route_in a) (route_in b)).1 (h, k)))
  compare-only (second_better pass h k) = rw pass (sym ((better-second (rules_asked q) (route_in a) (route_in b)).1 (h, k)))
  compare-only (neither_legal pass h k) = rw pass (sym ((better-none (rules_asked q) (route_in a) (route_in b)).1 (h, k)))

  after-checks : (k : Check) → list_checks q (bad_list a || bad_list b) ≡ k → CompareAnswered q a b (comparison_after k (rules_asked q) a b)
  unfolding comparison_after comparison_for
  after-checks (fails r) e = not_compared r e
  after-checks passes e =
      by_tests (legal (rules_asked q) (route_in a)) (legal (rules_asked q) (route_in b)) (ranks_before registers (route_in b) (route_in a)) (CompareAnswered q a b)
      (first_better e) (second_better e) (neither_legal e)

  -- What `compare` hands back is that comparison.
  pub compare-answered : CompareAnswered q a b (comparison_of q a b)
  unfolding comparison_of list_checks
  compare-answered = after-checks (list_checks q (bad_list a || bad_list b)) refl

  -- The rules hand back one list or part, and it is the call's.
  pub better-only : {r : BetterReply} → BetterAnswered q a b r → r ≡ better_of q a b
  unfolding better_of handed_back
  better-only (hands_first h) = rw (← compare-only h)
  better-only (hands_second h) = rw (← compare-only h)
  better-only (hands_none r h) = rw (← compare-only h)

  -- What `better` hands back is that list or part.
  pub better-answered : BetterAnswered q a b (better_of q a b)
  unfolding better_of handed_back
  better-answered = go (comparison_of q a b) compare-answered
    where
      go : (c : Comparison) → CompareAnswered q a b c → BetterAnswered q a b (handed_back c a b)
      go (Ok First) h = hands_first h
      go (Ok Second) h = hands_second h
      go (Err r) h = hands_none r h

-- The contract of `better` says of references what the reply says.
pub handed-is : (q : Question) (a b r : Bor (List ℕ)) → Handed (comparison_of q a.now b.now) a b r ↔ LendsBack (better_of q a.now b.now) a b r
unfolding better_of handed_back
handed-is q a b r = go (comparison_of q a.now b.now)
  where
    go : (c : Comparison) → Handed c a b r ↔ LendsBack (handed_back c a.now b.now) a b r
    go (Ok First) = (λ e. (e, ap (λ x. x.now) e), λ h. h.0)
    go (Ok Second) = (λ e. (e, ap (λ x. x.now) e), λ h. h.0)
    go (Err k) = (λ e. e, λ e. e)

pub alike-compares : {a b : PairAsk} → AlikePairs a b → (marks : List ℕ) → comparison_of (asked a.asking marks) a.first a.second ≡ comparison_of (asked b.asking marks) b.first b.second
alike-compares e marks = rw (e.asking, e.first, e.second)

pub alike-betters : {a b : PairAsk} → AlikePairs a b → (marks : List ℕ) → better_of (asked a.asking marks) a.first a.second ≡ better_of (asked b.asking marks) b.first b.second
alike-betters e marks = rw (e.asking, e.first, e.second)
