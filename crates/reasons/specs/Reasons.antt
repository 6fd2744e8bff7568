-- The whole effect of `explain`, for every input: document 02, C-13. It says what the answer is and what the scratch words hold afterwards; the plan is only read.
-- The definition computes, by the best route under looser tables; proofs/Explained.antt says what each reason means, in the words of document 02.
use Rattle.std.specs.Prelude.{ℕ, Bool, true, false, cond, List, ◌≡◌, leb, length}
use Rattle.plan.specs.Plan.{Plan, plan_of}
use Rattle.timing.specs.declared.elements.Elements.{Elements}
use Rattle.timing.specs.Ranges.{period_min, period_max}
use Rattle.timing.specs.Relaxed.{at_period, relaxed}
use Rattle.rules.specs.Rules.{Rules, rules_of}
use Rattle.budget.specs.Emission.{first_from}
use Rattle.best.specs.Best.{found, none, best}
use Rattle.answers.specs.Tables.{elements_of}
use Rattle.answers.specs.declared.refusal.Refusal.{Refusal}
use Rattle.answers.specs.declared.explained.Reason.{Reason}
use Rattle.answers.specs.Numbers.{Explained}
use Rattle.question.specs.Question.{Question, Check, passes, fails}
use Rattle.router.specs.Route.{checks, scratch_of}
use Rattle.std.specs.Prelude.{Ok, Err}

-- whether a legal route exists
unfoldable pub routed : Rules → Bool
routed R = elim (best R) [ found r ↦ true | none ↦ false ]

unfoldable pub period_reason : ℕ → Reason
period_reason t = cond (leb t period_max) (Reason.Period t) Reason.TooShort

-- The reason under any rules that follow from tables; the call's own are `rules_with`.

-- the first of 1, 2, .. 30,000 at which a route exists; 30,001 for none
abbrev pub smallest_with : (Elements → Rules) → Elements → ℕ
smallest_with rules e = first_from (λ t. routed (rules (at_period t e))) period_min period_max

-- walled off: no route even where nothing has a delay or a load; load: none where nothing has a delay; else the first period
abbrev pub reason_with : (Elements → Rules) → Elements → Reason
reason_with rules e =
    elim (routed (rules (relaxed false e))) [
      | false ↦ Reason.WalledOff
      | true ↦ elim (routed (rules (relaxed true e))) [
        | false ↦ Reason.Load
        | true ↦ period_reason (smallest_with rules e)
      ]
    ]

-- 19 where a route exists
abbrev pub explained_with : (Elements → Rules) → Elements → Explained
explained_with rules e =
    elim (routed (rules e)) [ true ↦ Err Refusal.RouteExists | false ↦ Ok (reason_with rules e) ]

-- With a plan and ends: whether a route exists at a period, the smallest, the reason, the answer

unfoldable pub routed_at : Plan → Elements → ℕ → ℕ → ℕ → Bool
routed_at p e a b t = routed (rules_of p (at_period t e) a b)

unfoldable pub smallest_period : Plan → Elements → ℕ → ℕ → ℕ
smallest_period p e a b = smallest_with (λ d. rules_of p d a b) e

unfoldable pub reason_for : Plan → Elements → ℕ → ℕ → Reason
reason_for p e a b = reason_with (λ d. rules_of p d a b) e

unfoldable pub explained_for : Plan → Elements → ℕ → ℕ → Explained
explained_for p e a b = explained_with (λ d. rules_of p d a b) e

unfoldable pub explained_after : Check → (Elements → Rules) → Question → Explained
explained_after passes rules q = explained_with rules (elements_of q.tables q.buffers)
explained_after (fails r) rules q = Err r

abbrev pub explained_under : (Elements → Rules) → Question → ℕ → Explained
explained_under rules q scratch = explained_after (checks q scratch) rules q

-- the question's rules with any tables
abbrev pub rules_with : Question → Elements → Rules
rules_with q d = rules_of (plan_of q.width q.height q.marks) d q.source q.sink

-- the answer; `scratch` is how many words are lent
unfoldable pub explained_of : Question → ℕ → Explained
explained_of q scratch = explained_under (rules_with q) q scratch

-- Both: what the call answers, and what it leaves in the scratch words, which is what a route call leaves.
pub record Explaining (q : Question) (scratch scratch' : List ℕ) (r : Explained) : Type 0 where
  pub answer : r ≡ explained_of q (length scratch)
  pub scratch_left : scratch' ≡ scratch_of q scratch
