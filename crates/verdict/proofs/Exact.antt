-- The verdict call, exactly: what it accepts and with which spare figure, which fault it tells, what it refuses.
use Prim.Native.Nat.{ℕ}
use mathlib.Core.Bool.{Bool, true, false}
use mathlib.Core.List.{List}
use mathlib.Core.Path.{◌≡◌, refl, sym, ap, ◌∙◌}
use mathlib.Core.Logic.{◌↔◌}
use native.Mathlib.Omega.{arith}
use lib.Dec.{T}
use lib.IntN.{ℤ}
use Rattle.answers.specs.declared.refusal.Refusal.{Refusal}
use Rattle.answers.specs.declared.verdicts.VisitFault.{VisitFault}
use Rattle.std.specs.Prelude.{Ok, Err}
use Rattle.answers.specs.Numbers.{Verdict}
use Rattle.answers.specs.declared.verdicts.Finding.{Finding}
use Rattle.answers.specs.declared.verdicts.Finding.TheVariants.{Accepted, AtFault}
use Rattle.rules.specs.Legal.{legal}
use Rattle.rules.specs.Slack.{slacks, least_slack, Smallest}
use Rattle.question.specs.Question.{Question, rules_asked, Check, passes, fails, or_else, question_checks}
use Rattle.question.proofs.Checks.{passed, all_pass, first-five}
use Rattle.question.proofs.Slack.{asked-smallest}
use Rattle.verdict.specs.Verdict.{route_in, bad_list, judge_route, verdict_after, verdict_of}
use Rattle.verdict.specs.Fault.{FirstFault}
use Rattle.verdict.proofs.Routes.{good-visits}
use Rattle.verdict.proofs.Accepted.{accepted-legal}
use Rattle.verdict.proofs.Faults.{fault-first}

-- refusals 1 to 5 do not occur, nor does 17
pub record Judgeable (q : Question) (ws : List ℕ) : Type 0 where
  pub question : question_checks q passes ≡ passes
  pub list : bad_list ws ≡ false

pub record VerdictExact (q : Question) (ws : List ℕ) : Type 0 where
  -- the legal ones, whoever drew them
  pub accepted : (z : ℤ) → (verdict_of q ws ≡ Ok (Accepted z)) ↔ (Judgeable q ws × (T (legal (rules_asked q) (route_in ws)) × (z ≡ least_slack (rules_asked q) (route_in ws))))
  -- the figure is the smallest of its spans': no close has less, and one has it
  pub smallest : (z : ℤ) → verdict_of q ws ≡ Ok (Accepted z) → Smallest z (slacks (rules_asked q) (route_in ws))
  -- the first visit at fault and the first fault there, a period fault with the figure of its close
  pub at_fault : (i : ℕ) (f : VisitFault) → (verdict_of q ws ≡ Ok (AtFault i f)) ↔ (Judgeable q ws × FirstFault (rules_asked q) (route_in ws) i f)
  -- the first of 1 to 5 and 17, in this order
  pub refused : (r : Refusal) → (verdict_of q ws ≡ Err r) ↔ (question_checks q (or_else (bad_list ws) Refusal.RouteList passes) ≡ fails r)

no-fault : (b : Bool) → or_else b Refusal.RouteList passes ≡ passes → b ≡ false
no-fault false e = refl
no-fault true e = absurd (let z : ◌≡◌ {A = ℕ} 0 1 = cc in omega arith)

found : {x y : Finding} → ◌≡◌ {A = Verdict} (Ok x) (Ok y) → x ≡ y
found e = cc

module _ (q : Question) (ws : List ℕ) where
  abbrev checked : Check
  checked = question_checks q (or_else (bad_list ws) Refusal.RouteList passes)

  judgeable : checked ≡ passes → Judgeable q ws
  judgeable e =
      let p = passed q _ e in
      record { question = all_pass q passes p.valid p.clean p.apart; list = no-fault (bad_list ws) p.after }

  judged : Judgeable q ws → verdict_of q ws ≡ Ok (judge_route (rules_asked q) (route_in ws))
  unfolding verdict_of verdict_after
  judged j = rw (first-five q (or_else (bad_list ws) Refusal.RouteList passes) j.question, j.list)

  -- a verdict that is no refusal is one on the visits
  answered : (v : Verdict) → ((r : Refusal) → Err r ≡ v → ⊥) → verdict_of q ws ≡ v → Judgeable q ws
  unfolding verdict_of verdict_after
  answered v other = go checked refl
    where
      go : (k : Check) → checked ≡ k → verdict_after k (rules_asked q) ws ≡ v → Judgeable q ws
      go passes e h = judgeable e
      go (fails r) e h = absurd (other r h)

  is-refused : (r : Refusal) → verdict_of q ws ≡ Err r → checked ≡ fails r
  unfolding verdict_of verdict_after
  is-refused r = go checked refl
    where
      go : (k : Check) → checked ≡ k → verdict_after k (rules_asked q) ws ≡ Err r → checked ≡ fails r
      go passes e h = absurd (let n : ◌≡◌ {A = ℕ} 0 1 = cc in omega arith)
      go (fails s) e h = e ∙ cc

  refuses : (r : Refusal) → checked ≡ fails r → verdict_of q ws ≡ Err r
  unfolding verdict_of verdict_after
  refuses r e = rw e

  abbrev LegalWith : ℤ → Type 0
  LegalWith z = T (legal (rules_asked q) (route_in ws)) × (z ≡ least_slack (rules_asked q) (route_in ws))

  legal-with : Judgeable q ws → (z : ℤ) → (judge_route (rules_asked q) (route_in ws) ≡ Accepted z) ↔ LegalWith z
  legal-with j = accepted-legal (rules_asked q) (route_in ws) (good-visits ws j.list)

  is-accepted : (z : ℤ) → verdict_of q ws ≡ Ok (Accepted z) → Judgeable q ws × LegalWith z
  is-accepted z e =
      let j = answered (Ok (Accepted z)) (λ r h. let n : ◌≡◌ {A = ℕ} 0 1 = cc in omega arith) e in
      (j, (legal-with j z).0 (found (sym (judged j) ∙ e)))

  pub verdict-exact : VerdictExact q ws
  verdict-exact =
      record {
        accepted = λ z. (is-accepted z, λ h. judged h.0 ∙ ap Ok ((legal-with h.0 z).1 h.1));
        smallest = λ z e. let a = is-accepted z e in rw a.1.1 (asked-smallest q passes a.0.question (route_in ws) a.1.0);
        at_fault = λ i f. (λ e. let j = answered (Ok (AtFault i f)) (λ r h. let n : ◌≡◌ {A = ℕ} 0 1 = cc in omega arith) e in (j, (fault-first (rules_asked q) (route_in ws) i f).0 (found (sym (judged j) ∙ e))), λ h. judged h.0 ∙ ap Ok ((fault-first (rules_asked q) (route_in ws) i f).1 h.1));
        refused = λ r. (is-refused r, refuses r);
      }
