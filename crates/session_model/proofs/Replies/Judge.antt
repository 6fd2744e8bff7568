-- The verdict question: what the call hands back is the verdict that the rules give, and they give one.
use Prim.Native.Nat.{ℕ}
use mathlib.Core.List.{List}
use mathlib.Core.Path.{◌≡◌, refl, sym, ap}
use Rattle.answers.specs.Numbers.{Verdict}
use Rattle.std.specs.Prelude.{Ok, Err}
use Rattle.answers.specs.declared.verdicts.Finding.{Finding}
use Rattle.answers.specs.declared.verdicts.Finding.TheVariants.{Accepted, AtFault}
use Rattle.question.specs.Question.{Question, rules_asked, Check, passes, fails}
use Rattle.verdict.specs.Verdict.{route_in, bad_list, judge_route, verdict_after, verdict_of}
use Rattle.verdict.proofs.Routes.{good-visits}
use Rattle.verdict.proofs.Accepted.{accepted-legal, legal-accepted}
use Rattle.verdict.proofs.Faults.{fault-first}
use Rattle.session_model.specs.Asks.Asking.{asked, list_checks}
use Rattle.session_model.specs.Asks.Judge.{JudgeAsk, AlikeJudges, JudgeAnswered, not_judged, is_accepted, is_at_fault}
use Rattle.session_model.proofs.Replies.Asking.{lists-good}

module _ (q : Question) (ws : List ℕ) where
  -- The rules give one verdict, and it is the call's.
  pub judge-only : {v : Verdict} → JudgeAnswered q ws v → v ≡ verdict_of q ws
  unfolding verdict_of verdict_after list_checks
  judge-only (not_judged r e) = rw e
  judge-only (is_accepted pass h) = rw pass (ap Ok (sym (legal-accepted (rules_asked q) (route_in ws) h)))
  judge-only (is_at_fault i f pass h) = rw pass (ap Ok (sym ((fault-first (rules_asked q) (route_in ws) i f).1 h)))

  after-checks : (k : Check) → list_checks q (bad_list ws) ≡ k → JudgeAnswered q ws (verdict_after k (rules_asked q) ws)
  unfolding verdict_after
  after-checks (fails r) e = not_judged r e
  after-checks passes e = go (judge_route (rules_asked q) (route_in ws)) refl
    where
      go : (v : Finding) → judge_route (rules_asked q) (route_in ws) ≡ v → JudgeAnswered q ws (Ok v)
      go (Accepted z) j =
          let h = (accepted-legal (rules_asked q) (route_in ws) (good-visits ws (lists-good q (bad_list ws) e)) z).0 j in
          rw h.1 (is_accepted e h.0)
      go (AtFault i f) j = is_at_fault i f e ((fault-first (rules_asked q) (route_in ws) i f).0 j)

  -- What the call hands back is that verdict.
  pub judge-answered : JudgeAnswered q ws (verdict_of q ws)
  unfolding verdict_of list_checks
  judge-answered = after-checks (list_checks q (bad_list ws)) refl

pub alike-judges : {a b : JudgeAsk} → AlikeJudges a b → (marks : List ℕ) → verdict_of (asked a.asking marks) a.words ≡ verdict_of (asked b.asking marks) b.words
alike-judges e marks = rw (e.asking, e.words)
