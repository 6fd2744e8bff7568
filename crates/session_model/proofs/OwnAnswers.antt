-- "All that our own router answers is accepted" (document 02, C-11), with the answer's own spare figure (C-12): the words that the route call has written, put to the verdict call on the same question.
use Prim.Native.Nat.{ℕ, ◌+◌, ◌*◌, ◌%◌, ◌≤◌}
use mathlib.Core.Bool.{false}
use mathlib.Core.List.{List}
use mathlib.Core.Path.{◌≡◌, refl, ap, ◌∙◌, subst}
use native.Mathlib.Omega.{arith}
use borrow.Author.Tests.{ne_eqb, le-ltb}
use lib.Dec.{T}
use lib.ListN.{length, take}
use lib.Seq.{take_at}
use Rattle.rules.specs.Rules.{Rules}
use Rattle.rules.specs.Legal.{Route, legal}
use Rattle.rules.specs.Ranking.{written}
use Rattle.rules.specs.Slack.{least_slack}
use Rattle.answers.specs.Numbers.{Answer}
use Rattle.answers.specs.declared.answer.Figures.{Figures}
use Rattle.answers.specs.declared.refusal.Refusal.{Refusal}
use Rattle.std.specs.Prelude.{Ok, Err}
use Rattle.answers.specs.declared.verdicts.Finding.{Finding}
use Rattle.answers.specs.Numbers.{Verdict}
use Rattle.question.specs.Question.{Question, rules_asked, Check, passes, fails, question_checks}
use Rattle.question.proofs.Checks.{passed, all_pass}
use Rattle.verdict.specs.Verdict.{bad_list, verdict_of}
use Rattle.verdict.proofs.Routes.{route-written}
use Rattle.verdict.proofs.Accepted.{legal-visits}
use Rattle.verdict.proofs.Exact.{verdict-exact}
use Rattle.emission.proofs.Visits.{written-length}
use Rattle.router.specs.Route.{checks, figures_of, answer_after, answer_under, answer_of, visits_of}
use Rattle.router.proofs.Demand2.{Demand2, demand-2}
use Rattle.session_model.proofs.Replies.Route.{written-words}
use Rattle.answers.specs.declared.answer.RouteAnswer.{RouteAnswer}

-- the words of a legal route: two a visit, two visits or more
written-good : (R : Rules) (r : Route) → T (legal R r) → bad_list (written r) ≡ false
unfolding bad_list
written-good R r h =
    let even : length (written r) ≡ 2 * length r = written-length r in
    let two : 2 ≤ length r = legal-visits R r h in
    rw (ne_eqb (length (written r) % 2) 1 (λ z. omega arith), le-ltb (length (written r)) 4 (omega arith))

module _ (q : Question) (scratch visits : List ℕ) where
  five-pass : checks q (length scratch) ≡ passes → question_checks q passes ≡ passes
  unfolding checks
  five-pass e = let p = passed q _ e in all_pass q passes p.valid p.clean p.apart

  -- the words of any legal route, where the checks pass
  written-accepted : checks q (length scratch) ≡ passes → (r : Route) → T (legal (rules_asked q) r) → verdict_of q (written r) ≡ Ok (Finding.Accepted (least_slack (rules_asked q) r))
  written-accepted pass r h =
      ((verdict-exact q (written r)).accepted _).1 (record { question = five-pass pass; list = written-good (rules_asked q) r h }, (rw (route-written r) h, rw (route-written r)))

  module _ (f : Figures) where
    not_found : (r : Refusal) → checks q (length scratch) ≡ fails r → answer_of q scratch visits ≡ RouteAnswer.Found f → ⊥
    unfolding answer_of answer_under answer_after
    not_found r e h = let k : RouteAnswer.Refused r ≡ RouteAnswer.Found f = rw e at h in let z : ◌≡◌ {A = ℕ} 0 1 = cc in omega arith

    by-demand : checks q (length scratch) ≡ passes → {after : List ℕ} {a : Answer} → Demand2 q visits after a → a ≡ RouteAnswer.Found f → verdict_of q (take (2 * (f.steps + 1)) after) ≡ Ok (Finding.Accepted f.slack)
    unfolding figures_of
    by-demand pass (Demand2.is_found r b z fits e) h =
        let same : figures_of (rules_asked q) q.tables.period r ≡ f = cc in
        let n : length (written r) ≡ 2 * (f.steps + 1) = subst (λ (g : Figures). length (written r) ≡ 2 * (g.steps + 1)) same (written-words (rules_asked q) r b.is_legal) in
        let own : least_slack (rules_asked q) r ≡ f.slack = ap (λ (g : Figures). g.slack) same in
        rw (e, take_at (written r) _ _ n) (written-accepted pass r b.is_legal ∙ ap (λ z. Ok (Finding.Accepted z)) own)
    by-demand pass (Demand2.no_room r b z short e) h = absurd (let z : ◌≡◌ {A = ℕ} 0 1 = cc in omega arith)
    by-demand pass (Demand2.no_route n e) h = absurd (let z : ◌≡◌ {A = ℕ} 0 1 = cc in omega arith)

    -- The verdict accepts the words that the route call has filled, with the same spare figure, whatever else the visits held.
    pub own-answers-accepted : answer_of q scratch visits ≡ RouteAnswer.Found f → verdict_of q (take (2 * (f.steps + 1)) (visits_of q scratch visits)) ≡ Ok (Finding.Accepted f.slack)
    own-answers-accepted = go (checks q (length scratch)) refl
      where
        go : (k : Check) → checks q (length scratch) ≡ k → answer_of q scratch visits ≡ RouteAnswer.Found f → verdict_of q (take (2 * (f.steps + 1)) (visits_of q scratch visits)) ≡ Ok (Finding.Accepted f.slack)
        go passes pass h = by-demand pass (demand-2 q scratch visits pass) h
        go (fails r) e h = absurd (not_found r e h)
