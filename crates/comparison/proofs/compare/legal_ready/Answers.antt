-- The verdict accepts exactly the legal routes.
use Rattle.std.proofs.Common.{◌≡◌, ℤ, false, sym, ◌∙◌}
use mathlib.Core.Logic.{⊎_elim}
use Rattle.answers.specs.declared.verdicts.Finding.{Finding}
use Rattle.answers.specs.declared.verdicts.Finding.TheVariants.{Accepted}
use Rattle.rules.specs.Rules.{Rules}
use Rattle.plan.proofs.Truth.{decided, is_true, is_false}
use Rattle.problem.specs.Problem.{rules_for}
use Rattle.rules.specs.Legal.{Route, legal}
use Rattle.verdict.specs.Verdict.{route_in, judge_route}
use Rattle.verdict.proofs.Accepted.{accepted-legal, legal-accepted}
use Rattle.verdict.proofs.Routes.{good-visits}
use Rattle.comparison.proofs.compare.legal_ready.Goals as goal

pub returns-in-Accepted : goal.returns-in-Accepted
returns-in-Accepted c =
    let R = rules_for c.args.p c.args.plan.now in
    let r = route_in c.args.words.now in
    sym (is_true (legal R r) ((accepted-legal R r (good-visits _ c.requires.1) _).0 (sym c.in-Accepted.ensures)).0)

-- no list of a legal route is told anything else
illegal : (R : Rules) (r : Route) (v : Finding) → v ≡ judge_route R r → ((z : ℤ) → v ≡ Accepted z → ⊥) → false ≡ legal R r
illegal R r v e not = ⊎_elim (λ k. absurd (not _ (e ∙ legal-accepted R r k))) (λ k. sym (is_false (legal R r) k)) (decided (legal R r))

pub returns-in-AtFault : goal.returns-in-AtFault
returns-in-AtFault c =
    illegal (rules_for c.args.p c.args.plan.now) (route_in c.args.words.now) _ c.in-AtFault.ensures (λ z e. cc)
