-- `reasons::probe::exists_with` meets its contract: the best route's figures are there, or there is none.
use Rattle.std.proofs.Common.{◌∙◌, ap, is_some}
use Rattle.problem.specs.Problem.{plan_for, rules_for}
use Rattle.reasons.proofs.Probes.{routed-some, ready_with}
use Rattle.reasons.proofs.probe.exists_with.Goals as goal

pub costs_of-costs-requires : goal.costs_of-costs-requires
costs_of-costs-requires c = let valid = c.requires.1.1 in (valid, valid.register)

pub least_ready-requires : goal.least_ready-requires
least_ready-requires c =
    (ready_with _ _ _ c.requires.0 c.requires.1.1, (c.requires.1.0, c.costs_of-costs.ensures))

pub returns : goal.returns
unfolding rules_for plan_for
returns c =
    let done = c.least_ready.ensures in
    record { told = c.is_some.ensures ∙ (ap is_some done.least ∙ routed-some _); same = done.same; rest = done.rest }
