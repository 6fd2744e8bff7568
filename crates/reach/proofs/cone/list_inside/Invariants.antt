-- `reach::cone::list_inside`: the invariant: it is done for the first i cells of the active list.
use Rattle.plan.specs.Apart.{apart_by}
use Rattle.budget.specs.Cone.{in_cone}
use Rattle.reach.specs.Cone.{ListedInside}
use Rattle.reach.proofs.cone.list_inside.Given as goal

abbrev pub invariant-loop-i : goal.invariant-loop-i
invariant-loop-i l =
    ListedInside l.n l.i (in_cone (apart_by l.width l.from) l.most l.u) l.initial.scratch l.scratch l.count
