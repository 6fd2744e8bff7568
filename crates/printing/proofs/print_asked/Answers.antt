-- `printing::print_asked` meets its contract: the route call answers the question that was read.
use Prim.Native.Nat.{◌*◌}
use mathlib.Core.Path.{sym, ◌∙◌}
use native.Mathlib.Omega.{arith}
use lib.Seq.{length-take-le}
use Rattle.printing.proofs.Whole.{within-answer, asked-text}
use Rattle.printing.proofs.print_asked.Goals as goal

pub slice_bounds-asking-end : goal.slice_bounds-asking-end
slice_bounds-asking-end c =
    sym (length-take-le (c.args.asked.width * c.args.asked.height) c.args.plan.now (omega (arith, c.requires.0)))

pub put_answer-requires : goal.put_answer-requires
put_answer-requires c = (within-answer _ _ _ _ _ c.route_asked-answer.ensures.answer c.route_asked-answer.auto.visits, omega (arith, c.route_asked-answer.auto.visits, c.requires.1.1.1.1.0, c.requires.1.1.1.1.1))

pub returns : goal.returns
returns c = let a = c.args in
    rw (asked-text a.plan.now a.scratch.now a.visits.now a.asked a.count _ _ _ (c.read_list.ensures ∙ c.buffers_of-list.ensures) c.requires.1.1.1.0 c.requires.1.1.1.1.0 c.route_asked-answer.ensures.answer c.route_asked-answer.ensures.visits_left)
    at c.put_answer.ensures
