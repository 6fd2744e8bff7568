-- The answer is told before the words are cleared, and clearing them leaves zeros, as a route call does.
use native.Mathlib.Omega.{arith}
use Rattle.problem.proofs.Sizes.{few-cells}
use Rattle.router.proofs.Splice.{zeroed-is}
use mathlib.Core.Path.{◌∙◌}
use Rattle.reasons.proofs.reason.reason_ready.Goals as goal

pub explained-answer-requires : goal.explained-answer-requires
explained-answer-requires c = c.requires

pub overflow_mul-plan : goal.overflow_mul-plan
overflow_mul-plan c = omega (arith, few-cells _ _ c.requires.0)

pub clear-requires : goal.clear-requires
clear-requires c =
    (omega arith, omega (arith, c.requires.1, c.explained-answer.ensures.same))

pub shape_of-scratch : goal.shape_of-scratch
shape_of-scratch c = c.clear.ensures.same ∙ c.explained-answer.ensures.same

pub returns : goal.returns
returns c =
    let done = c.explained-answer.ensures in
    record {
      answer = done.told;
      zero-words = zeroed-is _ _ _ _ _ (omega arith) c.requires.1 done.same done.rest c.clear.ensures;
    }
