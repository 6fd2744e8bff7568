-- Below the next close there is no route; the spans that close there go on.
use mathlib.Core.Path.{refl}
use native.Mathlib.Omega.{arith}
use Rattle.earliest.specs.Earliest.{on, ended}
use Rattle.earliest.proofs.Parts.{none-to, rise-asks, risen}
use Rattle.problem.proofs.Sizes.{few-cells}
use Rattle.earliest.proofs.turns.rise.Goals as goal

pub returns-then-close-eq-NEVER : goal.returns-then-close-eq-NEVER
returns-then-close-eq-NEVER c = ended refl (λ k h. refl) (λ b h k. none-to _ _ c.requires b (omega arith) k)

pub start_all-count-requires : goal.start_all-count-requires
start_all-count-requires c = rise-asks _ _ c.requires (λ h. omega arith) (omega arith)

pub next_close-hint-requires : goal.next_close-hint-requires
next_close-hint-requires c =
    record { small = few-cells _ _ c.requires.passing.ground.ready; room = omega (arith, c.requires.passing.ground.room, c.start_all-count.ensures.eases.same) }

pub returns : goal.returns
returns c =
    on (risen _ _ c.requires (λ h. omega arith) (omega arith) _ c.start_all-count.ensures)
