-- `search::anew::search_anew` meets its contract: after the two clears the words are blank, and they and the search leave the trail.
use mathlib.Core.Path.{◌∙◌}
use native.Mathlib.Omega.{arith}
use Rattle.rows.proofs.Words.{filled_at}
use Rattle.problem.proofs.Sizes.{few-cells}
use Rattle.search.proofs.Ends.{asks-kept, beyond-then, beyond-kept}
use Rattle.search.proofs.anew.search_anew.Goals as goal

pub overflow_mul-n : goal.overflow_mul-n
overflow_mul-n c = omega (arith, few-cells _ _ c.requires.0.ready)

pub clear-requires : goal.clear-requires
clear-requires c = (omega arith, omega (arith, c.requires.1.0))

pub overflow_mul-n-2 : goal.overflow_mul-n-2
overflow_mul-n-2 c = omega (arith, few-cells _ _ c.requires.0.ready)

pub overflow_mul-n-3 : goal.overflow_mul-n-3
overflow_mul-n-3 c = omega (arith, few-cells _ _ c.requires.0.ready)

pub clear-requires-2 : goal.clear-requires-2
clear-requires-2 c = (omega arith, omega (arith, c.requires.1.0, c.clear.ensures.same))

pub search-requires : goal.search-requires
search-requires c = (
  c.requires.0,
  (
    omega (arith, c.requires.1.0, c.clear-2.ensures.same, c.clear.ensures.same),
    (
      record {
        table = λ i h. c.clear-2.ensures.low i (omega arith) ∙ filled_at c.clear.ensures i (omega arith) (omega arith);
        labels = λ i lo hi. filled_at c.clear-2.ensures i (omega arith) (omega arith);
      },
      (
        asks-kept c.requires.1.1.0 _ (c.clear-2.ensures.same ∙ c.clear.ensures.same) (λ i h. c.clear-2.ensures.high i (omega arith) ∙ c.clear.ensures.high i (omega arith)),
        c.requires.1.1.1,
      ),
    ),
  ),
)

pub shape_of-scratch : goal.shape_of-scratch
shape_of-scratch c =
    c.search.ensures.same ∙ (c.clear-2.ensures.same ∙ c.clear.ensures.same)

pub returns : goal.returns
returns c =
    let found = c.search.ensures in
    record {
      same = found.same ∙ (c.clear-2.ensures.same ∙ c.clear.ensures.same);
      beyond = beyond-then (beyond-kept (λ i h. c.clear-2.ensures.high i (omega arith) ∙ c.clear.ensures.high i (omega arith))) found.beyond;
      done = found.done;
    }
