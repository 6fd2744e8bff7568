-- The four sides, each by its function; together they are `neighbours-exact`.
use Rattle.plan.specs.Plan.{cells}
use Rattle.plan.proofs.Sides.{neighbours-exact}
use Rattle.plan.proofs.neighbours_of.Goals as goal

pub returns : goal.returns
unfolding cells
returns c =
    neighbours-exact _ c.requires.0 _ c.requires.1 _
    (λ i. record {
      up = c.above.ensures i;
      left = c.before-2.ensures i;
      right = c.after.ensures i;
      down = c.below.ensures i;
    })
