-- `lists::take_list`: the words of the next list are those of the active list now, all others as at entry.
use Rattle.std.proofs.Common.{◌≡◌, ◌+◌, ◌*◌, ◌-◌, arith}
use Rattle.layout.specs.Layout.{active_at}
use Rattle.lists.proofs.Lists.{listed-count, listed-moved}
use Rattle.lists.proofs.take_list.Goals as goal

pub overflow_add-n : goal.overflow_add-n
overflow_add-n c = omega (arith, listed-count c.requires.0)

pub copy_within-requires-clause-in_bounds : goal.copy_within-requires-clause-in_bounds
copy_within-requires-clause-in_bounds c = omega (arith, listed-count c.requires.0)

pub copy_within-requires-clause-dest_in_bounds : goal.copy_within-requires-clause-dest_in_bounds
copy_within-requires-clause-dest_in_bounds c = omega (arith, listed-count c.requires.0)

pub returns : goal.returns
returns c =
    let to = c.args.n * active_at in
    let copied = c.copy_within.ensures.by_index in
    record {
      same = c.copy_within.ensures.len;
      listed =
          listed-moved c.requires.0 _ to (λ x h. copied.2 _ 0 (omega (arith, listed-count c.requires.0)))
          (λ k h. let e : to + k - to ≡ k = omega arith in rw e at (copied.0 (to + k) 0 (omega arith) (omega arith)));
      low = λ k h. copied.1 k 0 h;
      high = λ k h. copied.2 k 0 (omega (arith, listed-count c.requires.0));
    }
