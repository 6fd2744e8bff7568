-- `lent_buffers::read_buffers`: the six records that `pick_or` gives are those of the list.
use Rattle.std.proofs.Common.{◌∙◌}
use Rattle.answers.proofs.Lists.{list-is}
use Rattle.lent_buffers.proofs.read_buffers.Goals as goal

pub returns : goal.returns
returns c =
    c.read_list.ensures
    ∙ list-is _ _ _ _ _ _ _ c.pick_or.ensures c.pick_or-2.ensures c.pick_or-3.ensures c.pick_or-4.ensures c.pick_or-5.ensures c.pick_or-6.ensures
