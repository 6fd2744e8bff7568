-- `job::fields::buffers_of` meets its contract: the six places.
use Rattle.job.specs.Fields.{buffer_list_of}
use Rattle.job.proofs.fields.buffers_of.Goals as goal

pub returns : goal.returns
unfolding buffer_list_of
returns c = cc
