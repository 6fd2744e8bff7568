-- The loop keeps: the places looked at are changed, the rest are as they were.
use Rattle.std.proofs.Common.{◌≡◌}
use Rattle.timing.specs.Relaxed.{relaxed_buffer}
use Rattle.timing.proofs.Changed.{changed}
use Rattle.timing.proofs.elements.Elements.relaxed.Given as goal

abbrev pub invariant-loop-buffer : goal.invariant-loop-buffer
invariant-loop-buffer l = l.buffer-items ≡ changed (relaxed_buffer l.loads) l.buffer-index l.self.buffers
