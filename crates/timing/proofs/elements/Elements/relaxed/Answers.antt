use Rattle.std.proofs.Common.{◌≡◌, refl, ◌∙◌, map, add-one, arith}
use Rattle.timing.specs.Elements.{buffer_of, driver_of}
use Rattle.timing.specs.Relaxed.{relaxed, relaxed_buffer}
use Rattle.timing.proofs.Changed.{changed, changed-more, changed-rest, changed-all}
use Rattle.timing.proofs.elements.Elements.relaxed.Goals as goal

pub loop-buffer-init : goal.loop-buffer-init
unfolding changed
loop-buffer-init c = refl

pub loop-buffer-preserved : goal.loop-buffer-preserved
unfolding buffer_of driver_of
loop-buffer-preserved c =
    rw (c.relaxed.ensures, c.loop-buffer.invariant, changed-rest _ (buffer_of 0 0 0) _ _, add-one) (changed-more _ (buffer_of 0 0 0) _ _ (omega arith))

pub returns : goal.returns
unfolding relaxed
returns c =
    let all : c.loop-buffer.buffer-items ≡ map (relaxed_buffer c.args.loads) c.args.self.buffers = c.loop-buffer.invariant ∙ changed-all _ _ _ (omega arith) in
    simp (c.relaxed-2.ensures, c.relaxed-3.ensures, c.relaxed-4.ensures, all)
