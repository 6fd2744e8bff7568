-- The lent scratch words are many: their number is not counted.
use Rattle.std.proofs.Common.{ℕ, sym}
use Rattle.std.proofs.lemmas.List.{length-replicate}
use Rattle.session_player.proofs.played.Goals as goal

pub slice_bounds-play-end-3 : goal.slice_bounds-play-end-3
slice_bounds-play-end-3 g c = sym (length-replicate {0} {A = ℕ} 524288 65535)
