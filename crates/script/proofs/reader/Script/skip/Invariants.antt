-- Each turn passes one byte.
use Rattle.std.proofs.Common.{length}
use Rattle.script.proofs.reader.Script.skip.Given as goal

abbrev pub decreases-loop-byte : goal.decreases-loop-byte
decreases-loop-byte l = length l.self.rest.now
