-- The first 225 bytes decide what is printed.
use Prim.Native.Nat.{ℕ}
use mathlib.Core.Path.{◌≡◌, ap}
use mathlib.Core.List.{List}
use lib.ListN.{take}
use Rattle.job.specs.Job.{job_bytes}
use Rattle.job.proofs.Decides.{job-decided}
use Rattle.printing.specs.Printed.{reading_text, printed}

pub printed-decided : (bytes : List ℕ) → printed (take job_bytes bytes) ≡ printed bytes
unfolding printed
printed-decided bytes = ap reading_text (job-decided bytes)
