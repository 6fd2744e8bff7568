-- Several numbers of a job in a row.
use Rattle.std.specs.Prelude.{ℕ, zero, suc, cond, List, [], ◌∷◌, leb, Result, Ok, Err}
use Rattle.std.specs.Borrow.{Bor}
use Rattle.numbers.specs.Numbers.{Read, value, fault, number}
use Rattle.numbers.specs.declared.fault.JobFault.{JobFault}
use Rattle.numbers.specs.declared.fault.JobFault.TheVariants.{Grid, Mark, Count, Bytes, Size}

-- refusal 15
abbrev pub job_fault : ℕ
job_fault = 15

-- document 01's numbers of what is refused while a job is read
abbrev pub fault_number : JobFault → ℕ
fault_number Grid = 1
fault_number Mark = 3
fault_number Count = 4
fault_number Bytes = job_fault
fault_number Size = 16

-- the numbers with the bytes after them, or a refusal
pub data Run : Type 0 where
  values : List ℕ → List ℕ → Run
  refused : ℕ → Run

unfoldable pub prepend : ℕ → Run → Run
prepend v (values vs rest) = values (v ∷ vs) rest
prepend v (refused k) = refused k

-- a number, which is to be at most `top`, and then the others
unfoldable pub one_more : ℕ → ℕ → Read → (List ℕ → Run) → Run
one_more top refusal (value v rest) others = cond (leb v top) (prepend v (others rest)) (refused refusal)
one_more top refusal fault others = refused job_fault

-- n numbers, each at most `top`; the first above it gives `refusal`
unfoldable pub run : ℕ → ℕ → ℕ → List ℕ → Run
run zero top refusal bytes = values [] bytes
run (suc n) top refusal bytes = one_more top refusal (number bytes) (run n top refusal)

-- what the code's answer says, with the numbers that it wrote
unfoldable pub run_of : List ℕ → Result (Bor (List ℕ)) JobFault → Run
run_of vs (Ok rest) = values vs rest.now
run_of vs (Err f) = refused (fault_number f)
