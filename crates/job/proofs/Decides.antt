-- The first 225 bytes of a job decide its reading.
-- Each stage is local: one that goes on has taken few bytes, and one that refuses has looked at few. The longest job that reads whole has
-- 2 + 128 + 39 + 1 + 54 = 224 bytes (width and height, marks, thirteen numbers, the count, eighteen numbers), and one byte more says whether any is left over.
use Prim.Native.Nat.{ℕ, zero, suc, ◌+◌, ◌*◌, ◌≤◌}
use mathlib.Core.Path.{◌≡◌, refl}
use mathlib.Core.Bool.{Bool, true, false, cond}
use mathlib.Core.List.{List, [], ◌∷◌}
use native.Mathlib.Omega.{arith}
use lib.Dec.{ltb}
use lib.ListN.{take}
use borrow.Author.Tests.{ltb-false}
use Rattle.plan.specs.Check.{grid_fault}
use Rattle.timing.specs.Ranges.{buffers_max}
use Rattle.router.specs.Route.{Question}
use Rattle.numbers.specs.Numbers.{Read, number_max, number}
use Rattle.numbers.specs.Runs.{Run, job_fault, run}
use Rattle.job.specs.Fields.{table_numbers}
use Rattle.job.specs.Job.{Reading, refuses, job_bytes, size_fault, cells_max, marks_max, mark_number, grid_number, count_number, with_number, with_run, asked_of, question_from, ended, buffers_from, count_from, tables_from, marks_from, sized, read_job}
use Rattle.job.specs.declared.read.Asked.{Asked}
use Rattle.job.proofs.Stages.{grid-sides}
use Rattle.numbers.proofs.Cut.{size, size_small, size-most, Cut, both-fault, both-value, number_cut, RunCut, both-refused, both_values, bytes_of, bytes-are, run-cut}

-- what follows a number, or a run
with-number : (m : ℕ) (bytes : List ℕ) (next : ℕ → List ℕ → Reading) → 3 ≤ m → ((v : ℕ) (rest : List ℕ) (k : ℕ) → m ≤ k + size v → next v (take k rest) ≡ next v rest) → with_number (number (take m bytes)) next ≡ with_number (number bytes) next
unfolding with_number
with-number m bytes next h same = go (number_cut m bytes h)
  where
    go : {x y : Read} → Cut m x y → with_number x next ≡ with_number y next
    go both-fault = refl
    go (both-value v rest k most) = same v rest k most

with-run : {m t : ℕ} {x y : Run} (next : List ℕ → List ℕ → Reading) → RunCut m t x y → ((vs rest : List ℕ) (k : ℕ) → m ≤ k + t → next vs (take k rest) ≡ next vs rest) → with_run x next ≡ with_run y next
unfolding with_run
with-run next (both-refused k) same = refl
with-run next (both_values vs rest k most) same = same vs rest k most

-- a run of numbers of any size, and a run of marks
numbers-cut : (n m : ℕ) (bytes : List ℕ) → n * 3 ≤ m → RunCut m (bytes_of n 3) (run n number_max job_fault (take m bytes)) (run n number_max job_fault bytes)
numbers-cut n m bytes h = run-cut number_max job_fault 3 0 (λ v most. size-most v) (omega arith) n m bytes (omega (arith, bytes-are n 3))

marks-run : (n m : ℕ) (bytes : List ℕ) → n + 2 ≤ m → RunCut m (bytes_of n 1) (run n marks_max mark_number (take m bytes)) (run n marks_max mark_number bytes)
marks-run n m bytes h =
    run-cut marks_max mark_number 1 2 (λ v most. omega (arith, size_small v (omega arith))) (omega arith) n m bytes (omega (arith, bytes-are n 1))

ended-cut : (q : Question) (k : ℕ) (rest : List ℕ) → 1 ≤ k → ended q (take k rest) ≡ ended q rest
unfolding ended
ended-cut q zero rest h = absurd (omega arith)
ended-cut q (suc k) [] h = refl
ended-cut q (suc k) (byte ∷ rest) h = refl

-- a test that refuses where it is true
unless : (b : Bool) (k : ℕ) (x y : Reading) → (b ≡ false → x ≡ y) → cond b (refuses k) x ≡ cond b (refuses k) y
unless true k x y h = refl
unless false k x y h = h refl

buffers-cut : (marks : List ℕ) (a : Asked) (n m : ℕ) (bytes : List ℕ) → n ≤ buffers_max → 55 ≤ m → buffers_from marks a n (take m bytes) ≡ buffers_from marks a n bytes
unfolding buffers_from
buffers-cut marks a n m bytes few h =
    with-run (λ vs rest. ended (question_from marks a n vs) rest) (numbers-cut (3 * n) m bytes (omega arith))
    (λ vs rest k most. ended-cut (question_from marks a n vs) k rest (omega (arith, bytes-are (3 * n) 3)))

count_cut : (marks : List ℕ) (a : Asked) (m : ℕ) (bytes : List ℕ) → 56 ≤ m → count_from marks a (take m bytes) ≡ count_from marks a bytes
unfolding count_from
count_cut marks a m bytes h =
    with-number m bytes (λ n rest. cond (ltb buffers_max n) (refuses count_number) (buffers_from marks a n rest)) (omega arith)
    (λ n rest k most. unless (ltb buffers_max n) count_number (buffers_from marks a n (take k rest)) (buffers_from marks a n rest) (λ e.
    let few : n ≤ buffers_max = ltb-false buffers_max n e in
    buffers-cut marks a n k rest few (omega (arith, size_small n (omega arith)))))

tables-cut : (w h : ℕ) (marks : List ℕ) (m : ℕ) (bytes : List ℕ) → 95 ≤ m → tables_from w h marks (take m bytes) ≡ tables_from w h marks bytes
unfolding tables_from
tables-cut w h marks m bytes long =
    with-run (λ vs rest. count_from marks (asked_of w h vs) rest) (numbers-cut (table_numbers + 2) m bytes (omega arith))
    (λ vs rest k most. count_cut marks (asked_of w h vs) k rest (omega (arith, bytes-are (table_numbers + 2) 3)))

marks-cut : (w h m : ℕ) (bytes : List ℕ) → w * h ≤ cells_max → 223 ≤ m → marks_from w h (take m bytes) ≡ marks_from w h bytes
unfolding marks_from
marks-cut w h m bytes few long =
    with-run (λ marks rest. tables_from w h marks rest) (marks-run (w * h) m bytes (omega arith))
    (λ marks rest k most. tables-cut w h marks k rest (omega (arith, bytes-are (w * h) 1)))

sized-cut : (w h m : ℕ) (bytes : List ℕ) → job_bytes ≤ m + size w + size h → sized w h (take m bytes) ≡ sized w h bytes
unfolding sized
sized-cut w h m bytes long =
    unless (grid_fault w h) grid_number (cond (ltb cells_max (w * h)) (refuses size_fault) (marks_from w h (take m bytes))) (cond (ltb cells_max (w * h)) (refuses size_fault) (marks_from w h bytes)) (λ g.
    let sides = grid-sides w h g in
    unless (ltb cells_max (w * h)) size_fault (marks_from w h (take m bytes)) (marks_from w h bytes) (λ e.
    marks-cut w h m bytes (ltb-false cells_max (w * h) e) (omega (arith, size_small w (omega (arith, sides.0)), size_small h (omega (arith, sides.1))))))

pub job-decided : (bytes : List ℕ) → read_job (take job_bytes bytes) ≡ read_job bytes
unfolding read_job
job-decided bytes =
    with-number job_bytes bytes (λ w rest. with_number (number rest) (λ h left. sized w h left)) (omega arith)
    (λ w rest k most. with-number k rest (λ h left. sized w h left) (omega (arith, size-most w))
    (λ h left j more. sized-cut w h j left (omega arith)))
