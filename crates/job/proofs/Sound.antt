-- A job that asks has at most 128 cells and at most six buffers.
use Prim.Native.Nat.{ℕ, ◌+◌, ◌*◌, ◌≤◌}
use mathlib.Core.Path.{◌≡◌, refl}
use mathlib.Core.Bool.{Bool, true, false, cond}
use mathlib.Core.List.{List, [], ◌∷◌}
use lib.Dec.{ltb}
use borrow.Author.Tests.{ltb-false}
use Rattle.plan.specs.Check.{grid_fault}
use Rattle.timing.specs.Ranges.{buffers_max}
use Rattle.router.specs.Route.{Question}
use Rattle.numbers.specs.Numbers.{Read, value, fault, number_max, number}
use Rattle.numbers.specs.Runs.{Run, values, refused, job_fault, run}
use Rattle.job.specs.Fields.{table_numbers, buffer_list_of}
use Rattle.job.specs.Job.{Reading, asks, refuses, size_fault, cells_max, marks_max, mark_number, grid_number, count_number, with_number, with_run, asked_of, question_from, ended, buffers_from, count_from, tables_from, marks_from, sized, read_job}
use Rattle.job.specs.declared.read.Asked.{Asked}

pub record Small (q : Question) : Type 0 where
  pub cells : q.width * q.height ≤ cells_max
  pub buffers : q.buffers.n ≤ buffers_max

-- what holds of the question, if one is asked
unfoldable pub Sound : (Question → Type 0) → Reading → Type 0
Sound P (asks q) = P q
Sound P (refuses k) = Unit

with-number : (x : Read) (next : ℕ → List ℕ → Reading) → ((v : ℕ) (rest : List ℕ) → Sound Small (next v rest)) → Sound Small (with_number x next)
unfolding with_number Sound
with-number (value v rest) next h = h v rest
with-number fault next h = tt

with-run : (x : Run) (next : List ℕ → List ℕ → Reading) → ((vs rest : List ℕ) → Sound Small (next vs rest)) → Sound Small (with_run x next)
unfolding with_run Sound
with-run (values vs rest) next h = h vs rest
with-run (refused k) next h = tt

-- a test that refuses where it is true
unless : (b : Bool) (k : ℕ) (x : Reading) → (b ≡ false → Sound Small x) → Sound Small (cond b (refuses k) x)
unfolding Sound
unless true k x h = tt
unless false k x h = h refl

ended-small : (q : Question) (rest : List ℕ) → Small q → Sound Small (ended q rest)
unfolding ended Sound
ended-small q [] h = h
ended-small q (byte ∷ rest) h = tt

buffers-small : (marks : List ℕ) (a : Asked) (n : ℕ) (bytes : List ℕ) → a.width * a.height ≤ cells_max → n ≤ buffers_max → Sound Small (buffers_from marks a n bytes)
unfolding buffers_from question_from buffer_list_of
buffers-small marks a n bytes c b =
    with-run (run (3 * n) number_max job_fault bytes) (λ vs rest. ended (question_from marks a n vs) rest)
    (λ vs rest. ended-small (question_from marks a n vs) rest (record { cells = c; buffers = b }))

count_small : (marks : List ℕ) (a : Asked) (bytes : List ℕ) → a.width * a.height ≤ cells_max → Sound Small (count_from marks a bytes)
unfolding count_from
count_small marks a bytes c =
    with-number (number bytes) (λ n rest. cond (ltb buffers_max n) (refuses count_number) (buffers_from marks a n rest))
    (λ n rest. unless (ltb buffers_max n) count_number (buffers_from marks a n rest) (λ e. buffers-small marks a n rest c (ltb-false buffers_max n e)))

tables-small : (w h : ℕ) (marks bytes : List ℕ) → w * h ≤ cells_max → Sound Small (tables_from w h marks bytes)
unfolding tables_from asked_of
tables-small w h marks bytes c =
    with-run (run (table_numbers + 2) number_max job_fault bytes) (λ vs rest. count_from marks (asked_of w h vs) rest)
    (λ vs rest. count_small marks (asked_of w h vs) rest c)

marks-small : (w h : ℕ) (bytes : List ℕ) → w * h ≤ cells_max → Sound Small (marks_from w h bytes)
unfolding marks_from
marks-small w h bytes c =
    with-run (run (w * h) marks_max mark_number bytes) (λ marks rest. tables_from w h marks rest)
    (λ marks rest. tables-small w h marks rest c)

sized-small : (w h : ℕ) (bytes : List ℕ) → Sound Small (sized w h bytes)
unfolding sized
sized-small w h bytes =
    unless (grid_fault w h) grid_number (cond (ltb cells_max (w * h)) (refuses size_fault) (marks_from w h bytes))
    (λ g. unless (ltb cells_max (w * h)) size_fault (marks_from w h bytes) (λ e. marks-small w h bytes (ltb-false cells_max (w * h) e)))

pub job-small : (bytes : List ℕ) → Sound Small (read_job bytes)
unfolding read_job
job-small bytes =
    with-number (number bytes) (λ w rest. with_number (number rest) (λ h left. sized w h left))
    (λ w rest. with-number (number rest) (λ h left. sized w h left) (λ h left. sized-small w h left))

pub asked-small : (bytes : List ℕ) (q : Question) → asks q ≡ read_job bytes → Small q
unfolding Sound
asked-small bytes q e = rw (← e) at (job-small bytes)
