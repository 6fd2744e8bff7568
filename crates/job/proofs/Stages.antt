-- Each stage of the reading, by what was read there.
use Prim.Native.Nat.{ℕ, ◌+◌, ◌*◌, ◌≤◌, ◌<◌}
use mathlib.Core.Path.{◌≡◌, sym, ap, ◌∙◌}
use mathlib.Core.Bool.{false, ◌||◌}
use mathlib.Core.List.{List, ◌++◌}
use native.Mathlib.Omega.{arith}
use lib.Dec.{eqb, ltb}
use lib.ListN.{length, get_or, take, drop, length-take}
use lib.Seq.{get_or-take, take-append_seam}
use borrow.Author.Tests.{ltb-false}
use Rattle.plan.specs.Plan.{side_max}
use Rattle.plan.specs.Check.{grid_fault}
use Rattle.answers.specs.declared.records.Tables.{Tables}
use Rattle.numbers.specs.Numbers.{number_max}
use Rattle.numbers.specs.Runs.{values, job_fault, run}
use Rattle.job.specs.Fields.{table_numbers, tables_of}
use Rattle.job.specs.Job.{marks_max, with_run, asked_of, count_from, tables_from, marks_of}
use Rattle.job.specs.declared.read.Asked.{Asked}
use Rattle.plan.proofs.Truth.{or-false}
use Rattle.numbers.proofs.Bounded.{Bounded, All, run-bounded}

-- the numbers of a run that was read are bounded
read-bounded : (n top refusal : ℕ) (bytes vs rest : List ℕ) → run n top refusal bytes ≡ values vs rest → Bounded n top vs
unfolding All
read-bounded n top refusal bytes vs rest e = rw e at (run-bounded n top refusal bytes)

-- numbers that were read into the first n of the words
pub read-first : (n top refusal : ℕ) (bytes vs rest words : List ℕ) → n ≤ length words → values vs rest ≡ run (length (take n words)) top refusal bytes → run n top refusal bytes ≡ values (take n (vs ++ drop n words)) rest
read-first n top refusal bytes vs rest words h e =
    let many : length (take n words) ≡ n = omega (arith, length-take n words) in
    let ran : run n top refusal bytes ≡ values vs rest = sym (rw many at e) in
    let first : take n (vs ++ drop n words) ≡ vs = rw (read-bounded n top refusal bytes vs rest ran).many at (take-append_seam vs (drop n words)) in
    rw first ran

module _ (w h : ℕ) (marks bytes : List ℕ) where
  tables_more : (vs rest : List ℕ) → run (table_numbers + 2) number_max job_fault bytes ≡ values vs rest → count_from marks (asked_of w h vs) rest ≡ tables_from w h marks bytes
  unfolding tables_from with_run
  tables_more vs rest e = rw (e, with_run)

-- the tables that stand in the first words
same_tables : (words : List ℕ) → tables_of words ≡ tables_of (take (table_numbers + 2) words)
unfolding tables_of
same_tables words =
    λ j. record {
      register = record { resistance = at 0 (omega arith) j; delay = at 1 (omega arith) j; load = at 2 (omega arith) j; setup = at 3 (omega arith) j };
      horizontal = record { resistance = at 4 (omega arith) j; load = at 5 (omega arith) j };
      vertical = record { resistance = at 6 (omega arith) j; load = at 7 (omega arith) j };
      period = at 8 (omega arith) j;
      skew = at 9 (omega arith) j;
      limit = at 10 (omega arith) j;
    }
  where
    at : (k : ℕ) → k < table_numbers + 2 → get_or words k 0 ≡ get_or (take (table_numbers + 2) words) k 0
    at k h = sym (get_or-take (table_numbers + 2) words k 0 h)

asked_is : (w h : ℕ) (words : List ℕ) (t : Tables) → t ≡ tables_of words → record { width = w; height = h; tables = t; source = get_or words table_numbers 0; sink = get_or words (table_numbers + 1) 0 } ≡ asked_of w h (take (table_numbers + 2) words)
unfolding asked_of
asked_is w h words t e =
    λ j. record {
      width = w;
      height = h;
      tables = (e ∙ same_tables words) j;
      source = sym (get_or-take (table_numbers + 2) words table_numbers 0 (omega arith)) j;
      sink = sym (get_or-take (table_numbers + 2) words (table_numbers + 1) 0 (omega arith)) j;
    }

pub tables-whole : (w h : ℕ) (plan words rest bytes : List ℕ) (t : Tables) → t ≡ tables_of words → run (table_numbers + 2) number_max job_fault bytes ≡ values (take (table_numbers + 2) words) rest → (a : Asked) → a ≡ record { width = w; height = h; tables = t; source = get_or words table_numbers 0; sink = get_or words (table_numbers + 1) 0 } → count_from (marks_of plan a) a rest ≡ tables_from w h (take (w * h) plan) bytes
unfolding marks_of asked_of
tables-whole w h plan words rest bytes t e r a same =
    ap (λ (b : Asked). count_from (marks_of plan b) b rest) (same ∙ asked_is w h words t e)
    ∙ tables_more w h (take (w * h) plan) bytes (take (table_numbers + 2) words) rest r

-- marks that were read fit a byte
pub marks-fit : (n refusal : ℕ) (bytes vs rest : List ℕ) → run n marks_max refusal bytes ≡ values vs rest → (k : ℕ) → get_or vs k 0 < 256
marks-fit n refusal bytes vs rest e k =
    let b : Bounded n marks_max vs = read-bounded n marks_max refusal bytes vs rest e in
    omega (arith, b.most k)

-- a grid within its sides
pub grid-sides : (w h : ℕ) → grid_fault w h ≡ false → (w ≤ side_max) × (h ≤ side_max)
unfolding grid_fault
grid-sides w h e =
    let last = or-false (eqb w 0 || ltb side_max w || eqb h 0) (ltb side_max h) e in
    let first = or-false (eqb w 0 || ltb side_max w) (eqb h 0) last.0 in
    (ltb-false side_max w (or-false (eqb w 0) (ltb side_max w) first.0).1, ltb-false side_max h last.1)
