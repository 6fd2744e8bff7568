-- From what the reading and the route call gave to the printed text.
use Prim.Native.Nat.{ℕ, ◌+◌, ◌*◌, ◌≤◌}
use mathlib.Core.Path.{◌≡◌, sym, ap, ◌∙◌}
use mathlib.Core.List.{List, ◌++◌}
use native.Mathlib.Omega.{arith}
use lib.ListN.{length, take, drop}
use lib.Seq.{sets-eq, length-sets, length-take-le}
use Rattle.answers.specs.declared.records.BufferList.{BufferList}
use Rattle.answers.specs.Numbers.{Answer}
use Rattle.router.specs.Route.{Question, question_of, answer_of, visits_of}
use Rattle.job.specs.Fields.{buffer_list_of}
use Rattle.job.specs.Job.{asks, question_from, marks_of, read_job, reading_of}
use Rattle.job.specs.declared.read.Asked.{Asked}
use Rattle.std.specs.Prelude.{Ok, Err}
use Rattle.numbers.specs.declared.fault.JobFault.{JobFault}
use Rattle.numbers.specs.Runs.{fault_number}
use Rattle.job.proofs.Sound.{Small, asked-small}
use Rattle.text.specs.Put.{Put}
use Rattle.text.specs.Answers.{refusal_text, answer_text, VisitsWithin}
use Rattle.printing.specs.Printed.{scratch_words, visit_words, blank, reading_text, printed, Prints}
use Rattle.printing.proofs.Lent.{same_text, within-lent, blank-length}

pub within-answer : (r : Answer) (q : Question) (s a : List ℕ) (n : ℕ) → r ≡ answer_of q s a → n ≡ length a → VisitsWithin r n
within-answer r q s a n e same = rw (e, same) (within-lent q s a)

module _ (plan scratch visits : List ℕ) (a : Asked) (n : ℕ) where
  -- the question of the route call
  abbrev asked : BufferList → Question
  asked list = question_of (take (a.width * a.height) plan) a.width a.height a.tables list a.source a.sink

  pub asked-text : (list : BufferList) (r : Answer) (after : List ℕ) → list ≡ buffer_list_of n (take (3 * n) scratch) → length scratch ≡ scratch_words → length visits ≡ visit_words → r ≡ answer_of (asked list) scratch visits → after ≡ visits_of (asked list) scratch visits → answer_text r after ≡ reading_text (asks (question_from (marks_of plan a) a n (take (3 * n) scratch)))
  unfolding reading_text question_from marks_of
  asked-text list r after same s v e f =
      rw (e, f, same)
      (same_text (asked (buffer_list_of n (take (3 * n) scratch))) scratch (blank scratch_words) visits (blank visit_words) (s ∙ sym (blank-length scratch_words)) (v ∙ sym (blank-length visit_words)))

module _ (plan words job : List ℕ) where
  pub refused-text : (f : JobFault) → reading_of plan words (Err f) ≡ read_job job → refusal_text (fault_number f) ≡ printed job
  unfolding reading_of reading_text printed
  refused-text f e = ap reading_text e

  module _ (a : Asked) (n : ℕ) (read : reading_of plan words (Ok (a, n)) ≡ read_job job) where
    pub asks-text : reading_text (asks (question_from (marks_of plan a) a n (take (3 * n) words))) ≡ printed job
    unfolding reading_of printed
    asks-text = ap reading_text read

    pub asks-small : Small (question_from (marks_of plan a) a n (take (3 * n) words))
    unfolding reading_of
    asks-small = asked-small job (question_from (marks_of plan a) a n (take (3 * n) words)) read

pub small_count : (marks : List ℕ) (a : Asked) (n : ℕ) (vs : List ℕ) → Small (question_from marks a n vs) → (n ≤ 6) × (a.width * a.height ≤ 128)
unfolding question_from buffer_list_of
small_count marks a n vs s = (s.buffers, s.cells)

-- a text put at the start is the start, and the rest stays
put-start : {text old new : List ℕ} {r : ℕ} → Put text 0 r old new → new ≡ text ++ drop (length text) old
put-start {text} {old} p =
    let z : 0 + length text ≡ length text = omega arith in
    p.holds ∙ (sets-eq text old 0 (omega (arith, p.next, p.within)) ∙ ap (λ (k : ℕ). text ++ drop k old) z)

pub put-prints : {text old new : List ℕ} {r : ℕ} (job : List ℕ) → Put text 0 r old new → text ≡ printed job → Prints job r old new
put-prints {text} {old} {new} {r} job p e =
    let fits : r ≤ length new = omega (arith, p.within, ap length p.holds, length-sets old 0 text) in
    record {
      count = rw (← e) (omega (arith, p.next));
      holds = rw (← e) (put-start p);
      within = fits;
      part = sym (length-take-le r new fits);
    }
