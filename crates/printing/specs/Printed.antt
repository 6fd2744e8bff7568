-- All that the route printer writes for the bytes of a job: document 01, "The job and its printed sheet".
-- `proofs/Decides` says that the first 225 bytes decide it.
use Rattle.std.specs.Prelude.{ℕ, ◌*◌, ◌≤◌, ◌≡◌, List, ◌++◌, length, take, drop, replicate}
use Rattle.router.specs.Route.{cell_words, answer_of, visits_of}
use Rattle.job.specs.Job.{Reading, asks, refuses, cells_max, read_job}
use Rattle.text.specs.Answers.{refusal_text, answer_text, text_room}

-- the printer's scratch words
abbrev pub scratch_words : ℕ
scratch_words = cell_words * cells_max

-- the printer's words for the visits
abbrev pub visit_words : ℕ
visit_words = 2048

-- bytes that suffice for every text
abbrev pub text_bytes : ℕ
text_bytes = text_room visit_words

-- so many words of zeros; what the words lent hold beforehand does not matter (`proofs/Lent`)
unfoldable pub blank : ℕ → List ℕ
blank n = replicate n 0

-- a refusal while reading, or the route call's answer
unfoldable pub reading_text : Reading → List ℕ
reading_text (refuses k) = refusal_text k
reading_text (asks q) = answer_text (answer_of q (blank scratch_words) (blank visit_words)) (visits_of q (blank scratch_words) (blank visit_words))

unfoldable pub printed : List ℕ → List ℕ
printed job = reading_text (read_job job)

-- What printing a job leaves in the text lent: what is printed stands at its start and the rest is as it was; r is its length.
-- `within` and `part` follow; they are stated so that a caller's `&text[..r]` needs no proof.
pub record Prints (job : List ℕ) (r : ℕ) (old new : List ℕ) : Type 0 where
  pub count : r ≡ length (printed job)
  pub holds : new ≡ printed job ++ drop (length (printed job)) old
  pub within : r ≤ length new
  pub part : r ≡ length (take r new)
