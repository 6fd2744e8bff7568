-- The lines of an answer.
use Prim.Native.Nat.{ℕ, ◌+◌, ◌*◌, ◌≤◌, ◌<◌}
use mathlib.Core.Path.{◌≡◌}
use mathlib.Core.List.{List, ◌++◌}
use native.Mathlib.Numerals.{add-one}
use native.Mathlib.Omega.{arith}
use lib.ListN.{length, get_or, length-append}
use borrow.Author.Tests.{eq-eqb, ne_eqb}
use Rattle.answers.specs.Numbers.{refusal_number}
use Rattle.answers.specs.declared.answer.Figures.{Figures}
use Rattle.answers.specs.declared.refusal.Refusal.{Refusal}
use Rattle.answers.specs.Numbers.{Answer}
use Rattle.text.specs.Decimal.{decimal}
use Rattle.text.specs.Put.{Put}
use Rattle.text.specs.Answers.{newline, space, refused_word, none_line, no_route, refused_line, refusal_text, figures_line, visit_line, visit_lines, answer_text, VisitsWithin}
use Rattle.text.proofs.Texts.{put-none, put_then, short}
use Rattle.answers.specs.declared.answer.RouteAnswer.{RouteAnswer}

module _ {old new : List ℕ} {r : ℕ} (n : ℕ) where
  pub refusal-none : n ≡ no_route → Put none_line 0 r old new → Put (refusal_text n) 0 r old new
  unfolding refusal_text
  refusal-none e p = rw (eq-eqb n no_route e) p

  pub refusal-line : (n ≡ no_route → ⊥) → Put (refused_word ++ decimal n ++ newline) 0 r old new → Put (refusal_text n) 0 r old new
  unfolding refusal_text refused_line
  refusal-line ne p = rw (ne_eqb n no_route ne) p

pub visit-length : (cell code : ℕ) → cell < 65536 → code < 65536 → length (visit_line cell code) ≤ 12
unfolding visit_line
visit-length cell code a b =
    omega (arith, short cell a, short code b, length-append (decimal cell) space, length-append (decimal cell ++ space) (decimal code), length-append (decimal cell ++ space ++ decimal code) newline)

pub lines_none : (visits old : List ℕ) (at : ℕ) → at ≤ length old → Put (visit_lines visits 0) at at old old
unfolding visit_lines
lines_none visits old at h = put-none at old h

pub lines_more : (visits : List ℕ) (i : ℕ) {old mid new : List ℕ} {start at r : ℕ} → Put (visit_lines visits i) start at old mid → Put (visit_line (get_or visits (2 * i) 0) (get_or visits (2 * i + 1) 0)) at r mid new → Put (visit_lines visits (i + 1)) start r old new
unfolding visit_lines
lines_more visits i p q = rw add-one (put_then p q)

-- the visits of an answer that was found are within the words lent
pub within-found : (a : Answer) (f : Figures) (n : ℕ) → a ≡ RouteAnswer.Found f → VisitsWithin a n → 2 * (f.steps + 1) ≤ n
unfolding VisitsWithin
within-found a f n e w = rw e at w

pub text-found : (a : Answer) (f : Figures) (visits : List ℕ) → a ≡ RouteAnswer.Found f → figures_line f ++ visit_lines visits (f.steps + 1) ≡ answer_text a visits
unfolding answer_text
text-found a f visits e = rw (e, answer_text)

pub text-no-room : (a : Answer) (f : Figures) (visits : List ℕ) → a ≡ RouteAnswer.NoRoom f → refusal_text 8 ≡ answer_text a visits
unfolding answer_text
text-no-room a f visits e = rw (e, answer_text)

pub text-refused : (a : Answer) (r : Refusal) (visits : List ℕ) → a ≡ RouteAnswer.Refused r → refusal_text (refusal_number r) ≡ answer_text a visits
unfolding answer_text
text-refused a r visits e = rw (e, answer_text)
