-- The journal of the standing moves: a move adds an entry, an undo finds the newest and zeroes it.
use Prim.Native.Nat.{ℕ, suc, ◌+◌, ◌*◌, ◌-◌, ◌/◌, ◌%◌, ◌≤◌, ◌<◌}
use mathlib.Core.List.{List, [], ◌∷◌, ◌++◌, append_assoc}
use mathlib.Core.Path.{◌≡◌, refl, sym, ◌∙◌}
use native.Mathlib.Nat.{div-add-mod'}
use native.Mathlib.Omega.{arith}
use lib.ListN.{length, get_or, replicate, length-append, length-replicate, replicate-append-replicate}
use lib.Seq.{sets, sets-eq, take-append_seam, drop-append_seam, drop-append-add, get_or-append_seam, get_or-append-add}
use Rattle.session.specs.Journal.{journal_bytes, entry_bytes, depth_max, entry_at, entry_of, written_entry}
use Rattle.session.specs.Steps.{move_entry, no_entry}
use Rattle.session.specs.declared.journal.Entry.{Entry}
use Rattle.session_model.specs.Calls.{Move}
use Rattle.session_model.specs.Model.{laid, entries, history}

-- a stretch in the middle of a list written anew
sets-mid : (xs ys vs zs : List ℕ) → length ys ≡ length vs → sets (xs ++ (ys ++ zs)) (length xs) vs ≡ xs ++ (vs ++ zs)
sets-mid xs ys vs zs e =
    sets-eq vs (xs ++ (ys ++ zs)) (length xs) (omega (arith, length-append xs (ys ++ zs), length-append ys zs))
    ∙ (rw (take-append_seam xs (ys ++ zs), drop-append-add xs (ys ++ zs) (length vs), ← e, drop-append_seam ys zs) (append_assoc xs vs zs))

pub entries-length : (marks : List ℕ) (moves : List Move) → length (entries marks moves) ≡ length moves * 4
unfolding entries
entries-length marks [] = refl
entries-length marks (m ∷ before) = length-append (entries marks before) _ ∙ omega (arith, entries-length marks before)

pub history-length : (marks : List ℕ) (moves : List Move) → length moves ≤ depth_max → length (history marks moves) ≡ journal_bytes
unfolding history
history-length marks moves h =
    simp (length-append, length-replicate, entries-length) (omega arith)

module _ (marks rest : List ℕ) (m : Move) (before : List Move) (space : length before < depth_max) where
  -- bytes that stay zero
  abbrev left : ℕ
  left = journal_bytes - suc (length before) * entry_bytes

  -- the bytes of its entry
  abbrev bytes : List ℕ
  bytes = m.cell % 256 ∷ m.cell / 256 ∷ get_or (laid marks before) m.cell 0 ∷ m.marks ∷ []

  -- the journal before the move, and after it
  journal-before : history marks before ++ rest ≡ entries marks before ++ (replicate 4 0 ++ (replicate left 0 ++ rest))
  unfolding history
  journal-before =
      let e : journal_bytes - length before * entry_bytes ≡ 4 + (journal_bytes - suc (length before) * entry_bytes) = omega arith in
      rw (e, ← replicate-append-replicate {A = ℕ} 4 left 0) (simp append_assoc)

  journal-after : history marks (m ∷ before) ++ rest ≡ entries marks before ++ (bytes ++ (replicate left 0 ++ rest))
  unfolding history entries
  journal-after = simp append_assoc

  at-newest : length before * entry_bytes ≡ length (entries marks before)
  at-newest = sym (entries-length marks before)

  pub entry-added : written_entry (history marks before ++ rest) (length before * entry_bytes) (move_entry (laid marks before) m.cell m.marks) ≡ history marks (m ∷ before) ++ rest
  unfolding written_entry entry_of move_entry
  entry-added = rw (journal-before, at-newest) (sets-mid (entries marks before) (replicate 4 0) bytes (replicate left 0 ++ rest) refl ∙ sym journal-after)

  pub entry-removed : written_entry (history marks (m ∷ before) ++ rest) (length before * entry_bytes) no_entry ≡ history marks before ++ rest
  unfolding written_entry entry_of move_entry
  entry-removed = rw (journal-after, at-newest) (sets-mid (entries marks before) bytes (replicate 4 0) (replicate left 0 ++ rest) refl ∙ sym journal-before)

  pub entry-newest : entry_at (history marks (m ∷ before) ++ rest) (length before * entry_bytes) ≡ move_entry (laid marks before) m.cell m.marks
  unfolding entry_at move_entry
  entry-newest =
      let E = entries marks before in
      let Y = bytes ++ (replicate left 0 ++ rest) in
      rw (journal-after, at-newest, get_or-append_seam E (m.cell % 256) _ 0, get_or-append-add E Y 1 0, get_or-append-add E Y 2 0, get_or-append-add E Y 3 0)
      (whole (m.cell % 256 + m.cell / 256 * 256) (omega (arith, div-add-mod' m.cell 256)))
    where
      whole : (c : ℕ) → c ≡ m.cell → ◌≡◌ {A = Entry} (record { cell = c; old = get_or (laid marks before) m.cell 0; new = m.marks }) (record { cell = m.cell; old = get_or (laid marks before) m.cell 0; new = m.marks })
      whole c e = rw e
