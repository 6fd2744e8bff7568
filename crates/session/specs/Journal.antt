-- The journal (document 01: the history): its first 1,024 bytes are used, four a move: cell low byte, cell high byte, old marks, new marks. Unused ones are zero. Bytes beyond are no part of it.
use Rattle.std.specs.Prelude.{ℕ, ◌+◌, ◌*◌, ◌/◌, ◌%◌, List, [], ◌∷◌, ◌++◌, get_or, drop, replicate}
use Rattle.std.proofs.lemmas.List.Edits.{sets}
use Rattle.session.specs.declared.journal.Entry.{Entry}

abbrev pub journal_bytes : ℕ
journal_bytes = 1024

abbrev pub entry_bytes : ℕ
entry_bytes = 4

-- moves in a full journal
abbrev pub depth_max : ℕ
depth_max = 256

-- the used bytes zero, those beyond as they were
unfoldable pub cleared : List ℕ → List ℕ
cleared journal = replicate journal_bytes 0 ++ drop journal_bytes journal

-- the entry that starts at a byte
unfoldable pub entry_at : List ℕ → ℕ → Entry
entry_at journal at =
    record {
      cell = get_or journal at 0 + get_or journal (at + 1) 0 * 256;
      old = get_or journal (at + 2) 0;
      new = get_or journal (at + 3) 0;
    }

-- the four bytes of an entry
unfoldable pub entry_of : Entry → List ℕ
entry_of e = e.cell % 256 ∷ e.cell / 256 ∷ e.old ∷ e.new ∷ []

-- the journal with an entry written from a byte on
unfoldable pub written_entry : List ℕ → ℕ → Entry → List ℕ
written_entry journal at e = sets journal at (entry_of e)
