-- The whole effect of open, move and undo, for every input: document 01, "Calls and what they leave". A refused call changes nothing; a refused opening hands back a record of zeros.
use Rattle.std.specs.Prelude.{ℕ, ◌+◌, ◌*◌, ◌-◌, cond, List, ◌≡◌, length, get_or, set}
use Rattle.session.specs.declared.records.Session.{Session}
use Rattle.session.specs.declared.records.SessionStep.{SessionStep}
use Rattle.session.specs.declared.journal.Entry.{Entry}
use Rattle.session.specs.Numbers.{SessionAnswer, is_done}
use Rattle.session.specs.Journal.{entry_bytes, cleared, entry_at, written_entry}
use Rattle.session.specs.Answers.{open_answer, move_answer, undo_answer, newest_at}

-- a session: its record, the plan's bytes, the journal
pub record State : Type 0 where
  pub session : Session
  pub marks : List ℕ
  pub journal : List ℕ

abbrev pub state_of : Session → List ℕ → List ℕ → State
state_of s marks journal = record { session = s; marks = marks; journal = journal }

-- what a call answers and leaves
pub record Effect : Type 0 where
  pub answer : SessionAnswer
  pub state : State

-- the new state where the call is answered, the old one where it is refused
unfoldable pub effect : SessionAnswer → State → State → Effect
effect a new old = record { answer = a; state = cond (is_done a) new old }

abbrev pub no_session : Session
no_session = record { width = 0; height = 0; depth = 0 }

-- the plan stays; the journal's used bytes become zero; depth 0
unfoldable pub opened : ℕ → ℕ → List ℕ → List ℕ → Effect
opened w h marks journal =
    effect (open_answer w h marks (length journal))
    (state_of (record { width = w; height = h; depth = 0 }) marks (cleared journal))
    (state_of no_session marks journal)

-- the entry of a move: its cell, the marks there, its own
unfoldable pub move_entry : List ℕ → ℕ → ℕ → Entry
move_entry marks cell m = record { cell = cell; old = get_or marks cell 0; new = m }

-- the cell's marks set, one entry more, one added to the depth
unfoldable pub with_move : Session → List ℕ → List ℕ → ℕ → ℕ → State
with_move s marks journal cell m =
    state_of (record { width = s.width; height = s.height; depth = s.depth + 1 })
    (set marks cell m)
    (written_entry journal (s.depth * entry_bytes) (move_entry marks cell m))

unfoldable pub moved : State → ℕ → ℕ → Effect
moved s cell m = effect (move_answer s.session s.marks (length s.journal) cell m) (with_move s.session s.marks s.journal cell m) s

abbrev pub no_entry : Entry
no_entry = record { cell = 0; old = 0; new = 0 }

-- the newest entry's old marks put back, its bytes zero, one off the depth
unfoldable pub with_undo : Session → List ℕ → List ℕ → Entry → State
with_undo s marks journal e =
    state_of (record { width = s.width; height = s.height; depth = s.depth - 1 })
    (set marks e.cell e.old)
    (written_entry journal (newest_at s) no_entry)

unfoldable pub undone : State → Effect
undone s =
    effect (undo_answer s.session s.marks s.journal)
    (with_undo s.session s.marks s.journal (entry_at s.journal (newest_at s.session)))
    s

-- What a call has done: its answer, and the session after it, are the effect's.
pub record Leaves (e : Effect) (after : State) (r : SessionAnswer) : Type 0 where
  pub answer : r ≡ e.answer
  pub session : after.session ≡ e.state.session
  pub marks : after.marks ≡ e.state.marks
  pub journal : after.journal ≡ e.state.journal

-- `journal` as lent, `journal'` as left
abbrev pub Opened : ℕ → ℕ → List ℕ → List ℕ → List ℕ → SessionStep → Type 0
Opened w h marks journal journal' r = Leaves (opened w h marks journal) (state_of r.session marks journal') r.answer

abbrev pub Moved : State → ℕ → ℕ → State → SessionAnswer → Type 0
Moved before cell m after r = Leaves (moved before cell m) after r

abbrev pub Undone : State → State → SessionAnswer → Type 0
Undone before after r = Leaves (undone before) after r
