-- The number that document 01 gives for each case of a session call's answer.
use Rattle.std.specs.Prelude.{ℕ, Bool, Ok, Err, Result, is_ok}
use Rattle.session.specs.declared.records.SessionRefusal.{SessionRefusal}
use Rattle.session.specs.declared.records.SessionRefusal.TheVariants.{Grid, Length, Mark, JournalShort, Depth, JournalFull, NothingToUndo, CorruptJournal, Cell}

-- what open, move and undo answer
abbrev pub SessionAnswer : Type 0
SessionAnswer = Result Unit SessionRefusal

abbrev pub refusal_number : SessionRefusal → ℕ
refusal_number Grid = 1
refusal_number Length = 2
refusal_number Mark = 3
refusal_number JournalShort = 9
refusal_number Depth = 10
refusal_number JournalFull = 11
refusal_number NothingToUndo = 12
refusal_number CorruptJournal = 13
refusal_number Cell = 14

abbrev pub session_number : SessionAnswer → ℕ
session_number (Ok u) = 0
session_number (Err r) = refusal_number r

-- answered, and not refused
abbrev pub is_done : SessionAnswer → Bool
is_done a = is_ok a
