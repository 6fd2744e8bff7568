-- The answers of the session's calls: document 01's table of numbers, each number exactly in its case, in the orders given below the table.
use Rattle.std.specs.Prelude.{ℕ, ◌*◌, ◌-◌, Bool, ◌||◌, not, cond, List, eqb, leb, ltb, length, get_or, Ok, Err, Result}
use Rattle.plan.specs.Plan.{plan_of}
use Rattle.plan.specs.Check.{checked_plan, invalid_mark}
use Rattle.plan.specs.declared.PlanFault.{PlanFault}
use Rattle.plan.specs.declared.PlanFault.TheVariants.{Grid, Length, Mark}
use Rattle.session.specs.declared.records.Session.{Session}
use Rattle.session.specs.declared.records.SessionRefusal.{SessionRefusal}
use Rattle.session.specs.declared.journal.Entry.{Entry}
use Rattle.session.specs.Numbers.{SessionAnswer}
use Rattle.session.specs.Journal.{journal_bytes, entry_bytes, depth_max, entry_at}

-- the first refusal stands; where there is none, the rest decides
unfoldable pub after : SessionAnswer → SessionAnswer → SessionAnswer
after (Ok u) rest = rest
after (Err r) rest = Err r

-- the refusal of a plan's fault
abbrev pub plan_refusal : PlanFault → SessionRefusal
plan_refusal Grid = SessionRefusal.Grid
plan_refusal Length = SessionRefusal.Length
plan_refusal Mark = SessionRefusal.Mark

unfoldable pub check_answer : Result Unit PlanFault → SessionAnswer
check_answer (Ok u) = Ok tt
check_answer (Err f) = Err (plan_refusal f)

-- 1, 2, 3
unfoldable pub plan_answer : ℕ → ℕ → List ℕ → SessionAnswer
plan_answer w h marks = check_answer (checked_plan (plan_of w h marks))

-- open: 1, 2, 3, 9. `room` is the journal's length.
unfoldable pub open_answer : ℕ → ℕ → List ℕ → ℕ → SessionAnswer
open_answer w h marks room = after (plan_answer w h marks) (cond (ltb room journal_bytes) (Err SessionRefusal.JournalShort) (Ok tt))

-- what moves and undos share: 1, 2, 3, 9, 10
unfoldable pub session_answer : Session → List ℕ → ℕ → SessionAnswer
session_answer s marks room =
    after (open_answer s.width s.height marks room) (cond (ltb depth_max s.depth) (Err SessionRefusal.Depth) (Ok tt))

-- move: 1, 2, 3 (plan), 9, 10, 14, 3 (new marks), 11
unfoldable pub move_answer : Session → List ℕ → ℕ → ℕ → ℕ → SessionAnswer
move_answer s marks room cell m =
    after (session_answer s marks room)
    (cond (leb (s.width * s.height) cell) (Err SessionRefusal.Cell)
    (cond (invalid_mark s.width s.height cell m) (Err SessionRefusal.Mark)
    (cond (leb depth_max s.depth) (Err SessionRefusal.JournalFull) (Ok tt))))

-- an entry's cell is not in the plan, its old marks are invalid there, or its new marks are not the cell's (document 01: torn history)
unfoldable pub corrupt : ℕ → ℕ → List ℕ → Entry → Bool
corrupt w h marks e = leb (w * h) e.cell || invalid_mark w h e.cell e.old || not (eqb (get_or marks e.cell 0) e.new)

-- where the newest entry starts
unfoldable pub newest_at : Session → ℕ
newest_at s = (s.depth - 1) * entry_bytes

-- undo: 1, 2, 3, 9, 10, 12, 13
unfoldable pub undo_answer : Session → List ℕ → List ℕ → SessionAnswer
undo_answer s marks journal =
    after (session_answer s marks (length journal))
    (cond (eqb s.depth 0) (Err SessionRefusal.NothingToUndo)
    (cond (corrupt s.width s.height marks (entry_at journal (newest_at s))) (Err SessionRefusal.CorruptJournal) (Ok tt)))
