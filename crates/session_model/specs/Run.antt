-- The run of a session: the calls' own step definitions (session/specs/Steps.antt; for the questions Asks.antt), one after the other.
use Rattle.std.specs.Prelude.{ℕ, zero, suc, List, [], ◌∷◌, ◌++◌, take}
use Rattle.plan.specs.Plan.{Plan}
use Rattle.session.specs.Numbers.{session_number}
use Rattle.session.specs.Journal.{journal_bytes}
use Rattle.session.specs.Steps.{State, opened, moved, undone}
use Rattle.session_model.specs.Asks.{gives}
use Rattle.session_model.specs.Calls.{Move, Call, move, undo, ask, Given, number, reply, View, Line}

-- what an opening on a plan leaves
unfoldable pub start : Plan → List ℕ → State
start p journal = (opened p.width p.height p.marks journal).state

unfoldable pub call_gives : State → Call → Given
call_gives s (move m) = number (session_number (moved s m.cell m.marks).answer)
call_gives s undo = number (session_number (undone s).answer)
call_gives s (ask a) = reply (gives a s.marks)

unfoldable pub next : State → Call → State
next s (move m) = (moved s m.cell m.marks).state
next s undo = (undone s).state
next s (ask a) = s

unfoldable pub session_view : State → View
session_view s =
    record {
      marks = s.marks;
      width = s.session.width;
      height = s.session.height;
      depth = s.session.depth;
      journal = take journal_bytes s.journal;
    }

unfoldable pub session_lines : State → List Call → List Line
session_lines s [] = []
session_lines s (c ∷ calls) = record { given = call_gives s c; view = session_view (next s c) } ∷ session_lines (next s c) calls

-- what the call at a place of the list was given; past the end a number, which no question gets
unfoldable pub given_at : List Line → ℕ → Given
given_at [] n = number 0
given_at (l ∷ lines) zero = l.given
given_at (l ∷ lines) (suc n) = given_at lines n

unfoldable pub state_after : State → List Call → State
state_after s [] = s
state_after s (c ∷ calls) = state_after (next s c) calls

-- the calls that make these moves, in order (the list has its last move first)
unfoldable pub moves_of : List Move → List Call
moves_of [] = []
moves_of (m ∷ before) = moves_of before ++ (move m ∷ [])
