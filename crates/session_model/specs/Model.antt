-- The reference model of a session: document 01, "The ledger of a session". It is fed the opening plan and then the calls in their order; it sees no answer, no record, no journal and no later plan.
-- It holds the opening plan and the standing moves. Here the list of moves has its last one first.
use Rattle.std.specs.Prelude.{ℕ, ◌*◌, ◌-◌, ◌/◌, ◌%◌, cond, List, [], ◌∷◌, ◌++◌, eqb, leb, length, get_or, set, replicate}
use Rattle.plan.specs.Plan.{Plan, cells}
use Rattle.plan.specs.Check.{invalid_mark}
use Rattle.session.specs.Journal.{journal_bytes, entry_bytes, depth_max}
use Rattle.session_model.specs.Asks.{answer_to}
use Rattle.session_model.specs.Calls.{Move, Call, move, undo, ask, Given, number, reply, View, Line}

-- To lay a move over a plan is to set its cell's byte to its marks; all standing moves, in order
unfoldable pub laid : List ℕ → List Move → List ℕ
laid marks [] = marks
laid marks (m ∷ before) = set (laid marks before) m.cell m.marks

-- for each move in order the cell's low and high byte, the marks there with only the moves before it laid, and its own marks
unfoldable pub entries : List ℕ → List Move → List ℕ
entries marks [] = []
entries marks (m ∷ before) =
    entries marks before ++ (m.cell % 256 ∷ m.cell / 256 ∷ get_or (laid marks before) m.cell 0 ∷ m.marks ∷ [])

-- then zeros up to 1,024 bytes
unfoldable pub history : List ℕ → List Move → List ℕ
history marks moves = entries marks moves ++ replicate (journal_bytes - length moves * entry_bytes) 0

-- 14 if the cell is not in the plan, else 3 if the marks are invalid there, else 11 if 256 moves stand, else 0
unfoldable pub move_number : Plan → List Move → Move → ℕ
move_number p moves m =
    cond (leb (cells p) m.cell) 14
    (cond (invalid_mark p.width p.height m.cell m.marks) 3
    (cond (leb depth_max (length moves)) 11 0))

-- 12 if none stands, else 0
unfoldable pub undo_number : List Move → ℕ
undo_number [] = 12
undo_number (m ∷ before) = 0

unfoldable pub without_last : List Move → List Move
without_last [] = []
without_last (m ∷ before) = before

-- the standing moves after a call; a refused call or a question leaves them
unfoldable pub standing : Plan → List Move → Call → List Move
standing p moves (move m) = cond (eqb (move_number p moves m) 0) (m ∷ moves) moves
standing p moves undo = without_last moves
standing p moves (ask a) = moves

-- the number of a move or undo; the answer that the rules give for the model's plan
unfoldable pub model_gives : Plan → List Move → Call → Given
model_gives p moves (move m) = number (move_number p moves m)
model_gives p moves undo = number (undo_number moves)
model_gives p moves (ask a) = reply (answer_to a (laid p.marks moves))

unfoldable pub model_view : Plan → List Move → View
model_view p moves =
    record { marks = laid p.marks moves; width = p.width; height = p.height; depth = length moves; journal = history p.marks moves }

-- a line for each call of the list
unfoldable pub model_lines : Plan → List Move → List Call → List Line
model_lines p moves [] = []
model_lines p moves (c ∷ calls) =
    record { given = model_gives p moves c; view = model_view p (standing p moves c) } ∷ model_lines p (standing p moves c) calls

-- the standing moves after a list of calls
unfoldable pub standing_after : Plan → List Move → List Call → List Move
standing_after p moves [] = moves
standing_after p moves (c ∷ calls) = standing_after p (standing p moves c) calls
