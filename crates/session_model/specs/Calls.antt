-- The calls put to a session after its opening, and what is seen of it after each.
use Rattle.std.specs.Prelude.{ℕ, List}
use Rattle.session_model.specs.Asks.{Ask, Reply}

-- a move names a cell and its new marks
pub record Move : Type 0 where
  pub cell : ℕ
  pub marks : ℕ

pub data Call : Type 0 where
  move : Move → Call
  undo : Call
  ask : Ask → Call

-- moves and undos give a number, questions an answer
pub data Given : Type 0 where
  number : ℕ → Given
  reply : Reply → Given

-- a session as it is seen: the plan's bytes, the record, the journal's used bytes
pub record View : Type 0 where
  pub marks : List ℕ
  pub width : ℕ
  pub height : ℕ
  pub depth : ℕ
  pub journal : List ℕ

-- what a call gave, and the session after it
pub record Line : Type 0 where
  pub given : Given
  pub view : View
