-- What demand 3 of document 01 says, about the whole list of calls: `Demand3`. Its proof: proofs/Demand3.antt.
-- The session is the run of the step definitions that the contracts of open, set_marks, undo and the questions equal (Run.antt; `better`, which hands back a reference: Asks/Better.antt); the reference model is Model.antt.
use Rattle.std.specs.Prelude.{ℕ, List, [], ◌∷◌, ◌++◌, ◌≡◌, length, drop, Ok}
use Rattle.plan.specs.Plan.{Plan, plan_of}
use Rattle.plan.specs.Check.{checked_plan}
use Rattle.session.specs.Journal.{journal_bytes}
use Rattle.session.specs.Answers.{open_answer}
use Rattle.session.specs.Steps.{state_of}
use Rattle.session_model.specs.Asks.{Ask, Reply, Alike, gives, ByRules}
use Rattle.session_model.specs.Calls.{Move, Call, move, undo, ask, number, reply, Line}
use Rattle.session_model.specs.Model.{laid, model_view, model_lines, standing_after}
use Rattle.session_model.specs.Run.{start, call_gives, next, session_view, session_lines, given_at, state_after, moves_of}

-- an opening on this plan with this journal answers 0
abbrev pub Opens : Plan → List ℕ → Type 0
Opens p journal = open_answer p.width p.height p.marks (length journal) ≡ Ok tt

-- the line at this place of the list holds a reply, and it is the one that the rules give for this question on this plan's bytes
pub record AnsweredAt (lines : List Line) (place : ℕ) (a : Ask) (marks : List ℕ) : Type 0 where
  pub got : Reply
  pub given : given_at lines place ≡ reply got
  pub rules : ByRules marks a got

-- after an opening that answered 0, for every list of moves, undos and questions
pub record Answered (p : Plan) (journal : List ℕ) (calls : List Call) : Type 0 where
  -- each call of the list gave what the model gives, and left the plan, record and journal that the model has after it
  pub lines : session_lines (start p journal) calls ≡ model_lines p [] calls
  -- each question of the list got the whole reply, answer and words filled or handed back, that the rules give for the model's plan at its place: with the moves that stand after the calls before it
  pub questions : (before later : List Call) (a : Ask) → calls ≡ before ++ (ask a ∷ later) → AnsweredAt (session_lines (start p journal) calls) (length before) a (laid p.marks (standing_after p [] before))
  -- the whole list left what the model has
  pub last : session_view (state_after (start p journal) calls) ≡ model_view p (standing_after p [] calls)
  -- the journal's bytes beyond the used ones stay
  pub beyond : drop journal_bytes (state_after (start p journal) calls).journal ≡ drop journal_bytes journal
  -- the record's sides and the plan's bytes make a valid plan: a question asked with these sides is not refused with 1, 2 or 3
  pub sides : let s = state_after (start p journal) calls in checked_plan (plan_of s.session.width s.session.height s.marks) ≡ Ok tt
  -- a second session on the same plan, given only the moves that still stand, is alike
  pub twin : (other : List ℕ) → Opens p other → session_view (state_after (start p other) (moves_of (standing_after p [] calls))) ≡ session_view (state_after (start p journal) calls)
  -- and gives the same answer to every question put to both
  pub twin-answers : (other : List ℕ) → Opens p other → (a b : Ask) → Alike a b → gives a (state_after (start p journal) calls).marks ≡ gives b (state_after (start p other) (moves_of (standing_after p [] calls))).marks

-- on the record of zeros that a refused opening hands back, moves and undos give 1 and change nothing, whatever plan and journal they are lent
pub record Refused (p : Plan) (journal : List ℕ) : Type 0 where
  pub moves : (marks bytes : List ℕ) (m : Move) → let s = state_of (start p journal).session marks bytes in (call_gives s (move m) ≡ number 1) × (next s (move m) ≡ s)
  pub undos : (marks bytes : List ℕ) → let s = state_of (start p journal).session marks bytes in (call_gives s undo ≡ number 1) × (next s undo ≡ s)

pub record Demand3 (p : Plan) (journal : List ℕ) : Type 0 where
  pub answered : Opens p journal → (calls : List Call) → Answered p journal calls
  pub refused : (Opens p journal → ⊥) → Refused p journal
