-- Demand 3 of document 01, as one theorem about the whole list of calls: `demand-3`. What it says: specs/Demand3.antt.
-- Proof: on the state of its standing moves each call gives what the model gives and leaves the state of the moves that then stand (Turns.antt); an opening leaves the state of no moves; so by induction over the list.
use Rattle.std.proofs.Common.{ℕ, List, [], ◌∷◌, ◌++◌, ◌≡◌, refl, sym, ap, ◌∙◌, length, drop, false, Ok, Err}
use borrow.Author.Tests.{lt-leb}
use lib.Seq.{take_at, drop_at}
use Rattle.plan.specs.Plan.{Plan, plan_of, cells}
use Rattle.plan.specs.Check.{grid_fault, checked_plan}
use Rattle.session.specs.declared.records.SessionRefusal.{SessionRefusal}
use Rattle.session.specs.Numbers.{SessionAnswer, is_done}
use Rattle.session.specs.Journal.{journal_bytes, depth_max, cleared}
use Rattle.session.specs.Answers.{after, check_answer, plan_answer, open_answer, session_answer, move_answer, undo_answer}
use Rattle.session.specs.Steps.{State, effect, no_session, opened, moved, undone}
use Rattle.session.proofs.Answered.{open_done}
use Rattle.session_model.specs.Asks.{Ask, gives, answer_to}
use Rattle.session_model.specs.Calls.{Move, Call, move, undo, ask, reply}
use Rattle.session_model.specs.Model.{laid, entries, history, move_number, standing, model_gives, model_view, model_lines, standing_after}
use Rattle.session_model.specs.Run.{start, call_gives, next, session_view, session_lines, given_at, state_after, moves_of}
use Rattle.session_model.specs.Demand3.{Opens, Answered, Refused, Demand3}
use Rattle.session_model.proofs.Laid.{Stands, none, more, laid-valid}
use Rattle.session_model.proofs.Entries.{history-length}
use Rattle.session_model.proofs.Turns.{model_state, Turn, stands-few, move-turn, no-undo, undo-turn}
use Rattle.session_model.proofs.Replies.{gives-is, by-rules, alike-answers}

module _ (p : Plan) (ok : checked_plan p ≡ Ok tt) (rest : List ℕ) where
  -- each kind of call
  turn : (moves : List Move) → Stands p moves → (c : Call) → Turn p moves rest c
  unfolding call_gives next model_gives standing model_state
  turn moves s (move m) = move-turn p ok rest moves s m
  turn [] none undo = no-undo p ok rest
  turn (m ∷ before) (more s inside fair space) undo = undo-turn p ok rest m before s inside fair space
  turn moves s (ask a) = record { gave = ap reply (gives-is a (laid p.marks moves)); left = refl; stands = s }

  view-is : (moves : List Move) → Stands p moves → session_view (model_state p moves rest) ≡ model_view p moves
  unfolding session_view model_state model_view
  view-is moves s = rw (take_at (history p.marks moves) rest journal_bytes (history-length p.marks moves (stands-few p s)))

  -- a list of calls, from any standing moves
  lines_from : (moves : List Move) → Stands p moves → (calls : List Call) → session_lines (model_state p moves rest) calls ≡ model_lines p moves calls
  unfolding session_lines model_lines
  lines_from moves s [] = refl
  lines_from moves s (c ∷ calls) =
      let t = turn moves s c in
      rw (t.gave, t.left, view-is (standing p moves c) t.stands, lines_from (standing p moves c) t.stands calls)

  state-from : (moves : List Move) → Stands p moves → (calls : List Call) → state_after (model_state p moves rest) calls ≡ model_state p (standing_after p moves calls) rest
  unfolding state_after standing_after
  state-from moves s [] = refl
  state-from moves s (c ∷ calls) =
      let t = turn moves s c in
      rw t.left (state-from (standing p moves c) t.stands calls)

  stands_from : (moves : List Move) → Stands p moves → (calls : List Call) → Stands p (standing_after p moves calls)
  unfolding standing_after
  stands_from moves s [] = s
  stands_from moves s (c ∷ calls) = let t = turn moves s c in stands_from (standing p moves c) t.stands calls

-- what an answered opening leaves
start_is : (p : Plan) (journal : List ℕ) → Opens p journal → start p journal ≡ model_state p [] (drop journal_bytes journal)
unfolding start opened effect model_state laid history entries cleared
start_is p journal e = rw e

-- the standing moves, made one after the other, all stand
stands-once : (p : Plan) (m : Move) (before : List Move) → Stands p (m ∷ before) → standing p before (move m) ≡ m ∷ before
unfolding standing move_number cells
stands-once p m before (more s inside fair space) = rw (lt-leb _ _ inside, fair, lt-leb depth_max (length before) space)

after_both : (p : Plan) (moves : List Move) (first second : List Call) → standing_after p moves (first ++ second) ≡ standing_after p (standing_after p moves first) second
unfolding standing_after
after_both p moves [] second = refl
after_both p moves (c ∷ first) second = after_both p (standing p moves c) first second

all-stand : (p : Plan) (moves : List Move) → Stands p moves → standing_after p [] (moves_of moves) ≡ moves
unfolding standing_after moves_of
all-stand p [] none = refl
all-stand p (m ∷ before) (more s inside fair space) =
    rw (after_both p [] (moves_of before) (move m ∷ []), all-stand p before s) (stands-once p m before (more s inside fair space))

-- the model's line at a question's place
question-line : (p : Plan) (moves : List Move) (before later : List Call) (a : Ask) → given_at (model_lines p moves (before ++ (ask a ∷ later))) (length before) ≡ reply (answer_to a (laid p.marks (standing_after p moves before)))
unfolding given_at model_lines model_gives standing_after
question-line p moves [] later a = refl
question-line p moves (c ∷ before) later a = question-line p (standing p moves c) before later a

module _ (p : Plan) (ok : checked_plan p ≡ Ok tt) (journal : List ℕ) (calls : List Call) (e : Opens p journal) where
  abbrev rest : List ℕ
  rest = drop journal_bytes journal

  abbrev stand : List Move
  stand = standing_after p [] calls

  standing-moves : Stands p stand
  standing-moves = stands_from p ok rest [] none calls

  state-is : state_after (start p journal) calls ≡ model_state p stand rest
  state-is = rw (start_is p journal e) (state-from p ok rest [] none calls)

  lines_are : session_lines (start p journal) calls ≡ model_lines p [] calls
  lines_are = rw (start_is p journal e) (lines_from p ok rest [] none calls)

  sides-after : let s = state_after (start p journal) calls in checked_plan (plan_of s.session.width s.session.height s.marks) ≡ Ok tt
  unfolding model_state
  sides-after = rw state-is (laid-valid p stand ok standing-moves)

  view-after : session_view (state_after (start p journal) calls) ≡ model_view p stand
  view-after = rw state-is (view-is p ok rest stand standing-moves)

  marks-after : (state_after (start p journal) calls).marks ≡ laid p.marks stand
  unfolding model_state
  marks-after = ap (λ (s : State). s.marks) state-is

  beyond-after : drop journal_bytes (state_after (start p journal) calls).journal ≡ rest
  unfolding model_state
  beyond-after =
      ap (λ (s : State). drop journal_bytes s.journal) state-is
      ∙ drop_at (history p.marks stand) rest journal_bytes (history-length p.marks stand (stands-few p standing-moves))

answered-is : (p : Plan) (journal : List ℕ) → Opens p journal → (calls : List Call) → Answered p journal calls
answered-is p journal e calls =
    let ok = (open_done _ _ _ _ e).valid in
    let moves = standing_after p [] calls in
    let again = all-stand p moves (standing-moves p ok journal calls e) in
    record {
      lines = lines_are p ok journal calls e;
      questions = λ before later a split.
          let marks = laid p.marks (standing_after p [] before) in
          record { got = gives a marks; given = rw (lines_are p ok journal calls e, split, gives-is a marks) (question-line p [] before later a); rules = by-rules a marks };
      last = view-after p ok journal calls e;
      beyond = beyond-after p ok journal calls e;
      sides = sides-after p ok journal calls e;
      twin = λ other f. view-after p ok other (moves_of moves) f ∙ (rw again (sym (view-after p ok journal calls e)));
      twin-answers = λ other f a b alike.
          rw (marks-after p ok journal calls e, marks-after p ok other (moves_of moves) f, again, gives-is a, gives-is b) (alike-answers alike (laid p.marks moves));
    }

not_done : (a : SessionAnswer) → (a ≡ Ok tt → ⊥) → is_done a ≡ false
not_done (Ok u) n = absurd (n refl)
not_done (Err r) n = refl

-- a refused opening hands back zeros
zeros-left : (p : Plan) (journal : List ℕ) → (Opens p journal → ⊥) → (start p journal).session ≡ no_session
unfolding start opened effect
zeros-left p journal n = rw (not_done _ n)

-- with which every check ends at 1
zeros-grid : (marks : List ℕ) (room : ℕ) → session_answer no_session marks room ≡ Err SessionRefusal.Grid
unfolding session_answer open_answer plan_answer check_answer after checked_plan grid_fault
zeros-grid marks room = refl

refused-is : (p : Plan) (journal : List ℕ) → (Opens p journal → ⊥) → Refused p journal
unfolding call_gives next moved undone effect move_answer undo_answer after
refused-is p journal n =
    record {
      moves = λ marks bytes m. (rw (zeros-left p journal n, zeros-grid marks (length bytes)), rw (zeros-left p journal n, zeros-grid marks (length bytes)));
      undos = λ marks bytes. (rw (zeros-left p journal n, zeros-grid marks (length bytes)), rw (zeros-left p journal n, zeros-grid marks (length bytes)));
    }

-- Demand 3, for every plan, journal and list of calls.
pub demand-3 : (p : Plan) (journal : List ℕ) → Demand3 p journal
demand-3 p journal = record { answered = answered-is p journal; refused = refused-is p journal }
