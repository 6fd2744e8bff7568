-- One call: on the state of the standing moves the session gives what the model gives, and leaves the state of the moves that then stand.
use Rattle.std.proofs.Common.{ℕ, ◌*◌, ◌-◌, ◌≤◌, ◌<◌, Bool, true, false, List, [], ◌∷◌, ◌++◌, ◌≡◌, refl, add-one, arith, eqb, leb, length, length-append, get_or-set_same, Ok, Err}
use borrow.Author.Tests.{leb-false, lt-leb, eq-eqb, ne_eqb}
use Rattle.plan.specs.Plan.{Plan, cells, marks_at}
use Rattle.plan.specs.Check.{checked_plan, invalid_mark}
use Rattle.plan.proofs.Check.{valid-sized, valid-marks}
use Rattle.session.specs.declared.records.Session.{Session}
use Rattle.session.specs.declared.records.SessionRefusal.{SessionRefusal}
use Rattle.session.specs.Numbers.{SessionAnswer, refusal_number}
use Rattle.session.specs.Journal.{entry_bytes, depth_max, entry_at}
use Rattle.session.specs.Answers.{after, move_answer, session_answer, corrupt, newest_at, undo_answer}
use Rattle.session.specs.Steps.{State, state_of, effect, move_entry, with_move, moved, with_undo, undone}
use Rattle.session.proofs.Answered.{done-session}
use Rattle.session_model.specs.Calls.{Move, Call, move, undo}
use Rattle.session_model.specs.Model.{laid, history, move_number, undo_number, without_last, standing, model_gives}
use Rattle.session_model.specs.Run.{call_gives, next}
use Rattle.session_model.proofs.Laid.{Stands, none, more, laid-valid, put_back}
use Rattle.session_model.proofs.Entries.{history-length, entry-added, entry-removed, entry-newest}

-- the session of these standing moves; `rest`: the journal's bytes beyond the used ones
unfoldable pub model_state : Plan → List Move → List ℕ → State
model_state p moves rest =
    state_of (record { width = p.width; height = p.height; depth = length moves }) (laid p.marks moves) (history p.marks moves ++ rest)

pub record Turn (p : Plan) (moves : List Move) (rest : List ℕ) (c : Call) : Type 0 where
  pub gave : call_gives (model_state p moves rest) c ≡ model_gives p moves c
  pub left : next (model_state p moves rest) c ≡ model_state p (standing p moves c) rest
  pub stands : Stands p (standing p moves c)

pub stands-few : (p : Plan) {moves : List Move} → Stands p moves → length moves ≤ depth_max
stands-few p none = omega arith
stands-few p (more s inside fair space) = omega arith

module _ (p : Plan) (ok : checked_plan p ≡ Ok tt) (rest : List ℕ) where
  module _ (moves : List Move) (s : Stands p moves) where
    abbrev record_of : Session
    record_of = record { width = p.width; height = p.height; depth = length moves }

    abbrev marks-of : List ℕ
    marks-of = laid p.marks moves

    abbrev journal-of : List ℕ
    journal-of = history p.marks moves ++ rest

    -- 1, 2, 3, 9 and 10 are never given
    intact : session_answer record_of marks-of (length journal-of) ≡ Ok tt
    intact =
        done-session record_of marks-of (length journal-of)
        (record {
          openable = record { valid = laid-valid p moves ok s; space = omega (arith, length-append (history p.marks moves) rest, history-length p.marks moves (stands-few p s)) };
          deep = stands-few p s;
        })

    module _ (m : Move) where
      abbrev moving : SessionAnswer
      moving = move_answer record_of marks-of (length journal-of) m.cell m.marks

      refused-move : (r : SessionRefusal) → moving ≡ Err r → eqb (refusal_number r) 0 ≡ false → move_number p moves m ≡ refusal_number r → Turn p moves rest (move m)
      unfolding model_state call_gives next moved effect model_gives standing
      refused-move r e f n = record { gave = rw (e, n); left = simp (e, n, f); stands = simp (n, f) s }

      answered-move : moving ≡ Ok tt → move_number p moves m ≡ 0 → Stands p (m ∷ moves) → length moves < depth_max → Turn p moves rest (move m)
      unfolding model_state call_gives next moved effect model_gives standing with_move laid
      answered-move e n more-stand space =
          record {
            gave = rw (e, n);
            left = rw (e, n, entry-added p.marks rest m moves space, add-one);
            stands = rw n more-stand;
          }

      pub move-turn : Turn p moves rest (move m)
      unfolding move_answer after cells move_number
      move-turn = go (leb (p.width * p.height) m.cell) (invalid_mark p.width p.height m.cell m.marks) (leb depth_max (length moves)) refl refl refl
        where
          go : (out bad full : Bool) → leb (p.width * p.height) m.cell ≡ out → invalid_mark p.width p.height m.cell m.marks ≡ bad → leb depth_max (length moves) ≡ full → Turn p moves rest (move m)
          go true bad full e f g = refused-move SessionRefusal.Cell (rw (intact, e)) refl (rw e)
          go false true full e f g = refused-move SessionRefusal.Mark (rw (intact, e, f)) refl (rw (e, f))
          go false false true e f g = refused-move SessionRefusal.JournalFull (rw (intact, e, f, g)) refl (rw (e, f, g))
          go false false false e f g =
              let space = leb-false depth_max (length moves) g in
              answered-move (rw (intact, e, f, g)) (rw (e, f, g)) (more s (leb-false _ _ e) f space) space

  pub no-undo : Turn p [] rest undo
  unfolding model_state call_gives next undone effect model_gives standing undo_answer after undo_number without_last
  no-undo = record { gave = rw (intact [] none); left = rw (intact [] none); stands = none }

  module _ (m : Move) (before : List Move) (s : Stands p before) (inside : m.cell < p.width * p.height) (fair : invalid_mark p.width p.height m.cell m.marks ≡ false) (space : length before < depth_max) where
    abbrev moves : List Move
    moves = m ∷ before

    newest-place : newest_at (record_of moves (more s inside fair space)) ≡ length before * entry_bytes
    unfolding newest_at
    newest-place = let e : length (m ∷ before) - 1 ≡ length before = omega arith in rw e

    newest : entry_at (journal-of moves (more s inside fair space)) (newest_at (record_of moves (more s inside fair space))) ≡ move_entry (laid p.marks before) m.cell m.marks
    newest = rw newest-place (entry-newest p.marks rest m before space)

    -- 13 is never given
    sound : corrupt p.width p.height (marks-of moves (more s inside fair space)) (move_entry (laid p.marks before) m.cell m.marks) ≡ false
    unfolding corrupt move_entry laid cells marks_at
    sound =
        let ok-before = laid-valid p before ok s in
        let here = get_or-set_same (laid p.marks before) m.cell m.marks 0 (omega (arith, (valid-sized _ ok-before).full)) in
        simp (lt-leb _ _ inside, valid-marks _ ok-before m.cell inside, eq-eqb _ _ here)

    undoing : undo_answer (record_of moves (more s inside fair space)) (marks-of moves (more s inside fair space)) (journal-of moves (more s inside fair space)) ≡ Ok tt
    unfolding undo_answer after
    undoing =
        rw (intact moves (more s inside fair space), ne_eqb (length (m ∷ before)) 0 (λ e. omega arith), newest, sound)

    pub undo-turn : Turn p (m ∷ before) rest undo
    unfolding model_state call_gives next undone effect model_gives standing undo_number without_last with_undo move_entry laid
    undo-turn =
        let e : length (m ∷ before) - 1 ≡ length before = omega arith in
        record {
          gave = rw undoing;
          left = rw (undoing, newest, newest-place, entry-removed p.marks rest m before space, put_back (laid p.marks before) m.cell m.marks, e);
          stands = s;
        }
