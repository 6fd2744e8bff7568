-- What holds where a call of the session is answered, and, for the shared checks, that this is enough.
use Rattle.std.proofs.Common.{ℕ, ◌*◌, ◌<◌, ◌≤◌, Bool, true, false, ◌||◌, not, cond, List, ◌≡◌, refl, arith, eqb, leb, ltb, length, get_or, Ok, Err, Result}
use borrow.Author.Tests.{ltb-false, leb-false, eqb-false, eqb-true, not-false, le-ltb}
use Rattle.plan.specs.Plan.{plan_of}
use Rattle.plan.specs.Check.{checked_plan, invalid_mark}
use Rattle.plan.specs.declared.PlanFault.{PlanFault}
use Rattle.plan.proofs.Truth.{or-false}
use Rattle.session.specs.declared.records.Session.{Session}
use Rattle.session.specs.declared.records.SessionRefusal.{SessionRefusal}
use Rattle.session.specs.declared.journal.Entry.{Entry}
use Rattle.session.specs.Numbers.{SessionAnswer}
use Rattle.session.specs.Journal.{journal_bytes, depth_max, entry_at}
use Rattle.session.specs.Answers.{after, check_answer, plan_answer, open_answer, session_answer, move_answer, corrupt, newest_at, undo_answer}
use Rattle.session.proofs.Done.{after_first, after-rest}

-- a chain of tests that is answered met none of its refusals
passed : (b : Bool) (x : SessionRefusal) (rest : SessionAnswer) → cond b (Err x) rest ≡ Ok tt → (b ≡ false) × (rest ≡ Ok tt)
passed true x rest e = cc
passed false x rest e = (refl, e)

pub plan-done : (w h : ℕ) (marks : List ℕ) → plan_answer w h marks ≡ Ok tt → checked_plan (plan_of w h marks) ≡ Ok tt
unfolding plan_answer check_answer
plan-done w h marks e = go (checked_plan (plan_of w h marks)) e
  where
    go : (k : Result Unit PlanFault) → check_answer k ≡ Ok tt → k ≡ Ok tt
    go (Ok u) q = refl
    go (Err f) q = cc

-- 1, 2, 3 and 9 are not given
pub record Openable (w h : ℕ) (marks : List ℕ) (room : ℕ) : Type 0 where
  pub valid : checked_plan (plan_of w h marks) ≡ Ok tt
  pub space : journal_bytes ≤ room

pub open_done : (w h : ℕ) (marks : List ℕ) (room : ℕ) → open_answer w h marks room ≡ Ok tt → Openable w h marks room
unfolding open_answer
open_done w h marks room e =
    record {
      valid = plan-done w h marks (after_first _ _ e);
      space = ltb-false room journal_bytes (passed (ltb room journal_bytes) _ _ (after-rest _ _ e)).0;
    }

pub done-open : (w h : ℕ) (marks : List ℕ) (room : ℕ) → Openable w h marks room → open_answer w h marks room ≡ Ok tt
unfolding open_answer plan_answer check_answer after
done-open w h marks room o = rw (o.valid, le-ltb room journal_bytes o.space)

-- nor 10
pub record Intact (s : Session) (marks : List ℕ) (room : ℕ) : Type 0 where
  pub openable : Openable s.width s.height marks room
  pub deep : s.depth ≤ depth_max

pub session-done : (s : Session) (marks : List ℕ) (room : ℕ) → session_answer s marks room ≡ Ok tt → Intact s marks room
unfolding session_answer
session-done s marks room e =
    record {
      openable = open_done s.width s.height marks room (after_first _ _ e);
      deep = ltb-false depth_max s.depth (passed (ltb depth_max s.depth) _ _ (after-rest _ _ e)).0;
    }

pub done-session : (s : Session) (marks : List ℕ) (room : ℕ) → Intact s marks room → session_answer s marks room ≡ Ok tt
unfolding session_answer after
done-session s marks room i = rw (done-open s.width s.height marks room i.openable, le-ltb depth_max s.depth i.deep)

-- where a move is answered
pub record Movable (s : Session) (marks : List ℕ) (room cell m : ℕ) : Type 0 where
  pub intact : Intact s marks room
  pub inside : cell < s.width * s.height
  pub fair : invalid_mark s.width s.height cell m ≡ false
  pub space : s.depth < depth_max

pub move-done : (s : Session) (marks : List ℕ) (room cell m : ℕ) → move_answer s marks room cell m ≡ Ok tt → Movable s marks room cell m
unfolding move_answer
move-done s marks room cell m e =
    let p = passed (leb (s.width * s.height) cell) SessionRefusal.Cell _ (after-rest (session_answer s marks room) _ e) in
    let q = passed (invalid_mark s.width s.height cell m) SessionRefusal.Mark _ p.1 in
    let r = passed (leb depth_max s.depth) SessionRefusal.JournalFull _ q.1 in
    record {
      intact = session-done s marks room (after_first (session_answer s marks room) _ e);
      inside = leb-false _ _ p.0;
      fair = q.0;
      space = leb-false depth_max s.depth r.0;
    }

-- an entry that a move may have left
pub record Sound (w h : ℕ) (marks : List ℕ) (e : Entry) : Type 0 where
  pub inside : e.cell < w * h
  pub fair : invalid_mark w h e.cell e.old ≡ false
  pub standing : get_or marks e.cell 0 ≡ e.new

pub sound : (w h : ℕ) (marks : List ℕ) (e : Entry) → corrupt w h marks e ≡ false → Sound w h marks e
unfolding corrupt
sound w h marks e k =
    let p = or-false (leb (w * h) e.cell || invalid_mark w h e.cell e.old) (not (eqb (get_or marks e.cell 0) e.new)) k in
    let q = or-false (leb (w * h) e.cell) (invalid_mark w h e.cell e.old) p.0 in
    record {
      inside = leb-false _ _ q.0;
      fair = q.1;
      standing = eqb-true _ _ (not-false _ p.1);
    }

-- where an undo is answered
pub record Undoable (s : Session) (marks journal : List ℕ) : Type 0 where
  pub intact : Intact s marks (length journal)
  pub some : 0 < s.depth
  pub newest : Sound s.width s.height marks (entry_at journal (newest_at s))

pub undo-done : (s : Session) (marks journal : List ℕ) → undo_answer s marks journal ≡ Ok tt → Undoable s marks journal
unfolding undo_answer
undo-done s marks journal e =
    let p = passed (eqb s.depth 0) SessionRefusal.NothingToUndo _ (after-rest (session_answer s marks (length journal)) _ e) in
    let q = passed (corrupt s.width s.height marks (entry_at journal (newest_at s))) SessionRefusal.CorruptJournal _ p.1 in
    record {
      intact = session-done s marks (length journal) (after_first (session_answer s marks (length journal)) _ e);
      some = omega (arith, eqb-false s.depth 0 p.0);
      newest = sound s.width s.height marks _ q.0;
    }
