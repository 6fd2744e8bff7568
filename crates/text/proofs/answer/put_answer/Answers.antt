-- `text::answer::put_answer` meets its contract, by the cases of the answer.
use Prim.Native.Nat.{◌+◌, ◌*◌, ◌≤◌}
use native.Mathlib.Omega.{arith}
use lib.ListN.{length}
use Rattle.text.proofs.Lines.{within-found, text-found, text-no-room, text-refused}
use Rattle.text.proofs.Texts.{put_then, put-length}
use Rattle.text.proofs.answer.put_answer.Goals as goal

pub put_visits-requires : goal.put_visits-requires
put_visits-requires c = let f = c.in-Found.f in
    let within : 2 * (f.steps + 1) ≤ length c.args.visits.now = within-found _ f _ c.in-Found.is c.requires.0 in
    (within, omega (arith, put-length c.put_figures-at.ensures.0, c.put_figures-at.ensures.1))

pub returns-in-Found : goal.returns-in-Found
returns-in-Found c = rw (text-found _ _ _ c.in-Found.is) at (put_then c.put_figures-at.ensures.0 c.put_visits.ensures)

pub returns-in-NoRoom : goal.returns-in-NoRoom
returns-in-NoRoom c = rw (text-no-room _ _ c.args.visits.now c.in-NoRoom.is) at c.put_refusal.ensures

pub returns-in-Refused : goal.returns-in-Refused
returns-in-Refused c = let p = c.put_refusal-in-Refused.ensures in
    rw (text-refused _ _ c.args.visits.now c.in-Refused.is) at (rw c.number.ensures at p)
