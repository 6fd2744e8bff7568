-- The moves that a model holds, and the plan with them laid over it.
use Prim.Native.Nat.{ℕ, ◌*◌, ◌<◌}
use mathlib.Core.Bool.{false}
use mathlib.Core.List.{List, [], ◌∷◌}
use mathlib.Core.Logic.{◌⊎◌, inl, inr}
use mathlib.Core.Path.{◌≡◌, ◌∙◌}
use native.Mathlib.Omega.{arith}
use lib.ListN.{length, get_or, set, length-set}
use lib.Seq.{get_or-set_same, get_or-set_other, set-set, set-get_or}
use Rattle.plan.specs.Plan.{Plan, Sized, plan_of, cells, marks_at}
use Rattle.std.proofs.Common.{Ok}
use Rattle.plan.specs.Check.{checked_plan, invalid_mark}
use Rattle.plan.proofs.Check.{valid, checked-is, valid-sized, valid-marks}
use Rattle.plan.proofs.Truth.{equal}
use Rattle.session.specs.Journal.{depth_max}
use Rattle.session_model.specs.Calls.{Move}
use Rattle.session_model.specs.Model.{laid}

-- each standing move was answered 0 where it stands
pub data Stands (p : Plan) : List Move → Type 0 where
  none : Stands p []
  more : {m : Move} {moves : List Move} → Stands p moves → m.cell < p.width * p.height → invalid_mark p.width p.height m.cell m.marks ≡ false → length moves < depth_max → Stands p (m ∷ moves)

-- valid marks on a cell of a valid plan leave it valid
module _ (w h c m : ℕ) (marks : List ℕ) (ok : checked_plan (plan_of w h marks) ≡ Ok tt) (inside : c < w * h) (fair : invalid_mark w h c m ≡ false) where
  sized : Sized (plan_of w h (set marks c m))
  unfolding cells
  sized =
      let s = valid-sized _ ok in
      record { wide = s.wide; narrow = s.narrow; tall = s.tall; low = s.low; full = length-set marks c m ∙ s.full }

  marks-fair : (k : ℕ) → k < w * h → invalid_mark w h k (get_or (set marks c m) k 0) ≡ false
  unfolding cells marks_at
  marks-fair k below = go (equal k c)
    where
      go : (k ≡ c) ⊎ (k ≡ c → ⊥) → invalid_mark w h k (get_or (set marks c m) k 0) ≡ false
      go (inl e) = let s = valid-sized _ ok in rw (e, get_or-set_same marks c m 0 (omega (arith, s.full))) fair
      go (inr n) = rw (get_or-set_other marks c k m 0 n) (valid-marks _ ok k below)

  pub set-valid : checked_plan (plan_of w h (set marks c m)) ≡ Ok tt
  unfolding cells marks_at
  set-valid = checked-is _ (valid sized marks-fair)

pub laid-valid : (p : Plan) (moves : List Move) → checked_plan p ≡ Ok tt → Stands p moves → checked_plan (plan_of p.width p.height (laid p.marks moves)) ≡ Ok tt
unfolding laid
laid-valid p [] ok none = ok
laid-valid p (m ∷ before) ok (more s inside fair space) =
    set-valid p.width p.height m.cell m.marks (laid p.marks before) (laid-valid p before ok s) inside fair

-- a cell's old marks put back
pub put_back : (marks : List ℕ) (c m : ℕ) → set (set marks c m) c (get_or marks c 0) ≡ marks
put_back marks c m = set-set marks c m (get_or marks c 0) ∙ set-get_or marks c 0
