-- A cell is at no distance from itself, and a wire leads to a cell that is at most 1 farther from any cell.
use Prim.Native.Nat.{ℕ, ◌+◌, ◌≤◌}
use mathlib.Core.Path.{◌≡◌, ap}
use native.Mathlib.Omega.{arith}
use lib.Dec.{T}
use Rattle.plan.specs.Plan.{Plan, row, column}
use Rattle.plan.specs.Joined.{joined}
use Rattle.plan.specs.Apart.{gap, apart_by, apart}
use Rattle.plan.proofs.Joined.{Near, joined-near}

pub apart-self : (width a : ℕ) → apart_by width a a ≡ 0
unfolding apart_by gap
apart-self width a = omega arith

gap-near : (a b c : ℕ) → c ≤ b + 1 → b ≤ c + 1 → gap a c ≤ gap a b + 1
unfolding gap
gap-near a b c h k = omega arith

module _ (p : Plan) where
  -- along a row, and along a column
  along-row : (start c x : ℕ) → row p x ≡ row p c → column p x ≤ column p c + 1 → column p c ≤ column p x + 1 → apart p start x ≤ apart p start c + 1
  unfolding apart_by row column
  along-row start c x e h k = omega (arith, ap (gap (row p start)) e, gap-near (column p start) (column p c) (column p x) h k)

  along-column : (start c x : ℕ) → column p x ≡ column p c → row p x ≤ row p c + 1 → row p c ≤ row p x + 1 → apart p start x ≤ apart p start c + 1
  unfolding apart_by row column
  along-column start c x e h k = omega (arith, ap (gap (column p start)) e, gap-near (row p start) (row p c) (row p x) h k)

  pub apart-joined : (start c x : ℕ) → T (joined p c x) → apart p start x ≤ apart p start c + 1
  apart-joined start c x t = go (joined-near p c x t)
    where
      go : Near p c x → apart p start x ≤ apart p start c + 1
      go (Near.rightward e f) = along-row start c x e (omega arith) (omega arith)
      go (Near.leftward e f) = along-row start c x e (omega arith) (omega arith)
      go (Near.downward e f) = along-column start c x e (omega arith) (omega arith)
      go (Near.upward e f) = along-column start c x e (omega arith) (omega arith)
