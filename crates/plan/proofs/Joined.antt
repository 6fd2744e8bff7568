-- Wires: where they lead, that they go both ways, and that both ends are in the plan.
use Prim.Native.Nat.{ℕ, ◌+◌, ◌/◌, ◌%◌, ◌<◌}
use mathlib.Core.Bool.{Bool, true, false, ◌&&◌, ◌||◌, not}
use mathlib.Core.Path.{◌≡◌, refl, sym}
use mathlib.Core.Logic.{⊎_elim}
use native.Mathlib.Nat.{mod-lt}
use native.Mathlib.Omega.{arith}
use borrow.Author.Tests.{eq-eqb}
use lib.Dec.{T, eqb, ltb, eqb→eq, ltb→lt}
use Rattle.plan.specs.Plan.{Plan, cells, row, column, marks_at, cut_right, cut_below}
use Rattle.plan.specs.Joined.{joins_right, joins_below, both_in, horizontal, vertical, joined}
use Rattle.plan.proofs.Truth.{fst, snd, parts, or_cases, or_comm, is_false}
use Rattle.plan.proofs.Division.{right-row, right-column, right_is, down-row, down-column, down_is}

swapped : (a b c d : Bool) → (a && b && (c || d)) ≡ (b && a && (d || c))
swapped true true c d = or_comm c d
swapped true false c d = refl
swapped false true c d = refl
swapped false false c d = refl

pub horizontal-symmetric : (p : Plan) (a b : ℕ) → horizontal p a b ≡ horizontal p b a
unfolding horizontal both_in
horizontal-symmetric p a b = swapped (ltb a (cells p)) (ltb b (cells p)) (joins_right p a b) (joins_right p b a)

pub vertical-symmetric : (p : Plan) (a b : ℕ) → vertical p a b ≡ vertical p b a
unfolding vertical both_in
vertical-symmetric p a b = swapped (ltb a (cells p)) (ltb b (cells p)) (joins_below p a b) (joins_below p b a)

pub joined-symmetric : (p : Plan) (a b : ℕ) → joined p a b ≡ joined p b a
unfolding joined
joined-symmetric p a b = rw (horizontal-symmetric p a b, vertical-symmetric p a b)

both-in : (p : Plan) (a b : ℕ) → T (both_in p a b) → (a < cells p) × (b < cells p)
unfolding both_in
both-in p a b t =
    (ltb→lt a (cells p) (fst (ltb a (cells p)) (ltb b (cells p)) t), ltb→lt b (cells p) (snd (ltb a (cells p)) (ltb b (cells p)) t))

pub horizontal-in : (p : Plan) (a b : ℕ) → T (horizontal p a b) → (a < cells p) × (b < cells p)
unfolding horizontal
horizontal-in p a b t = both-in p a b (fst (both_in p a b) (joins_right p a b || joins_right p b a) t)

pub vertical-in : (p : Plan) (a b : ℕ) → T (vertical p a b) → (a < cells p) × (b < cells p)
unfolding vertical
vertical-in p a b t = both-in p a b (fst (both_in p a b) (joins_below p a b || joins_below p b a) t)

pub joined_in : (p : Plan) (a b : ℕ) → T (joined p a b) → (a < cells p) × (b < cells p)
unfolding joined
joined_in p a b t =
    ⊎_elim (horizontal-in p a b) (vertical-in p a b) (or_cases (horizontal p a b) (vertical p a b) t)

-- A wire joins neighbours: their columns differ by one in one row, or their rows in one column.
pub data Near (p : Plan) (a b : ℕ) : Type 0 where
  rightward : row p b ≡ row p a → column p b ≡ column p a + 1 → Near p a b
  leftward : row p b ≡ row p a → column p a ≡ column p b + 1 → Near p a b
  downward : column p b ≡ column p a → row p b ≡ row p a + 1 → Near p a b
  upward : column p b ≡ column p a → row p a ≡ row p b + 1 → Near p a b

right-ends : (p : Plan) (a b : ℕ) → T (joins_right p a b) → (row p b ≡ row p a) × (column p b ≡ column p a + 1)
unfolding joins_right
right-ends p a b t = (eqb→eq (row p b) (row p a) (search parts), eqb→eq (column p b) (column p a + 1) (search parts))

below-ends : (p : Plan) (a b : ℕ) → T (joins_below p a b) → (column p b ≡ column p a) × (row p b ≡ row p a + 1)
unfolding joins_below
below-ends p a b t = (eqb→eq (column p b) (column p a) (search parts), eqb→eq (row p b) (row p a + 1) (search parts))

pub joined-near : (p : Plan) (a b : ℕ) → T (joined p a b) → Near p a b
unfolding joined horizontal vertical
joined-near p a b t =
    ⊎_elim
    (λ h.
    ⊎_elim (λ w. let e = right-ends p a b w in Near.rightward e.0 e.1) (λ w. let e = right-ends p b a w in Near.leftward (sym e.0) e.1)
    (or_cases (joins_right p a b) (joins_right p b a) (snd (both_in p a b) (joins_right p a b || joins_right p b a) h)))
    (λ v.
    ⊎_elim (λ w. let e = below-ends p a b w in Near.downward e.0 e.1) (λ w. let e = below-ends p b a w in Near.upward (sym e.0) e.1)
    (or_cases (joins_below p a b) (joins_below p b a) (snd (both_in p a b) (joins_below p a b || joins_below p b a) v)))
    (or_cases (horizontal p a b) (vertical p a b) t)

-- The chessboard: the number of a cell's diagonal is odd or even, by the cell's colour. A step changes it by one.
abbrev pub diagonal : Plan → ℕ → ℕ
diagonal p c = row p c + column p c

pub joined-odd : (p : Plan) (a b : ℕ) → T (joined p a b) → (diagonal p a + diagonal p b) % 2 ≡ 1
joined-odd p a b t = go (joined-near p a b t)
  where
    go : Near p a b → (diagonal p a + diagonal p b) % 2 ≡ 1
    go (Near.rightward e f) = omega arith
    go (Near.leftward e f) = omega arith
    go (Near.downward e f) = omega arith
    go (Near.upward e f) = omega arith

-- a wire that leads right from a to b, as numbers
pub record Right (p : Plan) (a b : ℕ) : Type 0 where
  pub next : b ≡ a + 1
  pub inside : column p a + 1 < p.width
  pub uncut : cut_right (marks_at p a) ≡ false

-- a wire that leads down from a to b, as numbers
pub record Below (p : Plan) (a b : ℕ) : Type 0 where
  pub next : b ≡ a + p.width
  pub uncut : cut_below (marks_at p a) ≡ false

-- the tests of specs/Joined say the same, both ways
module _ (p : Plan) (wide : 0 < p.width) where
  pub right_of : (a b : ℕ) → T (joins_right p a b) → Right p a b
  unfolding joins_right row column
  right_of a b t =
      let r = eqb (row p b) (row p a) in
      let c = eqb (column p b) (column p a + 1) in
      let u = not (cut_right (marks_at p a)) in
      let f : b % p.width ≡ a % p.width + 1 = eqb→eq _ _ (snd r c (fst (r && c) u t)) in
      record {
        next = right_is p.width wide a b (eqb→eq _ _ (fst r c (fst (r && c) u t))) f;
        inside = omega (arith, mod-lt b wide);
        uncut = is_false (cut_right (marks_at p a)) (snd (r && c) u t);
      }

  pub of_right : (a b : ℕ) → Right p a b → T (joins_right p a b)
  unfolding joins_right row column
  of_right a b h =
      let r : b / p.width ≡ a / p.width = rw h.next (right-row p.width wide a h.inside) in
      let c : b % p.width ≡ a % p.width + 1 = rw h.next (right-column p.width wide a h.inside) in
      simp (eq-eqb _ _ r, eq-eqb _ _ c, h.uncut) tt

  pub below_of : (a b : ℕ) → T (joins_below p a b) → Below p a b
  unfolding joins_below row column
  below_of a b t =
      let c = eqb (column p b) (column p a) in
      let r = eqb (row p b) (row p a + 1) in
      let u = not (cut_below (marks_at p a)) in
      record {
        next = down_is p.width wide a b (eqb→eq _ _ (snd c r (fst (c && r) u t))) (eqb→eq _ _ (fst c r (fst (c && r) u t)));
        uncut = is_false (cut_below (marks_at p a)) (snd (c && r) u t);
      }

  pub of-below : (a b : ℕ) → Below p a b → T (joins_below p a b)
  unfolding joins_below row column
  of-below a b h =
      let r : b / p.width ≡ a / p.width + 1 = rw h.next (down-row p.width wide a) in
      let c : b % p.width ≡ a % p.width = rw h.next (down-column p.width wide a) in
      simp (eq-eqb _ _ c, eq-eqb _ _ r, h.uncut) tt
