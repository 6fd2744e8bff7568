-- The four sides of a cell: they are exactly the cells joined to it (`neighbours-exact`, document 02's C-14), and they are in ascending order.
use Prim.Native.Nat.{ℕ, ◌+◌, ◌-◌, ◌%◌, ◌<◌, ◌≤◌}
use mathlib.Core.Bool.{Bool, true, false, ◌&&◌, ◌||◌, not, cond}
use mathlib.Core.Path.{◌≡◌, refl}
use mathlib.Core.Logic.{◌⊎◌, inl, inr, ⊎_elim}
use native.Mathlib.Nat.{mul_comm, mod-lt, mod-le}
use native.Mathlib.Omega.{arith}
use borrow.Author.Tests.{lt-ltb, le-leb}
use lib.Dec.{T, leb, ltb, leb→le, ltb→lt, lt→ltb}
use Rattle.plan.specs.declared.Neighbours.{Neighbours}
use Rattle.plan.specs.Plan.{Plan, Sized, cells, column, marks_at, cut_right, cut_below}
use Rattle.plan.specs.Joined.{joins_right, joins_below, both_in, horizontal, vertical, joined, neighbours_of}
use Rattle.plan.specs.Sides.{OneOf, ExactNeighbours}
use Rattle.plan.proofs.Truth.{both, fst, snd, or_cases, or_left, or_right, is_false}
use Rattle.plan.proofs.Division.{left-column, right-column, right-in}
use Rattle.plan.proofs.Joined.{Right, Below, right_of, of_right, below_of, of-below, vertical-in, joined_in}

choice : (t : Bool) (x y : ℕ) (P : ℕ → Type 0) → (T t → P x) → P y → P (cond t x y)
choice true x y P f g = f tt
choice false x y P f g = g

-- b is one of the four sides of c
abbrev pub IsNeighbour : Plan → ℕ → ℕ → Type 0
IsNeighbour p c b = OneOf (neighbours_of p c) b

-- The sides s of cell c among n cells: where one is missing it is n; those that exist are in ascending order, with c in the middle.
pub record Ascending (n c : ℕ) (s : Neighbours) : Type 0 where
  pub up-most : s.up ≤ n
  pub left-most : s.left ≤ n
  pub right-most : s.right ≤ n
  pub down-most : s.down ≤ n
  pub up-cell : s.up < n → s.up < c
  pub left-cell : s.left < n → s.left < c
  pub cell-right : c < s.right
  pub cell-down : c < s.down
  pub up_left : s.up < n → s.up < s.left
  pub up_right : s.up < n → s.up < s.right
  pub up-down : s.up < n → s.up < s.down
  pub left-right : s.left < n → s.left < s.right
  pub left_down : s.left < n → s.left < s.down
  pub right-down : s.right < n → s.right < s.down

module _ (p : Plan) (s : Sized p) (c : ℕ) (h : c < cells p) where
  -- Each side is the number of cells, or joined by a wire.
  up-wire : ((neighbours_of p c).up ≡ cells p) ⊎ Below p (neighbours_of p c).up c
  unfolding neighbours_of
  up-wire =
      let t = leb p.width c in
      let k = cut_below (marks_at p (c - p.width)) in
      choice (t && not k) (c - p.width) (cells p) (λ n. (n ≡ cells p) ⊎ Below p n c)
      (λ o. let w : p.width ≤ c = leb→le _ _ (fst t (not k) o) in inr (record { next = omega arith; uncut = is_false k (snd t (not k) o) }))
      (inl refl)

  left-wire : ((neighbours_of p c).left ≡ cells p) ⊎ Right p (neighbours_of p c).left c
  unfolding neighbours_of column
  left-wire =
      let t = ltb 0 (column p c) in
      let k = cut_right (marks_at p (c - 1)) in
      choice (t && not k) (c - 1) (cells p) (λ n. (n ≡ cells p) ⊎ Right p n c)
      (λ o.
      let w : 0 < c % p.width = ltb→lt _ _ (fst t (not k) o) in
      inr
      (record {
        next = omega (arith, mod-le c p.width);
        inside = omega (arith, left-column p.width s.wide c w, mod-lt c s.wide);
        uncut = is_false k (snd t (not k) o);
      }))
      (inl refl)

  right-wire : ((neighbours_of p c).right ≡ cells p) ⊎ Right p c (neighbours_of p c).right
  unfolding neighbours_of
  right-wire =
      let t = ltb (column p c + 1) p.width in
      let k = cut_right (marks_at p c) in
      choice (t && not k) (c + 1) (cells p) (λ n. (n ≡ cells p) ⊎ Right p c n)
      (λ o. inr (record { next = refl; inside = ltb→lt _ _ (fst t (not k) o); uncut = is_false k (snd t (not k) o) }))
      (inl refl)

  down-wire : ((neighbours_of p c).down ≡ cells p) ⊎ (Below p c (neighbours_of p c).down × ((neighbours_of p c).down < cells p))
  unfolding neighbours_of
  down-wire =
      let t = ltb (c + p.width) (cells p) in
      let k = cut_below (marks_at p c) in
      choice (t && not k) (c + p.width) (cells p) (λ n. (n ≡ cells p) ⊎ (Below p c n × (n < cells p)))
      (λ o. inr (record { next = refl; uncut = is_false k (snd t (not k) o) }, ltb→lt _ _ (fst t (not k) o)))
      (inl refl)

  -- A wire leads to its side.
  wire-up : (b : ℕ) → Below p b c → b ≡ (neighbours_of p c).up
  unfolding neighbours_of
  wire-up b w =
      let e : c - p.width ≡ b = omega arith in
      simp (e, le-leb p.width c (omega arith), w.uncut)

  wire-left : (b : ℕ) → Right p b c → b ≡ (neighbours_of p c).left
  unfolding neighbours_of column
  wire-left b w =
      let e : c - 1 ≡ b = omega arith in
      let f : c % p.width ≡ b % p.width + 1 = rw w.next (right-column p.width s.wide b w.inside) in
      simp (e, lt-ltb 0 (c % p.width) (omega arith), w.uncut)

  wire-right : (b : ℕ) → Right p c b → b ≡ (neighbours_of p c).right
  unfolding neighbours_of
  wire-right b w = simp (lt-ltb _ _ w.inside, w.uncut) w.next

  wire-down : (b : ℕ) → b < cells p → Below p c b → b ≡ (neighbours_of p c).down
  unfolding neighbours_of
  wire-down b i w =
      let e : c + p.width ≡ b = omega arith in
      simp (e, lt-ltb b (cells p) i, w.uncut)

  -- vertical wires: up and down
  pub vertical-neighbour : (b : ℕ) → T (vertical p c b) → (b ≡ (neighbours_of p c).up) ⊎ (b ≡ (neighbours_of p c).down)
  unfolding vertical
  vertical-neighbour b t =
      ⊎_elim
      (λ w. inr (wire-down b (vertical-in p c b t).1 (below_of p s.wide c b w)))
      (λ w. inl (wire-up b (below_of p s.wide b c w)))
      (or_cases (joins_below p c b) (joins_below p b c) (snd (both_in p c b) (joins_below p c b || joins_below p b c) t))

  -- horizontal wires: left and right
  pub horizontal-neighbour : (b : ℕ) → T (horizontal p c b) → (b ≡ (neighbours_of p c).left) ⊎ (b ≡ (neighbours_of p c).right)
  unfolding horizontal
  horizontal-neighbour b t =
      ⊎_elim
      (λ w. inr (wire-right b (right_of p s.wide c b w)))
      (λ w. inl (wire-left b (right_of p s.wide b c w)))
      (or_cases (joins_right p c b) (joins_right p b c) (snd (both_in p c b) (joins_right p c b || joins_right p b c) t))

  in_both : (b : ℕ) → b < cells p → T (both_in p c b)
  unfolding both_in
  in_both b i = both (ltb c (cells p)) (ltb b (cells p)) (lt→ltb _ _ h) (lt→ltb _ _ i)

  up-vertical : (b : ℕ) → b < cells p → b ≡ (neighbours_of p c).up → T (vertical p c b)
  unfolding vertical
  up-vertical b i e =
      both (both_in p c b) (joins_below p c b || joins_below p b c) (in_both b i)
      (or_right (joins_below p c b) (joins_below p b c)
      (⊎_elim (λ n. absurd (omega arith)) (λ w. of-below p s.wide b c (rw e w)) up-wire))

  down-vertical : (b : ℕ) → b < cells p → b ≡ (neighbours_of p c).down → T (vertical p c b)
  unfolding vertical
  down-vertical b i e =
      both (both_in p c b) (joins_below p c b || joins_below p b c) (in_both b i)
      (or_left (joins_below p c b) (joins_below p b c)
      (⊎_elim (λ n. absurd (omega arith)) (λ w. of-below p s.wide c b (rw e w.0)) down-wire))

  left-horizontal : (b : ℕ) → b < cells p → b ≡ (neighbours_of p c).left → T (horizontal p c b)
  unfolding horizontal
  left-horizontal b i e =
      both (both_in p c b) (joins_right p c b || joins_right p b c) (in_both b i)
      (or_right (joins_right p c b) (joins_right p b c)
      (⊎_elim (λ n. absurd (omega arith)) (λ w. of_right p s.wide b c (rw e w)) left-wire))

  right-horizontal : (b : ℕ) → b < cells p → b ≡ (neighbours_of p c).right → T (horizontal p c b)
  unfolding horizontal
  right-horizontal b i e =
      both (both_in p c b) (joins_right p c b || joins_right p b c) (in_both b i)
      (or_left (joins_right p c b) (joins_right p b c)
      (⊎_elim (λ n. absurd (omega arith)) (λ w. of_right p s.wide c b (rw e w)) right-wire))

  pub neighbour-vertical : (b : ℕ) → b < cells p → (b ≡ (neighbours_of p c).up) ⊎ (b ≡ (neighbours_of p c).down) → T (vertical p c b)
  neighbour-vertical b i = ⊎_elim (up-vertical b i) (down-vertical b i)

  pub neighbour-horizontal : (b : ℕ) → b < cells p → (b ≡ (neighbours_of p c).left) ⊎ (b ≡ (neighbours_of p c).right) → T (horizontal p c b)
  neighbour-horizontal b i = ⊎_elim (left-horizontal b i) (right-horizontal b i)

  -- all wires: the four sides
  pub joined-neighbour : (b : ℕ) → T (joined p c b) → IsNeighbour p c b
  unfolding joined
  joined-neighbour b t =
      ⊎_elim
      (λ w. inr (⊎_elim inl (λ e. inr (inl e)) (horizontal-neighbour b w)))
      (λ w. ⊎_elim inl (λ e. inr (inr (inr e))) (vertical-neighbour b w))
      (or_cases (horizontal p c b) (vertical p c b) t)

  pub neighbour-joined : (b : ℕ) → b < cells p → IsNeighbour p c b → T (joined p c b)
  unfolding joined
  neighbour-joined b i =
      let v = or_right (horizontal p c b) (vertical p c b) in
      let o = or_left (horizontal p c b) (vertical p c b) in
      ⊎_elim (λ e. v (up-vertical b i e))
      (⊎_elim (λ e. o (left-horizontal b i e)) (⊎_elim (λ e. o (right-horizontal b i e)) (λ e. v (down-vertical b i e))))

  right-inside : (b : ℕ) → Right p c b → b < cells p
  unfolding cells column
  right-inside b w =
      rw (w.next, mul_comm p.width p.height)
      (right-in p.width s.wide p.height c w.inside (rw (mul_comm p.width p.height) at h))

  up_step : (neighbours_of p c).up < cells p → (neighbours_of p c).up + p.width ≡ c
  up_step i = ⊎_elim (λ e. absurd (omega arith)) (λ w. omega arith) up-wire

  right-low : c < (neighbours_of p c).right
  right-low = ⊎_elim (λ e. omega arith) (λ w. omega arith) right-wire

  down-low : c < (neighbours_of p c).down
  down-low = ⊎_elim (λ e. omega arith) (λ w. omega (arith, w.0.next)) down-wire

  -- between up and left, and between right and down: a horizontal step needs a width of 2
  pub ascending : Ascending (cells p) c (neighbours_of p c)
  ascending =
      let r = right-low in
      let d = down-low in
      let l : (neighbours_of p c).left < cells p → (neighbours_of p c).left < c = λ i. ⊎_elim (λ e. absurd (omega arith)) (λ w. omega arith) left-wire in
      record {
        up-most = ⊎_elim (λ e. omega arith) (λ w. omega arith) up-wire;
        left-most = ⊎_elim (λ e. omega arith) (λ w. omega arith) left-wire;
        right-most = ⊎_elim (λ e. omega arith) (λ w. omega (arith, right-inside _ w)) right-wire;
        down-most = ⊎_elim (λ e. omega arith) (λ w. omega arith) down-wire;
        up-cell = λ i. omega (arith, up_step i);
        left-cell = l;
        cell-right = r;
        cell-down = d;
        up_left = λ i. ⊎_elim (λ e. omega arith) (λ w. omega (arith, up_step i)) left-wire;
        up_right = λ i. omega (arith, up_step i);
        up-down = λ i. omega (arith, up_step i);
        left-right = λ i. omega (arith, l i);
        left_down = λ i. omega (arith, l i);
        right-down = λ i. ⊎_elim (λ e. absurd (omega arith)) (λ w. ⊎_elim (λ e. omega arith) (λ v. omega (arith, v.0.next)) down-wire) right-wire;
      }

  -- C-14, of whatever the neighbour step hands back: its contract is this theorem. Each side is told by its wire, one way and the other.
  pub neighbours-exact : (n : Neighbours) → n ≡ neighbours_of p c → ExactNeighbours p c n
  neighbours-exact n e =
      let o = ascending in
      rw e
      (record {
        every = λ b t. ((joined_in p c b t).1, joined-neighbour b t);
        only = neighbour-joined;
        up =
            record {
              given = λ i. ⊎_elim (λ m. absurd (omega arith)) (of-below p s.wide _ c) up-wire;
              every = λ b i t. wire-up b (below_of p s.wide b c t);
              most = o.up-most;
            };
        left =
            record {
              given = λ i. ⊎_elim (λ m. absurd (omega arith)) (of_right p s.wide _ c) left-wire;
              every = λ b i t. wire-left b (right_of p s.wide b c t);
              most = o.left-most;
            };
        right =
            record {
              given = λ i. ⊎_elim (λ m. absurd (omega arith)) (of_right p s.wide c _) right-wire;
              every = λ b i t. wire-right b (right_of p s.wide c b t);
              most = o.right-most;
            };
        down =
            record {
              given = λ i. ⊎_elim (λ m. absurd (omega arith)) (λ w. of-below p s.wide c _ w.0) down-wire;
              every = λ b i t. wire-down b i (below_of p s.wide c b t);
              most = o.down-most;
            };
        is = refl;
      })
