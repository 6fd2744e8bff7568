-- `search::turns::after_quiet`: the earlier of the first labels that wait.
use Prim.Native.Nat.{ℕ, ◌<◌}
use mathlib.Core.List.{List}
use native.Mathlib.Omega.{arith}
use Rattle.budget.proofs.Done.{after-before}
use Rattle.labels.specs.Labels.{SetIn, Ordered}
use Rattle.labels.proofs.Labels.{ordered-count, set-in, exits-in}
use Rattle.search.specs.Turn.{moved_to, Quieted}
use Rattle.search.specs.Ask.{PlaceAsks}
use Rattle.search.proofs.turns.after_quiet.Goals as goal
use Rattle.search.proofs.turns.after_quiet.Goals.{Else-f, Else-f-2, Else-f-exits}

place : (n set : ℕ) (words : List ℕ) (at count : ℕ) → SetIn n set words → Ordered n set words count → at < count → PlaceAsks n set words at
place n set words at count set_in o h =
    record { set_in = set_in; within = omega (arith, ordered-count o); cell = o.cells at h; known = o.known at h }

pub returns-then-f : goal.returns-then-f
returns-then-f c = Quieted.nothing c.if-f.true c.if-f-exits.true

-- a register's label waits
waits : (c : Else-f) → c.args.f.at < c.args.f.count
waits c = omega (arith, c.if-f.false, c.requires.at_count)

pub overflow_mul-n : goal.overflow_mul-n
overflow_mul-n c = omega (arith, c.requires.few)

pub move_to-requires : goal.move_to-requires
move_to-requires c =
    let p = c.requires in
    place _ _ _ _ _ (set-in _ _ p.few p.room) p.near (waits c)

pub returns-then-f-exits : goal.returns-then-f-exits
returns-then-f-exits c = rw c.move_to.ensures (Quieted.register (waits (goal.at.returns-then-f-exits c).Else-f) (λ h. absurd (omega (arith, c.if-f-exits.true))))

-- a FIFO's label waits
exits-wait : (c : Else-f-exits) → c.args.f.exit < c.args.exits
exits-wait c = omega (arith, c.if-f-exits.false, c.requires.within)

pub overflow_mul-n-2 : goal.overflow_mul-n-2
overflow_mul-n-2 c = omega (arith, c.requires.few)

pub move_to-g-requires : goal.move_to-g-requires
move_to-g-requires c =
    let p = c.requires in
    let h = exits-wait c in
    place _ _ _ _ _ (exits-in _ _ p.few (p.exits_in (omega arith))) (p.far (omega arith)) h

pub returns-then-f-2 : goal.returns-then-f-2
returns-then-f-2 c = rw c.move_to-g.ensures (Quieted.fifo (exits-wait (goal.at.returns-then-f-2 c).Else-f-exits) (λ h. absurd (omega (arith, c.if-f-2.true))))

-- both wait
near-waits : (c : Else-f-2) → c.args.f.at < c.args.f.count
near-waits c = omega (arith, c.if-f-2.false, c.requires.at_count)

near-in : (c : Else-f-2) → c.args.f.at < c.args.n
near-in c = omega (arith, near-waits c, ordered-count c.requires.near)

pub overflow_mul-first : goal.overflow_mul-first
overflow_mul-first c = omega (arith, c.requires.few)

pub overflow_mul-first-2 : goal.overflow_mul-first-2
overflow_mul-first-2 c = omega (arith, c.requires.few)

pub overflow_add-first : goal.overflow_add-first
overflow_add-first c = omega (arith, c.requires.few)

pub overflow_add-first-2 : goal.overflow_add-first-2
overflow_add-first-2 c = omega (arith, c.requires.few, near-in (goal.at.overflow_add-first-2 c).Else-f-2)

pub offset_bounds-scratch-n : goal.offset_bounds-scratch-n
offset_bounds-scratch-n c = omega (arith, c.requires.few, near-in (goal.at.offset_bounds-scratch-n c).Else-f-2)

pub bounds-scratch-n : goal.bounds-scratch-n
bounds-scratch-n c = omega (arith, c.requires.room, near-in (goal.at.bounds-scratch-n c).Else-f-2)

pub overflow_cast-first : goal.overflow_cast-first
overflow_cast-first c = let p = c.requires in omega (arith, p.near.cells _ (near-waits (goal.at.overflow_cast-first c).Else-f-2), p.few)

pub overflow_mul-n-3 : goal.overflow_mul-n-3
overflow_mul-n-3 c = omega (arith, c.requires.few)

pub is_after-requires : goal.is_after-requires
is_after-requires c =
    let p = c.requires in
    (set-in _ _ p.few p.room, p.near.known _ (near-waits (goal.at.is_after-requires c).Else-f-2))

pub returns-then-is_after : goal.returns-then-is_after
returns-then-is_after c =
    rw c.move_to-g.ensures
    (Quieted.fifo (exits-wait (goal.at.returns-then-is_after c).Else-f-exits) (λ h. after-before (rw c.move_to-g.ensures at (c.is_after.ensures.after c.if-is_after.true))))

pub overflow_mul-n-4 : goal.overflow_mul-n-4
overflow_mul-n-4 c = omega (arith, c.requires.few)

pub move_to-requires-2 : goal.move_to-requires-2
move_to-requires-2 c =
    let p = c.requires in
    place _ _ _ _ _ (set-in _ _ p.few p.room) p.near (near-waits (goal.at.move_to-requires-2 c).Else-f-2)

pub returns : goal.returns
unfolding moved_to
returns c =
    rw c.move_to-2.ensures
    (Quieted.register (near-waits (goal.at.returns c).Else-f-2) (λ h. rw c.move_to-g.ensures at (c.is_after.ensures.by c.if-is_after.false)))
