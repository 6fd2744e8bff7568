-- A close that is written lowers one close and touches no row; the span that starts then eases the rows.
use Prim.Native.Nat.{ℕ, ◌*◌, ◌+◌, ◌≤◌, ◌<◌}
use mathlib.Core.Path.{◌≡◌, ◌∙◌}
use mathlib.Core.List.{List}
use native.Mathlib.Omega.{arith}
use lib.ListN.{length, set, length-set}
use Rattle.timing.specs.Formulas.{register_load, setup_delay}
use Rattle.layout.specs.Layout.{closes_at}
use Rattle.problem.specs.declared.Problem.{Problem}
use Rattle.delays.specs.Delays.{latest, closes_of, Eased}
use Rattle.spans.specs.Eases.{Ground, Eases}
use Rattle.spans.specs.Arrive.{ShutAsks, ShutIn}
use Rattle.spans.proofs.Eases.{CloseSet, closed-set, closed-hint, ground-space, eases-self, eased-eases, eased-in, ground-closed, close-then}
use Rattle.spans.proofs.arrivals.shut.Goals as goal

module _ (p : Problem) (marks : List ℕ) (t : ℕ) (old : List ℕ) (count cell close : ℕ) (asks : ShutAsks p marks t old count cell close) where
  abbrev n : ℕ
  n = length marks

  abbrev Shut : List ℕ → ℕ → Type 0
  Shut new next = Eases p marks t old count new next × ShutIn n new cell close

  -- nothing is written
  still : (close ≤ latest → closes_of n old cell ≤ close) → Shut old count
  still h = (eases-self p marks t old count asks.ground, h)

  module _ (most : close ≤ latest) (less : close < closes_of n old cell) where
    written : CloseSet n cell close old (set old (n * closes_at + cell) close)
    written = closed-set n cell close asks.inside old asks.ground.room

    module _ (mid : List ℕ) (w : CloseSet n cell close old mid) where
      mid-ground : Ground p marks mid count
      mid-ground = ground-closed p marks t old count mid cell close asks.ground w

      -- no span starts
      ends : (close ≤ 2 * t → (cell ≡ p.source → ⊥) → ⊥) → Shut mid count
      ends h =
          (close-then p marks t old count mid cell close asks.ground w mid count most less asks.shuts (eases-self p marks t mid count mid-ground) (λ k s. absurd (h k s)), λ k. omega (arith, w.here))

      -- the next span starts
      goes : (cell ≡ p.source → ⊥) → close ≤ 2 * t → (new : List ℕ) (next : ℕ) → Eased n p.elements.limit.0 cell (register_load p.elements.register) (setup_delay p.elements.register) mid count new next → Shut new next
      goes s k new next e =
          let light = asks.ground.light in
          let eases = eased-eases p marks t mid count cell _ _ new next mid-ground asks.inside light e (asks.shuts.elsewhere s t (omega arith) k) in
          (close-then p marks t old count mid cell close asks.ground w new next most less asks.shuts eases (λ a b. eased-in e light), λ a. omega (arith, eases.closer cell asks.inside, w.here))

pub returns-then-closing-gt-LATEST : goal.returns-then-closing-gt-LATEST
returns-then-closing-gt-LATEST c =
    let a = c.args in
    still a.p a.plan.now a.period a.scratch.now a.count a.cell a.closing c.requires (λ k. absurd (omega (arith, c.if-closing-gt-LATEST.true)))

pub returns-then-scratch-n : goal.returns-then-scratch-n
returns-then-scratch-n c =
    let a = c.args in
    still a.p a.plan.now a.period a.scratch.now a.count a.cell a.closing c.requires (λ k. c.if-scratch-n.true)

pub bounds-scratch-n-then-period-close : goal.bounds-scratch-n-then-period-close
bounds-scratch-n-then-period-close c =
    let a = c.args in
    omega (arith, length-set a.scratch.now (length a.plan.now * closes_at + a.cell) a.closing, c.requires.ground.room, c.requires.inside)

pub bounds-scratch-n-then-close-scratch : goal.bounds-scratch-n-then-close-scratch
bounds-scratch-n-then-close-scratch c =
    let a = c.args in
    omega (arith, length-set a.scratch.now (length a.plan.now * closes_at + a.cell) a.closing, c.requires.ground.room, c.requires.inside)

pub returns-then-close-scratch : goal.returns-then-close-scratch
returns-then-close-scratch c =
    let a = c.args in
    ends a.p a.plan.now a.period a.scratch.now a.count a.cell a.closing c.requires c.if-closing-gt-LATEST.false c.if-scratch-n.false _ (closed-hint _ _ _ c.requires.inside _ _ a.closing (written a.p a.plan.now a.period a.scratch.now a.count a.cell a.closing c.requires c.if-closing-gt-LATEST.false c.if-scratch-n.false)) (λ k z. omega (arith, c.if-period-close.true))

pub returns-else-close-scratch : goal.returns-else-close-scratch
returns-else-close-scratch c =
    let a = c.args in
    ends a.p a.plan.now a.period a.scratch.now a.count a.cell a.closing c.requires c.if-closing-gt-LATEST.false c.if-scratch-n.false _ (written a.p a.plan.now a.period a.scratch.now a.count a.cell a.closing c.requires c.if-closing-gt-LATEST.false c.if-scratch-n.false) (λ k z. omega (arith, c.if-period-close.true))

pub returns-then-cell-p : goal.returns-then-cell-p
returns-then-cell-p c =
    let a = c.args in
    ends a.p a.plan.now a.period a.scratch.now a.count a.cell a.closing c.requires c.if-closing-gt-LATEST.false c.if-scratch-n.false _ (written a.p a.plan.now a.period a.scratch.now a.count a.cell a.closing c.requires c.if-closing-gt-LATEST.false c.if-scratch-n.false) (λ k z. z c.if-cell-p.true)

pub start-requires : goal.start-requires
start-requires c =
    let a = c.args in
    let g = mid-ground a.p a.plan.now a.period a.scratch.now a.count a.cell a.closing c.requires c.if-closing-gt-LATEST.false c.if-scratch-n.false _ (written a.p a.plan.now a.period a.scratch.now a.count a.cell a.closing c.requires c.if-closing-gt-LATEST.false c.if-scratch-n.false) in
    record { valid = g.ready.valid; space = ground-space _ _ g; queue = g.queue; falling = g.falling; inside = c.requires.inside; light = g.light }

pub shape_of-scratch : goal.shape_of-scratch
shape_of-scratch c =
    let a = c.args in
    c.start.ensures.same ∙ length-set a.scratch.now (length a.plan.now * closes_at + a.cell) a.closing

pub returns : goal.returns
returns c =
    let a = c.args in
    goes a.p a.plan.now a.period a.scratch.now a.count a.cell a.closing c.requires c.if-closing-gt-LATEST.false c.if-scratch-n.false _ (written a.p a.plan.now a.period a.scratch.now a.count a.cell a.closing c.requires c.if-closing-gt-LATEST.false c.if-scratch-n.false) c.if-cell-p.false c.if-period-close.false _ _ c.start.ensures
