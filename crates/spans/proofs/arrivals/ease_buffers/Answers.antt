use Rattle.std.proofs.Common.{ℕ, ◌+◌, ◌≤◌, ◌<◌, ◌≡◌, true, List, length, get_or, ◌⊎◌, inl, inr, arith}
use Rattle.std.proofs.lemmas.Grind.{common_steps}
use Rattle.timing.specs.Elements.{buffer_of, driver_of}
use Rattle.timing.specs.Formulas.{buffer_driver, buffer_load, gate_delay}
use Rattle.costs.specs.Costs.{buffer_at}
use Rattle.problem.specs.declared.Problem.{Problem}
use Rattle.table.specs.ArrivalRow.{takes_buffers}
use Rattle.delays.specs.Delays.{latest, Eased}
use Rattle.spans.specs.Arrive.{ArriveAsks}
use Rattle.spans.proofs.Eases.{ground-space, limit-row}
use Rattle.costs.proofs.Checked.{buffer-driver-fits}
use Rattle.spans.proofs.Buffers.{driven_by, Driven, driven-none, driven-ground, driven-past, driven-more}
use Rattle.spans.proofs.arrivals.ease_buffers.Goals as goal

pub loop-i-init : goal.loop-i-init
loop-i-init c = λ asks takes. driven-none _ _ _ _ _ _ _ _ asks

pub after-after-requires : goal.after-after-requires
unfolding buffer_at buffer_of driver_of
after-after-requires c =
    let driver : c.driver.result ≡ buffer_driver (buffer_at c.args.p.elements c.loop-i.i) = c.driver.ensures in
    let g = c.requires.0.ground in
    (rw driver (buffer-driver-fits g.ready.valid _ (omega (arith, g.ready.valid.count))), (omega (arith, c.requires.0.light, g.ready.valid.limit), omega (arith, c.requires.0.early)))

pub ease-waiting-requires : goal.ease-waiting-requires
ease-waiting-requires c =
    let loop = c.loop-i in
    let a = c.args in
    let g = driven-ground a.p a.plan.now a.period a.scratch.now a.count a.cell a.load.0 a.delay.0 c.requires.0 loop.scratch loop.waiting loop.i (loop.invariant c.requires.0 c.requires.1) in
    (ground-space _ _ g, (g.queue, (g.falling, (c.requires.0.inside, (omega (arith, c.if-own-limit.true), limit-row _ _ g)))))

-- one buffer more
module _ (p : Problem) (marks : List ℕ) (t : ℕ) (old : List ℕ) (count cell load delay : ℕ) (asks : ArriveAsks p marks t old count cell load delay) (takes : takes_buffers (get_or marks cell 0) p cell ≡ true) (words : List ℕ) (waiting i : ℕ) (d : Driven p marks t old count cell load delay asks words waiting i) (own after : ℕ) (is_own : own ≡ buffer_load (buffer_at p.elements i)) (is_after : after ≡ driven_by p load delay i) where
  -- it is eased, or is too heavy or too late
  one-more : i < p.elements.count → (new : List ℕ) (next : ℕ) → ((own ≤ p.elements.limit.0) × Eased (length marks) p.elements.limit.0 cell own after words waiting new next) ⊎ (((p.elements.limit.0 < own) ⊎ (latest < after)) × ((new ≡ words) × (next ≡ waiting))) → Driven p marks t old count cell load delay asks new next (i + 1)
  one-more h new next (inl x) = driven-more p marks t old count cell load delay asks words waiting i d takes h (rw (← is_own) x.0) new next (rw (← is_own, ← is_after) x.1)
  one-more h new next (inr (inl x, same)) = rw (same.0, same.1) (driven-past p marks t old count cell load delay asks words waiting i d (inl (rw (← is_own) x)))
  one-more h new next (inr (inr x, same)) = rw (same.0, same.1) (driven-past p marks t old count cell load delay asks words waiting i d (inr (rw (← is_after) x)))

pub loop-i-preserved : goal.loop-i-preserved
unfolding buffer_at buffer_of driver_of
loop-i-preserved c =
    let loop = c.loop-i in
    let a = c.args in
    let e = a.p.elements in
    let own : c.load-own.result.0 ≡ buffer_load (buffer_at e loop.i) = c.load-own.ensures in
    let driver : c.driver.result ≡ buffer_driver (buffer_at e loop.i) = c.driver.ensures in
    let after : c.after-after.result.0 ≡ a.delay.0 + gate_delay (buffer_driver (buffer_at e loop.i)) a.load.0 = rw driver at c.after-after.ensures in
    λ asks takes. one-more a.p _ _ _ _ _ _ _ asks takes loop.scratch loop.waiting loop.i (loop.invariant asks takes) _ _ own after c.loop-i-test.true c.if-own-limit.scratch c.if-own-limit.waiting (grind (arith, common_steps))

pub shape_of-scratch : goal.shape_of-scratch
shape_of-scratch c = (c.loop-i.invariant c.requires.0 c.requires.1).eases.same

pub returns : goal.returns
returns c =
    let loop = c.loop-i in
    let d = loop.invariant c.requires.0 c.requires.1 in
    let end : loop.i ≡ c.args.p.elements.count = omega arith in
    (d.eases, rw end at d.done)
