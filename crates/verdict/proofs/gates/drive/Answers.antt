-- The buffer that was copied out is the code's.
use Prim.Native.Nat.{◌+◌, ◌-◌, min}
use mathlib.Core.Path.{◌≡◌, refl, sym, ◌∙◌}
use native.Mathlib.Omega.{arith}
use borrow.Author.Tests.{le-leb}
use lib.Dec.{leb}
use mir.Syntax.{w32}
use mir.Facts.{to_z-of_z}
use Rattle.timing.specs.Elements.{buffer_of, driver_of}
use Rattle.timing.specs.Formulas.{gate_delay, buffer_driver, buffer_load}
use Rattle.verdict.specs.Gates.{delay_cap}
use Rattle.verdict.proofs.Passing.{buffer_of_code, buffer-heavy, buffer-step}
use Rattle.verdict.proofs.gates.drive.Goals as goal
use Rattle.verdict.proofs.gates.drive.Goals.{After-at_most}

own : (c : After-at_most) → leb (buffer_load (buffer_of_code c.args.elements c.args.code)) c.args.elements.limit.0 ≡ c.at_most.result
unfolding buffer_of driver_of
own c = sym (rw c.load-load.ensures at c.at_most.ensures)

pub returns-then-not-at_most : goal.returns-then-not-at_most
returns-then-not-at_most c =
    λ P from to a none k.
    buffer-heavy P c.args.elements from to a c.args.at.cell c.args.code (λ z. omega (arith, c.requires.1.0)) c.requires.0.valid c.requires.1.1 (rw k.load at (le-leb _ _ c.requires.0.light)) (own (goal.at.returns-then-not-at_most c).After-at_most ∙ c.if-not-at_most.true)

pub after-requires : goal.after-requires
unfolding buffer_of driver_of buffer_driver
after-requires c =
    let driver : c.driver.result ≡ buffer_driver (buffer_of_code c.args.elements c.args.code) = c.driver.ensures in
    (rw driver (c.requires.0.valid.buffers (c.args.code - 1) (omega (arith, c.requires.1.0, c.requires.1.1, c.requires.0.valid.count))).driver, (omega (arith, c.requires.0.light, c.requires.0.valid.limit), omega (arith, c.args.at.early)))

pub returns : goal.returns
unfolding buffer_of driver_of
returns c =
    let b = buffer_of_code c.args.elements c.args.code in
    let load : c.load-load.result.0 ≡ buffer_load b = c.load-load.ensures in
    let driver : c.driver.result ≡ buffer_driver b = c.driver.ensures in
    let after : c.after.result.0 ≡ c.args.at.delay.0 + gate_delay (buffer_driver b) c.args.at.load.0 = rw driver at c.after.ensures in
    let delay : c.capped-delay.result.0 ≡ min (c.args.at.delay.0 + gate_delay (buffer_driver b) c.args.at.load.0) delay_cap = rw after at c.capped-delay.ensures in
    let listed = own (goal.at.returns c).After-at_most ∙ c.if-not-at_most.false in
    let kept = to_z-of_z {w = w32} {z = c.args.at.slack} (record { sfits = c.struct_told-1.given.1.1.1.0.1 }) in
    λ P from to a none k.
    buffer-step P c.args.elements from to a c.args.at.cell c.args.code (λ z. omega (arith, c.requires.1.0)) c.requires.0.valid c.requires.1.1 (rw k.load at (le-leb _ _ c.requires.0.light)) listed none c.args.at _ k refl load delay kept
