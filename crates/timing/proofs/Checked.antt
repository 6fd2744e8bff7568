-- What the answer of a checking constructor tells, and that its range test says that the element is in range.
use Rattle.std.proofs.Common.{◌≡◌, ℕ, ◌≤◌, Bool, true, false, ◌&&◌, cond, leb, refl, Some, None}
use borrow.Author.Tests.{leb-true, le-leb}
use Rattle.timing.specs.Ranges.{resistance_max, delay_max, load_max, setup_max}
use Rattle.timing.specs.declared.elements.Wire.{Wire}
use Rattle.timing.specs.declared.elements.Buffer.{Buffer}
use Rattle.timing.specs.declared.elements.Register.{Register}
use Rattle.timing.specs.Elements.{WireInRange, BufferInRange, RegisterInRange, wire_of, driver_of, buffer_of, register_of, wire_in_range, buffer_in_range, register_in_range, checked_wire, checked_buffer, checked_register}

-- a bound at the end of a chain of tests
last : (a : Bool) (x m : ℕ) → (a && leb x m) ≡ true → (a ≡ true) × (x ≤ m)
last true x m h = (refl, leb-true x m h)
last false x m h = absurd cc

-- the two answers of a checking constructor
module _ {A : Type 0} where
  passed : (b : Bool) (x y : A) → cond b (Some x) None ≡ Some y → (b ≡ true) × (y ≡ x)
  passed true x y h = (refl, cc)
  passed false x y h = absurd cc

  failed : (b : Bool) (x : A) → cond b (Some x) None ≡ None → b ≡ false
  failed true x h = absurd cc
  failed false x h = refl

pub wire-valid : (r c : ℕ) (w : Wire) → checked_wire r c ≡ Some w → (wire_in_range r c ≡ true) × (w ≡ wire_of r c)
unfolding checked_wire
wire-valid r c w h = passed (wire_in_range r c) (wire_of r c) w h

pub wire-out : (r c : ℕ) → checked_wire r c ≡ None → wire_in_range r c ≡ false
unfolding checked_wire
wire-out r c h = failed (wire_in_range r c) (wire_of r c) h

pub buffer-valid : (r k c : ℕ) (b : Buffer) → checked_buffer r k c ≡ Some b → (buffer_in_range r k c ≡ true) × (b ≡ buffer_of r k c)
unfolding checked_buffer
buffer-valid r k c b h = passed (buffer_in_range r k c) (buffer_of r k c) b h

pub buffer-out : (r k c : ℕ) → checked_buffer r k c ≡ None → buffer_in_range r k c ≡ false
unfolding checked_buffer
buffer-out r k c h = failed (buffer_in_range r k c) (buffer_of r k c) h

pub register-valid : (r k c s : ℕ) (g : Register) → checked_register r k c s ≡ Some g → (register_in_range r k c s ≡ true) × (g ≡ register_of r k c s)
unfolding checked_register
register-valid r k c s g h = passed (register_in_range r k c s) (register_of r k c s) g h

pub register-out : (r k c s : ℕ) → checked_register r k c s ≡ None → register_in_range r k c s ≡ false
unfolding checked_register
register-out r k c s h = failed (register_in_range r k c s) (register_of r k c s) h

-- the range tests decide the ranges
pub wire-in : (r c : ℕ) → wire_in_range r c ≡ true → WireInRange (wire_of r c)
unfolding wire_in_range wire_of
wire-in r c h =
    let p = last (leb r resistance_max) c load_max h in
    record { resistance = leb-true _ _ p.0; load = p.1 }

pub in-wire : (r c : ℕ) → WireInRange (wire_of r c) → wire_in_range r c ≡ true
unfolding wire_in_range wire_of
in-wire r c h = simp (le-leb _ _ h.resistance, le-leb _ _ h.load)

pub buffer-in : (r k c : ℕ) → buffer_in_range r k c ≡ true → BufferInRange (buffer_of r k c)
unfolding buffer_in_range buffer_of driver_of
buffer-in r k c h =
    let p = last (leb r resistance_max && leb k delay_max) c load_max h in
    let q = last (leb r resistance_max) k delay_max p.0 in
    record { driver = record { resistance = leb-true _ _ q.0; delay = q.1 }; load = p.1 }

pub in_buffer : (r k c : ℕ) → BufferInRange (buffer_of r k c) → buffer_in_range r k c ≡ true
unfolding buffer_in_range buffer_of driver_of
in_buffer r k c h = simp (le-leb _ _ h.driver.resistance, le-leb _ _ h.driver.delay, le-leb _ _ h.load)

pub register-in : (r k c s : ℕ) → register_in_range r k c s ≡ true → RegisterInRange (register_of r k c s)
unfolding register_in_range register_of driver_of
register-in r k c s h =
    let o = last (leb r resistance_max && leb k delay_max && leb c load_max) s setup_max h in
    let p = last (leb r resistance_max && leb k delay_max) c load_max o.0 in
    let q = last (leb r resistance_max) k delay_max p.0 in
    record { driver = record { resistance = leb-true _ _ q.0; delay = q.1 }; load = p.1; setup = o.1 }

pub in-register : (r k c s : ℕ) → RegisterInRange (register_of r k c s) → register_in_range r k c s ≡ true
unfolding register_in_range register_of driver_of
in-register r k c s h =
    simp (le-leb _ _ h.driver.resistance, le-leb _ _ h.driver.delay, le-leb _ _ h.load, le-leb _ _ h.setup)
