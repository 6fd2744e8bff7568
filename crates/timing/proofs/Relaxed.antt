-- Tables with something left out: what their elements cost, and that they are checked tables too.
use Prim.Native.Nat.{ℕ, zero, suc, ◌≤◌}
use mathlib.Core.Bool.{Bool, true, false, cond}
use mathlib.Core.Path.{◌≡◌, refl, ◌∙◌}
use mathlib.Core.List.{List, [], ◌∷◌, map}
use native.Mathlib.Omega.{arith}
use lib.ListN.{get_or}
use Rattle.timing.specs.Ranges.{load_max, period_min, period_max}
use Rattle.timing.specs.Formulas.{wire_delay, wire_load, gate_delay, buffer_driver, buffer_load, register_load}
use Rattle.timing.specs.Elements.{WireInRange, BufferInRange, RegisterInRange, wire_of, driver_of, buffer_of, register_of}
use Rattle.timing.specs.Relaxed.{at_period, relaxed_wire, relaxed_buffer, relaxed_register, relaxed}
use Rattle.timing.specs.Valid.{Valid}
use Rattle.timing.specs.declared.elements.Wire.{Wire}
use Rattle.timing.specs.declared.elements.Buffer.{Buffer}
use Rattle.timing.specs.declared.elements.Register.{Register}
use Rattle.timing.specs.declared.elements.Elements.{Elements}
use Rattle.timing.proofs.Changed.{map-length}

-- Element by element: which loads stay, and that nothing takes time

pub buffer-at : (loads : Bool) (bs : List Buffer) (i : ℕ) → get_or (map (relaxed_buffer loads) bs) i (buffer_of 0 0 0) ≡ relaxed_buffer loads (get_or bs i (buffer_of 0 0 0))
unfolding relaxed_buffer buffer_of buffer_load
buffer-at true [] i = refl
buffer-at false [] i = refl
buffer-at loads (b ∷ bs) zero = refl
buffer-at loads (b ∷ bs) (suc i) = buffer-at loads bs i

pub wire-load : (loads : Bool) (w : Wire) → wire_load (relaxed_wire loads w) ≡ cond loads (wire_load w) 0
unfolding relaxed_wire wire_of wire_load
wire-load loads w = refl

pub wire-quick : (loads : Bool) (w : Wire) (load : ℕ) → wire_delay (relaxed_wire loads w) load ≡ 0
unfolding relaxed_wire wire_of wire_delay
wire-quick loads w load = omega arith

pub buffer-load : (loads : Bool) (b : Buffer) → buffer_load (relaxed_buffer loads b) ≡ cond loads (buffer_load b) 0
unfolding relaxed_buffer buffer_of buffer_load
buffer-load loads b = refl

pub buffer-quick : (loads : Bool) (b : Buffer) (load : ℕ) → gate_delay (buffer_driver (relaxed_buffer loads b)) load ≡ 0
unfolding relaxed_buffer buffer_of driver_of buffer_driver gate_delay
buffer-quick loads b load = omega arith

pub own-period : (e : Elements) → at_period e.period e ≡ e
unfolding at_period
own-period e = refl

pub period-valid : (e : Elements) (t : ℕ) → Valid e → period_min ≤ t → t ≤ period_max → Valid (at_period t e)
unfolding at_period
period-valid e t v least most =
    record {
      least = least;
      most = most;
      skew = v.skew;
      limit = v.limit;
      horizontal = v.horizontal;
      vertical = v.vertical;
      register = v.register;
      count = v.count;
      places = v.places;
      buffers = v.buffers;
    }

module _ (loads : Bool) where
  kept-fits : (c : ℕ) → c ≤ load_max → cond loads c 0 ≤ load_max
  kept-fits c h = go loads
    where
      go : (b : Bool) → cond b c 0 ≤ load_max
      go true = h
      go false = omega arith

  wire-fits : (w : Wire) → WireInRange w → WireInRange (relaxed_wire loads w)
  unfolding relaxed_wire wire_of wire_load
  wire-fits w h = record { resistance = omega arith; load = kept-fits _ h.load }

  buffer-fits : (b : Buffer) → BufferInRange b → BufferInRange (relaxed_buffer loads b)
  unfolding relaxed_buffer buffer_of buffer_load driver_of
  buffer-fits b h = record { driver = record { resistance = omega arith; delay = omega arith }; load = kept-fits _ h.load }

  register-fits : (r : Register) → RegisterInRange r → RegisterInRange (relaxed_register loads r)
  unfolding relaxed_register register_of register_load driver_of
  register-fits r h =
      record { driver = record { resistance = omega arith; delay = omega arith }; load = kept-fits _ h.load; setup = omega arith }

  pub relaxed-valid : (e : Elements) → Valid e → Valid (relaxed loads e)
  unfolding relaxed
  relaxed-valid e v =
      record {
        least = v.least;
        most = v.most;
        skew = omega arith;
        limit = v.limit;
        horizontal = wire-fits _ v.horizontal;
        vertical = wire-fits _ v.vertical;
        register = register-fits _ v.register;
        count = v.count;
        places = map-length (relaxed_buffer loads) e.buffers ∙ v.places;
        buffers = λ i h. rw (buffer-at loads e.buffers i) (buffer-fits _ (v.buffers i h));
      }
