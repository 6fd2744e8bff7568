-- The tables of the worked cases are within their ranges.
use Prim.Native.Nat.{ℕ, zero, suc, ◌-◌, ◌≤◌}
use mathlib.Core.List.{List, [], ◌++◌}
use native.Mathlib.Omega.{arith}
use lib.ListN.{length, get_or, replicate, length-append, length-replicate}
use Rattle.timing.specs.declared.elements.Wire.{Wire}
use Rattle.timing.specs.declared.elements.Buffer.{Buffer}
use Rattle.timing.specs.declared.elements.Elements.{Elements}
use Rattle.timing.specs.Ranges.{resistance_max, delay_max, load_max, period_min, period_max, skew_max, buffers_max}
use Rattle.timing.specs.Elements.{WireInRange, BufferInRange, wire_of, driver_of, buffer_of, register_of}
use Rattle.timing.specs.Relaxed.{with_skew}
use Rattle.timing.specs.Valid.{Valid}
use Rattle.cases.specs.Cases.{Each, none, more, tables, strip, buffers, case1, case2, case3, case4, case5, case6, case7, case8, case9, case10, case11, case12, case13, cases, skewed_case, skewed1, skewed3, skewed_cases}

buffer-in-range : (r k c : ℕ) → r ≤ resistance_max → k ≤ delay_max → c ≤ load_max → BufferInRange (buffer_of r k c)
unfolding buffer_of driver_of
buffer-in-range r k c h i j = record { driver = record { resistance = h; delay = i }; load = j }

wire-in-range : (r c : ℕ) → r ≤ resistance_max → c ≤ load_max → WireInRange (wire_of r c)
unfolding wire_of
wire-in-range r c h i = record { resistance = h; load = i }

no_buffer : BufferInRange (buffer_of 0 0 0)
no_buffer = buffer-in-range 0 0 0 (omega arith) (omega arith) (omega arith)

no-buffers : (n i : ℕ) → BufferInRange (get_or (replicate n (buffer_of 0 0 0)) i (buffer_of 0 0 0))
no-buffers zero i = no_buffer
no-buffers (suc n) zero = no_buffer
no-buffers (suc n) (suc i) = no-buffers n i

module _ (period limit : ℕ) (vertical : Wire) (least : period_min ≤ period) (most : period ≤ period_max) (load : limit ≤ load_max) (wire : WireInRange vertical) where
  tables-valid : (bs : List Buffer) → length bs ≤ buffers_max → ((i : ℕ) → BufferInRange (get_or (bs ++ replicate (buffers_max - length bs) (buffer_of 0 0 0)) i (buffer_of 0 0 0))) → Valid (tables period limit vertical bs)
  unfolding tables wire_of register_of driver_of
  tables-valid bs few right =
      record {
        least = least;
        most = most;
        skew = omega arith;
        limit = load;
        horizontal = wire-in-range 2 3 (omega arith) (omega arith);
        vertical = wire;
        register = record { driver = record { resistance = omega arith; delay = omega arith }; load = omega arith; setup = omega arith };
        count = few;
        places = omega (arith, length-append bs (replicate (buffers_max - length bs) (buffer_of 0 0 0)), length-replicate (buffers_max - length bs) (buffer_of 0 0 0));
        buffers = λ i h. right i;
      }

  pub none-valid : Valid (tables period limit vertical [])
  none-valid = tables-valid [] (omega arith) (no-buffers 6)

  pub one-valid : Valid (tables period limit vertical buffers)
  one-valid = tables-valid buffers (omega arith) right
    where
      right : (i : ℕ) → BufferInRange (get_or (buffers ++ replicate 5 (buffer_of 0 0 0)) i (buffer_of 0 0 0))
      right zero = buffer-in-range 1 1 1 (omega arith) (omega arith) (omega arith)
      right (suc i) = no-buffers 5 i

plain : (period limit : ℕ) → period_min ≤ period → period ≤ period_max → limit ≤ load_max → Valid (tables period limit (wire_of 2 3) [])
plain period limit least most load = none-valid period limit (wire_of 2 3) least most load (wire-in-range 2 3 (omega arith) (omega arith))

buffered : (period limit : ℕ) → period_min ≤ period → period ≤ period_max → limit ≤ load_max → Valid (tables period limit (wire_of 2 3) buffers)
buffered period limit least most load = one-valid period limit (wire_of 2 3) least most load (wire-in-range 2 3 (omega arith) (omega arith))

pub valid12 : Valid case12.elements
unfolding strip case12
valid12 = buffered 22 63 (omega arith) (omega arith) (omega arith)

-- every case's tables
pub valid : Each (λ c. Valid c.elements) cases
unfolding strip case1 case2 case3 case4 case5 case6 case7 case8 case9 case10 case11 case12 case13
valid =
    more case1 (plain 26 63 (omega arith) (omega arith) (omega arith))
    (more case2 (plain 25 63 (omega arith) (omega arith) (omega arith))
    (more case3 (plain 12 63 (omega arith) (omega arith) (omega arith))
    (more case4 (plain 11 63 (omega arith) (omega arith) (omega arith))
    (more case5 (plain 26 7 (omega arith) (omega arith) (omega arith))
    (more case6 (plain 26 6 (omega arith) (omega arith) (omega arith))
    (more case7 (plain 26 3 (omega arith) (omega arith) (omega arith))
    (more case8 (buffered 22 63 (omega arith) (omega arith) (omega arith))
    (more case9 (buffered 21 63 (omega arith) (omega arith) (omega arith))
    (more case10 (buffered 26 63 (omega arith) (omega arith) (omega arith))
    (more case11 (plain 25 63 (omega arith) (omega arith) (omega arith))
    (more case12 valid12
    (more case13 (none-valid 12 63 (wire_of 0 0) (omega arith) (omega arith) (omega arith) (wire-in-range 0 0 (omega arith) (omega arith))) none))))))))))))

-- the same with a skew
pub skew-valid : (s : ℕ) (e : Elements) → s ≤ skew_max → Valid e → Valid (with_skew s e)
unfolding with_skew
skew-valid s e h v =
    record {
      least = v.least;
      most = v.most;
      skew = h;
      limit = v.limit;
      horizontal = v.horizontal;
      vertical = v.vertical;
      register = v.register;
      count = v.count;
      places = v.places;
      buffers = v.buffers;
    }

pub valid-skewed : Each (λ c. Valid c.elements) skewed_cases
unfolding strip case1 case3 skewed_case skewed1 skewed3
valid-skewed =
    more skewed1 (skew-valid 1 _ (omega arith) (plain 26 63 (omega arith) (omega arith) (omega arith)))
    (more skewed3 (skew-valid 1 _ (omega arith) (plain 12 63 (omega arith) (omega arith) (omega arith))) none)
