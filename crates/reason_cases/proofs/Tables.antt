-- The tables of the cases whose periods are compared are within their ranges.
use Prim.Native.Nat.{ℕ, ◌≤◌}
use mathlib.Core.List.{[]}
use native.Mathlib.Omega.{arith}
use Rattle.timing.specs.declared.elements.Elements.{Elements}
use Rattle.timing.specs.Elements.{wire_of, driver_of, register_of}
use Rattle.timing.specs.Ranges.{setup_max, period_min, period_max}
use Rattle.timing.specs.Valid.{Valid}
use Rattle.cases.specs.Cases.{tables, strip, case3, case4, case11, skewed_case, skewed3}
use Rattle.cases.proofs.Tables.{none-valid, skew-valid}
use Rattle.reason_cases.specs.Reasons.{with_setup, setup_case}

plain : (period : ℕ) → period_min ≤ period → period ≤ period_max → Valid (tables period 63 (wire_of 2 3) [])
unfolding wire_of
plain period low high =
    none-valid period 63 (wire_of 2 3) low high (omega arith) (record { resistance = omega arith; load = omega arith })

setup-valid : (setup : ℕ) (e : Elements) → setup ≤ setup_max → Valid e → Valid (with_setup setup e)
unfolding with_setup register_of driver_of
setup-valid setup e h v =
    record {
      least = v.least;
      most = v.most;
      skew = v.skew;
      limit = v.limit;
      horizontal = v.horizontal;
      vertical = v.vertical;
      register = record { driver = record { resistance = omega arith; delay = omega arith }; load = omega arith; setup = h };
      count = v.count;
      places = v.places;
      buffers = v.buffers;
    }

pub valid4 : Valid case4.elements
unfolding strip case4
valid4 = plain 11 (omega arith) (omega arith)

pub valid11 : Valid case11.elements
unfolding strip case11
valid11 = plain 25 (omega arith) (omega arith)

pub valid-skewed3 : Valid skewed3.elements
unfolding strip case3 skewed_case skewed3
valid-skewed3 = skew-valid 1 _ (omega arith) (plain 12 (omega arith) (omega arith))

pub valid-setup : Valid setup_case.elements
unfolding setup_case
valid-setup = setup-valid _ _ (omega arith) (plain 26 (omega arith) (omega arith))
