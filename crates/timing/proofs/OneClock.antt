-- One clock's are valid.
use native.Mathlib.Omega.{arith}
use Rattle.timing.specs.declared.elements.Elements.{Elements}
use Rattle.timing.specs.Elements.{register_of, driver_of}
use Rattle.timing.specs.Valid.{Valid}
use Rattle.timing.specs.Clocks.{one_clock, ValidClocks}

pub one-valid : (e : Elements) → Valid e → ValidClocks (one_clock e.period)
unfolding one_clock register_of driver_of
one-valid e valid =
    record {
      few = omega arith;
      least = valid.least;
      most = valid.most;
      fifo = record { driver = record { resistance = omega arith; delay = omega arith }; load = omega arith; setup = omega arith };
    }
