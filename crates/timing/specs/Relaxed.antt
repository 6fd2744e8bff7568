-- The tables with something changed or left out (document 02, C-13): another period; another skew; no delays; no loads either.
use Rattle.std.specs.Prelude.{ℕ, Bool, cond, map}
use Rattle.timing.specs.declared.elements.Wire.{Wire}
use Rattle.timing.specs.declared.elements.Buffer.{Buffer}
use Rattle.timing.specs.declared.elements.Register.{Register}
use Rattle.timing.specs.declared.elements.Elements.{Elements}
use Rattle.timing.specs.Formulas.{wire_load, buffer_load, register_load}
use Rattle.timing.specs.Elements.{wire_of, buffer_of, register_of}

unfoldable pub at_period : ℕ → Elements → Elements
at_period t e =
    record {
      period = t;
      skew = e.skew;
      limit = e.limit;
      horizontal = e.horizontal;
      vertical = e.vertical;
      register = e.register;
      count = e.count;
      buffers = e.buffers;
    }

-- with another skew (document 02, C-16)
unfoldable pub with_skew : ℕ → Elements → Elements
with_skew s e =
    record {
      period = e.period;
      skew = s;
      limit = e.limit;
      horizontal = e.horizontal;
      vertical = e.vertical;
      register = e.register;
      count = e.count;
      buffers = e.buffers;
    }

-- every R and K, the setup and the skew are 0; the loads C stay where `loads`, and are 0 elsewhere

unfoldable pub relaxed_wire : Bool → Wire → Wire
relaxed_wire loads w = wire_of 0 (cond loads (wire_load w) 0)

unfoldable pub relaxed_buffer : Bool → Buffer → Buffer
relaxed_buffer loads b = buffer_of 0 0 (cond loads (buffer_load b) 0)

unfoldable pub relaxed_register : Bool → Register → Register
relaxed_register loads r = register_of 0 0 (cond loads (register_load r) 0) 0

unfoldable pub relaxed : Bool → Elements → Elements
relaxed loads e =
    record {
      period = e.period;
      skew = 0;
      limit = e.limit;
      horizontal = relaxed_wire loads e.horizontal;
      vertical = relaxed_wire loads e.vertical;
      register = relaxed_register loads e.register;
      count = e.count;
      buffers = map (relaxed_buffer loads) e.buffers;
    }
