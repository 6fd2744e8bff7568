-- Document 01's rules with looser tables carry the routes of the stricter ones. Looser are a longer period, and tables with no loads than those with no delays (document 02, C-13).
use Prim.Native.Nat.{ℕ, ◌-◌, ◌≤◌}
use mathlib.Core.Bool.{Bool, true, false, cond}
use mathlib.Core.Path.{◌≡◌, refl, sym}
use native.Mathlib.Omega.{arith}
use lib.ListN.{get_or}
use Rattle.plan.specs.Plan.{Plan}
use Rattle.plan.specs.Joined.{horizontal}
use Rattle.timing.specs.declared.elements.Wire.{Wire}
use Rattle.timing.specs.declared.elements.Buffer.{Buffer}
use Rattle.timing.specs.declared.elements.Elements.{Elements}
use Rattle.timing.specs.Formulas.{skewed, register_driver, register_load, setup_delay}
use Rattle.timing.specs.Elements.{buffer_of, register_of, driver_of}
use Rattle.timing.proofs.Relaxed.{buffer-at, wire-load, wire-quick, buffer-load, buffer-quick}
use Rattle.timing.specs.Relaxed.{at_period, relaxed_wire, relaxed_buffer, relaxed_register, relaxed}
use Rattle.rules.specs.Rules.{wire_between, site_of, rules_of}
use Rattle.rules.specs.Legal.{is_end, may_stand}
use Rattle.rules.specs.Carrying.{Quicker, NotWorseWire, NotWorseBuffer, Carries}
use Rattle.rules.proofs.Carrying.{wire-grows, driver-grows, buffer-grows}

-- buffer number i, as `rules_of` reads it
abbrev pub buffer_at : Elements → ℕ → Buffer
buffer_at e i = get_or e.buffers i (buffer_of 0 0 0)

-- Tables e are no stricter than d, in any number

pub record Looser (d e : Elements) : Type 0 where
  pub period : d.period ≤ e.period
  pub limit : d.limit.0 ≤ e.limit.0
  pub horizontal : NotWorseWire e.horizontal d.horizontal
  pub vertical : NotWorseWire e.vertical d.vertical
  pub load : register_load e.register ≤ register_load d.register
  pub setup : setup_delay e.register ≤ setup_delay d.register
  pub driver : Quicker (skewed e.skew (register_driver e.register)) (skewed d.skew (register_driver d.register))
  pub count : d.count ≡ e.count
  pub buffers : (i : ℕ) → NotWorseBuffer (buffer_at e i) (buffer_at d i)

pub looser-carries : (p : Plan) {d e : Elements} (from to : ℕ) → Looser d e → Carries (λ c. c) (rules_of p d from to) (rules_of p e from to)
unfolding rules_of site_of wire_between may_stand is_end
looser-carries p {d} {e} from to k =
    record {
      cells = omega arith;
      source = refl;
      sink = refl;
      limit = k.limit;
      linked = λ a b h. h;
      wires = λ a b h. wire (horizontal p a b);
      none = refl;
      register = refl;
      fifo = refl;
      buffering = λ code f. f;
      stands = λ cell code h. rw (sym k.count) h;
      buffers = λ cell code f h. k.buffers (code - 1);
      start = record { load = k.load; delay = k.setup };
      fresh = λ code h. record { load = k.load; delay = k.setup };
      closers = λ cell code h. k.driver;
      fifos = refl;
      bound = λ span fifos. omega (arith, k.period);
    }
  where
    wire : (across : Bool) → NotWorseWire (cond across e.horizontal e.vertical) (cond across d.horizontal d.vertical)
    wire true = k.horizontal
    wire false = k.vertical

-- Looser tables

pub later-looser : (e : Elements) (t u : ℕ) → t ≤ u → Looser (at_period t e) (at_period u e)
unfolding at_period
later-looser e t u h =
    record {
      period = h;
      limit = omega arith;
      horizontal = wire-grows e.horizontal;
      vertical = wire-grows e.vertical;
      load = omega arith;
      setup = omega arith;
      driver = driver-grows (skewed e.skew (register_driver e.register));
      count = refl;
      buffers = λ i. buffer-grows (buffer_at e i);
    }

bare-wire : (w : Wire) → NotWorseWire (relaxed_wire false w) (relaxed_wire true w)
bare-wire w = record { load = omega (arith, wire-load false w); delay = λ l m h. omega (arith, wire-quick false w l) }

bare-buffer : (b : Buffer) → NotWorseBuffer (relaxed_buffer false b) (relaxed_buffer true b)
bare-buffer b = record { load = omega (arith, buffer-load false b); delay = λ l m h. omega (arith, buffer-quick false b l) }

pub bare-looser : (e : Elements) → Looser (relaxed true e) (relaxed false e)
unfolding relaxed relaxed_register register_of register_load register_driver setup_delay
bare-looser e =
    record {
      period = omega arith;
      limit = omega arith;
      horizontal = bare-wire e.horizontal;
      vertical = bare-wire e.vertical;
      load = omega arith;
      setup = omega arith;
      driver = driver-grows (skewed 0 (driver_of 0 0));
      count = refl;
      buffers = λ i. rw (buffer-at true e.buffers i, buffer-at false e.buffers i) (bare-buffer (buffer_at e i));
    }
