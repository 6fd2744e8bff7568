-- Nets between two clocks: document 02, C-15. A route has one FIFO, code 8; the spans up to and including the one that the FIFO drives are the sink's, those beyond it the source's.
use Rattle.std.specs.Prelude.{ℕ, ◌+◌, ◌*◌, ◌-◌, Bool, ◌&&◌, ◌||◌, cond, [], ◌∷◌, eqb, leb}
use Rattle.plan.specs.Plan.{Plan, marks_at, takes_register}
use Rattle.timing.specs.declared.elements.Register.{Register}
use Rattle.timing.specs.declared.elements.Elements.{Elements}
use Rattle.timing.specs.declared.clocks.Clocks.{Clocks}
use Rattle.timing.specs.Formulas.{skewed, register_driver, register_load, setup_delay}
use Rattle.rules.specs.Rules.{Rules, fifo_code, closed_within, rules_of}
use Rattle.rules.specs.Legal.{Route}
use Rattle.rules.specs.Ranking.{code_sevens}

-- the code is the FIFO's, where there is one
unfoldable pub is_fifo : Clocks → ℕ → Bool
is_fifo x code = leb 1 x.fifos && eqb code fifo_code

-- what closes a span and starts the next with this code: "as a register does, by its own figures"
unfoldable pub gate_for : Elements → Clocks → ℕ → Register
gate_for e x code = cond (is_fifo x code) x.fifo e.register

-- the period of a span after f FIFOs: the sink's up to the FIFO, the source's beyond it
unfoldable pub period_on : Elements → Clocks → ℕ → ℕ
period_on e x f = cond (leb 1 x.fifos && leb 1 f) x.period e.period

-- The rules with these clocks: document 01's but for the FIFO, the periods, and the ranking by latency. With one clock they are document 01's (`one-clock` in proofs/Clocks.antt).
unfoldable pub rules_between : Plan → Elements → Clocks → ℕ → ℕ → Rules
rules_between p e x from to =
    let R : Rules = rules_of p e from to in
    record {
      cell_count = R.cell_count;
      source = R.source;
      sink = R.sink;
      limit = R.limit;
      linked = R.linked;
      wire = R.wire;
      -- "It stands .. as a register does"
      site = λ cell code. (is_fifo x code && takes_register (marks_at p cell)) || R.site cell code;
      buffer = R.buffer;
      start = R.start;
      fresh = λ code. record { load = register_load (gate_for e x code); delay = setup_delay (gate_for e x code) };
      closer = λ cell code. skewed e.skew (register_driver (gate_for e x code));
      fifos = x.fifos;
      -- at most twice the span's own period
      bound = λ span f. 2 * period_on e x f + 1;
      weight = λ f. cond (leb 1 x.fifos) (period_on e x f) (R.weight f);
    }

-- the visits before the FIFO, and those after it

unfoldable pub sink_side : Route → Route
sink_side [] = []
sink_side (v ∷ vs) = cond (eqb v.code fifo_code) [] (v ∷ sink_side vs)

unfoldable pub source_side : Route → Route
source_side [] = []
source_side (v ∷ vs) = cond (eqb v.code fifo_code) vs (source_side vs)

-- "Registers are reported for each side": each has one end, which does not count

unfoldable pub sink_registers : Route → ℕ
sink_registers r = code_sevens (sink_side r) - 1

unfoldable pub source_registers : Route → ℕ
source_registers r = code_sevens (source_side r) - 1

-- "Latency is the source period times (registers on the source side + 1) plus the sink period times (registers on the sink side + 1)."
unfoldable pub crossing_latency : ℕ → ℕ → Route → ℕ
crossing_latency source sink r = source * (source_registers r + 1) + sink * (sink_registers r + 1)

-- these rules with any period for each span, by its number from the sink
unfoldable pub by_number : Rules → (ℕ → ℕ) → Rules
by_number R period = closed_within R R.closer (λ span f. 2 * period span + 1)
