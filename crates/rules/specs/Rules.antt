-- What a rule of routing may depend on, as one record; document 01's rules, with document 02's skew and keep-out, are the instance `rules_of`.
-- The theory is stated over the record, so that a later request that changes one field changes one line here.
use Rattle.std.specs.Prelude.{ℕ, suc, ◌+◌, ◌*◌, ◌-◌, Bool, ◌&&◌, ◌||◌, not, cond, eqb, leb, get_or}
use Rattle.plan.specs.Plan.{Plan, cells, marks_at, blocked, takes_register}
use Rattle.plan.specs.Joined.{horizontal, joined}
use Rattle.timing.specs.declared.elements.Wire.{Wire}
use Rattle.timing.specs.declared.elements.Driver.{Driver}
use Rattle.timing.specs.declared.elements.Buffer.{Buffer}
use Rattle.timing.specs.declared.elements.Elements.{Elements}
use Rattle.timing.specs.Formulas.{skewed, register_driver, register_load, setup_delay}
use Rattle.timing.specs.Elements.{buffer_of}

-- load, and delay in half-ticks, at a visit
pub record Stage : Type 0 where
  pub load : ℕ
  pub delay : ℕ

-- gate codes: 0 none, 1 to 6 that buffer, 7 register, 8 the FIFO between two clocks
abbrev pub no_gate : ℕ
no_gate = 0

abbrev pub register_code : ℕ
register_code = 7

abbrev pub fifo_code : ℕ
fifo_code = 8

-- a gate with this code closes a span
unfoldable pub is_closing : ℕ → Bool
is_closing code = eqb code register_code || eqb code fifo_code

-- the FIFOs passed, after a gate with this code
unfoldable pub side_after : ℕ → ℕ → ℕ
side_after fifos code = cond (eqb code fifo_code) (suc fifos) fifos

pub record Rules : Type 0 where
  -- cells are numbered from 0 to cell_count - 1
  pub cell_count : ℕ
  pub source : ℕ
  pub sink : ℕ
  -- the load limit L
  pub limit : ℕ
  -- an uncut wire joins two cells, and the wire of the step between them
  pub linked : ℕ → ℕ → Bool
  pub wire : ℕ → ℕ → Wire
  -- the gate with this code may stand on this cell, between the ends
  pub site : ℕ → ℕ → Bool
  -- the buffer with this code
  pub buffer : ℕ → Buffer
  -- after the sink, and after a gate with this code that closes a span
  pub start : Stage
  pub fresh : ℕ → Stage
  -- what drives the span that closes at this cell with this code, with the skew in its delay
  pub closer : ℕ → ℕ → Driver
  -- how many FIFOs a route has
  pub fifos : ℕ
  -- the closing delay of span k, counted from the sink, after f FIFOs, is below this
  pub bound : ℕ → ℕ → ℕ
  -- what a span counts in the ranking, after f FIFOs
  pub weight : ℕ → ℕ

-- these rules with other sites, other drivers at the closes (each by cell and code) and other bounds
abbrev pub amended : Rules → (ℕ → ℕ → Bool) → (ℕ → ℕ → Driver) → (ℕ → ℕ → ℕ) → Rules
amended R site closer bound =
    record {
      cell_count = R.cell_count;
      source = R.source;
      sink = R.sink;
      limit = R.limit;
      linked = R.linked;
      wire = R.wire;
      site = site;
      buffer = R.buffer;
      start = R.start;
      fresh = R.fresh;
      closer = closer;
      fifos = R.fifos;
      bound = bound;
      weight = R.weight;
    }

abbrev pub sited_by : Rules → (ℕ → ℕ → Bool) → Rules
sited_by R site = amended R site R.closer R.bound

abbrev pub closed_within : Rules → (ℕ → ℕ → Driver) → (ℕ → ℕ → ℕ) → Rules
closed_within R closer bound = amended R R.site closer bound

-- A visit without a gate may be anywhere, a listed buffer on a cell without mark 1, a register by a test of the cell's marks.
abbrev pub sites_by : (ℕ → Bool) → Plan → Elements → ℕ → ℕ → Bool
sites_by registers p e cell code =
    eqb code no_gate || (leb 1 code && leb code e.count && not (blocked (marks_at p cell))) || (eqb code register_code && registers (marks_at p cell))

unfoldable pub site_of : Plan → Elements → ℕ → ℕ → Bool
site_of = sites_by takes_register

unfoldable pub wire_between : Plan → Elements → ℕ → ℕ → Wire
wire_between p e a b = cond (horizontal p a b) e.horizontal e.vertical

-- both ends are our register; every span has the same period
unfoldable pub rules_of : Plan → Elements → ℕ → ℕ → Rules
rules_of p e from to =
    record {
      cell_count = cells p;
      source = from;
      sink = to;
      limit = e.limit.0;
      linked = joined p;
      wire = wire_between p e;
      site = site_of p e;
      buffer = λ code. get_or e.buffers (code - 1) (buffer_of 0 0 0);
      start = record { load = register_load e.register; delay = setup_delay e.register };
      fresh = λ code. record { load = register_load e.register; delay = setup_delay e.register };
      -- with the skew in its delay (document 02, C-16): a closing delay plus twice the skew is at most 2T (`in-time` in proofs/Skew.antt)
      closer = λ cell code. skewed e.skew (register_driver e.register);
      fifos = 0;
      -- at most 2T
      bound = λ span fifos. 2 * e.period + 1;
      -- fewest registers
      weight = λ fifos. 1;
    }
