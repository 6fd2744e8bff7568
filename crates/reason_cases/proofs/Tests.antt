-- The tests of the worked cases, each computed. Of the periods only those next to the edge.
use Prim.Native.Nat.{ℕ}
use mathlib.Core.Bool.{Bool, true, false}
use mathlib.Core.Path.{◌≡◌, refl}
use Rattle.plan.specs.Plan.{cells, row, column, marks_at, blocked, tap, takes_register, cut_right, cut_below}
use Rattle.plan.specs.Joined.{joins_right, joins_below, both_in, horizontal, vertical, joined}
use Rattle.timing.specs.Formulas.{wire_delay, gate_delay, skewed, wire_load, buffer_driver, buffer_load, register_driver, register_load, setup_delay}
use Rattle.timing.specs.Elements.{wire_of, driver_of, buffer_of, register_of}
use Rattle.timing.specs.Ranges.{period_max}
use Rattle.timing.specs.Relaxed.{at_period, with_skew, relaxed_wire, relaxed_buffer, relaxed_register, relaxed}
use Rattle.rules.specs.Rules.{is_closing, side_after, rules_of, site_of, wire_between}
use Rattle.rules.specs.Legal.{may_stand, is_end}
use Rattle.budget.specs.Table.{budget_sum, load_at, delay_at, buffer_cost, load_of, close_cost, only, max_below, via_buffer, via_close, arrival, given}
use Rattle.budget.specs.Done.{seed_at}
use Rattle.budget.specs.Emission.{exact_seed, goes_on, after_load, after_delay, after_weight, first_from, next_code, next_cell, emit}
use Rattle.lists.specs.Lists.{sum_below}
use Rattle.best.specs.Rows.{list_from, table_of, rows_of, layer_rows}
use Rattle.best.specs.Labels.{is_known, label_weight, label_steps, labels_listed, by_code, places, relabel_at, relabel, earlier, waiting, next_label}
use Rattle.best.specs.Search.{at_sink, relabelled, layer_turn, quiet_turn, turn, search_from, most_sum, most_turns, start_labels, search_side, labelling, exits_of}
use Rattle.best.specs.Best.{reach_rows, exits_at, labels_at, route_of, outcome, best}
use Rattle.cases.specs.Cases.{Case, rules_in, tables, strip, case1, case3, case4, case7, case11, case12, skewed_case, skewed3}
use Rattle.reasons.specs.Reasons.{routed, routed_at}
use Rattle.reason_cases.specs.Reasons.{cut_case, with_setup, setup_case}

-- whether the case has a route
abbrev pub has : Case → Bool
has c = routed (rules_in c)

-- with another period
abbrev pub has_at : Case → ℕ → Bool
has_at c t = routed_at c.plan c.elements c.source c.sink t

-- without delays, with or without loads
abbrev pub has_relaxed : Case → Bool → Bool
has_relaxed c loads = routed (rules_of c.plan (relaxed loads c.elements) c.source c.sink)

pub record Tests : Type 0 where
  pub own1 : has case1 ≡ true
  pub own4 : has case4 ≡ false
  pub next4 : has_at case4 12 ≡ true
  pub own7 : has case7 ≡ false
  pub heavy7 : has_relaxed case7 true ≡ false
  pub chain7 : has_relaxed case7 false ≡ true
  pub own11 : has case11 ≡ false
  pub next11 : has_at case11 26 ≡ true
  pub own12 : has case12 ≡ false
  pub late12 : has_at case12 25 ≡ false
  pub next12 : has_at case12 26 ≡ true
  pub own-skewed : has skewed3 ≡ false
  pub next-skewed : has_at skewed3 13 ≡ true
  pub own-cut : has cut_case ≡ false
  pub wall-cut : has_relaxed cut_case false ≡ false
  pub own-setup : has setup_case ≡ false
  pub longest-setup : has_at setup_case period_max ≡ false
  pub light-setup : has_relaxed setup_case true ≡ true

pub tests : Tests
unfolding cells row column marks_at blocked tap takes_register cut_right cut_below joins_right joins_below both_in horizontal vertical joined wire_of buffer_of register_of driver_of wire_delay gate_delay skewed wire_load buffer_driver buffer_load register_driver register_load setup_delay at_period relaxed_wire relaxed_buffer relaxed_register relaxed is_closing side_after rules_of site_of wire_between may_stand is_end budget_sum load_at delay_at buffer_cost load_of close_cost only max_below via_buffer via_close arrival given seed_at exact_seed goes_on after_load after_delay after_weight first_from next_code next_cell emit list_from sum_below table_of rows_of layer_rows is_known label_weight label_steps labels_listed by_code places relabel_at relabel earlier waiting next_label at_sink relabelled layer_turn quiet_turn turn search_from most_sum most_turns start_labels search_side labelling exits_of reach_rows exits_at labels_at route_of outcome best routed routed_at tables strip case1 case3 case4 case7 case11 case12 with_skew skewed_case skewed3 cut_case with_setup setup_case
tests =
    record {
      own1 = refl;
      own4 = refl;
      next4 = refl;
      own7 = refl;
      heavy7 = refl;
      chain7 = refl;
      own11 = refl;
      next11 = refl;
      own12 = refl;
      late12 = refl;
      next12 = refl;
      own-skewed = refl;
      next-skewed = refl;
      own-cut = refl;
      wall-cut = refl;
      own-setup = refl;
      longest-setup = refl;
      light-setup = refl;
    }
