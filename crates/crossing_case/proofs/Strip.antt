-- The best routes of the strip, computed.
use mathlib.Core.Path.{◌≡◌, refl}
use Rattle.plan.specs.Plan.{cells, row, column, marks_at, blocked, tap, takes_register, cut_right, cut_below}
use Rattle.plan.specs.Joined.{joins_right, joins_below, both_in, horizontal, vertical, joined}
use Rattle.timing.specs.Formulas.{wire_delay, gate_delay, skewed, wire_load, buffer_driver, buffer_load, register_driver, register_load, setup_delay}
use Rattle.timing.specs.Elements.{wire_of, driver_of, buffer_of, register_of}
use Rattle.rules.specs.Rules.{is_closing, side_after, rules_of, site_of, wire_between}
use Rattle.rules.specs.Legal.{may_stand, is_end}
use Rattle.rules.specs.Crossing.{is_fifo, gate_for, period_on, rules_between}
use Rattle.budget.specs.Table.{budget_sum, load_at, delay_at, buffer_cost, load_of, close_cost, only, max_below, via_buffer, via_close, arrival, given}
use Rattle.budget.specs.Done.{seed_at}
use Rattle.budget.specs.Emission.{exact_seed, goes_on, after_load, after_delay, after_weight, first_from, next_code, next_cell, emit}
use Rattle.lists.specs.Lists.{sum_below}
use Rattle.best.specs.Rows.{list_from, table_of, rows_of, layer_rows}
use Rattle.best.specs.Labels.{is_known, label_weight, label_steps, labels_listed, by_code, places, relabel_at, relabel, earlier, waiting, next_label}
use Rattle.best.specs.Search.{at_sink, relabelled, layer_turn, quiet_turn, turn, search_from, most_sum, most_turns, start_labels, search_side, labelling, exits_of}
use Rattle.best.specs.Best.{found, reach_rows, exits_at, labels_at, route_of, outcome, best}
use Rattle.cases.specs.Cases.{tables}
use Rattle.crossing_case.specs.Strip.{two_clocks, crossed, crossed_past}

pub crossing-strip : (best (two_clocks 2 12 26) ≡ found crossed) × (best (two_clocks 3 12 26) ≡ found crossed_past)
unfolding cells row column marks_at blocked tap takes_register cut_right cut_below joins_right joins_below both_in horizontal vertical joined wire_of buffer_of register_of driver_of wire_delay gate_delay skewed wire_load buffer_driver buffer_load register_driver register_load setup_delay is_closing side_after rules_of site_of wire_between is_fifo gate_for period_on rules_between may_stand is_end budget_sum load_at delay_at buffer_cost load_of close_cost only max_below via_buffer via_close arrival given seed_at exact_seed goes_on after_load after_delay after_weight first_from next_code next_cell emit list_from sum_below table_of rows_of layer_rows is_known label_weight label_steps labels_listed by_code places relabel_at relabel earlier waiting next_label at_sink relabelled layer_turn quiet_turn turn search_from most_sum most_turns start_labels search_side labelling exits_of reach_rows exits_at labels_at route_of outcome best tables two_clocks crossed crossed_past
crossing-strip = (refl, refl)
