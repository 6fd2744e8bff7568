-- Document 01's job and what it prints, whole, with the spare figure of document 02.
use Prim.Native.Nat.{ℕ}
use mathlib.Core.Path.{◌≡◌, refl}
use mathlib.Core.List.{List, [], ◌∷◌}
use Rattle.plan.specs.Plan.{cells, row, column, marks_at, blocked, tap, takes_register, cut_right, cut_below}
use Rattle.plan.specs.Check.{grid_fault, length_fault, invalid_mark, invalid_below, mark_fault, checked_plan}
use Rattle.plan.specs.Joined.{joins_right, joins_below, both_in, horizontal, vertical, joined}
use Rattle.timing.specs.Formulas.{wire_delay, gate_delay, skewed, wire_load, buffer_driver, buffer_load, register_driver, register_load, setup_delay}
use Rattle.timing.specs.Slack.{slack_of, smaller}
use Rattle.timing.specs.Elements.{wire_in_range, register_in_range, buffer_in_range, wire_of, driver_of, buffer_of, register_of}
use Rattle.rules.specs.Rules.{is_closing, side_after, rules_of, site_of, wire_between}
use Rattle.rules.specs.Legal.{may_stand, is_end, arrive, buffered, leave, closing, span_after}
use Rattle.rules.specs.Beginning.{next_place, start_place}
use Rattle.rules.specs.Slack.{slack_at, slacks_from, slacks, least_from, least_slack}
use Rattle.rules.specs.Ranking.{code_sevens, registers, steps, latency, written}
use Rattle.budget.specs.Table.{budget_sum, load_at, delay_at, buffer_cost, load_of, close_cost, only, max_below, via_buffer, via_close, arrival, given}
use Rattle.budget.specs.Done.{seed_at}
use Rattle.budget.specs.Emission.{exact_seed, goes_on, after_load, after_delay, after_weight, first_from, next_code, next_cell, emit}
use Rattle.lists.specs.Lists.{sum_below}
use Rattle.best.specs.Rows.{list_from, table_of, rows_of, layer_rows}
use Rattle.best.specs.Labels.{is_known, label_weight, label_steps, labels_listed, by_code, places, relabel_at, relabel, earlier, waiting, next_label}
use Rattle.best.specs.Search.{at_sink, relabelled, layer_turn, quiet_turn, turn, search_from, most_sum, most_turns, start_labels, search_side, labelling, exits_of}
use Rattle.best.specs.Best.{reach_rows, exits_at, labels_at, route_of, outcome, best}
use Rattle.answers.specs.Tables.{period_in_range, wire_ok, register_ok, buffer_ok, buffer_fault, buffers_fault, list_fault, tables_fault, wire_from, register_from, buffer_from, listed_buffer, six_places, elements_of}
use Rattle.answers.specs.Ends.{ends_fault}
use Rattle.router.specs.Route.{rules_asked, cells_asked, after_plan, after_tables, question_checks, checks, figures_of, answer_for, visits_for, answer_after, answer_under, answer_of, visits_after, visits_under, visits_of}
use Rattle.numbers.specs.Numbers.{closed, third_group, second_group, number}
use Rattle.numbers.specs.Runs.{prepend, one_more, run}
use Rattle.job.specs.Fields.{tables_of, buffer_record_at, buffer_list_of}
use Rattle.job.specs.Job.{with_number, with_run, asked_of, question_from, ended, buffers_from, count_from, tables_from, marks_from, sized, read_job}
use Rattle.text.specs.Decimal.{digit, spelled, decimal, signed}
use Rattle.text.specs.Answers.{refused_line, refusal_text, figures_line, visit_line, visit_lines, answer_text}
use Rattle.printing.specs.Printed.{blank, reading_text, printed}

-- "3 1 0 2 0 1 2 1 1 2 3 2 3 25 63 0 2 0, one byte each", with the skew 0 after 25 (document 02, C-16)
abbrev job : List ℕ
job = 3 ∷ 1 ∷ 0 ∷ 2 ∷ 0 ∷ 1 ∷ 2 ∷ 1 ∷ 1 ∷ 2 ∷ 3 ∷ 2 ∷ 3 ∷ 25 ∷ 0 ∷ 63 ∷ 0 ∷ 2 ∷ 0 ∷ []

-- route 1 2 50 26, 2 7, 1 7, 0 7, a newline after each
abbrev lines : List ℕ
lines = 114 ∷ 111 ∷ 117 ∷ 116 ∷ 101 ∷ 32 ∷ 49 ∷ 32 ∷ 50 ∷ 32 ∷ 53 ∷ 48 ∷ 32 ∷ 50 ∷ 54 ∷ 10 ∷ 50 ∷ 32 ∷ 55 ∷ 10 ∷ 49 ∷ 32 ∷ 55 ∷ 10 ∷ 48 ∷ 32 ∷ 55 ∷ 10 ∷ []

pub printed-example : printed job ≡ lines
unfolding grid_fault length_fault invalid_mark invalid_below mark_fault checked_plan wire_in_range register_in_range buffer_in_range written period_in_range wire_ok register_ok buffer_ok buffer_fault buffers_fault list_fault tables_fault wire_from register_from buffer_from listed_buffer six_places elements_of ends_fault rules_asked cells_asked after_plan after_tables question_checks checks figures_of answer_for visits_for answer_after answer_under answer_of visits_after visits_under visits_of closed third_group second_group number prepend one_more run tables_of buffer_list_of buffer_record_at with_number with_run asked_of question_from ended buffers_from count_from tables_from marks_from sized read_job digit spelled decimal refused_line refusal_text figures_line visit_line visit_lines answer_text blank reading_text printed cells row column marks_at blocked tap takes_register cut_right cut_below joins_right joins_below both_in horizontal vertical joined wire_of buffer_of register_of driver_of wire_delay gate_delay skewed wire_load buffer_driver buffer_load register_driver register_load setup_delay is_closing side_after rules_of site_of wire_between may_stand is_end budget_sum load_at delay_at buffer_cost load_of close_cost only max_below via_buffer via_close arrival given seed_at exact_seed goes_on after_load after_delay after_weight first_from next_code next_cell emit list_from sum_below table_of rows_of layer_rows is_known label_weight label_steps labels_listed by_code places relabel_at relabel earlier waiting next_label at_sink relabelled layer_turn quiet_turn turn search_from most_sum most_turns start_labels search_side labelling exits_of reach_rows exits_at labels_at route_of outcome best code_sevens registers steps latency arrive buffered leave closing span_after next_place start_place slack_at slacks_from slacks least_from least_slack slack_of smaller signed
printed-example = refl
