-- R1 to R13, R12 as it was before C-17, and R1 and R3 with skew 1, each computed, and the theorems that walk the lists. Where R1 closes.
use Prim.Native.Nat.{ℕ}
use mathlib.Core.Path.{◌≡◌, refl}
use mathlib.Core.List.{List, [], ◌∷◌}
use Rattle.plan.specs.Plan.{cells, row, column, marks_at, blocked, tap, takes_register, cut_right, cut_below}
use Rattle.plan.specs.Joined.{joins_right, joins_below, both_in, horizontal, vertical, joined}
use Rattle.timing.specs.Formulas.{wire_delay, gate_delay, skewed, wire_load, buffer_driver, buffer_load, register_driver, register_load, setup_delay}
use Rattle.timing.specs.Elements.{wire_of, driver_of, buffer_of, register_of}
use Rattle.timing.specs.Relaxed.{with_skew}
use Rattle.timing.specs.Valid.{Valid}
use Rattle.timing.specs.Slack.{slack_of, smaller}
use Rattle.rules.specs.Rules.{Rules, is_closing, side_after, rules_of, site_of, wire_between}
use Rattle.rules.specs.Legal.{may_stand, is_end, arrive, buffered, leave, closing, span_after}
use Rattle.rules.specs.Ranking.{code_sevens, registers, steps, latency}
use Rattle.rules.specs.Beginning.{next_place, place_from, start_place, place_after}
use Rattle.rules.specs.Slack.{slack_at, slacks_from, slacks, least_from, least_slack}
use Rattle.rules.specs.KeepOut.{tap_last}
use Rattle.budget.specs.Table.{budget_sum, load_at, delay_at, buffer_cost, load_of, close_cost, only, max_below, via_buffer, via_close, arrival, given}
use Rattle.budget.specs.Done.{seed_at}
use Rattle.budget.specs.Emission.{exact_seed, goes_on, after_load, after_delay, after_weight, visit, first_from, next_code, next_cell, emit}
use Rattle.lists.specs.Lists.{sum_below}
use Rattle.best.specs.Rows.{list_from, table_of, rows_of, layer_rows}
use Rattle.best.specs.Labels.{is_known, label_weight, label_steps, labels_listed, by_code, places, relabel_at, relabel, earlier, waiting, next_label}
use Rattle.best.specs.Search.{at_sink, relabelled, layer_turn, quiet_turn, turn, search_from, most_sum, most_turns, start_labels, search_side, labelling, exits_of}
use Rattle.best.specs.Best.{found, none, reach_rows, exits_at, labels_at, route_of, outcome, best}
use Rattle.best.proofs.Document01.{rules-best, rules-none}
use Rattle.best.proofs.KeepOut.{before-best}
use Rattle.cases.specs.Cases.{Expected, route, no_route, Case, Meets, rules_in, IsRight, Each, more, closes_at, tables, strip, straight, case1, close1, case2, case3, case4, case5, case6, case7, case8, case9, case10, case11, case12, before12, rules_before, case13, cases, skewed_case, skewed1, skewed3, skewed_cases}
use Rattle.cases.specs.Cases.{none as last}
use Rattle.cases.proofs.Tables.{valid, valid12, valid-skewed}

-- what is computed: the answer of `best`, and the route's figures
abbrev Agrees : Rules → ℕ → Expected → Type 0
Agrees R period (route k s t z r) = (best R ≡ found r) × (registers r ≡ k) × (steps r ≡ s) × (latency period r ≡ t) × (least_slack R r ≡ z)
Agrees R period no_route = best R ≡ none

computed : Each (λ c. Agrees (rules_in c) c.elements.period c.expected) cases × Each (λ c. Agrees (rules_in c) c.elements.period c.expected) skewed_cases × Agrees (rules_before case12) case12.elements.period before12
unfolding cells row column marks_at blocked tap takes_register cut_right cut_below joins_right joins_below both_in horizontal vertical joined wire_of buffer_of register_of driver_of wire_delay gate_delay skewed wire_load buffer_driver buffer_load register_driver register_load setup_delay is_closing side_after rules_of site_of wire_between tap_last may_stand is_end budget_sum load_at delay_at buffer_cost load_of close_cost only max_below via_buffer via_close arrival given seed_at exact_seed goes_on after_load after_delay after_weight first_from next_code next_cell emit list_from sum_below table_of rows_of layer_rows is_known label_weight label_steps labels_listed by_code places relabel_at relabel earlier waiting next_label at_sink relabelled layer_turn quiet_turn turn search_from most_sum most_turns start_labels search_side labelling exits_of reach_rows exits_at labels_at route_of outcome best tables strip straight code_sevens registers steps latency arrive buffered leave closing span_after next_place start_place slack_of smaller slack_at slacks_from slacks least_from least_slack case1 case2 case3 case4 case5 case6 case7 case8 case9 case10 case11 case12 before12 case13 with_skew skewed_case skewed1 skewed3
computed = (
  more case1 (refl, refl, refl, refl, refl)
      (more case2 (refl, refl, refl, refl, refl)
      (more case3 (refl, refl, refl, refl, refl)
      (more case4 refl
      (more case5 (refl, refl, refl, refl, refl)
      (more case6 (refl, refl, refl, refl, refl)
      (more case7 refl
      (more case8 (refl, refl, refl, refl, refl)
      (more case9 (refl, refl, refl, refl, refl)
      (more case10 (refl, refl, refl, refl, refl)
      (more case11 refl
      (more case12 refl
      (more case13 (refl, refl, refl, refl, refl) last)))))))))))),
  more skewed1 (refl, refl, refl, refl, refl) (more skewed3 refl last),
  (refl, refl, refl, refl, refl),
)

module _ {P Q S : Case → Type 0} (f : (c : Case) → P c → Q c → S c) where
  together : {cs : List Case} → Each P cs → Each Q cs → Each S cs
  together last last = last
  together (more c p ps) (more d q qs) = more c (f c p q) (together ps qs)

right : (c : Case) → Valid c.elements → Agrees (rules_in c) c.elements.period c.expected → IsRight c
right c ok h = go c.expected h
  where
    go : (x : Expected) → Agrees (rules_in c) c.elements.period x → Meets (rules_in c) c.elements.period x
    go (route k s t z r) h =
        record { is_best = (rules-best c.plan c.elements c.source c.sink ok r).0 h.0; registers = h.1; steps = h.2; latency = h.3; slack = h.4 }
    go no_route h = (rules-none c.plan c.elements c.source c.sink ok).0 h

-- Document 01's worked routes are right.
pub worked-routes : Each IsRight cases
worked-routes = together right valid computed.0

-- So are document 02's, with skew 1.
pub skewed-routes : Each IsRight skewed_cases
skewed-routes = together right valid-skewed computed.1

-- R12 had document 01's route, by the rules of before C-17; by those of now it is 7, as one of the list.
pub r12-before : Meets (rules_before case12) case12.elements.period before12
unfolding before12
r12-before =
    let h = computed.2 in
    record { is_best = (before-best case12.plan case12.elements case12.source case12.sink valid12 _).0 h.0; registers = h.1; steps = h.2; latency = h.3; slack = h.4 }

-- R1 closes at 52 half-ticks, which is 2T.
pub first-close : closes_at (rules_in case1) (visit 2 7) (visit 1 0 ∷ []) 0 ≡ close1
unfolding closes_at place_after place_from start_place next_place is_closing side_after arrive leave closing case1 strip tables wire_of register_of driver_of wire_delay wire_load gate_delay skewed register_driver register_load setup_delay rules_of wire_between cells row column marks_at cut_right cut_below joins_right joins_below both_in horizontal
first-close = refl
