-- The three outcomes of routing between two clocks: no route, no room for the visits, the route written.
use Prim.Native.Nat.{ℕ, ◌+◌, ◌-◌, ◌*◌}
use mathlib.Core.Path.{◌≡◌, sym, ◌∙◌}
use mathlib.Core.Bool.{Bool, true, false}
use mathlib.Core.List.{List}
use native.Mathlib.Omega.{arith}
use lib.Dec.{leb}
use lib.ListN.{length}
use Rattle.rules.specs.Rules.{Rules}
use Rattle.rules.specs.Legal.{Route}
use Rattle.rules.specs.Ranking.{code_sevens, steps}
use Rattle.rules.specs.Slack.{least_slack}
use Rattle.rules.specs.Crossing.{sink_side, source_side, sink_registers, source_registers, crossing_latency}
use Rattle.best.specs.Best.{none, best}
use Rattle.answers.specs.declared.refusal.Refusal.{Refusal}
use Rattle.answers.specs.declared.answer.CrossingFigures.{CrossingFigures}
use Rattle.answers.specs.Numbers.{CrossingAnswer}
use Rattle.emission.specs.Emission.{from_sink}
use Rattle.problem.specs.declared.net.Net.{Net}
use Rattle.problem.specs.Net.{net_rules}
use Rattle.router.specs.Writing.{Writes}
use Rattle.router.specs.declared.writing.Written.{Written}
use Rattle.crossing_router.specs.Route.{crossing_words, figures_of, answer_for, visits_for, zeroed}
use Rattle.crossing_router.specs.Sides.{CrossingDone}
use Rattle.crossing_router.proofs.BestCrossing.{BestIs}
use Rattle.answers.specs.declared.answer.RouteAnswer.{RouteAnswer}

module _ (net : Net) (marks scratch scratch' visits : List ℕ) where
  abbrev R : Rules
  R = net_rules net marks

  abbrev latency_of : Route → ℕ
  latency_of = crossing_latency net.clocks.period net.problem.elements.period

  pub done_none : scratch' ≡ zeroed (length marks * crossing_words) scratch → best R ≡ none → CrossingDone net marks scratch scratch' visits visits (RouteAnswer.Refused Refusal.NoRoute)
  unfolding answer_for visits_for
  done_none zeros e = record { answer = rw e; zero-words = zeros; filled = rw e }

  module _ (visits' : List ℕ) (k s : ℕ) (b : BestIs R latency_of (R.weight 0 + k) s) (w : Written) (d : Writes R k s (length marks * crossing_words) scratch scratch' visits visits' w) (made : from_sink R d.made ≡ b.route) where
    abbrev figures : CrossingFigures
    figures = record { source = w.told.source - 1; sink = w.told.sink; steps = s; latency = R.weight 0 + k; slack = w.told.slack }

    -- the figures that the code counts are those of the route
    figures-are : figures_of R net.clocks.period net.problem.elements.period b.route ≡ figures
    unfolding figures_of sink_registers source_registers
    figures-are =
        let least : w.told.slack ≡ least_slack R b.route = rw made at d.slack in
        let near : code_sevens (sink_side b.route) ≡ 1 + w.told.sink = rw made at d.sink in
        let far : code_sevens (source_side b.route) ≡ w.told.source = rw made at d.source in
        let less : 1 + w.told.sink - 1 ≡ w.told.sink = omega arith in
        rw (near, far, less, b.cost_is, b.steps_are, ← least)

    test : (x : Bool) → w.fits ≡ x → leb (2 * (steps b.route + 1)) (length visits) ≡ x
    test x e = rw b.steps_are (sym d.fits ∙ e)

    left : visits' ≡ visits_for (best R) visits
    unfolding visits_for
    left = rw (b.is_found, visits_for, b.steps_are) (rw made at d.filled)

    pub done-no-room : w.fits ≡ false → CrossingDone net marks scratch scratch' visits visits' (RouteAnswer.NoRoom figures)
    unfolding answer_for
    done-no-room e = record { answer = rw (b.is_found, answer_for, test false e, figures-are); zero-words = d.zero-words; filled = left }

    pub done-found : w.fits ≡ true → CrossingDone net marks scratch scratch' visits visits' (RouteAnswer.Found figures)
    unfolding answer_for
    done-found e = record { answer = rw (b.is_found, answer_for, test true e, figures-are); zero-words = d.zero-words; filled = left }
