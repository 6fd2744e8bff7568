-- The three outcomes of routing: no route, no room for the visits, the route written.
use Prim.Native.Nat.{ℕ, ◌+◌, ◌*◌}
use mathlib.Core.Path.{◌≡◌, sym, ◌∙◌}
use mathlib.Core.Bool.{Bool, true, false}
use mathlib.Core.List.{List}
use lib.Dec.{leb}
use lib.ListN.{length}
use Rattle.rules.specs.Rules.{Rules}
use Rattle.rules.specs.Ranking.{steps, latency}
use Rattle.rules.specs.Slack.{least_slack}
use Rattle.best.specs.Best.{none, best}
use Rattle.answers.specs.declared.answer.Figures.{Figures}
use Rattle.answers.specs.Numbers.{Answer}
use Rattle.answers.specs.declared.refusal.Refusal.{Refusal}
use Rattle.emission.specs.Emission.{from_sink}
use Rattle.problem.specs.declared.Problem.{Problem}
use Rattle.problem.specs.Problem.{rules_for}
use Rattle.router.specs.Route.{cell_words, figures_of, answer_for, visits_for, zeroed}
use Rattle.router.specs.Ready.{RouteDone}
use Rattle.router.specs.Writing.{Writes}
use Rattle.router.specs.declared.writing.Written.{Written}
use Rattle.router.proofs.BestRoute.{BestIs}
use Rattle.answers.specs.declared.answer.RouteAnswer.{RouteAnswer}

module _ (p : Problem) (marks scratch scratch' visits : List ℕ) where
  abbrev R : Rules
  R = rules_for p marks

  pub done_none : scratch' ≡ zeroed (length marks * cell_words) scratch → best R ≡ none → RouteDone p marks scratch scratch' visits visits (RouteAnswer.Refused Refusal.NoRoute)
  unfolding answer_for visits_for
  done_none zeros e = record { answer = rw e; zero-words = zeros; filled = rw e }

  module _ (visits' : List ℕ) (k s : ℕ) (b : BestIs R p.elements.period k s) (w : Written) (d : Writes R k s (length marks * cell_words) scratch scratch' visits visits' w) (made : from_sink R d.made ≡ b.route) where
    abbrev figures : Figures
    figures = record { registers = k; steps = s; latency = p.elements.period * (k + 1); slack = w.told.slack }

    -- the figures that the code counts are those of the route
    figures-are : figures_of R p.elements.period b.route ≡ figures
    unfolding figures_of latency
    figures-are =
        let least : w.told.slack ≡ least_slack R b.route = rw made at d.slack in
        rw (b.registers_are, b.steps_are, ← least)

    test : (x : Bool) → w.fits ≡ x → leb (2 * (steps b.route + 1)) (length visits) ≡ x
    test x e = rw b.steps_are (sym d.fits ∙ e)

    left : visits' ≡ visits_for (best R) visits
    unfolding visits_for
    left = rw (b.is_found, visits_for, b.steps_are) (rw made at d.filled)

    pub done-no-room : w.fits ≡ false → RouteDone p marks scratch scratch' visits visits' (RouteAnswer.NoRoom figures)
    unfolding answer_for
    done-no-room e = record { answer = rw (b.is_found, answer_for, test false e, figures-are); zero-words = d.zero-words; filled = left }

    pub done-found : w.fits ≡ true → RouteDone p marks scratch scratch' visits visits' (RouteAnswer.Found figures)
    unfolding answer_for
    done-found e = record { answer = rw (b.is_found, answer_for, test true e, figures-are); zero-words = d.zero-words; filled = left }
