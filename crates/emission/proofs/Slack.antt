-- The smallest figure, one visit on from a state.
use Prim.Native.Nat.{ℕ, ◌+◌}
use mathlib.Core.Bool.{Bool, true, false, cond}
use mathlib.Core.List.{◌∷◌}
use mathlib.Core.Path.{◌≡◌, refl, sym, ap₂, ◌∙◌}
use lib.Dec.{eqb}
use lib.IntN.{ℤ}
use Rattle.rules.specs.Rules.{Stage, Rules, no_gate, is_closing, side_after}
use Rattle.rules.specs.Legal.{Visit, Route, arrive, buffered, leave, span_after}
use Rattle.rules.specs.Beginning.{next_place}
use Rattle.rules.specs.Slack.{slack_at, slack_after, slacks_from, least_from}
use Rattle.rules.proofs.Slack.{least-next}
use Rattle.budget.specs.Table.{load_at, delay_at, buffer_cost, load_of}
use Rattle.budget.specs.Done.{stage, Lawful}
use Rattle.budget.specs.Emission.{after_load, after_delay, visit}
use Rattle.choice.specs.declared.State.{State}
use Rattle.choice.specs.Choice.{place_at}
use Rattle.emission.specs.Emission.{place_in}

leave-after : (R : Rules) (c n l d code : ℕ) → leave R (arrive R c (stage l d) n) code ≡ stage (after_load R c n l code) (after_delay R c n l d code)
unfolding leave arrive buffered after_load after_delay load_at delay_at load_of buffer_cost
leave-after R c n l d code = go (eqb code no_gate) (is_closing code)
  where
    go : (a b : Bool) → cond a (arrive R c (stage l d) n) (cond b (R.fresh code) (buffered R (arrive R c (stage l d) n) code)) ≡ stage (cond a (load_at R c n l) (cond b (R.fresh code).load (load_of R code))) (cond a (delay_at R c n l d) (cond b (R.fresh code).delay (delay_at R c n l d + buffer_cost R code (load_at R c n l))))
    go true b = refl
    go false true = refl
    go false false = refl

-- every span of a side has the bound of the first
steady-after : (R : Rules) → Lawful R → (span : ℕ) (at : State) (least : ℤ) (v : Visit) → slack_after R (place_at at) least v ≡ slack_after R (place_in span at) least v
unfolding slack_after slack_at
steady-after R law span at least v = rw (law.steady span at.side)

module _ (R : Rules) (law : Lawful R) (at to : State) (code span : ℕ) (load : to.load.0 ≡ after_load R at.cell to.cell at.load.0 code) (side : to.side ≡ side_after at.side code) (delay : to.delay.0 ≡ after_delay R at.cell to.cell at.load.0 at.delay.0 code) (slack : to.slack ≡ slack_after R (place_at at) at.slack (visit to.cell code)) where
  place-next : next_place R (place_in span at) (visit to.cell code) ≡ place_in (span_after span (visit to.cell code)) to
  unfolding next_place
  place-next =
      ap₂ (λ (f : ℕ) (s : Stage). record { cell = to.cell; span = span_after span (visit to.cell code); fifos = f; stage = s }) (sym side) (leave-after R at.cell to.cell at.load.0 at.delay.0 code ∙ sym same)
    where
      same : stage to.load.0 to.delay.0 ≡ stage (after_load R at.cell to.cell at.load.0 code) (after_delay R at.cell to.cell at.load.0 at.delay.0 code)
      same = λ i. record { load = load i; delay = delay i }

  pub slacks-next : (vs : Route) → least_from at.slack (slacks_from R (place_in span at) (visit to.cell code ∷ vs)) ≡ least_from to.slack (slacks_from R (place_in (span_after span (visit to.cell code)) to) vs)
  slacks-next vs =
      least-next R (place_in span at) at.slack (visit to.cell code) vs
      ∙ rw (place-next, sym (slack ∙ steady-after R law span at at.slack (visit to.cell code)))
