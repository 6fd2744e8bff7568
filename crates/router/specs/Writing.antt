-- A route whose figures the search has found, written into the visits if there is room; then the scratch words are cleared. For the rules of any net.
use Rattle.std.specs.Prelude.{ℕ, ◌+◌, ◌*◌, ◌≤◌, ◌<◌, ◌≡◌, cond, List, ◌++◌, leb, length, drop}
use Rattle.rules.specs.Rules.{Rules}
use Rattle.rules.specs.Legal.{Route}
use Rattle.rules.specs.Ranking.{code_sevens, written}
use Rattle.rules.specs.Slack.{least_slack}
use Rattle.rules.specs.Crossing.{sink_side, source_side}
use Rattle.budget.specs.Emission.{FirstEnding}
use Rattle.costs.specs.Costs.{CostsOf}
use Rattle.problem.specs.declared.net.Net.{Net}
use Rattle.problem.specs.Net.{fifo_of, net_rules, NetReady}
use Rattle.search.specs.Turn.{Reaching}
use Rattle.emission.specs.declared.sides.Counts.{Counts}
use Rattle.emission.specs.Emission.{from_sink, Aside}
use Rattle.router.specs.Route.{cell_words, zeroed}
use Rattle.router.specs.declared.writing.Written.{Written}

-- Before: as emission, and `most` words are to be cleared, a cell's own among them.
pub record WriteAsks (net : Net) (marks costs : List ℕ) (labels : Counts) (aside weight steps most : ℕ) (words : List ℕ) : Type 0 where
  pub ready : NetReady net marks
  pub costed : CostsOf net.problem.elements (fifo_of net) costs
  pub reaching : Reaching (net_rules net marks) (length marks) labels.exits words weight steps labels.registers
  pub ahead : 0 < labels.exits → Aside (net_rules net marks) (length marks) words aside
  pub own : length marks * cell_words ≤ most
  pub within : most ≤ length words

-- After: `made` are the visits after the sink, the first ending of these figures in written order.
pub record Writes (R : Rules) (k s most : ℕ) (scratch scratch' visits visits' : List ℕ) (r : Written) : Type 0 where
  pub made : Route
  pub is_first : FirstEnding R 0 (R.weight 0 + k) s R.sink R.start.load R.start.delay made
  pub slack : r.told.slack ≡ least_slack R (from_sink R made)
  pub sink : code_sevens (sink_side (from_sink R made)) ≡ 1 + r.told.sink
  pub source : code_sevens (source_side (from_sink R made)) ≡ r.told.source
  pub zero-words : scratch' ≡ zeroed most scratch
  pub fits : r.fits ≡ leb (2 * (s + 1)) (length visits)
  pub filled : visits' ≡ cond (leb (2 * (s + 1)) (length visits)) (written (from_sink R made) ++ drop (length (written (from_sink R made))) visits) visits
