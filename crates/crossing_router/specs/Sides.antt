-- The two sides of a net that the checks have passed: what is asked of it, what the search of the source's side leaves, and what routing leaves.
use Rattle.std.specs.Prelude.{ℕ, ◌*◌, ◌≤◌, ◌≡◌, List, length}
use Rattle.rules.specs.Rules.{Rules}
use Rattle.best.specs.Best.{best}
use Rattle.costs.specs.Costs.{CostsOf}
use Rattle.rows.specs.Words.{KeptFrom}
use Rattle.answers.specs.Numbers.{CrossingAnswer}
use Rattle.problem.specs.declared.net.Net.{Net}
use Rattle.problem.specs.Net.{fifo_of, net_rules, NetReady}
use Rattle.search.specs.Search.{SideAsks}
use Rattle.emission.specs.declared.sides.Counts.{Counts}
use Rattle.emission.specs.Emission.{Aside}
use Rattle.crossing_router.specs.Route.{crossing_words, answer_for, visits_for, zeroed}

pub record TwoAsks (net : Net) (marks costs words : List ℕ) : Type 0 where
  pub ready : NetReady net marks
  pub two : net.clocks.fifos ≡ 1
  pub room : length marks * crossing_words ≤ length words
  pub costed : CostsOf net.problem.elements (fifo_of net) costs

-- After the source's side: its registers' labels are laid aside, and those of the FIFOs that lead there stand where the sink's side looks for them.
pub record FarDone (R : Rules) (n : ℕ) (old new : List ℕ) (r : Counts) : Type 0 where
  pub same : length new ≡ length old
  pub asks : SideAsks R n 0 r.exits new
  pub aside : Aside R n new r.registers
  pub rest : KeptFrom (n * crossing_words) old new

pub record CrossingDone (net : Net) (marks scratch scratch' visits visits' : List ℕ) (r : CrossingAnswer) : Type 0 where
  pub answer : r ≡ answer_for (net_rules net marks) net.clocks.period net.problem.elements.period (length visits) (best (net_rules net marks))
  pub zero-words : scratch' ≡ zeroed (length marks * crossing_words) scratch
  pub filled : visits' ≡ visits_for (best (net_rules net marks)) visits
