-- Writing the best route into the caller's visits, or nowhere, with its smallest spare figure and its registers on each side.
use Rattle.std.specs.Prelude.{ℕ, ◌+◌, ◌*◌, ◌≤◌, ◌<◌, ◌≡◌, cond, ◌&&◌, List, ◌∷◌, ◌++◌, ◌⊎◌, eqb, length, get_or}
use Rattle.rules.specs.Rules.{Rules, register_code, fifo_code}
use Rattle.rules.specs.Legal.{Route}
use Rattle.rules.specs.Ranking.{code_sevens, written}
use Rattle.rules.specs.Crossing.{sink_side, source_side}
use Rattle.rules.specs.Beginning.{Place}
use Rattle.rules.specs.Slack.{slacks_from, least_from, least_slack}
use Rattle.budget.specs.Done.{stage, After, Covers, Least, Labelled}
use Rattle.budget.specs.Emission.{FirstEnding, visit}
use Rattle.costs.specs.Costs.{CostsOf}
use Rattle.layout.specs.Layout.{labels_at, label_words, aside_at, cell_words}
use Rattle.rows.specs.Words.{Filled, KeptFrom}
use Rattle.labels.specs.Labels.{labels_of, labels_for, Ordered}
use Rattle.choice.specs.declared.State.{State}
use Rattle.problem.specs.declared.net.Net.{Net}
use Rattle.problem.specs.Net.{fifo_of}
use Rattle.table.specs.Problem.{NetReady, Room, net_rules}
use Rattle.search.specs.Turn.{Reaching}
use Rattle.choice.specs.Choice.{InRange}
use Rattle.reach.specs.declared.layers.Layers.{Layers}
use Rattle.reach.specs.Reach.{Held}
use Rattle.emission.specs.declared.sides.Counts.{Counts}
use Rattle.emission.specs.declared.sides.Tally.{Tally}
use Rattle.emission.specs.declared.Told.{Told}

-- Words lent for visits: room for these, or none at all
abbrev pub RoomOrNone : ℕ → ℕ → Type 0
RoomOrNone words lent = (words ≤ lent) ⊎ (lent ≡ 0)

-- Before `put_visit`: a visit's place is far below 2 ^ 64
pub record PutAsks (i cell lent : ℕ) : Type 0 where
  pub cell_fits : cell < 65536
  pub place_fits : i ≤ 10000000000
  pub fits : RoomOrNone (i + 2) lent

-- The registers' labels of the source's side, laid aside: complete, and in their order
pub record Aside (R : Rules) (n : ℕ) (words : List ℕ) (count : ℕ) : Type 0 where
  pub labels : (w t : ℕ) → Covers (After R 1 register_code) w t (labels_of n (n * aside_at) words)
  pub ordered : Ordered n (n * aside_at) words count
  pub last : R.fifos ≤ 1
  pub room : n * aside_at + n * label_words ≤ length words

-- After `pass`: with the FIFO's code the labels laid aside stand for this side's, and none of FIFOs
unfoldable pub counts_after : ℕ → ℕ → Counts → Counts
counts_after code aside left = cond {A = Counts} (eqb code fifo_code) (record { registers = aside; exits = 0 }) left

pub record PassAsks (n code : ℕ) (words : List ℕ) : Type 0 where
  pub few : n ≤ 1024
  pub room : code ≡ fifo_code → n * aside_at + n * label_words ≤ length words

pub record Passed (n code : ℕ) (old new : List ℕ) : Type 0 where
  pub same : length new ≡ length old
  pub stays : (code ≡ fifo_code → ⊥) → new ≡ old
  pub takes : code ≡ fifo_code → (k : ℕ) → k < n * label_words → get_or new (n * labels_at + k) 0 ≡ get_or old (n * aside_at + k) 0
  pub low : (k : ℕ) → k < n * labels_at → get_or new k 0 ≡ get_or old k 0
  pub high : (k : ℕ) → n * labels_at + n * label_words ≤ k → get_or new k 0 ≡ get_or old k 0

-- registers so far, after a visit with this code from this side
unfoldable pub tallied_after : Tally → ℕ → ℕ → Tally
tallied_after t side code =
    record {
      sink = t.sink + cond (eqb code register_code && eqb side 0) 1 0;
      source = t.source + cond (eqb code register_code) (cond (eqb side 0) 0 1) 0;
    }

-- the visits with a register's code that are still to come, on the sink's side and on the source's

unfoldable pub sink_to_come : ℕ → Route → ℕ
sink_to_come side vs = cond (eqb side 0) (code_sevens (sink_side vs)) 0

unfoldable pub source_to_come : ℕ → Route → ℕ
source_to_come side vs = cond (eqb side 0) (code_sevens (source_side vs)) (code_sevens vs)

-- where a state has come, in this span
abbrev pub place_in : ℕ → State → Place
place_in span s = record { cell = s.cell; span = span; fifos = s.side; stage = stage s.load.0 s.delay.0 }

-- the two ends of emission, at a state: more visits are to come, or the route is whole
pub data Onward (R : Rules) (k s : ℕ) (at : State) (made : Route) : Type 0 where
  goes : Least R at.side (R.weight at.side + at.weight) at.steps at.cell at.load.0 at.delay.0 → ((vs : Route) → FirstEnding R at.side (R.weight at.side + at.weight) at.steps at.cell at.load.0 at.delay.0 vs → FirstEnding R 0 (R.weight 0 + k) s R.sink R.start.load R.start.delay (made ++ vs)) → Onward R k s at made
  whole : at.steps ≡ 0 → FirstEnding R 0 (R.weight 0 + k) s R.sink R.start.load R.start.delay made → Onward R k s at made

-- the route of these visits after the sink
abbrev pub from_sink : Rules → Route → Route
from_sink R made = visit R.sink register_code ∷ made

-- After some visits: `made` are those after the sink, and the words hold the sink's and these, if there is room. The figure so far is the least of the spans that they close, and the registers are counted by their side.
pub record Emitting (R : Rules) (n k s aside : ℕ) (words₀ words : List ℕ) (visits₀ visits : List ℕ) (at : State) (layers : Layers) (place : ℕ) (left : Counts) (tally : Tally) : Type 0 where
  pub made : Route
  pub onward : Onward R k s at made
  pub in_range : InRange n at
  pub lighter : at.weight ≤ k
  pub whole : length made + at.steps ≡ s
  pub placed : place ≡ 2 * (length made + 1)
  pub filled : 2 * (s + 1) ≤ length visits₀ → Filled (λ i. get_or (written (from_sink R made)) i 0) 0 place visits₀ visits
  pub kept : length visits ≡ length visits₀
  pub span : ℕ
  pub slacks : (vs : Route) → least_slack R (from_sink R (made ++ vs)) ≡ least_from at.slack (slacks_from R (place_in span at) vs)
  pub sink : (vs : Route) → code_sevens (sink_side (from_sink R (made ++ vs))) ≡ 1 + tally.sink + sink_to_come at.side vs
  pub source : (vs : Route) → code_sevens (source_side (from_sink R (made ++ vs))) ≡ tally.source + source_to_come at.side vs
  pub counted : tally.sink + tally.source ≤ length made
  pub before : ℕ
  pub labels : Labelled R at.side k before (labels_for n left.exits words)
  pub held : Held R n at.side left.registers left.exits words layers
  -- the FIFO is still ahead: this is the sink's side, and the labels beyond it are laid aside
  pub ahead : 0 < left.exits → (at.side ≡ 0) × Aside R n words aside
  pub sides : at.side ≤ 1
  pub same : length words ≡ length words₀
  pub rest : KeptFrom (n * cell_words) words₀ words

-- After `emit`: the visits after the sink are the first ending of these figures, in written order. The first words are the route's visits, two words each, if there is room; its smallest spare figure and its registers are told.
pub record Emitted (R : Rules) (n k s : ℕ) (words₀ words : List ℕ) (visits₀ visits : List ℕ) (told : Told) : Type 0 where
  pub made : Route
  pub is_first : FirstEnding R 0 (R.weight 0 + k) s R.sink R.start.load R.start.delay made
  pub slack : told.slack ≡ least_slack R (from_sink R made)
  pub sink : code_sevens (sink_side (from_sink R made)) ≡ 1 + told.sink
  pub source : code_sevens (source_side (from_sink R made)) ≡ told.source
  pub kept : length visits ≡ length visits₀
  pub filled : 2 * (s + 1) ≤ length visits₀ → Filled (λ i. get_or (written (from_sink R made)) i 0) 0 (2 * (s + 1)) visits₀ visits
  pub same : length words ≡ length words₀
  pub rest : KeptFrom (n * cell_words) words₀ words

-- Before `emit`: the search has found these figures, and the visits have room, or no words are lent. Where a FIFO is ahead, the labels beyond it are laid aside.
pub record EmitAsks (net : Net) (marks costs : List ℕ) (left : Counts) (aside weight steps : ℕ) (words visits : List ℕ) : Type 0 where
  pub ready : NetReady net marks
  pub costed : CostsOf net.problem.elements (fifo_of net) costs
  pub room : Room (length marks) words
  pub reaching : Reaching (net_rules net marks) (length marks) left.exits words weight steps left.registers
  pub ahead : 0 < left.exits → Aside (net_rules net marks) (length marks) words aside
  pub fits : RoomOrNone (2 * (steps + 1)) (length visits)
