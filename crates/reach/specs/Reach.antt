-- Emission's table of the current span: the budget rows hold the table of `Reaches R m f k s`, m the labels in the words, f the side.
-- The seeds of a span with weight k to go after it are the labels of weight k. They wait in the orders of both sets and come in by their steps.
use Rattle.std.specs.Prelude.{ℕ, suc, ◌*◌, ◌≤◌, ◌<◌, ◌≡◌, Bool, ◌&&◌, ◌⊎◌, List, T, eqb, leb, length, get_or}
use Rattle.rules.specs.Rules.{Rules, register_code, fifo_code}
use Rattle.plan.specs.Apart.{apart_by}
use Rattle.budget.specs.Done.{NotAfter}
use Rattle.budget.specs.Table.{Table, RepresentsRow}
use Rattle.budget.specs.Cone.{RepresentsIn, in_cone}
use Rattle.budget.specs.Emission.{exact_seed, Reaches}
use Rattle.budget.specs.Colours.{LabelsInStep}
use Rattle.costs.specs.Costs.{row_words, CostsOf}
use Rattle.layout.specs.Layout.{arrival_at, labels_at, exits_at, aside_at, active_at, listed_at, trail_at, cell_words}
use Rattle.rows.specs.Words.{Kept, KeptFrom}
use Rattle.trail.specs.declared.Trail.{Trail}
use Rattle.trail.specs.Trail.{Sound, History}
use Rattle.table.specs.Problem.{net_rules, NetReady, Room, budget_of, seed_of}
use Rattle.table.specs.Layer.{ActiveIn}
use Rattle.table.specs.Colours.{Coloured}
use Rattle.problem.specs.declared.net.Net.{Net}
use Rattle.problem.specs.Net.{fifo_of}
use Rattle.reach.specs.declared.layers.Layers.{Layers}
use Rattle.labels.specs.Labels.{weight_of, steps_of, order_of, labels_of, labels_for, SetIn, Ordered}

-- the weight and the steps of the label at place i of the order

abbrev pub weight_at : ℕ → ℕ → List ℕ → ℕ → ℕ
weight_at n set words i = weight_of n set words (order_of n set words i)

abbrev pub steps_at : ℕ → ℕ → List ℕ → ℕ → ℕ
steps_at n set words i = steps_of n set words (order_of n set words i)

-- r is the first place of the order, up to `count`, whose label has at least this weight
pub record FirstWith (n set : ℕ) (words : List ℕ) (count weight r : ℕ) : Type 0 where
  pub within : r ≤ count
  pub lighter : (i : ℕ) → i < r → weight_at n set words i < weight
  pub enough : (i : ℕ) → r ≤ i → i < count → weight ≤ weight_at n set words i

-- the order of a set, up to `count`, in the words
abbrev pub OrderIn : ℕ → ℕ → List ℕ → ℕ → Type 0
OrderIn n set words count = Ordered n set words count × SetIn n set words

-- so of the FIFOs, where there are labels of them
abbrev pub ExitsIn : ℕ → List ℕ → ℕ → Type 0
ExitsIn n words exits = 0 < exits → OrderIn n (n * exits_at) words exits

-- of both sets
abbrev pub BothIn : ℕ → List ℕ → ℕ → ℕ → Type 0
BothIn n words count exits = OrderIn n (n * labels_at) words count × ExitsIn n words exits

-- of the FIFOs; with no label of them the first place is the end
pub record FirstExit (n : ℕ) (words : List ℕ) (exits weight r : ℕ) : Type 0 where
  pub within : r ≤ exits
  pub first : 0 < exits → FirstWith n (n * exits_at) words exits weight r

-- the label at `at`, if there is one and it has this weight, has at least u steps
abbrev pub HeadFrom : ℕ → ℕ → List ℕ → ℕ → ℕ → ℕ → ℕ → Type 0
HeadFrom n set words at count weight u = at < count → weight_at n set words at ≡ weight → u ≤ steps_at n set words at

-- r is the steps of the label at `at`, where that is one of this weight, or else `steps`; the lesser of the two
pub record NextSteps (n set : ℕ) (words : List ℕ) (at count weight steps r : ℕ) : Type 0 where
  pub within : r ≤ steps
  pub early : HeadFrom n set words at count weight r
  pub most : (u : ℕ) → u ≤ steps → HeadFrom n set words at count weight u → u ≤ r

-- so of both sets: the least of the three
pub record NextBoth (n : ℕ) (words : List ℕ) (at count exit exits weight steps r : ℕ) : Type 0 where
  pub within : r ≤ steps
  pub near : HeadFrom n (n * labels_at) words at count weight r
  pub far : HeadFrom n (n * exits_at) words exit exits weight r
  pub most : (u : ℕ) → u ≤ steps → HeadFrom n (n * labels_at) words at count weight u → HeadFrom n (n * exits_at) words exit exits weight u → u ≤ r

-- The layers that the trail holds, up to that of the table, of u steps: Z s is the one of s steps, the first is empty.
pub record Past (n : ℕ) (words : List ℕ) (u : ℕ) (t : Trail) : Type 0 where
  pub Z : ℕ → Table
  pub sound : Sound n words t
  pub history : History n words t u Z
  pub none : (c l : ℕ) → Z 0 c l ≡ 0
  pub outside : (s c l : ℕ) → (c < n → l < row_words → ⊥) → Z s c l ≡ 0

-- After `clear_table`: no budget; the words after the table stay.
pub record TableCleared (n : ℕ) (old new : List ℕ) : Type 0 where
  pub same : length new ≡ length old
  pub rows : (i : ℕ) → i < n * arrival_at → get_or new i 0 ≡ 0
  pub rest : KeptFrom (n * arrival_at) old new

-- After `clear_span`: no budget, no cell listed, no seed; the other words stay.
pub record Cleared (n : ℕ) (old new : List ℕ) : Type 0 where
  pub same : length new ≡ length old
  pub rows : (i : ℕ) → i < n * arrival_at → get_or new i 0 ≡ 0
  pub flags : (i : ℕ) → n * listed_at ≤ i → i < n * trail_at → get_or new i 0 ≡ 0
  pub kept : Kept (n * arrival_at) (n * listed_at) old new
  pub rest : KeptFrom (n * trail_at) old new

-- the cell waits in the order, from `at` up to `count`
pub record Due (n set : ℕ) (words : List ℕ) (at count c : ℕ) : Type 0 where
  pub place : ℕ
  pub from : at ≤ place
  pub below : place < count
  pub holds : order_of n set words place ≡ c

-- the labels that wait are not before weight k and u steps
abbrev pub Soon : ℕ → ℕ → List ℕ → ℕ → ℕ → ℕ → ℕ → Type 0
Soon n set old k u at count = at < count → NotAfter k u (weight_at n set old at) (steps_at n set old at)

pub record BothSoon (n : ℕ) (old : List ℕ) (k u at count exit exits : ℕ) : Type 0 where
  pub near : Soon n (n * labels_at) old k u at count
  pub far : Soon n (n * exits_at) old k u exit exits

-- One set, with the labels of this code. Each of its seeds in the words is a seed at u steps, and each of its seeds of the span is one in the words or waits.
-- `old` are the words from which the labels and the order are kept.
pub record SetAt (n exits k set code : ℕ) (old words : List ℕ) (u at count : ℕ) : Type 0 where
  pub own : labels_for n exits old code ≡ labels_of n set old
  pub ordered : Ordered n set old count
  pub at_count : at ≤ count
  pub sound : (c : ℕ) → c < n → T (seed_of n words code c) → T (exact_seed (labels_for n exits old) k u code c)
  pub complete : (c t : ℕ) → c < n → T (exact_seed (labels_for n exits old) k t code c) → T (seed_of n words code c) ⊎ Due n set old at count c
  pub soon : Soon n set old k u at count

-- both sets; with no label of a FIFO there is no seed of one
pub record BothAt (n exits k : ℕ) (old words : List ℕ) (u at count exit : ℕ) : Type 0 where
  pub near : SetAt n exits k (n * labels_at) register_code old words u at count
  pub within : exit ≤ exits
  pub far : 0 < exits → SetAt n exits k (n * exits_at) fifo_code old words u exit exits
  pub no_fifo : exits ≡ 0 → (c : ℕ) → c < n → T (seed_of n words fifo_code c) → ⊥

-- In the rows of P u the table is that of u steps on side f, the active list is right there, and the seeds are those of both sets.
pub record Running (R : Rules) (n f k : ℕ) (P : ℕ → ℕ → Bool) (old words : List ℕ) (u active at count exit exits : ℕ) : Type 0 where
  pub same : length words ≡ length old
  pub labels : Kept (n * labels_at) (n * active_at) old words
  pub rest : KeptFrom (n * cell_words) old words
  pub table : RepresentsIn (P u) (budget_of n words) (Reaches R (labels_for n exits old) f k u)
  pub list : ActiveIn R n (R.bound 0 f) (P u) words active
  pub sets : BothAt n exits k old words u at count exit
  -- the labels and the active cells have the colours of their steps
  pub in_step : LabelsInStep R (labels_for n exits old)
  pub coloured : Coloured R n u words

-- and the trail holds the layers up to u
pub record Trailing (R : Rules) (n f k exits : ℕ) (P : ℕ → ℕ → Bool) (old words : List ℕ) (u : ℕ) (t : Trail) : Type 0 where
  pub past : Past n words u t
  pub means : (s : ℕ) → s ≤ u → RepresentsIn (P s) (past.Z s) (Reaches R (labels_for n exits old) f k s)
  pub stamp : t.stamp ≤ u

-- and every label that waits is after weight k and u steps
pub record Current (R : Rules) (n f k : ℕ) (P : ℕ → ℕ → Bool) (old words : List ℕ) (u active at count exit exits : ℕ) : Type 0 where
  pub reaching : Running R n f k P old words u active at count exit exits
  pub late : BothSoon n old k (suc u) at count exit exits

-- After `start_span`: no budget, and so the table of no steps in any rows, on any side.
pub record Started (R : Rules) (n k : ℕ) (old words : List ℕ) (active at count exit exits : ℕ) : Type 0 where
  pub empty : (c l : ℕ) → budget_of n words c l ≡ 0
  pub current : (f : ℕ) (P : ℕ → ℕ → Bool) → Current R n f k P old words 0 active at count exit exits

pub record SpanAsks (net : Net) (marks : List ℕ) (count exits : ℕ) (words : List ℕ) (layers : Layers) : Type 0 where
  pub ready : NetReady net marks
  pub room : Room (length marks) words
  pub exits_in : 0 < exits → length marks * aside_at ≤ length words
  pub ordered : Ordered (length marks) (length marks * labels_at) words count
  pub exits_ordered : 0 < exits → Ordered (length marks) (length marks * exits_at) words exits
  pub in_step : LabelsInStep (net_rules net marks) (labels_for (length marks) exits words)
  pub past : Past (length marks) words layers.steps layers.trail

-- before the first call of `load_layer`
abbrev pub no_layers : Layers
no_layers =
    record { side = 0; weight = 0; steps = 0; width = 1; from = 0; most = 0; trail = record { room = 0; start = 0; count = 0; low = 1; stamp = 1 } }

-- the rows next to this cell are right in the layer of s steps
abbrev pub near_by : Layers → ℕ → ℕ → Bool
near_by layers s cell = in_cone (apart_by layers.width layers.from) layers.most s cell

-- the table of this span, on this side, and these steps can be had back, next to this cell
abbrev pub held_by : Layers → ℕ → ℕ → ℕ → ℕ → Bool
held_by layers side cell weight steps =
    eqb layers.side side && (eqb layers.weight weight && (leb layers.trail.low steps && (leb steps layers.steps && near_by layers steps cell)))

-- What holds of the words and of `layers` from one call of `load_layer` to the next: the search's labels stand in their orders, and each layer of side f that can be had back is the span's.
pub record Held (R : Rules) (n f count exits : ℕ) (words : List ℕ) (layers : Layers) : Type 0 where
  pub ordered : Ordered n (n * labels_at) words count
  pub exits_ordered : 0 < exits → Ordered n (n * exits_at) words exits
  pub wide : 0 < layers.width
  pub past : Past n words layers.steps layers.trail
  pub means : layers.side ≡ f → (s cell : ℕ) → layers.trail.low ≤ s → s ≤ layers.steps → T (near_by layers s cell) → (c : ℕ) → T (R.linked cell c) → RepresentsRow (past.Z s) (Reaches R (labels_for n exits words) f layers.weight s) c

pub record LoadAsks (net : Net) (marks costs : List ℕ) (side count exits : ℕ) (words : List ℕ) (layers : Layers) : Type 0 where
  pub ready : NetReady net marks
  pub costed : CostsOf net.problem.elements (fifo_of net) costs
  pub room : Room (length marks) words
  pub exits_in : 0 < exits → length marks * aside_at ≤ length words
  pub held : Held (net_rules net marks) (length marks) side count exits words layers
  pub in_step : LabelsInStep (net_rules net marks) (labels_for (length marks) exits words)

-- After `load_layer`: the rows of the cells that a wire joins to `cell` are those of the span's table.
pub record Loaded (R : Rules) (n f count exits cell weight steps : ℕ) (old new : List ℕ) (layers : Layers) : Type 0 where
  pub same : length new ≡ length old
  pub near : (c : ℕ) → T (R.linked cell c) → RepresentsRow (budget_of n new) (Reaches R (labels_for n exits new) f weight steps) c
  pub labels : Kept (n * labels_at) (n * active_at) old new
  pub rest : KeptFrom (n * cell_words) old new
  pub held : Held R n f count exits new layers
  pub own : layers.side ≡ f
