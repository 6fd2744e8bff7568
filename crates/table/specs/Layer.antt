-- What one layer does to the scratch words.
use Rattle.std.specs.Prelude.{ℕ, ◌+◌, ◌*◌, ◌-◌, ◌≤◌, ◌<◌, max, min, ◌≡◌, Bool, true, ◌⊎◌, List, T, length, get_or}
use Rattle.rules.specs.Rules.{Rules}
use Rattle.budget.specs.Table.{Table, only, arrival, given, layer}
use Rattle.budget.specs.Sides.{is_side}
use Rattle.layout.specs.Layout.{arrival_at, labels_at, active_at, next_at, listed_at, seeds_at, trail_at, far_words, slot_words}
use Rattle.rows.specs.Words.{Kept, KeptFrom}
use Rattle.rows.specs.Rows.{word_of, StepRow}
use Rattle.costs.specs.Costs.{row_words, CostsOf}
use Rattle.lists.specs.Lists.{flag_of, Listed}
use Rattle.trail.specs.declared.Trail.{Trail}
use Rattle.trail.specs.Trail.{Sound, History, Noted}
use Rattle.table.specs.Problem.{NetReady, Room, net_rules, budget_of, seed_of}
use Rattle.table.specs.Colours.{ActiveNeighbour}
use Rattle.problem.specs.declared.net.Net.{Net}
use Rattle.problem.specs.Net.{fifo_of}
use Rattle.table.specs.declared.pushes.Grown.{Grown}

-- the arrival row in the words; 0 past the loads
abbrev pub arrival_of : ℕ → List ℕ → ℕ → ℕ
arrival_of n words l = word_of words (n * arrival_at) l

-- what a step with the costs at `base` leaves of it
abbrev pub via_step : ℕ → List ℕ → List ℕ → ℕ → ℕ → ℕ → ℕ
via_step n words costs base step l = arrival_of n words (l + step) - get_or costs (base + l) 0

-- the arrival rows of all cells, as the table in the words has them; `top` is what a closing delay stays below
abbrev pub arrivals : Rules → ℕ → ℕ → List ℕ → Table
arrivals R n top words = arrival R (seed_of n words) top (budget_of n words)

-- what cell n gives to its neighbours is in the table already
abbrev pub Settled : Rules → ℕ → ℕ → List ℕ → ℕ → Type 0
Settled R n top words cell =
    (c l : ℕ) → given R (arrivals R n top words) cell c l ≤ budget_of n words c l

-- the active list is right in P: what a cell of P that is not listed gives is in the table already
pub record ActiveIn (R : Rules) (n top : ℕ) (P : ℕ → Bool) (words : List ℕ) (active : ℕ) : Type 0 where
  pub listed : Listed n words (n * active_at) active
  pub settled : (c : ℕ) → c < n → T (P c) → flag_of n words c ≡ 0 → Settled R n top words c

-- it is right in every cell
abbrev pub Active : Rules → ℕ → ℕ → List ℕ → ℕ → Type 0
Active R n top words active = ActiveIn R n top (λ c. true) words active

-- some word of the cell's row grew
pub record Grew (n : ℕ) (old new : List ℕ) (c : ℕ) : Type 0 where
  pub load : ℕ
  pub more : budget_of n old c load < budget_of n new c load

abbrev pub SameRow : ℕ → List ℕ → List ℕ → ℕ → Type 0
SameRow n old new c = (l : ℕ) → budget_of n new c l ≡ budget_of n old c l

-- After `clear_flags`: no flag is set, and all other words stay.
pub record FlagsCleared (n : ℕ) (old new : List ℕ) : Type 0 where
  pub same : length new ≡ length old
  pub cleared : (c : ℕ) → c < n → flag_of n new c ≡ 0
  pub low : Kept 0 (n * listed_at) old new
  pub rest : KeptFrom (n * seeds_at) old new

-- After pushes into the table: flags mark the cells that grew, the next list has them, and the rest of the words stay.
pub record Raised (n : ℕ) (old new : List ℕ) (next : ℕ) : Type 0 where
  pub same : length new ≡ length old
  pub listed : Listed n new (n * next_at) next
  pub flags : (c : ℕ) → c < n → (flag_of n new c ≡ flag_of n old c) ⊎ ((flag_of n new c ≡ 1) × Grew n old new c)
  pub quiet : (c : ℕ) → c < n → flag_of n new c ≡ 0 → SameRow n old new c
  pub kept : Kept (n * labels_at) (n * next_at) old new
  pub seeds : Kept (n * seeds_at) (n * trail_at) old new

-- the layer being made has saved every flagged cell
abbrev pub FlagsNoted : ℕ → List ℕ → Trail → Type 0
FlagsNoted n words t = (c : ℕ) → c < n → flag_of n words c ≡ 1 → Noted n words t c

-- The trail goes with the words: whatever layers could be had back still can, but for those that had to be forgotten.
pub record Follows (n : ℕ) (t : Trail) (old : List ℕ) (r : Trail) (new : List ℕ) : Type 0 where
  pub sound : Sound n new r
  pub room : r.room ≡ t.room
  pub stamp : r.stamp ≡ t.stamp
  -- with few slots all of them are in the first stretch
  pub near : t.room * slot_words ≤ n * far_words → Kept (n * arrival_at + row_words) (n * labels_at) old new
  pub beyond : KeptFrom (n * trail_at + min (t.room * slot_words) (n * far_words)) old new
  pub noted : FlagsNoted n old t → FlagsNoted n new r
  pub history : FlagsNoted n old t → (u : ℕ) (Z : ℕ → Table) → u < t.stamp → History n old t u Z → History n new r u Z

-- After `note`: only words of the trail's slots change, and the cell is saved.
pub record NotedRow (n cell : ℕ) (old : List ℕ) (t : Trail) (new : List ℕ) (r : Trail) : Type 0 where
  pub same : length new ≡ length old
  pub low : Kept 0 (n * arrival_at + row_words) old new
  pub labels : Kept (n * labels_at) (n * trail_at) old new
  pub follows : Follows n t old r new
  pub noted : FlagsNoted n old t → Noted n new r cell

pub record OfferAsks (n to : ℕ) (costs : List ℕ) (base step : ℕ) (next : Grown) (words : List ℕ) : Type 0 where
  pub to_in : to ≤ n
  pub few : n ≤ 1024
  pub costed : StepRow costs base step
  pub room : Room n words
  pub listed : Listed n words (n * next_at) next.count
  pub sound : Sound n words next.trail

-- After `offer`: one neighbour's row is raised; the arrival row stays.
pub record Offered (n to : ℕ) (costs : List ℕ) (base step : ℕ) (t : Trail) (old new : List ℕ) (next : Grown) : Type 0 where
  pub raised : Raised n old new next.count
  pub follows : Follows n t old next.trail new
  pub table : (c l : ℕ) → budget_of n new c l ≡ max (budget_of n old c l) (only (is_side n to c) (via_step n old costs base step l))
  pub arrival : (l : ℕ) → arrival_of n new l ≡ arrival_of n old l

pub record SpreadAsks (net : Net) (marks costs : List ℕ) (cell : ℕ) (next : Grown) (words : List ℕ) : Type 0 where
  pub ready : NetReady net marks
  pub costed : CostsOf net.problem.elements (fifo_of net) costs
  pub cell_in : cell < length marks
  pub room : Room (length marks) words
  pub listed : Listed (length marks) words (length marks * next_at) next.count
  pub sound : Sound (length marks) words next.trail

-- After `spread`: each neighbour has what the cell gives.
pub record Spread (R : Rules) (n top cell : ℕ) (t : Trail) (old new : List ℕ) (next : Grown) : Type 0 where
  pub raised : Raised n old new next.count
  pub follows : Follows n t old next.trail new
  pub table : (c l : ℕ) → budget_of n new c l ≡ max (budget_of n old c l) (given R (arrivals R n top old) cell c l)

-- no cell is flagged, and no wire joins two cells of the active list
pub record SpreadAllAsks (net : Net) (marks costs : List ℕ) (active : ℕ) (t : Trail) (words : List ℕ) : Type 0 where
  pub ready : NetReady net marks
  pub costed : CostsOf net.problem.elements (fifo_of net) costs
  pub room : Room (length marks) words
  pub sound : Sound (length marks) words t
  pub unflagged : (c : ℕ) → c < length marks → flag_of (length marks) words c ≡ 0
  pub short : active ≤ length marks
  pub cells : (i : ℕ) → i < active → get_or words (length marks * active_at + i) 0 < length marks
  pub unlinked : (i j : ℕ) → i < active → j < active → T ((net_rules net marks).linked (get_or words (length marks * active_at + i) 0) (get_or words (length marks * active_at + j) 0)) → ⊥

-- After `spread_all`: each neighbour of a cell on the active list has what that cell gives, and nothing else was added.
pub record SpreadAll (R : Rules) (n top active : ℕ) (t : Trail) (old new : List ℕ) (next : Grown) : Type 0 where
  pub raised : Raised n old new next.count
  pub follows : Follows n t old next.trail new
  pub least : (c l : ℕ) → budget_of n old c l ≤ budget_of n new c l
  pub most : (x c l : ℕ) → budget_of n old c l ≤ x → ((i : ℕ) → i < active → given R (arrivals R n top old) (get_or old (n * active_at + i) 0) c l ≤ x) → budget_of n new c l ≤ x
  pub gave : (i : ℕ) → i < active → (c l : ℕ) → given R (arrivals R n top old) (get_or old (n * active_at + i) 0) c l ≤ budget_of n new c l

-- After a layer. Wherever the active list was right: the rows of the cells whose neighbours are all there are the next ones, and the new list is right.
pub record Layered (R : Rules) (n top : ℕ) (t : Trail) (old new : List ℕ) (next : Grown) : Type 0 where
  pub same : length new ≡ length old
  pub listed : Listed n new (n * active_at) next.count
  pub table : {P : ℕ → Bool} {active : ℕ} → ActiveIn R n top P old active → (c : ℕ) → ((x : ℕ) → T (R.linked c x) → T (P x)) → (l : ℕ) → budget_of n new c l ≡ layer R (seed_of n old) top (budget_of n old) c l
  pub active : {P : ℕ → Bool} {active : ℕ} → ActiveIn R n top P old active → ActiveIn R n top P new next.count
  pub grew : (c : ℕ) → c < n → flag_of n new c ≡ 1 → Grew n old new c
  pub quiet : (c : ℕ) → c < n → flag_of n new c ≡ 0 → SameRow n old new c
  -- labels and order
  pub labels : Kept (n * labels_at) (n * active_at) old new
  -- seed flags, and all but the trail
  pub seeds : Kept (n * seeds_at) (n * trail_at) old new
  pub near : t.room * slot_words ≤ n * far_words → Kept (n * arrival_at + row_words) (n * labels_at) old new
  pub beyond : KeptFrom (n * trail_at + min (t.room * slot_words) (n * far_words)) old new
  -- the trail; stamp is the layer made
  pub sound : Sound n new next.trail
  pub room : next.trail.room ≡ t.room
  pub stamp : next.trail.stamp ≡ t.stamp
  pub history : (u : ℕ) (Z : ℕ → Table) → u < t.stamp → History n old t u Z → History n new next.trail u Z
  -- a cell that has grown is next to one that was active
  pub neighbour : (c : ℕ) → c < n → flag_of n new c ≡ 1 → ActiveNeighbour R n old c
