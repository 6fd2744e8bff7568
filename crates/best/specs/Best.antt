-- The best route, computed: document 01's demand 2 as a function of the rules. The laws are in proofs/Best: it is r if and only if r is the best route, and none if and only if no route is legal.
use Rattle.std.specs.Prelude.{ℕ, zero, suc, ◌-◌, List, [], ◌∷◌}
use Rattle.rules.specs.Rules.{Rules, register_code}
use Rattle.rules.specs.Legal.{Route}
use Rattle.budget.specs.Done.{Labels}
use Rattle.budget.specs.Emission.{exact_seed, visit, emit}
use Rattle.best.specs.Rows.{Rows, table_of, layer_rows}
use Rattle.best.specs.Labels.{Label, by_code}
use Rattle.best.specs.Search.{Labelling, Found, figures, nothing, search_side, labelling, exits_of}

-- the tables of the emission
unfoldable pub reach_rows : Rules → (ℕ → Labels) → ℕ → ℕ → ℕ → Rows
reach_rows R m f k zero = []
reach_rows R m f k (suc u) = layer_rows R (exact_seed m k u) f (reach_rows R m f k u)

-- the FIFOs' labels of side f
unfoldable pub exits_at : Rules → ℕ → List Label
exits_at R f = exits_of R (R.fifos - f) f

-- the labels of each side by code; those of the sink's side as the search left them
unfoldable pub labels_at : Rules → Labelling → ℕ → ℕ → Labels
labels_at R m zero = by_code m.registers (exits_at R 0)
labels_at R m (suc f) = by_code (labelling (search_side R (exits_at R (suc f)) (suc f))).registers (exits_at R (suc f))

-- the route written out, from the figures and the labels of the search
unfoldable pub route_of : Rules → ℕ → ℕ → Labelling → Route
route_of R k s m =
    visit R.sink register_code ∷ emit R (labels_at R m) (λ f k u. table_of (reach_rows R (labels_at R m f) f k u)) s 0 k R.sink R.start.load R.start.delay

pub data Outcome : Type 0 where
  found : Route → Outcome
  none : Outcome

unfoldable pub outcome : Rules → Found → Outcome
outcome R (figures k s m) = found (route_of R k s m)
outcome R (nothing m) = none

unfoldable pub best : Rules → Outcome
best R = outcome R (search_side R (exits_at R 0) 0)
