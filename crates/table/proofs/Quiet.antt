-- With no cell listed a layer changes nothing.
use Rattle.std.proofs.Common.{ℕ, ◌≡◌, Bool, List, arith, T}
use Rattle.rules.specs.Rules.{Rules}
use Rattle.budget.specs.Table.{layer}
use Rattle.budget.proofs.Active.{pushes-layer, layer-least}
use Rattle.lists.proofs.Lists.{empty-flags}
use Rattle.table.specs.Problem.{budget_of, seed_of}
use Rattle.table.specs.Layer.{ActiveIn}

-- wherever the list is right at all neighbours
pub quiet-layer : (R : Rules) (n top : ℕ) {P : ℕ → Bool} (words : List ℕ) (active : ℕ) → R.cell_count ≡ n → ActiveIn R n top P words active → active ≡ 0 → (c : ℕ) → ((x : ℕ) → T (R.linked c x) → T (P x)) → (l : ℕ) → budget_of n words c l ≡ layer R (seed_of n words) top (budget_of n words) c l
quiet-layer R n top words active cells right none c near l =
    pushes-layer R (seed_of n words) top (budget_of n words) (budget_of n words c l) c l (omega arith)
    (layer-least R (seed_of n words) top (budget_of n words) c l)
    (λ x h t. right.settled x (omega arith) (near x t) (empty-flags right.listed none x (omega arith)) c l)
