-- The search of one side: the weight to go after the current span rises, one layer is a step. The table is never cleared.
use Rattle.std.specs.Prelude.{ℕ, ◌≡◌, ◌⊎◌, cond, T, eqb}
use Rattle.rules.specs.Rules.{Rules, register_code}
use Rattle.budget.specs.Table.{Table, Represents, layer}
use Rattle.budget.specs.Done.{NotAfter, Done, Open, Labels, Labelled, seed_at}

-- from the sink, before the first step
abbrev pub FromSink : Rules → ℕ → ℕ → Type 0
FromSink R w s = Done R 0 w s R.sink R.start.load R.start.delay

-- The table and the labels of side f hold what is done within weight k after the current span and s steps.
pub record Searching (R : Rules) (f k s : ℕ) (A : Table) (m : ℕ → Labels) : Type 0 where
  pub table : Represents A (Open R f k s)
  pub labels : Labelled R f k s m

-- B is the next layer of A
abbrev pub Next : Rules → ℕ → (ℕ → Labels) → ℕ → ℕ → Table → Table → Type 0
Next R f m k s A B = (c l : ℕ) → B c l ≡ layer R (seed_at m k s) (R.bound 0 f) A c l

-- the labels n are m with (w, s) at each cell that has just come in
pub record Relabelled (Q : ℕ → ℕ → ℕ → Type 0) (w s : ℕ) (m n : Labels) : Type 0 where
  pub kept : (c : ℕ) → T (m.known c) → T (n.known c) × ((n.weight c ≡ m.weight c) × (n.steps c ≡ m.steps c))
  pub added : (c : ℕ) → T (n.known c) → (T (m.known c) → ⊥) → Q w s c × ((n.weight c ≡ w) × (n.steps c ≡ s))
  pub every : (c : ℕ) → Q w s c → T (n.known c)

-- new labels of registers
unfoldable pub renewed : (ℕ → Labels) → Labels → ℕ → Labels
renewed m n code = cond (eqb code register_code) n (m code)

-- each label is a seed at (k, s), or not before (k', s')
abbrev pub IdleUntil : (ℕ → Labels) → ℕ → ℕ → ℕ → ℕ → Type 0
IdleUntil m k s k' s' =
    (code c : ℕ) → T ((m code).known c) → NotAfter ((m code).weight c) ((m code).steps c) k s ⊎ NotAfter k' s' ((m code).weight c) ((m code).steps c)

-- each label is a seed
abbrev pub AllSeeds : (ℕ → Labels) → ℕ → ℕ → Type 0
AllSeeds m k s = (code c : ℕ) → T ((m code).known c) → NotAfter ((m code).weight c) ((m code).steps c) k s
