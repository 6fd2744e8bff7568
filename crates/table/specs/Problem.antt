-- What a routing problem has in the scratch words.
use Rattle.std.specs.Prelude.{ℕ, ◌+◌, ◌*◌, ◌≤◌, Bool, ◌&&◌, ◌||◌, List, eqb, ltb, length, get_or}
use Rattle.rules.specs.Rules.{register_code, fifo_code}
use Rattle.budget.specs.Table.{Table, Seeds, only}
use Rattle.costs.specs.Costs.{row_words}
use Rattle.layout.specs.Layout.{seeds_at, cell_words}
use Rattle.rows.specs.Rows.{view_of}
unfoldable pub use Rattle.problem.specs.Problem.{plan_for}
unfoldable pub use Rattle.problem.specs.Net.{net_rules}
pub use Rattle.problem.specs.Net.{NetReady}

-- check 6 has passed
abbrev pub Room : ℕ → List ℕ → Type 0
Room n words = n * cell_words ≤ length words

-- the budget table in the words; 0 outside cells and loads
unfoldable pub budget_of : ℕ → List ℕ → Table
budget_of n words c l = only (ltb c n && ltb l row_words) (view_of words c l)

-- a cell's seed mark: the sum of the codes with which a span may close there, 7 for a register or the source, 8 for a FIFO
abbrev pub seed_word : ℕ → List ℕ → ℕ → ℕ
seed_word n words c = get_or words (n * seeds_at + c) 0

unfoldable pub marks_seed : ℕ → ℕ → Bool
marks_seed word code = eqb word code || eqb word (register_code + fifo_code)

-- the seeds by code
unfoldable pub seed_of : ℕ → List ℕ → Seeds
seed_of n words code c = marks_seed (seed_word n words c) code
