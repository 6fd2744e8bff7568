-- What any number of steps leave in the scratch words: delays fall, what has fallen stands for a span on its way, and waits to go on.
use Rattle.std.specs.Prelude.{ℕ, ◌+◌, ◌*◌, ◌≤◌, ◌<◌, ◌≡◌, List, length}
use Rattle.timing.specs.Formulas.{register_load, setup_delay}
use Rattle.costs.specs.Costs.{row_words}
use Rattle.layout.specs.Layout.{cell_words}
use Rattle.rows.specs.Words.{KeptFrom}
use Rattle.rows.specs.Rows.{view_of}
use Rattle.problem.specs.declared.Problem.{Problem}
use Rattle.problem.specs.Problem.{Ready}
use Rattle.table.specs.Problem.{Room}
use Rattle.queue.specs.Queue.{Queue, Waits}
use Rattle.delays.specs.Delays.{latest, closes_of, Falling}
use Rattle.spans.specs.Opens.{Opens, Shuts}

-- a state of the cell waits that is no heavier and no later
pub record WaitsBelow (n : ℕ) (words : List ℕ) (count c l : ℕ) : Type 0 where
  pub load : ℕ
  pub light : load ≤ l
  pub early : view_of words c load ≤ view_of words c l
  pub waits : Waits n words count (c * row_words + load)

module _ (p : Problem) (marks : List ℕ) where
  abbrev n : ℕ
  n = length marks

  abbrev limit : ℕ
  limit = p.elements.limit.0

  -- what every step asks
  pub record Ground (words : List ℕ) (count : ℕ) : Type 0 where
    pub ready : Ready p marks
    pub room : Room (length marks) words
    pub light : register_load p.elements.register ≤ p.elements.limit.0
    pub falling : Falling (length marks) p.elements.limit.0 words
    pub queue : Queue (length marks) words count

  -- a span has started at the cell
  abbrev pub StartedAt : List ℕ → ℕ → Type 0
  StartedAt words c = view_of words c (register_load p.elements.register) ≤ setup_delay p.elements.register

  -- at period t
  pub record Eases (t : ℕ) (old : List ℕ) (count : ℕ) (new : List ℕ) (next : ℕ) : Type 0 where
    pub same : length new ≡ length old
    pub rest : KeptFrom (length marks * cell_words) old new
    pub falling : Falling (length marks) p.elements.limit.0 new
    pub queue : Queue (length marks) new next
    pub waits : (s : ℕ) → s < length marks * row_words → Waits (length marks) old count s → Waits (length marks) new next s
    pub lower : (c l : ℕ) → c < length marks → l ≤ p.elements.limit.0 → view_of new c l ≤ view_of old c l
    pub closer : (c : ℕ) → c < length marks → closes_of (length marks) new c ≤ closes_of (length marks) old c
    -- what has fallen
    pub anew : (c l : ℕ) → c < length marks → l ≤ p.elements.limit.0 → view_of new c l < view_of old c l → WaitsBelow (length marks) new next c l
    pub opens : (c l : ℕ) → c < length marks → l ≤ p.elements.limit.0 → view_of new c l < view_of old c l → Opens p marks t c l (view_of new c l)
    pub shuts : (c : ℕ) → c < length marks → closes_of (length marks) new c < closes_of (length marks) old c → (closes_of (length marks) new c ≤ latest) × Shuts p marks t c (closes_of (length marks) new c)
    pub going : (c : ℕ) → c < length marks → closes_of (length marks) new c < closes_of (length marks) old c → closes_of (length marks) new c ≤ 2 * t → (c ≡ p.source → ⊥) → StartedAt new c
