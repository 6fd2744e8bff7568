-- The pass: what the scratch words hold between two turns, and what the first period is.
use Rattle.std.specs.Prelude.{ℕ, ◌+◌, ◌*◌, ◌≤◌, ◌<◌, ◌≡◌, ◌⊎◌, List, length, Option, Some, None}
use Rattle.timing.specs.Ranges.{period_max}
use Rattle.rules.specs.Relaxed.{HasRoute}
use Rattle.costs.specs.Costs.{row_words}
use Rattle.layout.specs.Layout.{closes_at, cell_words}
use Rattle.rows.specs.Words.{KeptFrom}
use Rattle.rows.specs.Rows.{view_of}
use Rattle.problem.specs.declared.Problem.{Problem}
use Rattle.problem.specs.Problem.{rules_for}
use Rattle.queue.specs.Queue.{Waits}
use Rattle.delays.specs.Delays.{never, latest, closes_of, NextClose, NoneBefore}
use Rattle.spans.specs.Opens.{rules_at, Opens, Shuts}
use Rattle.spans.specs.Eases.{Ground, StartedAt, Eases}
use Rattle.spans.specs.Spread.{Spread}
use Rattle.earliest.specs.declared.First.{First}
use Rattle.earliest.specs.declared.turns.Progress.{Progress}

module _ (p : Problem) (marks : List ℕ) where
  -- a state of the cell that is no heavier and no later waits, or has gone on to every neighbour
  pub record Handled (words : List ℕ) (count c l : ℕ) : Type 0 where
    pub load : ℕ
    pub light : load ≤ l
    pub early : view_of words c load ≤ view_of words c l
    pub handled : Waits (length marks) words count (c * row_words + load) ⊎ Spread (rules_for p marks) (length marks) words c load (view_of words c load)

  -- the spans that have closed within the period have gone on, but at the source
  abbrev pub Going : ℕ → List ℕ → Type 0
  Going t words = (c : ℕ) → c < length marks → closes_of (length marks) words c ≤ 2 * t → (c ≡ p.source → ⊥) → StartedAt p marks words c

  -- every close stands for a span that has closed
  abbrev pub Closed : ℕ → List ℕ → Type 0
  Closed t words = (c : ℕ) → c < length marks → closes_of (length marks) words c < never → (closes_of (length marks) words c ≤ latest) × Shuts p marks t c (closes_of (length marks) words c)

  -- between two turns
  pub record Passing (t : ℕ) (words : List ℕ) (count : ℕ) : Type 0 where
    pub ground : Ground p marks words count
    pub least : p.elements.period ≤ t
    pub most : t ≤ period_max
    pub opens : (c l : ℕ) → c < length marks → l ≤ p.elements.limit.0 → view_of words c l < never → Opens p marks t c l (view_of words c l)
    pub closed : Closed t words
    pub going : Going t words
    pub begun : StartedAt p marks words p.sink
    pub handled : (c l : ℕ) → c < length marks → l ≤ p.elements.limit.0 → view_of words c l < never → Handled words count c l
    pub none : (b : ℕ) → p.elements.period ≤ b → b < t → HasRoute (rules_at p marks b) → ⊥

  pub record GoneOn (old : List ℕ) (f : Progress) (new : List ℕ) (g : Progress) : Type 0 where
    pub same : length new ≡ length old
    pub rest : KeptFrom (length marks * cell_words) old new
    pub passing : Passing g.period new g.count

  pub record StartAllAsks (t : ℕ) (words : List ℕ) (count : ℕ) : Type 0 where
    pub ground : Ground p marks words count
    pub most : 2 * t ≤ latest
    pub closed : Closed t words

  -- the next span starts at a cell, or at all; no close changes
  pub record StartedOne (t cell : ℕ) (old : List ℕ) (count : ℕ) (new : List ℕ) (next : ℕ) : Type 0 where
    pub eases : Eases p marks t old count new next
    pub kept : KeptFrom (length marks * closes_at) old new
    pub started : closes_of (length marks) new cell ≤ 2 * t → (cell ≡ p.source → ⊥) → StartedAt p marks new cell

  pub record StartedAll (t : ℕ) (old : List ℕ) (count : ℕ) (new : List ℕ) (next : ℕ) : Type 0 where
    pub eases : Eases p marks t old count new next
    pub going : Going t new

  -- nothing that waits can close before this close, and the source is not reached
  pub record RiseAsks (words : List ℕ) (f : Progress) (close : ℕ) : Type 0 where
    pub passing : Passing f.period words f.count
    pub far : 2 * f.period < closes_of (length marks) words p.source
    pub next : NextClose (length marks) words (2 * f.period) close
    pub none : NoneBefore (length marks) words f.count close

  -- none from the problem's own on
  abbrev pub NoPeriod : Type 0
  NoPeriod = (b : ℕ) → p.elements.period ≤ b → b ≤ period_max → HasRoute (rules_at p marks b) → ⊥

  pub data TurnDone (old : List ℕ) (f : Progress) (new : List ℕ) : Option Progress → Type 0 where
    on : {g : Progress} → GoneOn old f new g → TurnDone old f new (Some g)
    ended : length new ≡ length old → KeptFrom (length marks * cell_words) old new → NoPeriod → TurnDone old f new None

  pub record Begun (old new : List ℕ) (count : ℕ) : Type 0 where
    pub same : length new ≡ length old
    pub rest : KeptFrom (length marks * cell_words) old new
    pub passing : Passing p.elements.period new count

  -- the first period from the problem's own on at which a route exists
  pub record FirstAt (r : ℕ) : Type 0 where
    pub least : p.elements.period ≤ r
    pub most : r ≤ period_max
    pub found : HasRoute (rules_at p marks r)
    pub none : (b : ℕ) → p.elements.period ≤ b → b < r → HasRoute (rules_at p marks b) → ⊥

  -- what a pass tells; nothing where its turns were used up
  pub data Tells : First → Type 0 where
    found_at : {r : ℕ} → FirstAt r → Tells (First.At r)
    none_at : NoPeriod → Tells First.Never
    unknown : Tells First.Unknown

  pub record FirstPeriod (old new : List ℕ) (r : First) : Type 0 where
    pub same : length new ≡ length old
    pub rest : KeptFrom (length marks * cell_words) old new
    pub tells : Tells r
