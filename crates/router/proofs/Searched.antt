-- What the search's answer says.
use Prim.Native.Nat.{ℕ}
use mathlib.Core.List.{List}
use Rattle.rules.specs.Rules.{Rules}
use Rattle.search.specs.declared.turns.Reached.{Reached}
use Rattle.search.specs.Turn.{Reaching, Ended}
use Rattle.search.specs.Search.{SearchDone}

module _ {R : Rules} {n side exits : ℕ} {new : List ℕ} where
  pub reached-sink : {k s count : ℕ} → SearchDone R n side exits new (Reached.Sink k s count) → Reaching R n exits new k s count
  reached-sink (SearchDone.sink k s count own r) = r

  pub reached-nothing : {count watched : ℕ} → SearchDone R n side exits new (Reached.Nothing count watched) → Ended R n side exits new count watched
  reached-nothing (SearchDone.nothing count watched h) = h
