-- `search::idle::idle_gates`: a load on arrival is at least that of a wire, so the rows from the lesser one on decide.
use Prim.Native.Nat.{ℕ}
use mathlib.Core.Path.{◌≡◌}
use mathlib.Core.List.{List}
use native.Mathlib.Omega.{arith}
use Rattle.table.specs.Problem.{net_rules}
use Rattle.labels.specs.declared.both.Idle.{Idle}
use Rattle.search.specs.Idle.{IdleFrom}
use Rattle.search.proofs.IdleRows.{idle-right}
use Rattle.labels.proofs.IdleGates.{none-idle}
use Rattle.search.proofs.idle.idle_gates.Goals as goal

from-same : (costs : List ℕ) (a b : ℕ) (r : Idle) → a ≡ b → IdleFrom costs a r → IdleFrom costs b r
from-same costs a b r e f = rw (← e) f

pub returns-then-exits-eq0 : goal.returns-then-exits-eq0
returns-then-exits-eq0 c =
    record {
      right = λ marks. rw c.no_idle.ensures (none-idle (net_rules c.args.net marks));
      told = λ h. absurd (omega (arith, c.if-exits-eq0.true));
    }

pub returns : goal.returns
returns c =
    record {
      right = λ marks. idle-right c.args.net c.requires.0 marks _ c.requires.1 _ (omega arith) (omega arith) _ c.idle_from.ensures;
      told = λ h. from-same _ _ _ _ (omega arith) c.idle_from.ensures;
    }
