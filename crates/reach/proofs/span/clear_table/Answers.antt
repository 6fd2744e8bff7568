-- `reach::span::clear_table`: on the trail, or word by word.
use Rattle.std.proofs.Common.{ℕ, ◌+◌, ◌-◌, ◌*◌, ◌≡◌, List, arith}
use Rattle.layout.specs.Layout.{arrival_at}
use Rattle.rows.specs.Words.{Filled}
use Rattle.reach.specs.Reach.{TableCleared}
use Rattle.reach.proofs.Trailing.{back-empty}
use Rattle.reach.proofs.span.clear_table.Goals as goal

by-words : (n rows : ℕ) (old new : List ℕ) → Filled (λ k. 0) 0 (rows - 0) old new → rows ≡ n * arrival_at → TableCleared n old new
by-words n rows old new f e =
    record {
      same = f.same;
      rows = λ i h. let z : 0 + i ≡ i = omega arith in rw z at (f.done i (omega arith));
      rest = λ i h. f.high i (omega arith);
    }

pub rewind-requires : goal.rewind-requires
rewind-requires c =
    record { sound = c.requires.0.sound; few = c.requires.1.0; room = c.requires.1.1 }

pub returns-then-layers-eq0 : goal.returns-then-layers-eq0
returns-then-layers-eq0 c =
    let back = c.rewind.ensures in
    record {
      same = back.same;
      rows = back-empty _ _ c.args.layers c.requires.0 c.if-layers-eq0.true _ _ back;
      rest = back.kept;
    }

pub returns-else-layers-eq0 : goal.returns-else-layers-eq0
returns-else-layers-eq0 c = by-words _ _ _ _ c.clear.ensures (omega arith)
