-- `reach::span::clear_span`: the table and then the flags become 0.
use Prim.Native.Nat.{ℕ, ◌+◌, ◌-◌, ◌*◌, ◌≤◌, ◌<◌}
use mathlib.Core.Path.{◌≡◌, ◌∙◌}
use mathlib.Core.List.{List}
use native.Mathlib.Omega.{arith}
use lib.ListN.{get_or}
use Rattle.layout.specs.Layout.{listed_at, trail_at}
use Rattle.rows.specs.Words.{Filled}
use Rattle.reach.specs.Reach.{TableCleared, Cleared}
use Rattle.reach.proofs.span.clear_span.Goals as goal

-- a word of a cleared stretch
zero-at : (at end : ℕ) (old new : List ℕ) → Filled (λ k. 0) at (end - at) old new → (i : ℕ) → at ≤ i → i < end → get_or new i 0 ≡ 0
zero-at at end old new f i lo hi =
    let e : at + (i - at) ≡ i = omega arith in
    rw e at (f.done (i - at) (omega arith))

cleared : (n : ℕ) (old mid new : List ℕ) → TableCleared n old mid → Filled (λ k. 0) (n * listed_at) (n * trail_at - n * listed_at) mid new → Cleared n old new
cleared n old mid new f g =
    record {
      same = g.same ∙ f.same;
      rows = λ i h. g.low i (omega arith) ∙ f.rows i h;
      flags = zero-at (n * listed_at) (n * trail_at) mid new g;
      kept = λ i lo hi. g.low i hi ∙ f.rest i lo;
      rest = λ i lo. g.high i (omega arith) ∙ f.rest i (omega arith);
    }

pub returns : goal.returns
returns c =
    cleared _ _ _ _ c.clear_table.ensures c.clear.ensures
