-- On the source's side its label is the only one; else there is none.
use Prim.Native.Nat.{ℕ, ◌*◌, ◌≤◌, ◌<◌}
use mathlib.Core.Path.{◌≡◌, refl}
use mathlib.Core.Logic.{◌⊎◌, inl, inr}
use mathlib.Core.List.{List}
use native.Mathlib.Omega.{arith}
use lib.Dec.{T}
use lib.ListN.{length}
use Rattle.plan.proofs.Truth.{equal}
use Rattle.layout.specs.Layout.{labels_at, trail_at}
use Rattle.labels.specs.Labels.{known_of, weight_of, steps_of, Labelable, LabelAdded}
use Rattle.labels.proofs.Labels.{set-in, ordered-none, word-unknown, added-known}
use Rattle.search.specs.Search.{Blank, Sourced}
use Rattle.search.proofs.Blanks.{no_label, unlabelled}
use Rattle.search.proofs.loops.label_source.Goals as goal

start-labelable : (n : ℕ) (words : List ℕ) → Blank n words → n ≤ 1024 → n * trail_at ≤ length words → (cell : ℕ) → cell < n → Labelable n (n * labels_at) cell 0 0 0 words
start-labelable n words blank few room cell h =
    record {
      ordered = ordered-none n (n * labels_at) words (no_label n words blank);
      in_plan = h;
      unlabelled = word-unknown n (n * labels_at) words cell (no_label n words blank cell h);
      last = λ c t. absurd (unlabelled n words blank c t);
      few = omega arith;
      set_in = set-in n words few room;
    }

sourced : (n side fifos source : ℕ) (old new : List ℕ) → Blank n old → side ≡ fifos → LabelAdded n (n * labels_at) source 0 0 0 old new → Sourced n side fifos source old new 1
sourced n side fifos source old new blank here a =
    record {
      same = a.same;
      ordered = a.ordered;
      only = λ c t. only c t (equal c source);
      has = λ e. a.known;
      low = a.low;
      high = a.high;
    }
  where
    only : (c : ℕ) → T (known_of n (n * labels_at) new c) → (c ≡ source) ⊎ (c ≡ source → ⊥) → (side ≡ fifos) × ((c ≡ source) × ((weight_of n (n * labels_at) new c ≡ 0) × (steps_of n (n * labels_at) new c ≡ 0)))
    only c t (inl e) = (here, (e, (rw e a.weight_set, rw e a.steps_set)))
    only c t (inr f) = absurd (unlabelled n old blank c (added-known a c t f))

pub overflow_mul-n : goal.overflow_mul-n
overflow_mul-n c = omega (arith, c.requires.1.0)

pub label-requires : goal.label-requires
label-requires c = let p = c.requires in start-labelable _ _ p.0 p.1.0 p.1.1.0 _ p.1.1.1

pub returns-then-side-fifos : goal.returns-then-side-fifos
returns-then-side-fifos c = sourced _ _ _ _ _ _ c.requires.0 c.if-side-fifos.true c.label.ensures

pub returns-else-side-fifos : goal.returns-else-side-fifos
returns-else-side-fifos c =
    record {
      same = refl;
      ordered = ordered-none _ _ _ (no_label _ _ c.requires.0);
      only = λ i t. absurd (unlabelled _ _ c.requires.0 i t);
      has = λ e. absurd (c.if-side-fifos.false e);
      low = λ k h. refl;
      high = λ k h. refl;
    }
