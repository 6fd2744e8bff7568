-- Words of zeros have no label.
use Prim.Native.Nat.{ℕ, ◌+◌, ◌*◌, ◌<◌}
use mathlib.Core.Path.{◌≡◌}
use mathlib.Core.List.{List}
use native.Mathlib.Omega.{arith}
use lib.Dec.{T}
use Rattle.layout.specs.Layout.{labels_at, weight_high}
use Rattle.labels.specs.Labels.{known_of, weight_word}
use Rattle.labels.proofs.Labels.{known-below, word-unknown, unknown-not}
use Rattle.search.specs.Search.{Blank}

pub no_label : (n : ℕ) (words : List ℕ) → Blank n words → (c : ℕ) → c < n → weight_word n (n * labels_at) words c ≡ 0
no_label n words blank c h = rw (blank.labels (n * labels_at + c) (omega arith) (omega arith), blank.labels (n * labels_at + n * weight_high + c) (omega arith) (omega arith))

pub unlabelled : (n : ℕ) (words : List ℕ) → Blank n words → (c : ℕ) → T (known_of n (n * labels_at) words c) → ⊥
unlabelled n words blank c t = unknown-not (word-unknown n (n * labels_at) words c (no_label n words blank c (known-below n (n * labels_at) words c t))) t
