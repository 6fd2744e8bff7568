-- The records that stand in the words, and the marks copied from them.
use Prim.Native.Nat.{ℕ, ◌+◌, ◌*◌, ◌≤◌, ◌<◌}
use mathlib.Core.Path.{◌≡◌, sym}
use mathlib.Core.List.{List}
use native.Mathlib.Omega.{arith}
use lib.ListN.{get_or, take, length-take, get_or-eq_default}
use lib.Seq.{get_or-take}
use Rattle.job.specs.Fields.{buffer_record_at}

module _ (words : List ℕ) (count i : ℕ) where
  past : (k : ℕ) → count ≤ i → 3 * i ≤ k → get_or (take (3 * count) words) k 0 ≡ 0
  past k h g = get_or-eq_default (take (3 * count) words) 0 (omega (arith, length-take (3 * count) words))

  pub buffer-past : count ≤ i → record { resistance = 0; delay = 0; load = 0 } ≡ buffer_record_at (take (3 * count) words) i
  unfolding buffer_record_at
  buffer-past h =
      λ j. record {
        resistance = sym (past (3 * i) h (omega arith)) j;
        delay = sym (past (3 * i + 1) h (omega arith)) j;
        load = sym (past (3 * i + 2) h (omega arith)) j;
      }

  pub buffer-within : i < count → record { resistance = get_or words (3 * i) 0; delay = get_or words (3 * i + 1) 0; load = get_or words (3 * i + 2) 0 } ≡ buffer_record_at (take (3 * count) words) i
  unfolding buffer_record_at
  buffer-within h =
      λ j. record {
        resistance = sym (get_or-take (3 * count) words (3 * i) 0 (omega arith)) j;
        delay = sym (get_or-take (3 * count) words (3 * i + 1) 0 (omega arith)) j;
        load = sym (get_or-take (3 * count) words (3 * i + 2) 0 (omega arith)) j;
      }
