-- What is asked of the last side, where the source is: no FIFO leads on from it.
use Prim.Native.Nat.{ℕ, ◌*◌, ◌≤◌, ◌<◌}
use mathlib.Core.Path.{◌≡◌, refl, sym, subst}
use mathlib.Core.List.{List}
use native.Mathlib.Omega.{arith}
use lib.ListN.{length, get_or}
use Rattle.rules.specs.Rules.{Rules, fifo_code}
use Rattle.budget.specs.Done.{Labels, After, Covers}
use Rattle.budget.proofs.HandOver.{no-exits}
use Rattle.layout.specs.Layout.{exits_at, aside_at}
use Rattle.labels.specs.Labels.{no_labels}
use Rattle.labels.proofs.Labels.{labels-no-fifo}
use Rattle.search.specs.Search.{SideAsks}

pub last-side : (R : Rules) (n f : ℕ) (words : List ℕ) → R.fifos ≡ f → (0 < f → n * aside_at ≤ length words) → (0 < f → (i : ℕ) → n * exits_at ≤ i → i < n * aside_at → get_or words i 0 ≡ 0) → SideAsks R n f 0 words
last-side R n f words last watch_in unwatched =
    record {
      within = omega arith;
      covers = λ w t. subst (λ (x : Labels). Covers (After R f fifo_code) w t x) (sym (labels-no-fifo n 0 words refl)) (no-exits R f (omega arith) no_labels (λ c u. u) w t);
      ordered = λ h. absurd (omega arith);
      exits_in = λ h. absurd (omega arith);
      alone = λ h. refl;
      watch_in = watch_in;
      unwatched = unwatched;
    }
