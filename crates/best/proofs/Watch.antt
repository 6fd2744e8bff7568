-- The watch of side f: the labels of the FIFOs that lead into it; on the sink's side there are none.
use Prim.Native.Nat.{ℕ, zero, suc, ◌+◌, ◌<◌}
use mathlib.Core.Path.{refl}
use mathlib.Core.Bool.{cond}
use mathlib.Core.List.{List, []}
use native.Mathlib.Omega.{arith}
use borrow.Author.Tests.{ne_eqb}
use lib.Dec.{T, eqb}
use Rattle.rules.specs.Rules.{Rules, fifo_code}
use Rattle.rules.proofs.View.{fifo-closing, side-fifo}
use Rattle.budget.specs.Table.{Table, Represents}
use Rattle.budget.specs.Done.{Open, After, Labels, Covers, Lawful}
use Rattle.budget.specs.Search.{Searching, Next, AllSeeds}
use Rattle.budget.proofs.HandOver.{Watched, watch-start, watch-layer, watch-later, watch-all}
use Rattle.best.specs.Rows.{Bounded}
use Rattle.best.specs.Labels.{Label, labels_listed, places, relabel}
use Rattle.best.proofs.Labels.{none-known, after-placed, relabel-right}

-- complete within weight k after the current span and s steps
abbrev pub Watching : (R : Rules) → Lawful R → ℕ → ℕ → ℕ → List Label → Type 0
Watching R law zero k s list = Unit {0}
Watching R law (suc g) k s list = Watched R law g k s (labels_listed list)

-- complete for good
abbrev pub HandsOver : Rules → ℕ → List Label → Type 0
HandsOver R zero list = Unit {0}
HandsOver R (suc g) list = (w t : ℕ) → Covers (After R g fifo_code) w t (labels_listed list)

module _ (R : Rules) (law : Lawful R) where
  pub watching-start : (f : ℕ) → Watching R law f 0 0 []
  watching-start zero = tt
  watching-start (suc g) = watch-start R law g (labels_listed []) none-known

  pub watching-layer : Bounded R → (f k s : ℕ) (A : Table) (list : List Label) → Represents A (Open R f k (suc s)) → Watching R law f k s list → Watching R law f k (suc s) (cond (eqb f 0) [] (relabel R fifo_code (R.weight f + k) (suc s) A list))
  unfolding Watched
  watching-layer bounded zero k s A list rep now = tt
  watching-layer bounded (suc g) k s A list rep now =
      rw (ne_eqb (suc g) 0 (λ e. omega arith))
      (watch-layer R law g k s (labels_listed list) _ now
      (relabel-right R law bounded g fifo_code (R.weight (suc g) + k) (suc s) (fifo-closing fifo_code refl) A (rw (side-fifo g fifo_code refl) rep) list placed (λ n e. absurd (omega arith))))
    where
      placed : (c : ℕ) → T ((labels_listed list).known c) → c < places R
      placed c h = after-placed R law bounded (now.enough c h)

  pub watching-later : (f k s k' s' : ℕ) (list : List Label) → ((c l d : ℕ) → Open R f k' s' c l d → Open R f k s c l d) → Watching R law f k s list → Watching R law f k' s' list
  watching-later zero k s k' s' list back now = tt
  watching-later (suc g) k s k' s' list back now = watch-later R law g k s k' s' (labels_listed list) now back

  -- after the last turn
  pub watching-all : (f : ℕ) {k s : ℕ} {A : Table} {m : ℕ → Labels} → Searching R f k s A m → Next R f m k s A A → AllSeeds m k s → (list : List Label) → Watching R law f k s list → HandsOver R f list
  watching-all zero now quiet all list watch = tt
  watching-all (suc g) now quiet all list watch = watch-all R law g now quiet all (labels_listed list) watch
