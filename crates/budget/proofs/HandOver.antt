-- From one side to the next: while the side after the FIFO is searched, the FIFO's fresh state is watched too; at the end its labels are complete for good, and the side before it may start.
use Prim.Native.Nat.{ℕ, suc, ◌+◌, ◌≤◌}
use mathlib.Core.Path.{◌≡◌, refl}
use native.Mathlib.Omega.{arith}
use lib.Dec.{T}
use Rattle.rules.specs.Rules.{Rules, fifo_code, side_after}
use Rattle.rules.proofs.View.{side-fifo}
use Rattle.budget.specs.Table.{Table}
use Rattle.budget.specs.Done.{Done, Open, After, Labels, Covers, Lawful}
use Rattle.budget.specs.Search.{Searching, Next, Relabelled, AllSeeds}
use Rattle.budget.proofs.Done.{after_more, none-without-steps, done-side}
use Rattle.budget.proofs.Search.{covers-next, covers-later}
use Rattle.budget.proofs.Turns.{all-turn}

-- the source's side has no FIFO to come
pub no-exits : (R : Rules) (f : ℕ) → R.fifos ≤ f → (x : Labels) → ((n : ℕ) → T (x.known n) → ⊥) → (w t : ℕ) → Covers (After R f fifo_code) w t x
no-exits R f past x none w t =
    record {
      enough = λ n h. absurd (none n h);
      least = λ n h. absurd (none n h);
      complete = λ n a. absurd (nothing n a);
    }
  where
    nothing : (n : ℕ) → After R f fifo_code w t n → ⊥
    nothing n (After.at_source a b c) = omega arith
    nothing n (After.at_gate shut may y) = omega (arith, side-fifo f fifo_code refl, done-side y)

module _ (R : Rules) (law : Lawful R) (g : ℕ) where
  -- the FIFOs of side g that are done at (k, s) of the side after it
  unfoldable pub Watched : ℕ → ℕ → Labels → Type 0
  Watched k s x = Covers (After R g fifo_code) (R.weight (suc g) + k) s x

  after-back : (w t v s : ℕ) → ((c l d : ℕ) → Done R (suc g) w t c l d → Done R (suc g) v s c l d) → (n : ℕ) → After R g fifo_code w t n → After R g fifo_code v s n
  after-back w t v s back n (After.at_source a b c) = absurd (omega arith)
  after-back w t v s back n (After.at_gate shut may x) =
      let e : side_after g fifo_code ≡ suc g = side-fifo g fifo_code refl in
      After.at_gate shut may (rw e (back n _ _ (rw e at x)))

  -- nothing is done at the start
  pub watch-start : (x : Labels) → ((n : ℕ) → T (x.known n) → ⊥) → Watched 0 0 x
  unfolding Watched
  watch-start x none =
      record {
        enough = λ n h. absurd (none n h);
        least = λ n h. absurd (none n h);
        complete = λ n a. nothing n a;
      }
    where
      nothing : (n : ℕ) → After R g fifo_code (R.weight (suc g) + 0) 0 n → T (x.known n)
      nothing n (After.at_source a b c) = absurd (omega arith)
      nothing n (After.at_gate shut may y) =
          let e : side_after g fifo_code ≡ suc g = side-fifo g fifo_code refl in
          absurd (none-without-steps (rw e at y))

  pub watch-layer : (k s : ℕ) (x y : Labels) → Watched k s x → Relabelled (After R g fifo_code) (R.weight (suc g) + k) (suc s) x y → Watched k (suc s) y
  unfolding Watched
  watch-layer k s x y = covers-next (After R g fifo_code) (λ w s n p q. after_more p q)

  pub watch-later : (k s k' s' : ℕ) (x : Labels) → Watched k s x → ((c l d : ℕ) → Open R (suc g) k' s' c l d → Open R (suc g) k s c l d) → Watched k' s' x
  unfolding Watched
  watch-later k s k' s' x w back = covers-later (After R g fifo_code) (λ w s n p q. after_more p q) _ s' w (after-back _ s' _ s back)

  -- after the last turn
  pub watch-all : {k s : ℕ} {A : Table} {m : ℕ → Labels} → Searching R (suc g) k s A m → Next R (suc g) m k s A A → AllSeeds m k s → (x : Labels) → Watched k s x → (w t : ℕ) → Covers (After R g fifo_code) w t x
  unfolding Watched
  watch-all {k} {s} now quiet all x watched w t =
      covers-later (After R g fifo_code) (λ w s n p q. after_more p q) w t watched (after-back w t _ s (λ c l d. all-turn R law (suc g) now quiet all w t c l d))
