-- The numbers of a run are as many as were asked for, and none is above the largest allowed.
use Prim.Native.Nat.{ℕ, zero, suc, ◌≤◌}
use mathlib.Core.Path.{◌≡◌, refl, ap}
use mathlib.Core.Bool.{Bool, true, false, cond}
use mathlib.Core.List.{List, [], ◌∷◌}
use native.Mathlib.Omega.{arith}
use lib.Dec.{leb}
use lib.ListN.{length, get_or}
use borrow.Author.Tests.{leb-true}
use Rattle.numbers.specs.Numbers.{Read, value, fault, number}
use Rattle.numbers.specs.Runs.{Run, values, refused, prepend, one_more, run}

pub record Bounded (n top : ℕ) (vs : List ℕ) : Type 0 where
  pub many : length vs ≡ n
  pub most : (k : ℕ) → get_or vs k 0 ≤ top

-- what holds of the numbers of a run, if there are any
unfoldable pub All : (List ℕ → Type 0) → Run → Type 0
All P (values vs rest) = P vs
All P (refused k) = Unit

bounded-none : (top : ℕ) → Bounded 0 top []
bounded-none top = record { many = refl; most = λ k. omega arith }

bounded-more : (n top v : ℕ) (vs : List ℕ) → v ≤ top → Bounded n top vs → Bounded (suc n) top (v ∷ vs)
bounded-more n top v vs h b = record { many = ap suc b.many; most = at }
  where
    at : (k : ℕ) → get_or (v ∷ vs) k 0 ≤ top
    at zero = h
    at (suc k) = b.most k

after : (n top v : ℕ) (x : Run) → v ≤ top → All (Bounded n top) x → All (Bounded (suc n) top) (prepend v x)
unfolding prepend All
after n top v (values vs rest) h b = bounded-more n top v vs h b
after n top v (refused k) h b = b

chosen : (n top v refusal : ℕ) (x : Run) (b : Bool) → leb v top ≡ b → All (Bounded n top) x → All (Bounded (suc n) top) (cond b (prepend v x) (refused refusal))
unfolding All
chosen n top v refusal x true e h = after n top v x (leb-true v top e) h
chosen n top v refusal x false e h = tt

more : (n top refusal : ℕ) (others : List ℕ → Run) → ((bytes : List ℕ) → All (Bounded n top) (others bytes)) → (x : Read) → All (Bounded (suc n) top) (one_more top refusal x others)
unfolding one_more All
more n top refusal others h (value v rest) = chosen n top v refusal (others rest) (leb v top) refl (h rest)
more n top refusal others h fault = tt

pub run-bounded : (n top refusal : ℕ) (bytes : List ℕ) → All (Bounded n top) (run n top refusal bytes)
unfolding run All
run-bounded zero top refusal bytes = bounded-none top
run-bounded (suc n) top refusal bytes = more n top refusal (run n top refusal) (λ rest. run-bounded n top refusal rest) (number bytes)
