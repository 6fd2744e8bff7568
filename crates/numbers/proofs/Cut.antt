-- A number, and a run of numbers, read from the first m bytes and from all bytes: the same, if m is large enough.
-- A number takes at most three bytes, and one below 128 takes one.
use Prim.Native.Nat.{ℕ, zero, suc, ◌+◌, ◌*◌, ◌-◌, ◌≤◌, ◌<◌}
use mathlib.Core.Path.{◌≡◌, refl, sym, ap, ◌∙◌}
use mathlib.Core.Bool.{Bool, true, false, ◌||◌, cond}
use mathlib.Core.List.{List, [], ◌∷◌}
use native.Mathlib.Nat.{zero-mul, suc-mul}
use native.Mathlib.Omega.{arith}
use lib.Dec.{eqb, leb, ltb}
use lib.ListN.{take}
use borrow.Author.Tests.{lt-ltb, le-ltb, ltb-true, leb-true, eqb-false}
use Rattle.plan.proofs.Truth.{or-false}
use Rattle.numbers.specs.Numbers.{Read, value, fault, number_max, closed, third_group, second_group, number}
use Rattle.numbers.specs.Runs.{Run, values, refused, job_fault, prepend, one_more, run}

-- bytes that a number takes, at most
unfoldable pub size : ℕ → ℕ
size v = cond (ltb v 128) 1 3

pub size_small : (v : ℕ) → v < 128 → size v ≡ 1
unfolding size
size_small v h = rw (lt-ltb v 128 h)

size-large : (v : ℕ) → 128 ≤ v → size v ≡ 3
unfolding size
size-large v h = rw (le-ltb v 128 h)

pub size-most : (v : ℕ) → size v ≤ 3
unfolding size
size-most v = go (ltb v 128)
  where
    go : (b : Bool) → cond b 1 3 ≤ 3
    go true = omega arith
    go false = omega arith

-- the same number or fault, read from m bytes and from all: after the number there are at least m bytes less its size
pub data Cut (m : ℕ) : Read → Read → Type 0 where
  both-fault : Cut m fault fault
  both-value : (v : ℕ) (rest : List ℕ) (k : ℕ) → m ≤ k + size v → Cut m (value v (take k rest)) (value v rest)

closed-cut : (byte v m k : ℕ) (rest : List ℕ) → ((byte ≡ 0 → ⊥) → 128 ≤ v) → m ≤ k + 3 → Cut m (closed byte v (take k rest)) (closed byte v rest)
unfolding closed
closed-cut byte v m k rest large h = go (eqb byte 0 || ltb number_max v) refl
  where
    go : (b : Bool) → (eqb byte 0 || ltb number_max v) ≡ b → Cut m (cond b fault (value v (take k rest))) (cond b fault (value v rest))
    go true e = both-fault
    go false e = both-value v rest k (omega (arith, size-large v (large (eqb-false byte 0 (or-false (eqb byte 0) (ltb number_max v) e).0))))

third-cut : (low m k : ℕ) (bytes : List ℕ) → m ≤ k + 3 → Cut m (third_group low (take (suc k) bytes)) (third_group low bytes)
unfolding third_group
third-cut low m k [] h = both-fault
third-cut low m k (byte ∷ rest) h = go (ltb byte 128)
  where
    go : (b : Bool) → Cut m (cond b (closed byte (low + 16384 * byte) (take k rest)) fault) (cond b (closed byte (low + 16384 * byte) rest) fault)
    go true = closed-cut byte (low + 16384 * byte) m k rest (λ ne. omega arith) h
    go false = both-fault

second-cut : (low m k : ℕ) (bytes : List ℕ) → m ≤ k + 3 → Cut m (second_group low (take (suc (suc k)) bytes)) (second_group low bytes)
unfolding second_group
second-cut low m k [] h = both-fault
second-cut low m k (byte ∷ rest) h = go (ltb byte 128)
  where
    go : (b : Bool) → Cut m (cond b (closed byte (low + 128 * byte) (take (suc k) rest)) (third_group (low + 128 * (byte - 128)) (take (suc k) rest))) (cond b (closed byte (low + 128 * byte) rest) (third_group (low + 128 * (byte - 128)) rest))
    go true = closed-cut byte (low + 128 * byte) m (suc k) rest (λ ne. omega arith) (omega arith)
    go false = third-cut (low + 128 * (byte - 128)) m k rest h

first-cut : (k : ℕ) (bytes : List ℕ) → Cut (suc (suc (suc k))) (number (take (suc (suc (suc k))) bytes)) (number bytes)
unfolding number
first-cut k [] = both-fault
first-cut k (byte ∷ rest) = go (ltb byte 128) refl
  where
    go : (b : Bool) → ltb byte 128 ≡ b → Cut (suc (suc (suc k))) (cond b (value byte (take (suc (suc k)) rest)) (second_group (byte - 128) (take (suc (suc k)) rest))) (cond b (value byte rest) (second_group (byte - 128) rest))
    go true e = both-value byte rest (suc (suc k)) (omega (arith, size_small byte (ltb-true byte 128 e)))
    go false e = second-cut (byte - 128) (suc (suc (suc k))) k rest (omega arith)

pub number_cut : (m : ℕ) (bytes : List ℕ) → 3 ≤ m → Cut m (number (take m bytes)) (number bytes)
number_cut m bytes h =
    let e : suc (suc (suc (m - 3))) ≡ m = omega arith in
    rw e at (first-cut (m - 3) bytes)

-- the same for a run: after the numbers there are at least m bytes less t
pub data RunCut (m t : ℕ) : Run → Run → Type 0 where
  both-refused : (k : ℕ) → RunCut m t (refused k) (refused k)
  both_values : (vs rest : List ℕ) (k : ℕ) → m ≤ k + t → RunCut m t (values vs (take k rest)) (values vs rest)

prepend-cut : (s : ℕ) {m k t : ℕ} {x y : Run} (v : ℕ) → m ≤ k + s → RunCut k t x y → RunCut m (t + s) (prepend v x) (prepend v y)
unfolding prepend
prepend-cut s v h (both-refused k) = both-refused k
prepend-cut s v h (both_values vs rest j most) = both_values (v ∷ vs) rest j (omega arith)

-- bytes of n numbers of at most c bytes each
unfoldable pub bytes_of : ℕ → ℕ → ℕ
bytes_of zero c = 0
bytes_of (suc n) c = bytes_of n c + c

module _ (top refusal c s : ℕ) (sizes : (v : ℕ) → v ≤ top → size v ≤ c) (ahead : 3 ≤ c + s) where
  one-cut : (n m : ℕ) → bytes_of n c + c + s ≤ m → ((k : ℕ) (rest : List ℕ) → bytes_of n c + s ≤ k → RunCut k (bytes_of n c) (run n top refusal (take k rest)) (run n top refusal rest)) → {x y : Read} → Cut m x y → RunCut m (bytes_of n c + c) (one_more top refusal x (run n top refusal)) (one_more top refusal y (run n top refusal))
  unfolding one_more
  one-cut n m h again both-fault = both-refused job_fault
  one-cut n m h again (both-value v rest k most) = go (leb v top) refl
    where
      go : (b : Bool) → leb v top ≡ b → RunCut m (bytes_of n c + c) (cond b (prepend v (run n top refusal (take k rest))) (refused refusal)) (cond b (prepend v (run n top refusal rest)) (refused refusal))
      go true e =
          let few : size v ≤ c = sizes v (leb-true v top e) in
          prepend-cut c v (omega arith) (again k rest (omega arith))
      go false e = both-refused refusal

  pub run-cut : (n m : ℕ) (bytes : List ℕ) → bytes_of n c + s ≤ m → RunCut m (bytes_of n c) (run n top refusal (take m bytes)) (run n top refusal bytes)
  unfolding run bytes_of
  run-cut zero m bytes h = both_values [] bytes m (omega arith)
  run-cut (suc n) m bytes h =
      one-cut n m h (λ k rest g. run-cut n k rest g) (number_cut m bytes (omega arith))

pub bytes-are : (n c : ℕ) → bytes_of n c ≡ n * c
unfolding bytes_of
bytes-are zero c = sym (zero-mul c)
bytes-are (suc n) c = ap (λ (k : ℕ). k + c) (bytes-are n c) ∙ sym (suc-mul n c)
