-- Laws of listed cells: how many there are, and how a list passes from old words to new.
use Rattle.std.proofs.Common.{ℕ, ◌+◌, ◌≤◌, ◌<◌, ◌≡◌, ◌∙◌, ◌⊎◌, inl, inr, List, arith, get_or}
use Rattle.lists.specs.Lists.{flag_of, ListedAt, Listed, Enlisted}
use Rattle.plan.proofs.Truth.{equal}
use Rattle.lists.proofs.Sums.{sum_same, sum_bound, sum-none, sum-zero, sum_more, sum-short}

-- a bit is 0 or 1
pub bit-cases : (b : ℕ) → b ≤ 1 → (b ≡ 0) ⊎ (b ≡ 1)
bit-cases b h = go (equal b 0)
  where
    go : (b ≡ 0) ⊎ (b ≡ 0 → ⊥) → (b ≡ 0) ⊎ (b ≡ 1)
    go (inl e) = inl e
    go (inr e) = inr (omega arith)

module _ {n : ℕ} {words : List ℕ} {base count : ℕ} (l : Listed n words base count) where
  pub listed-count : count ≤ n
  listed-count = omega (arith, sum_bound n 1 (flag_of n words) l.bits)

  -- a cell that is not listed leaves room for it
  pub listed-room : (c : ℕ) → c < n → flag_of n words c ≡ 0 → count < n
  listed-room c h e = omega (arith, sum-short n (flag_of n words) c l.bits h e)

  -- the list is empty just where no cell is flagged
  pub empty-flags : count ≡ 0 → (c : ℕ) → c < n → flag_of n words c ≡ 0
  empty-flags e c h = sum-zero n (flag_of n words) c (omega arith) h

-- no cell is flagged
pub listed-none : (n : ℕ) (words : List ℕ) (base : ℕ) → ((c : ℕ) → c < n → flag_of n words c ≡ 0) → Listed n words base 0
listed-none n words base z =
    record {
      bits = λ c h. omega (arith, z c h);
      cells = λ i h. absurd (omega arith);
      flagged = λ i h. absurd (omega arith);
      covered = λ c h e. absurd (omega (arith, z c h));
      counted = omega (arith, sum-none n (flag_of n words) z);
    }

-- new words with the same flags and, at `to`, the same list
pub listed-moved : {n : ℕ} {old : List ℕ} {from count : ℕ} → Listed n old from count → (new : List ℕ) (to : ℕ) → ((c : ℕ) → c < n → flag_of n new c ≡ flag_of n old c) → ((i : ℕ) → i < count → get_or new (to + i) 0 ≡ get_or old (from + i) 0) → Listed n new to count
listed-moved {n} {old} {from} {count} l new to f w =
    record {
      bits = λ c h. omega (arith, f c h, l.bits c h);
      cells = λ i h. omega (arith, w i h, l.cells i h);
      flagged = λ i h. rw (w i h) (f _ (l.cells i h) ∙ l.flagged i h);
      covered = λ c h e. at c (l.covered c h (omega (arith, f c h)));
      counted = omega (arith, sum_same n (flag_of n new) (flag_of n old) f, l.counted);
    }
  where
    at : (c : ℕ) → ListedAt n old from count c → ListedAt n new to count c
    at c p = record { at = p.at; below = p.below; holds = w p.at p.below ∙ p.holds }

pub listed_kept : {n : ℕ} {old : List ℕ} {base count : ℕ} → Listed n old base count → (new : List ℕ) → ((c : ℕ) → c < n → flag_of n new c ≡ flag_of n old c) → ((i : ℕ) → i < count → get_or new (base + i) 0 ≡ get_or old (base + i) 0) → Listed n new base count
listed_kept {n} {old} {base} l new f w = listed-moved l new base f w

-- one cell more
pub listed_more : {n : ℕ} {old : List ℕ} {base count : ℕ} → Listed n old base count → (new : List ℕ) (cell : ℕ) → cell < n → flag_of n old cell ≡ 0 → flag_of n new cell ≡ 1 → ((c : ℕ) → c < n → (c ≡ cell → ⊥) → flag_of n new c ≡ flag_of n old c) → ((i : ℕ) → i < count → get_or new (base + i) 0 ≡ get_or old (base + i) 0) → get_or new (base + count) 0 ≡ cell → Listed n new base (count + 1)
listed_more {n} {old} {base} {count} l new cell h z o f w e =
    record {
      bits = λ c k. bit c k (equal c cell);
      cells = λ i k. in-plan i k (equal i count);
      flagged = λ i k. flag i k (equal i count);
      covered = λ c k q. place c k q (equal c cell);
      counted = omega (arith, sum_more n (flag_of n old) (flag_of n new) cell h z o f, l.counted);
    }
  where
    bit : (c : ℕ) → c < n → (c ≡ cell) ⊎ (c ≡ cell → ⊥) → flag_of n new c ≤ 1
    bit c k (inl q) = rw q (omega arith)
    bit c k (inr q) = omega (arith, f c k q, l.bits c k)

    in-plan : (i : ℕ) → i < count + 1 → (i ≡ count) ⊎ (i ≡ count → ⊥) → get_or new (base + i) 0 < n
    in-plan i k (inl q) = rw (q, e) h
    in-plan i k (inr q) = omega (arith, w i (omega arith), l.cells i (omega arith))

    -- a cell on the list before is flagged, so it is another cell
    flag : (i : ℕ) → i < count + 1 → (i ≡ count) ⊎ (i ≡ count → ⊥) → flag_of n new (get_or new (base + i) 0) ≡ 1
    flag i k (inl q) = rw (q, e) o
    flag i k (inr q) =
        let j : i < count = omega arith in
        rw (w i j) (f _ (l.cells i j) (λ x. let y : flag_of n old cell ≡ 1 = rw x at (l.flagged i j) in omega arith) ∙ l.flagged i j)

    more : (c : ℕ) → ListedAt n old base count c → ListedAt n new base (count + 1) c
    more c p = record { at = p.at; below = omega arith; holds = w p.at p.below ∙ p.holds }

    place : (c : ℕ) → c < n → flag_of n new c ≡ 1 → (c ≡ cell) ⊎ (c ≡ cell → ⊥) → ListedAt n new base (count + 1) c
    place c k q (inl x) = record { at = count; below = omega arith; holds = rw x e }
    place c k q (inr x) = more c (l.covered c k (omega (arith, f c k x)))

-- `enlist` keeps what was listed
pub enlisted-stays : {n base count cell : ℕ} {old new : List ℕ} {next : ℕ} → Enlisted n base count cell old new next → (c : ℕ) → c < n → flag_of n old c ≡ 1 → flag_of n new c ≡ 1
enlisted-stays {n} {base} {count} {cell} {old} {new} e c h o = go (equal c cell)
  where
    go : (c ≡ cell) ⊎ (c ≡ cell → ⊥) → flag_of n new c ≡ 1
    go (inl q) = rw q e.now-flagged
    go (inr q) = e.others c h q ∙ o
