-- The laws of `Filled`: nothing filled, one word more, and what a caller reads off.
use Rattle.std.proofs.Common.{ℕ, ◌+◌, ◌-◌, ◌≤◌, ◌<◌, ◌≡◌, refl, ◌∙◌, ◌⊎◌, inl, inr, List, arith, below_more, length, get_or, set, length-set, get_or-set_same, get_or-set_other, ext_get_or}
use Rattle.std.specs.List.{CopiedTo, SameBelow, SameFrom}
use Rattle.plan.proofs.Truth.{split}
use Rattle.rows.specs.Words.{Filled}

pub filled_none : (F : ℕ → ℕ) (at : ℕ) (words : List ℕ) → Filled F at 0 words words
filled_none F at words =
    record { same = refl; done = λ k h. absurd (omega arith); low = λ k h. refl; high = λ k h. refl }

-- a stretch that `copy_within` has filled from `from` up to `end`
pub filled_copied : (from end at n : ℕ) (old new : List ℕ) → end ≡ from + n → length new ≡ length old → CopiedTo old new from at (end - from) → SameBelow old new at → SameFrom old new (at + (end - from)) → Filled (λ k. get_or old (from + k) 0) at n old new
filled_copied from end at n old new e same copied low high =
    record {
      same = same;
      done = λ k h. let d : at + k - at ≡ k = omega arith in rw d at (copied (at + k) 0 (omega arith) (omega arith));
      low = λ k h. low k 0 h;
      high = λ k h. high k 0 (omega arith);
    }

module _ {F : ℕ → ℕ} {at n : ℕ} {old new : List ℕ} (f : Filled F at n old new) where
  -- one word more
  pub filled_more : (x : ℕ) → at + n < length old → x ≡ F n → Filled F at (n + 1) old (set new (at + n) x)
  filled_more x h e =
      let inside : at + n < length new = omega (arith, f.same) in
      record {
        same = length-set new (at + n) x ∙ f.same;
        done =
            below_more (λ k. get_or (set new (at + n) x) (at + k) 0 ≡ F k) n
            (λ k l. get_or-set_other new (at + n) (at + k) x 0 (λ z. omega arith) ∙ f.done k l)
            (get_or-set_same new (at + n) x 0 inside ∙ e);
        low = λ k l. get_or-set_other new (at + n) k x 0 (λ z. omega arith) ∙ f.low k l;
        high = λ k l. get_or-set_other new (at + n) k x 0 (λ z. omega arith) ∙ f.high k (omega arith);
      }

  -- a longer stretch, whose further words are right as they were
  pub filled-longer : (m : ℕ) → n ≤ m → ((k : ℕ) → n ≤ k → k < m → get_or old (at + k) 0 ≡ F k) → Filled F at m old new
  filled-longer m h e = record { same = f.same; done = λ k l. go k l (split n k); low = f.low; high = λ k l. f.high k (omega arith) }
    where
      go : (k : ℕ) → k < m → (n ≤ k) ⊎ (k < n) → get_or new (at + k) 0 ≡ F k
      go k l (inl b) = f.high (at + k) (omega arith) ∙ e k b l
      go k l (inr b) = f.done k b

  -- the same stretch by another name
  pub filled-as : (G : ℕ → ℕ) → ((k : ℕ) → k < n → F k ≡ G k) → Filled G at n old new
  filled-as G e = record { same = f.same; done = λ k l. f.done k l ∙ e k l; low = f.low; high = f.high }

  -- filled a second time
  pub filled-twice : (G : ℕ → ℕ) (last : List ℕ) → Filled G at n new last → Filled G at n old last
  filled-twice G last g =
      record {
        same = g.same ∙ f.same;
        done = g.done;
        low = λ k l. g.low k l ∙ f.low k l;
        high = λ k l. g.high k l ∙ f.high k l;
      }

  -- a word of the stretch, by its place
  pub filled_at : (k : ℕ) → at ≤ k → k < at + n → get_or new k 0 ≡ F (k - at)
  filled_at k h l =
      let e : at + (k - at) ≡ k = omega arith in
      rw e at (f.done (k - at) (omega arith))

-- two lists of one length with the same words
pub same-words : (a b : List ℕ) → length a ≡ length b → ((k : ℕ) → get_or a k 0 ≡ get_or b k 0) → a ≡ b
same-words a b e h = ext_get_or 0 a b e (λ k l. h k)
