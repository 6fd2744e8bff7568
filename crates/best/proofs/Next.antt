-- The next label of the search: the first, by weight and then by steps, of the labels that are no seeds yet.
use Prim.Native.Nat.{ℕ, zero, suc, ◌≤◌, ◌<◌}
use mathlib.Core.Path.{◌≡◌, refl, sym}
use mathlib.Core.Bool.{Bool, true, false, not, ◌&&◌, ◌||◌, cond}
use mathlib.Core.Logic.{◌⊎◌, inl, inr}
use native.Mathlib.Omega.{arith}
use borrow.Author.Tests.{lt-ltb, le-ltb, le-leb, lt-leb, eq-eqb, ne_eqb}
use lib.Dec.{T, T_not, eqb, leb, ltb}
use Rattle.rules.specs.Rules.{register_code, fifo_code, is_closing}
use Rattle.plan.proofs.Truth.{fst, snd, both, of-true, of-false, equal, split, three-way}
use Rattle.rules.proofs.View.{closing-codes, register-closing, fifo-closing}
use Rattle.budget.specs.Done.{NotAfter, Labels, seed_at}
use Rattle.budget.proofs.Done.{not-after-trans, not-after-refl}
use Rattle.best.specs.Labels.{Label, unknown, known, earlier, waiting, next_label}

-- the first place where P holds
pub data FirstPlace (P : ℕ → ℕ → Type 0) : Label → Type 0 where
  at : {w t : ℕ} → P w t → ((v r : ℕ) → P v r → NotAfter w t v r) → FirstPlace P (known w t)
  empty : ((v r : ℕ) → P v r → ⊥) → FirstPlace P unknown

alike : {P Q : ℕ → ℕ → Type 0} {x : Label} → ((w t : ℕ) → P w t → Q w t) → ((w t : ℕ) → Q w t → P w t) → FirstPlace P x → FirstPlace Q x
alike to from (at p first) = at (to _ _ p) (λ v r q. first v r (from v r q))
alike to from (empty never) = empty (λ v r q. never v r (from v r q))

-- the earlier of two

pub earlier-first : {P Q : ℕ → ℕ → Type 0} {x y : Label} → FirstPlace P x → FirstPlace Q y → FirstPlace (λ w t. P w t ⊎ Q w t) (earlier x y)
unfolding earlier
earlier-first {P} {Q} (empty a) (empty b) = empty none
  where
    none : (v r : ℕ) → P v r ⊎ Q v r → ⊥
    none v r (inl p) = a v r p
    none v r (inr q) = b v r q
earlier-first {P} {Q} (empty a) (at {w = w} {t = s} q second) = at (inr q) all
  where
    all : (u r : ℕ) → P u r ⊎ Q u r → NotAfter w s u r
    all u r (inl p) = absurd (a u r p)
    all u r (inr q) = second u r q
earlier-first {P} {Q} (at {w = v} {t = t} p first) (empty b) = at (inl p) all
  where
    all : (u r : ℕ) → P u r ⊎ Q u r → NotAfter v t u r
    all u r (inl p) = first u r p
    all u r (inr q) = absurd (b u r q)
earlier-first {P} {Q} (at {w = v} {t = t} p first) (at {w = w} {t = s} q second) = go (three-way v w) (split t s)
  where
    all : {a b : ℕ} → NotAfter a b v t → NotAfter a b w s → (u r : ℕ) → P u r ⊎ Q u r → NotAfter a b u r
    all x y u r (inl p) = not-after-trans x (first u r p)
    all x y u r (inr q) = not-after-trans y (second u r q)

    left : (ltb v w || (eqb v w && leb t s)) ≡ true → NotAfter v t w s → FirstPlace (λ w t. P w t ⊎ Q w t) (cond (ltb v w || (eqb v w && leb t s)) (known v t) (known w s))
    left e h = rw e (at (inl p) (all (not-after-refl v t) h))

    right : (ltb v w || (eqb v w && leb t s)) ≡ false → NotAfter w s v t → FirstPlace (λ w t. P w t ⊎ Q w t) (cond (ltb v w || (eqb v w && leb t s)) (known v t) (known w s))
    right e h = rw e (at (inr q) (all h (not-after-refl w s)))

    go : (v ≡ w) ⊎ ((v < w) ⊎ (w < v)) → (t ≤ s) ⊎ (s < t) → FirstPlace (λ w t. P w t ⊎ Q w t) (cond (ltb v w || (eqb v w && leb t s)) (known v t) (known w s))
    go (inl e) (inl h) = left (simp (le-ltb v w (omega arith), eq-eqb v w e, le-leb t s h)) (inr (e, h))
    go (inl e) (inr h) = right (simp (le-ltb v w (omega arith), eq-eqb v w e, lt-leb t s h)) (inr (sym e, omega arith))
    go (inr (inl h)) z = left (simp (lt-ltb v w h)) (inl h)
    go (inr (inr h)) z = right (simp (le-ltb v w (omega arith), ne_eqb v w (λ e. omega arith))) (inl h)

-- the labels that wait

pub record Waits (m : ℕ → Labels) (k s code c w t : ℕ) : Type 0 where
  pub is_known : T ((m code).known c)
  pub weight : (m code).weight c ≡ w
  pub steps : (m code).steps c ≡ t
  pub late : T (not (seed_at m k s code c))

module _ (m : ℕ → Labels) (k s : ℕ) where
  waiting-first : (code c : ℕ) → FirstPlace (Waits m k s code c) (waiting m k s code c)
  unfolding waiting
  waiting-first code c = go ((m code).known c && not (seed_at m k s code c)) refl
    where
      same : (v r : ℕ) → Waits m k s code c v r → NotAfter ((m code).weight c) ((m code).steps c) v r
      same v r x = rw (x.weight, x.steps) (not-after-refl v r)

      go : (b : Bool) → ((m code).known c && not (seed_at m k s code c)) ≡ b → FirstPlace (Waits m k s code c) (cond b (known ((m code).weight c) ((m code).steps c)) unknown)
      go true e =
          let h = of-true ((m code).known c && not (seed_at m k s code c)) e in
          at (record { is_known = fst ((m code).known c) _ h; weight = refl; steps = refl; late = snd ((m code).known c) _ h }) same
      go false e =
          empty (λ v r x. T_not ((m code).known c && not (seed_at m k s code c)) (of-false ((m code).known c && not (seed_at m k s code c)) e) (both ((m code).known c) _ x.is_known x.late))

  -- a label of the first n cells
  pub record WaitsBelow (n w t : ℕ) : Type 0 where
    pub code : ℕ
    pub cell : ℕ
    pub shut : T (is_closing code)
    pub below : cell < n
    pub waits : Waits m k s code cell w t

  pub next-first : (n : ℕ) → FirstPlace (WaitsBelow n) (next_label n m k s)
  unfolding next_label
  next-first zero = empty (λ v r x. absurd (omega (arith, x.below)))
  next-first (suc n) = alike to from (earlier-first (earlier-first (waiting-first register_code n) (waiting-first fifo_code n)) (next-first n))
    where
      to : (w t : ℕ) → (Waits m k s register_code n w t ⊎ Waits m k s fifo_code n w t) ⊎ WaitsBelow n w t → WaitsBelow (suc n) w t
      to w t (inl (inl x)) = record { code = register_code; cell = n; shut = register-closing register_code refl; below = omega arith; waits = x }
      to w t (inl (inr x)) = record { code = fifo_code; cell = n; shut = fifo-closing fifo_code refl; below = omega arith; waits = x }
      to w t (inr x) = record { code = x.code; cell = x.cell; shut = x.shut; below = omega (arith, x.below); waits = x.waits }

      from : (w t : ℕ) → WaitsBelow (suc n) w t → (Waits m k s register_code n w t ⊎ Waits m k s fifo_code n w t) ⊎ WaitsBelow n w t
      from w t x = go (equal x.cell n) (closing-codes x.code x.shut)
        where
          go : (x.cell ≡ n) ⊎ (x.cell ≡ n → ⊥) → (x.code ≡ register_code) ⊎ (x.code ≡ fifo_code) → (Waits m k s register_code n w t ⊎ Waits m k s fifo_code n w t) ⊎ WaitsBelow n w t
          go (inl e) (inl q) = inl (inl (rw (e, q) at x.waits))
          go (inl e) (inr q) = inl (inr (rw (e, q) at x.waits))
          go (inr f) q = inr (record { code = x.code; cell = x.cell; shut = x.shut; below = omega (arith, x.below); waits = x.waits })
