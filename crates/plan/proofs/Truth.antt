-- Small tools on tests: `T b` taken apart and put together, and what a test on numbers says.
-- `search both` builds a conjunction and `search parts` takes one apart; `omega (arith, tests)` reads and proves tests on numbers.
use Prim.Native.Nat.{ℕ, ◌≤◌, ◌<◌}
use mathlib.Core.Bool.{Bool, true, false, not, ◌&&◌, ◌||◌}
use mathlib.Core.Path.{◌≡◌, refl, sym, subst}
use mathlib.Core.Logic.{◌⊎◌, inl, inr}
use native.Mathlib.Omega.{arith}
use lib.Dec.{T, leb, eqb, leb→le, le→leb, nleb→lt, ltb→lt, lt→ltb, nltb→le, eqb→eq, eqb_refl, T_not, not_T}

-- both tests pass

pub both : (a b : Bool) → T a → T b → T (a && b)
both true b h k = k
both false b h k = h

pub fst : (a b : Bool) → T (a && b) → T a
fst true b h = tt
fst false b h = h

pub snd : (a b : Bool) → T (a && b) → T b
snd true b h = h
snd false b h = absurd h

pub ruleset parts = (fst, snd)

-- one of two tests passes

pub or_left : (a b : Bool) → T a → T (a || b)
or_left true b h = tt
or_left false b h = absurd h

pub or_right : (a b : Bool) → T b → T (a || b)
or_right true b h = tt
or_right false b h = h

pub or_cases : (a b : Bool) → T (a || b) → T a ⊎ T b
or_cases true b h = inl tt
or_cases false b h = inr h

-- a test passes or fails

pub decided : (b : Bool) → T b ⊎ T (not b)
decided true = inl tt
decided false = inr tt

-- a test as an equation

pub is_true : (b : Bool) → T b → b ≡ true
is_true true h = refl
is_true false h = absurd h

pub of-true : (b : Bool) → b ≡ true → T b
of-true b e = subst T (sym e) tt

pub is_false : (b : Bool) → T (not b) → b ≡ false
is_false true h = absurd h
is_false false h = refl

pub of-false : (b : Bool) → b ≡ false → T (not b)
of-false b e = subst (λ (t : Bool). T (not t)) (sym e) tt

-- tests on numbers; `lib.Dec` has the others

pub eq→eqb : (a b : ℕ) → a ≡ b → T (eqb a b)
eq→eqb a b e = rw e (eqb_refl b)

pub neqb→ne : (a b : ℕ) → T (not (eqb a b)) → a ≡ b → ⊥
neqb→ne a b h e = T_not (eqb a b) h (eq→eqb a b e)

pub ne→neqb : (a b : ℕ) → (a ≡ b → ⊥) → T (not (eqb a b))
ne→neqb a b h = not_T (eqb a b) (λ t. h (eqb→eq a b t))

pub ruleset tests = (leb→le, le→leb, nleb→lt, ltb→lt, lt→ltb, nltb→le, eqb→eq, eq→eqb, neqb→ne, ne→neqb)

-- the cases of two numbers

pub split : (a b : ℕ) → (a ≤ b) ⊎ (b < a)
split a b = go (decided (leb a b))
  where
    go : T (leb a b) ⊎ T (not (leb a b)) → (a ≤ b) ⊎ (b < a)
    go (inl h) = inl (leb→le a b h)
    go (inr h) = inr (nleb→lt a b h)

pub equal : (a b : ℕ) → (a ≡ b) ⊎ (a ≡ b → ⊥)
equal a b = go (decided (eqb a b))
  where
    go : T (eqb a b) ⊎ T (not (eqb a b)) → (a ≡ b) ⊎ (a ≡ b → ⊥)
    go (inl h) = inl (eqb→eq a b h)
    go (inr h) = inr (neqb→ne a b h)

pub three-way : (a b : ℕ) → (a ≡ b) ⊎ ((a < b) ⊎ (b < a))
three-way a b = go (split a b) (split b a)
  where
    go : (a ≤ b) ⊎ (b < a) → (b ≤ a) ⊎ (a < b) → (a ≡ b) ⊎ ((a < b) ⊎ (b < a))
    go (inl h) (inl k) = inl (omega arith)
    go (inl h) (inr k) = inr (inl k)
    go (inr h) (inl k) = inr (inr h)
    go (inr h) (inr k) = inr (inl k)

-- tests in another order

pub or_comm : (a b : Bool) → (a || b) ≡ (b || a)
or_comm true true = refl
or_comm true false = refl
or_comm false true = refl
or_comm false false = refl

pub or-false : (a b : Bool) → (a || b) ≡ false → (a ≡ false) × (b ≡ false)
or-false true b e = (e, cc)
or-false false b e = (refl, e)
