-- Texts put one after another.
use Prim.Native.Nat.{ℕ, suc, ◌+◌, ◌/◌, ◌%◌, ◌≤◌, ◌<◌}
use mathlib.Core.Path.{◌≡◌, refl, sym, ap, ◌∙◌, subst}
use mathlib.Core.Bool.{true, false}
use mathlib.Core.List.{List, [], ◌∷◌, ◌++◌}
use native.Mathlib.Omega.{arith}
use lib.IntN.{ℤ, pos, negsuc}
use lib.Signed.{lt_z}
use lib.ListN.{length, set, length-append}
use lib.Seq.{sets, length-sets}
use mir.Syntax.{w32}
use mir.Val.{SFits}
use Rattle.timing.specs.Slack.{magnitude}
use Rattle.timing.proofs.Signed.{below-zero, not-below-zero}
use Rattle.text.specs.Decimal.{digit, decimal, signed}
use Rattle.text.specs.Put.{Put}
use Rattle.text.proofs.Digits.{decimal-one, decimal-more, decimal-length}

sets-append : (a b old : List ℕ) (at : ℕ) → sets (sets old at a) (at + length a) b ≡ sets old at (a ++ b)
sets-append [] b old at = let e : at + 0 ≡ at = omega arith in ap (λ (k : ℕ). sets old k b) e
sets-append (x ∷ a) b old at =
    let e : at + suc (length a) ≡ suc at + length a = omega arith in
    ap (λ (k : ℕ). sets (sets (set old at x) (suc at) a) k b) e ∙ sets-append a b (set old at x) (suc at)

pub put-length : {a old new : List ℕ} {at r : ℕ} → Put a at r old new → length new ≡ length old
put-length {a} {old} {new} {at} p = ap length p.holds ∙ length-sets old at a

pub put_then : {a b old mid new : List ℕ} {at r s : ℕ} → Put a at r old mid → Put b r s mid new → Put (a ++ b) at s old new
put_then {a} {b} {old} {mid} {new} {at} {r} {s} p q =
    record {
      next = omega (arith, p.next, q.next, length-append a b);
      within = omega (arith, q.within, put-length p);
      holds =
          q.holds
          ∙ (ap (λ (xs : List ℕ). sets xs r b) p.holds
          ∙ (ap (λ (k : ℕ). sets (sets old at a) k b) p.next ∙ sets-append a b old at));
    }

pub put_same : {a b old new : List ℕ} {at r : ℕ} → a ≡ b → Put a at r old new → Put b at r old new
put_same {a} {b} {old} {new} {at} {r} e p = subst (λ (text : List ℕ). Put text at r old new) e p

-- a text put from the start on, in at most n bytes
pub record Within (n : ℕ) (text : List ℕ) (r : ℕ) (old new : List ℕ) : Type 0 where
  pub put : Put text 0 r old new
  pub most : r ≤ n

pub within-then : {a b old mid new : List ℕ} {r s n : ℕ} (m : ℕ) → length b ≤ m → Within n a r old mid → Put b r s mid new → Within (n + m) (a ++ b) s old new
within-then m h w q = record { put = put_then w.put q; most = omega (arith, w.most, q.next) }

pub put-none : (at : ℕ) (old : List ℕ) → at ≤ length old → Put [] at at old old
put-none at old h = record { next = omega arith; within = h; holds = refl }

-- a number's text, by its last digit
module _ {old new : List ℕ} {at r : ℕ} (n : ℕ) where
  pub put-digit : n < 10 → Put ((48 + n) ∷ []) at r old new → Put (decimal n) at r old new
  unfolding digit
  put-digit h p = rw (decimal-one n h) at p

  pub put-digits : {mid : List ℕ} {s : ℕ} → 10 ≤ n → Put (decimal (n / 10)) at s old mid → Put ((48 + n % 10) ∷ []) s r mid new → Put (decimal n) at r old new
  unfolding digit
  put-digits h p q = rw (decimal-more n h) at (put_then p q)

pub digits-less : (n : ℕ) → 10 ≤ n → length (decimal n) ≡ length (decimal (n / 10)) + 1
digits-less n h = sym (ap length (decimal-more n h)) ∙ length-append (decimal (n / 10)) (digit (n % 10) ∷ [])

-- a signed number, by its sign
pub signed_below : (z : ℤ) → lt_z z (pos 0) ≡ true → (45 ∷ []) ++ decimal (magnitude z) ≡ signed z
unfolding signed
signed_below z e = rw (below-zero z e) refl

pub signed-natural : (z : ℤ) → lt_z z (pos 0) ≡ false → decimal (magnitude z) ≡ signed z
unfolding signed
signed-natural z e = rw (not-below-zero z e) refl

-- lengths of numbers by their width
pub short : (n : ℕ) → n < 65536 → length (decimal n) ≤ 5
short n h = decimal-length 4 n (omega arith)

pub long : (n : ℕ) → n < 4294967296 → length (decimal n) ≤ 10
long n h = decimal-length 9 n (omega arith)

pub long-signed : (z : ℤ) → SFits w32 z → length (signed z) ≤ 11
unfolding signed
long-signed (pos n) fits = omega (arith, fits.sfits, long n (omega (arith, fits.sfits)))
long-signed (negsuc n) fits = omega (arith, fits.sfits, long (suc n) (omega (arith, fits.sfits)))
