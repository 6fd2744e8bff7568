-- What the search of the source's side leaves for the sink's.
use Prim.Native.Nat.{ℕ, zero, suc, ◌+◌, ◌-◌, ◌*◌, ◌≤◌, ◌<◌}
use mathlib.Core.Path.{◌≡◌, refl, sym, ◌∙◌, subst}
use mathlib.Core.Logic.{◌⊎◌, inl, inr}
use mathlib.Core.List.{List}
use native.Mathlib.Omega.{arith}
use lib.Dec.{T}
use lib.ListN.{length, get_or}
use Rattle.plan.proofs.Truth.{split}
use Rattle.rules.specs.Rules.{Rules, register_code, fifo_code}
use Rattle.budget.specs.Done.{NotAfter, Labels, After, Covers}
use Rattle.budget.proofs.Done.{after_more}
use Rattle.layout.specs.Layout.{labels_at, label_words, exits_at, aside_at, crossing_words}
use Rattle.rows.specs.Words.{Filled, KeptFrom}
use Rattle.labels.specs.Labels.{no_labels, known_of, labels_of, labels_for, Ordered}
use Rattle.labels.proofs.Labels.{covers-moved, covers_kept, ordered-moved, ordered-kept, labels-register, labels-fifo, labels-no-fifo}
use Rattle.search.specs.Turn.{Beyond, Ended}
use Rattle.search.specs.declared.turns.Reached.{Reached}
use Rattle.search.specs.Search.{SideAsks, SearchDone}
use Rattle.search.proofs.LastSide.{last-side}
use Rattle.emission.specs.Emission.{Aside}
use Rattle.crossing_router.specs.Sides.{FarDone}

-- no label, where the order has none
none-known : {n set : ℕ} {words : List ℕ} → Ordered n set words 0 → (c : ℕ) → T (known_of n set words c) → ⊥
none-known o c t = omega (arith, (o.covered c t).below)

covers-nothing : {Q : ℕ → ℕ → ℕ → Type 0} {w t : ℕ} {m : Labels} → Covers Q w t m → ((c : ℕ) → T (m.known c) → ⊥) → Covers Q w t no_labels
covers-nothing x f = record { enough = λ c u. absurd u; least = λ c u. absurd u; complete = λ c q. absurd (f c (x.complete c q)) }

-- the FIFOs' labels, by their number
exits-covered : (Q : ℕ → ℕ → ℕ → Type 0) (n exits : ℕ) (words : List ℕ) (w t : ℕ) → Covers Q w t (labels_of n (n * exits_at) words) → Ordered n (n * exits_at) words exits → Covers Q w t (labels_for n exits words fifo_code)
exits-covered Q n exits words w t x o = go (split 1 exits)
  where
    go : (1 ≤ exits) ⊎ (exits < 1) → Covers Q w t (labels_for n exits words fifo_code)
    go (inl h) = subst (λ (m : Labels). Covers Q w t m) (sym (labels-fifo n exits words h)) x
    go (inr h) =
        let none : exits ≡ 0 = omega arith in
        subst (λ (m : Labels). Covers Q w t m) (sym (labels-no-fifo n exits words none))
        (covers-nothing x (none-known (subst (λ (k : ℕ). Ordered n (n * exits_at) words k) none o)))

-- on that side there is no sink
pub no-sink : {R : Rules} {n exits k s count : ℕ} {new : List ℕ} → SearchDone R n 1 exits new (Reached.Sink k s count) → ⊥
no-sink (SearchDone.sink k s count own r) = omega (arith, own)

-- what was laid aside stays
pub aside-kept : {R : Rules} {n count : ℕ} {old new : List ℕ} → Aside R n old count → length new ≡ length old → KeptFrom (n * aside_at) old new → Aside R n new count
aside-kept {R} {n} {count} {old} {new} a same kept =
    record {
      labels = λ w t. covers_kept n (n * aside_at) old new (λ i lo hi. kept i lo) (After R 1 register_code) w t (a.labels w t);
      ordered = ordered-kept a.ordered new (λ i lo hi. kept i lo);
      last = a.last;
      room = omega (arith, a.room);
    }

module _ {R : Rules} {n : ℕ} (two : R.fifos ≡ 1) where
  -- before it: the words for the FIFOs' labels are cleared
  pub far-asks : {old words : List ℕ} → n * crossing_words ≤ length old → Filled (λ k. 0) (n * exits_at) (n * aside_at - n * exits_at) old words → SideAsks R n 1 0 words
  far-asks {old} {words} room f =
      last-side R n 1 words two (λ h. omega (arith, f.same))
      (λ h i lo hi. let e : n * exits_at + (i - n * exits_at) ≡ i = omega arith in rw e at (f.done (i - n * exits_at) (omega arith)))

  -- after it, with its labels laid aside
  module _ {old words mid new : List ℕ} (count watched : ℕ) (room : n * crossing_words ≤ length old) (f : Filled (λ k. 0) (n * exits_at) (n * aside_at - n * exits_at) old words) (same : length mid ≡ length words) (b : Beyond n 1 words mid) (e : Ended R n 1 0 mid count watched) (copied : Filled (λ k. get_or mid (n * labels_at + k) 0) (n * aside_at) (n * label_words) mid new) where
    kept : (i : ℕ) → i < n * aside_at → get_or new i 0 ≡ get_or mid i 0
    kept i h = copied.low i h

    long : length new ≡ length old
    long = copied.same ∙ (same ∙ f.same)

    covered : (w t : ℕ) → Covers (After R 1 register_code) w t (labels_of n (n * labels_at) mid)
    covered w t =
        let x = subst (λ (m : Labels). Covers (After R 1 register_code) (R.weight 1 + w) t m) (labels-register n 0 mid) (e.labels w t).registers in
        record { enough = x.enough; least = x.least; complete = λ c a. x.complete c (after_more (R.weight 1 + w) t (later (R.weight 1)) a) }
      where
        later : (k : ℕ) → NotAfter w t (k + w) t
        later zero = inr (omega arith, omega arith)
        later (suc k) = inl (omega arith)

    pub far-done : FarDone R n old new (record { registers = count; exits = watched })
    far-done =
        record {
          same = long;
          asks = record {
            within = omega arith;
            covers = λ w t. exits-covered (After R 0 fifo_code) n watched new w t (covers_kept n (n * exits_at) mid new (λ i lo hi. kept i (omega arith)) (After R 0 fifo_code) w t (e.covers 0 refl w t)) ordered;
            ordered = λ h. ordered;
            exits_in = λ h. omega (arith, long);
            alone = λ h. absurd (omega arith);
            watch_in = λ h. absurd (omega arith);
            unwatched = λ h. absurd (omega arith);
          };
          aside = record {
            labels = λ w t. covers-moved n (n * labels_at) (n * aside_at) mid new (λ i h. copied.done i (omega arith)) (After R 1 register_code) w t (covered w t);
            ordered = ordered-moved e.ordered (n * aside_at) new (λ i h. copied.done i h);
            last = omega arith;
            room = omega (arith, long);
          };
          rest = λ i h. copied.high i (omega arith) ∙ (b.rest i (omega arith) ∙ f.high i (omega arith));
        }
      where
        ordered : Ordered n (n * exits_at) new watched
        ordered = ordered-kept (e.exits_ordered 0 refl) new (λ i lo hi. kept i (omega arith))
