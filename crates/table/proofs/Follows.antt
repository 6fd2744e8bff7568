-- The trail through a layer: nothing done, one thing after another, and a row saved and then raised.
use Rattle.std.proofs.Common.{ℕ, ◌+◌, ◌*◌, ◌<◌, ◌≡◌, refl, sym, ◌∙◌, ◌⊎◌, inl, inr, List, arith}
use Rattle.plan.proofs.Truth.{equal}
use Rattle.costs.specs.Costs.{row_words}
use Rattle.layout.specs.Layout.{arrival_at, labels_at, listed_at, trail_at}
use Rattle.rows.specs.Words.{Kept, KeptFrom}
use Rattle.lists.specs.Lists.{flag_of}
use Rattle.trail.specs.declared.Trail.{Trail}
use Rattle.trail.specs.Trail.{Sound, TrailKept, Noted}
use Rattle.trail.proofs.History.{SameView, sound-kept, noted-kept, history-kept, history-pushed}
use Rattle.table.specs.Layer.{FlagsNoted, Follows, NotedRow}

pub follows_same : {n : ℕ} {t : Trail} {words : List ℕ} → Sound n words t → Follows n t words t words
follows_same s =
    record {
      sound = s;
      room = refl;
      stamp = refl;
      near = λ few k lo hi. refl;
      beyond = λ k h. refl;
      noted = λ f. f;
      history = λ f u Z below past. past;
    }

pub follows-more : {n : ℕ} {t r q : Trail} {a b d : List ℕ} → Follows n t a r b → Follows n r b q d → Follows n t a q d
follows-more f g =
    record {
      sound = g.sound;
      room = g.room ∙ f.room;
      stamp = g.stamp ∙ f.stamp;
      near = λ few k lo hi. g.near (omega (arith, f.room)) k lo hi ∙ f.near few k lo hi;
      beyond = λ k h. g.beyond k (omega (arith, f.room)) ∙ f.beyond k h;
      noted = λ h. g.noted (f.noted h);
      history = λ h u Z below past. g.history (f.noted h) u Z (omega (arith, f.stamp)) (f.history h u Z below past);
    }

-- table, flags and trail stay
pub follows-kept : {n : ℕ} {t : Trail} {old new : List ℕ} → 0 < n → Sound n old t → Kept 0 (n * arrival_at) old new → KeptFrom (n * arrival_at + row_words) old new → Follows n t old t new
follows-kept {n} {t} {old} {new} some s low high =
    record {
      sound = sound-kept n old t new s kept;
      room = refl;
      stamp = refl;
      near = λ few k lo hi. high k lo;
      beyond = λ k h. high k (omega arith);
      noted = λ f c h e. noted-kept n old t new s kept c (f c h (sym (high (n * listed_at + c) (omega arith)) ∙ e));
      history = λ f u Z below past. history-kept n old t new s kept u Z (λ c h l k. low (c * row_words + l) (omega arith) (omega arith)) past;
    }
  where
    kept : TrailKept n old new
    kept = record { near = λ k lo hi. high k lo; far = λ k lo hi. high k (omega arith) }

-- then its row and its flag change
module _ (n cell : ℕ) (old : List ℕ) (t : Trail) (mid : List ℕ) (r : Trail) (note : NotedRow n cell old t mid r) (new : List ℕ) (near : Kept (n * arrival_at + row_words) (n * labels_at) mid new) (high : KeptFrom (n * trail_at) mid new) (rows : (c : ℕ) → c < n → (c ≡ cell → ⊥) → SameView mid new c) (flags : (c : ℕ) → c < n → (c ≡ cell → ⊥) → flag_of n new c ≡ flag_of n mid c) where
  kept : TrailKept n mid new
  kept = record { near = near; far = λ k lo hi. high k lo }

  pub follows-grew : Follows n t old r new
  follows-grew =
      record {
        sound = sound-kept n mid r new note.follows.sound kept;
        room = note.follows.room;
        stamp = note.follows.stamp;
        near = λ few k lo hi. near k lo hi ∙ note.follows.near few k lo hi;
        beyond = λ k h. high k (omega arith) ∙ note.follows.beyond k h;
        noted = λ f c h e. noted-kept n mid r new note.follows.sound kept c (pick f c h e (equal c cell));
        history =
            λ f u Z below past.
            history-pushed n mid r new note.follows.sound kept u Z cell (omega (arith, note.follows.stamp)) (note.noted f) rows
            (note.follows.history f u Z below past);
      }
    where
      pick : FlagsNoted n old t → (c : ℕ) → c < n → flag_of n new c ≡ 1 → (c ≡ cell) ⊎ (c ≡ cell → ⊥) → Noted n mid r c
      pick f c h e (inl q) = rw q (note.noted f)
      pick f c h e (inr q) = note.follows.noted f c h (sym (flags c h q) ∙ e)
