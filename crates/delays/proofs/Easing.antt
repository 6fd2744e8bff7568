-- A row that is cut from a load on: the rows fall as before.
use Prim.Native.Nat.{ℕ, ◌+◌, ◌*◌, ◌-◌, ◌≤◌, ◌<◌, min}
use mathlib.Core.Path.{◌≡◌, refl, ◌∙◌}
use mathlib.Core.Logic.{◌⊎◌, inl, inr}
use mathlib.Core.List.{List}
use native.Mathlib.Omega.{arith}
use lib.ListN.{get_or}
use Rattle.plan.proofs.Truth.{split, equal}
use Rattle.costs.specs.Costs.{row_words}
use Rattle.layout.specs.Layout.{queue_at, closes_at}
use Rattle.rows.specs.Words.{Kept}
use Rattle.rows.specs.Rows.{view_of}
use Rattle.queue.specs.Queue.{Queue, Joined}
use Rattle.delays.specs.Delays.{Falling, Cut, Lesser, Eased}
use Rattle.delays.proofs.Waiting.{queue-kept, waits_kept}

pub lesser-min : {delay old new : ℕ} → Lesser delay old new → new ≡ min old delay
lesser-min (inl h) = omega (arith, h.0, h.1)
lesser-min (inr h) = omega (arith, h.0, h.1)

module _ (n limit cell load delay : ℕ) (old : List ℕ) (fall : Falling n limit old) (inside : cell < n) (light : load ≤ limit) (short : limit < row_words) where
  -- the word is not later than the delay: nothing changes
  pub eased-none : {count : ℕ} → view_of old cell load ≤ delay → Queue n old count → Eased n limit cell load delay old count old count
  eased-none early queue =
      record {
        same = refl;
        high = λ k h. refl;
        row = λ l a b. inr (omega (arith, fall cell load l inside a b), refl);
        others = λ k h o. refl;
        falling = fall;
        queue = queue;
        waits = λ s h w. w;
        here = λ h. absurd (omega arith);
      }

  module _ (mid : List ℕ) (cut : Cut (cell * row_words + load) (cell * row_words + limit + 1) delay old mid) where
    cut-row : (l : ℕ) → load ≤ l → l ≤ limit → Lesser delay (view_of old cell l) (view_of mid cell l)
    cut-row l a b = go (split cut.stop (cell * row_words + l))
      where
        go : (cut.stop ≤ cell * row_words + l) ⊎ (cell * row_words + l < cut.stop) → Lesser delay (view_of old cell l) (view_of mid cell l)
        go (inl h) =
            let e : cell * row_words + (cut.stop - cell * row_words) ≡ cut.stop = omega (arith, cut.from) in
            let f = rw e at (fall cell (cut.stop - cell * row_words) l inside (omega (arith, cut.from)) b) in
            inr (omega (arith, f, cut.last (omega arith)), cut.high (cell * row_words + l) h)
        go (inr h) = inl (cut.cut (cell * row_words + l) (omega arith) h)

    cut-others : (k : ℕ) → (k < cell * row_words + load) ⊎ (cell * row_words + limit < k) → get_or mid k 0 ≡ get_or old k 0
    cut-others k (inl h) = cut.low k h
    cut-others k (inr h) = cut.high k (omega (arith, cut.within))

    -- the words of other cells
    cut-elsewhere : (c l : ℕ) → l ≤ limit → (c ≡ cell → ⊥) → view_of mid c l ≡ view_of old c l
    cut-elsewhere c l h q = go (split cell c)
      where
        go : (cell ≤ c) ⊎ (c < cell) → view_of mid c l ≡ view_of old c l
        go (inl k) = cut-others (c * row_words + l) (inr (omega arith))
        go (inr k) = cut-others (c * row_words + l) (inl (omega arith))

    cut-least : (k : ℕ) → get_or mid k 0 ≤ get_or old k 0
    cut-least k = go (split (cell * row_words + load) k) (split cut.stop k)
      where
        go : (cell * row_words + load ≤ k) ⊎ (k < cell * row_words + load) → (cut.stop ≤ k) ⊎ (k < cut.stop) → get_or mid k 0 ≤ get_or old k 0
        go (inr h) s = omega (arith, cut.low k h)
        go (inl h) (inl s) = omega (arith, cut.high k s)
        go (inl h) (inr s) = omega (arith, (cut.cut k h s).0, (cut.cut k h s).1)

    cut-falling : Falling n limit mid
    cut-falling c l m h a b = go (equal c cell) (split load l)
      where
        go : (c ≡ cell) ⊎ (c ≡ cell → ⊥) → (load ≤ l) ⊎ (l < load) → view_of mid c m ≤ view_of mid c l
        go (inr q) s = omega (arith, cut-elsewhere c l (omega arith) q, cut-elsewhere c m b q, fall c l m h a b)
        go (inl q) (inl s) =
            rw q (omega (arith, lesser-min (cut-row l s (omega arith)), lesser-min (cut-row m (omega arith) b), fall cell l m inside a b))
        go (inl q) (inr s) =
            rw q (omega (arith, cut-others (cell * row_words + l) (inl (omega arith)), cut-least (cell * row_words + m), fall cell l m inside a b))

    -- the words from the queue on
    cut-rest : (k : ℕ) → n * row_words ≤ k → get_or mid k 0 ≡ get_or old k 0
    cut-rest k h = cut-others k (inr (omega arith))

    module _ {count : ℕ} (queue : Queue n old count) where
      queue-words : Kept (n * queue_at) (n * closes_at) old mid
      queue-words k a b = cut-rest k a

      pub cut-queue : Queue n mid count
      cut-queue = queue-kept queue mid queue-words

      -- the word is later: the row is cut, and the state joins
      pub eased-joined : {new : List ℕ} {next : ℕ} → delay < view_of old cell load → Joined n count (cell * row_words + load) mid new next → Eased n limit cell load delay old count new next
      eased-joined {new} later joined =
          record {
            same = joined.aside.same ∙ cut.same;
            high = λ k h. joined.aside.high k h ∙ cut-rest k (omega arith);
            row = λ l a b. rw (joined.aside.low (cell * row_words + l) (omega arith)) (cut-row l a b);
            others = λ k h o. joined.aside.low k h ∙ cut-others k o;
            falling =
                λ c l m h a b.
                omega (arith, joined.aside.low (c * row_words + l) (omega arith), joined.aside.low (c * row_words + m) (omega arith), cut-falling c l m h a b);
            queue = joined.queue;
            waits = λ s h w. joined.waits s h (waits_kept queue mid queue-words s h w);
            here = λ h. joined.here;
          }
