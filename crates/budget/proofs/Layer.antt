-- One layer represents one step, over any set of states, any seeds and any closing bound; and so by rows.
use Prim.Native.Nat.{ℕ, suc, ◌+◌, ◌-◌, ◌≤◌, ◌<◌, max}
use mathlib.Core.Path.{◌≡◌, refl}
use mathlib.Core.Bool.{◌&&◌}
use mathlib.Core.Logic.{◌⊎◌, inl, inr}
use native.Mathlib.Omega.{arith}
use lib.Dec.{T, leb, leb→le, le→leb}
use Rattle.timing.specs.Formulas.{wire_delay}
use Rattle.rules.specs.Rules.{Rules, no_gate, register_code, fifo_code, is_closing}
use Rattle.rules.specs.Legal.{may_stand}
use Rattle.plan.proofs.Truth.{both, fst, snd}
use Rattle.rules.proofs.View.{closing-codes, register-closing, fifo-closing}
use Rattle.budget.specs.Table.{Table, States, Seeds, Represents, RepresentsRow, Step, stays, passes, drives, closes, only, max_below, load_at, delay_at, buffer_cost, load_of, close_cost, via_buffer, via_close, arrival, given, layer}
use Rattle.budget.proofs.Max.{Above, max_cases, below-max, max-below, only-test, only-value, only-in}

-- an uncut wire leads only to cells of the plan
abbrev pub InPlan : Rules → Type 0
InPlan R = (c n : ℕ) → T (R.linked c n) → n < R.cell_count

module _ (R : Rules) (seed : Seeds) (bound : ℕ) (A : Table) (X : States) (rep : Represents A X) where
  -- the ways to be within the arrival budget: no gate, some buffer, or a close
  Ways : ℕ → ℕ → ℕ → Type 0
  Ways n l d =
      (d < only (may_stand R n no_gate) (A n l)) ⊎ ((d < max_below 6 (λ i. via_buffer R A n l (suc i))) ⊎ ((d < via_close R seed bound n l register_code) ⊎ (d < via_close R seed bound n l fifo_code)))

  arrival-ways : (n l d : ℕ) → d < arrival R seed bound A n l → Ways n l d
  unfolding arrival Ways
  arrival-ways n l d h = first (max_cases d a _ (only-value (leb l R.limit) _ d h))
    where
      a : ℕ
      a = only (may_stand R n no_gate) (A n l)

      b : ℕ
      b = max_below 6 (λ i. via_buffer R A n l (suc i))

      r : ℕ
      r = via_close R seed bound n l register_code

      f : ℕ
      f = via_close R seed bound n l fifo_code

      second : (d < b) ⊎ (d < max r f) → (d < a) ⊎ ((d < b) ⊎ ((d < r) ⊎ (d < f)))
      second (inl k) = inr (inl k)
      second (inr k) = inr (inr (max_cases d r f k))

      first : (d < a) ⊎ (d < max b (max r f)) → (d < a) ⊎ ((d < b) ⊎ ((d < r) ⊎ (d < f)))
      first (inl k) = inl k
      first (inr k) = second (max_cases d b (max r f) k)

  arrival-fits : (n l d : ℕ) → d < arrival R seed bound A n l → l ≤ R.limit
  unfolding arrival
  arrival-fits n l d h = leb→le l R.limit (only-test (leb l R.limit) _ d h)

  ways-arrival : (n l d : ℕ) → l ≤ R.limit → Ways n l d → d < arrival R seed bound A n l
  unfolding arrival Ways
  ways-arrival n l d fits w = only-in (leb l R.limit) (max a (max b (max r f))) d (le→leb l R.limit fits) (go w)
    where
      a : ℕ
      a = only (may_stand R n no_gate) (A n l)

      b : ℕ
      b = max_below 6 (λ i. via_buffer R A n l (suc i))

      r : ℕ
      r = via_close R seed bound n l register_code

      f : ℕ
      f = via_close R seed bound n l fifo_code

      go : (d < a) ⊎ ((d < b) ⊎ ((d < r) ⊎ (d < f))) → d < max a (max b (max r f))
      go (inl k) = omega arith
      go (inr (inl k)) = omega arith
      go (inr (inr (inl k))) = omega arith
      go (inr (inr (inr k))) = omega arith

  -- On arrival at n with a delay within the arrival budget, one of the ways goes on.
  arrival-sound : (c n l d : ℕ) → T (R.linked c n) → delay_at R c n l d < arrival R seed bound A n (load_at R c n l) → Step R seed bound X c l d
  unfolding Ways via_buffer via_close
  arrival-sound c n l d link h = go (arrival-ways n (load_at R c n l) (delay_at R c n l d) h)
    where
      fits : load_at R c n l ≤ R.limit
      fits = arrival-fits n (load_at R c n l) (delay_at R c n l d) h

      buffer : Above 6 (λ i. via_buffer R A n (load_at R c n l) (suc i)) (delay_at R c n l d) → Step R seed bound X c l d
      buffer a =
          let code : ℕ = suc a.at in
          let p : T (may_stand R n code && leb (load_of R code) R.limit) = only-test _ _ (delay_at R c n l d) a.above in
          let v : delay_at R c n l d < A n (load_of R code) - buffer_cost R code (load_at R c n l) = only-value _ _ (delay_at R c n l d) a.above in
          drives n a.at a.below link (fst (may_stand R n code) _ p) fits (leb→le (load_of R code) R.limit (snd (may_stand R n code) _ p))
          (rep.sound n (load_of R code) (delay_at R c n l d + buffer_cost R code (load_at R c n l)) (omega arith))

      close : (code : ℕ) → T (is_closing code) → delay_at R c n l d < only (seed code n) (bound - close_cost R n code (load_at R c n l)) → Step R seed bound X c l d
      close code shut k =
          let v : delay_at R c n l d < bound - close_cost R n code (load_at R c n l) = only-value _ _ (delay_at R c n l d) k in
          closes {d = d} n code shut link (only-test _ _ (delay_at R c n l d) k) fits (omega arith)

      go : Ways n (load_at R c n l) (delay_at R c n l d) → Step R seed bound X c l d
      go (inl k) =
          passes n link (only-test _ _ (delay_at R c n l d) k) fits
          (rep.sound n (load_at R c n l) (delay_at R c n l d) (only-value _ _ (delay_at R c n l d) k))
      go (inr (inl k)) = buffer (below-max 6 (λ i. via_buffer R A n (load_at R c n l) (suc i)) (delay_at R c n l d) k)
      go (inr (inr (inl k))) = close register_code (register-closing register_code refl) k
      go (inr (inr (inr k))) = close fifo_code (fifo-closing fifo_code refl) k

  -- what is within n's arrival budget is within what n gives to c
  gives : InPlan R → (c n l d : ℕ) → T (R.linked c n) → delay_at R c n l d < arrival R seed bound A n (load_at R c n l) → d < layer R seed bound A c l
  unfolding layer given delay_at
  gives inp c n l d link h =
      let v : d < arrival R seed bound A n (load_at R c n l) - wire_delay (R.wire c n) l = omega arith in
      let m : d < max_below R.cell_count (λ n. given R (arrival R seed bound A) n c l) = max-below R.cell_count (λ n. given R (arrival R seed bound A) n c l) d n (inp c n link) (only-in (R.linked c n) _ d link v) in
      omega arith

  layer-sound : (c l d : ℕ) → d < layer R seed bound A c l → Step R seed bound X c l d
  unfolding layer given delay_at
  layer-sound c l d h = go (max_cases d (A c l) (max_below R.cell_count (λ n. given R (arrival R seed bound A) n c l)) h)
    where
      from : Above R.cell_count (λ n. given R (arrival R seed bound A) n c l) d → Step R seed bound X c l d
      from a =
          let link : T (R.linked c a.at) = only-test _ _ d a.above in
          let v : d < arrival R seed bound A a.at (load_at R c a.at l) - wire_delay (R.wire c a.at) l = only-value _ _ d a.above in
          arrival-sound c a.at l d link (omega arith)

      go : (d < A c l) ⊎ (d < max_below R.cell_count (λ n. given R (arrival R seed bound A) n c l)) → Step R seed bound X c l d
      go (inl k) = stays (rep.sound c l d k)
      go (inr k) = from (below-max R.cell_count (λ n. given R (arrival R seed bound A) n c l) d k)

  layer-complete : InPlan R → (c l d : ℕ) → Step R seed bound X c l d → d < layer R seed bound A c l
  unfolding layer via_buffer via_close Ways
  layer-complete inp c l d (stays x) = let k : d < A c l = rep.complete c l d x in omega arith
  layer-complete inp c l d (passes n link may fits x) =
      gives inp c n l d link
      (ways-arrival n (load_at R c n l) (delay_at R c n l d) fits
      (inl (only-in (may_stand R n no_gate) _ (delay_at R c n l d) may (rep.complete n _ _ x))))
  layer-complete inp c l d (drives n i six link may fits light x) =
      let k : delay_at R c n l d + buffer_cost R (suc i) (load_at R c n l) < A n (load_of R (suc i)) = rep.complete n _ _ x in
      let v : delay_at R c n l d < A n (load_of R (suc i)) - buffer_cost R (suc i) (load_at R c n l) = omega arith in
      gives inp c n l d link
      (ways-arrival n (load_at R c n l) (delay_at R c n l d) fits
      (inr
      (inl
      (max-below 6 (λ i. via_buffer R A n (load_at R c n l) (suc i)) (delay_at R c n l d) i six
      (only-in (may_stand R n (suc i) && leb (load_of R (suc i)) R.limit) _ (delay_at R c n l d) (both (may_stand R n (suc i)) _ may (le→leb _ _ light)) v)))))
  layer-complete inp c l d (closes n code shut link s fits k) = go (closing-codes code shut)
    where
      v : delay_at R c n l d < bound - close_cost R n code (load_at R c n l)
      v = omega arith

      w : delay_at R c n l d < only (seed code n) (bound - close_cost R n code (load_at R c n l))
      w = only-in (seed code n) _ (delay_at R c n l d) s v

      go : (code ≡ register_code) ⊎ (code ≡ fifo_code) → d < layer R seed bound A c l
      go (inl e) = gives inp c n l d link (ways-arrival n (load_at R c n l) (delay_at R c n l d) fits (inr (inr (inl (rw e at w)))))
      go (inr e) = gives inp c n l d link (ways-arrival n (load_at R c n l) (delay_at R c n l d) fits (inr (inr (inr (rw e at w)))))

-- A layer represents the step.
pub layer-represents : (R : Rules) (seed : Seeds) (bound : ℕ) (A : Table) (X : States) → InPlan R → Represents A X → Represents (layer R seed bound A) (Step R seed bound X)
layer-represents R seed bound A X inp rep =
    record {
      sound = layer-sound R seed bound A X rep;
      complete = layer-complete R seed bound A X rep inp;
    }

-- a table, row by row

pub row_of : {A : Table} {X : States} → Represents A X → (c : ℕ) → RepresentsRow A X c
row_of rep c = record { sound = rep.sound c; complete = rep.complete c }

pub same_row : {A B : Table} {X : States} {c : ℕ} → ((l : ℕ) → B c l ≡ A c l) → RepresentsRow A X c → RepresentsRow B X c
same_row e row =
    record { sound = λ l d h. row.sound l d (omega (arith, e l)); complete = λ l d x. omega (arith, e l, row.complete l d x) }

-- More seeds, and more states at c and at its neighbours: more steps at c.
pub step-near : {R : Rules} {seed more : Seeds} {bound : ℕ} {X Y : States} (c : ℕ) → ((code n : ℕ) → T (seed code n) → T (more code n)) → ((l d : ℕ) → X c l d → Y c l d) → ((n : ℕ) → T (R.linked c n) → (l d : ℕ) → X n l d → Y n l d) → (l d : ℕ) → Step R seed bound X c l d → Step R more bound Y c l d
step-near c f own near l d (stays x) = stays (own l d x)
step-near c f own near l d (passes n link may fits x) = passes n link may fits (near n link _ _ x)
step-near c f own near l d (drives n i six link may fits light x) = drives n i six link may fits light (near n link _ _ x)
step-near c f own near l d (closes n code shut link s fits h) = closes n code shut link (f code n s) fits h

-- The layer's row at c is right if the rows of c and of its neighbours are.
-- Proof: A represents the states below it, so the layer represents their step; at c that is the step of X. Qed.
pub layer_row : (R : Rules) (seed : Seeds) (bound : ℕ) (A : Table) (X : States) → InPlan R → (c : ℕ) → RepresentsRow A X c → ((n : ℕ) → T (R.linked c n) → RepresentsRow A X n) → RepresentsRow (layer R seed bound A) (Step R seed bound X) c
layer_row R seed bound A X inp c own near =
    record {
      sound = λ l d h. step-near c (λ code n s. s) own.sound (λ n link. (near n link).sound) l d (below.sound c l d h);
      complete = λ l d x. below.complete c l d (step-near c (λ code n s. s) own.complete (λ n link. (near n link).complete) l d x);
    }
  where
    below : Represents (layer R seed bound A) (Step R seed bound (λ c l d. d < A c l))
    below = layer-represents R seed bound A (λ c l d. d < A c l) inp (record { sound = λ c l d h. h; complete = λ c l d h. h })
