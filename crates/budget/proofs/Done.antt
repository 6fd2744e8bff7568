-- States that can be completed: with the right seeds, one step of `Open k s` is `Open k (s + 1)`; hence a layer takes the table of one to the table of the other.
use Prim.Native.Nat.{ℕ, zero, suc, ◌+◌, ◌≤◌, ◌<◌}
use mathlib.Core.Path.{◌≡◌, refl}
use mathlib.Core.Bool.{not}
use mathlib.Core.List.{[], ◌∷◌}
use mathlib.Core.Logic.{◌⊎◌, inl, inr}
use native.Mathlib.Omega.{arith}
use lib.Dec.{T}
use lib.ListN.{length}
use Rattle.rules.specs.Rules.{Stage, Rules, no_gate, fifo_code, is_closing, side_after}
use Rattle.rules.specs.Legal.{Visit, Route, arrive, buffered, closing}
use Rattle.rules.specs.Ranking.{weigh}
use Rattle.rules.proofs.Figures.{weigh-none, weigh-closed, weigh-kept, ending-weight, ending-visits}
use Rattle.plan.proofs.Truth.{equal}
use Rattle.rules.proofs.View.{Ending, Reached, ending-view, ending-test, register-closing, none_open, side-fifo, side_same}
use Rattle.budget.specs.Table.{Table, Seeds, Represents, Step, load_at, delay_at, buffer_cost, load_of, close_cost, layer}
use Rattle.budget.specs.Done.{stage, NotAfter, Done, Open, After, Lawful}
use Rattle.budget.proofs.Layer.{layer-represents}

-- (weight, steps) in order

pub not-after-refl : (k s : ℕ) → NotAfter k s k s
not-after-refl k s = inr (refl, omega arith)

pub none_before : (k s : ℕ) → NotAfter 0 0 k s
none_before zero s = inr (refl, omega arith)
none_before (suc k) s = inl (omega arith)

pub not-after-trans : {a b k s p q : ℕ} → NotAfter a b k s → NotAfter k s p q → NotAfter a b p q
not-after-trans (inl h) (inl i) = inl (omega arith)
not-after-trans (inl h) (inr i) = inl (omega arith)
not-after-trans (inr h) (inl i) = inl (omega arith)
not-after-trans (inr h) (inr i) = inr (omega arith, omega arith)

-- a weight in front, and a step
pub not-after-plus : {a b k s : ℕ} (p : ℕ) → NotAfter a b k s → NotAfter (p + a) (suc b) (p + k) (suc s)
not-after-plus p (inl h) = inl (omega arith)
not-after-plus p (inr h) = inr (omega arith, omega arith)

pub not-after-less : {a b k s : ℕ} (p : ℕ) → NotAfter (p + a) (suc b) (p + k) (suc s) → NotAfter a b k s
not-after-less p (inl h) = inl (omega arith)
not-after-less p (inr h) = inr (omega arith, omega arith)

-- not before and not after: the same
pub not-after-both : {a b k s : ℕ} → NotAfter a b k s → NotAfter k s a b → (a ≡ k) × (b ≡ s)
not-after-both (inl h) (inl g) = absurd (omega arith)
not-after-both (inl h) (inr g) = absurd (omega arith)
not-after-both (inr h) (inl g) = absurd (omega arith)
not-after-both (inr h) (inr g) = (h.0, omega arith)

-- (a, b) is after (k, s), so not before it, and not otherwise

pub after-before : {a b k s : ℕ} → NotAfter k (suc s) a b → NotAfter k s a b
after-before (inl h) = inl h
after-before (inr h) = inr (h.0, omega arith)

pub not-both : {a b k s : ℕ} → NotAfter k (suc s) a b → NotAfter a b k s → ⊥
not-both (inl h) (inl g) = omega arith
not-both (inl h) (inr g) = omega arith
not-both (inr h) (inl g) = omega arith
not-both (inr h) (inr g) = omega arith

pub done_more : {R : Rules} {f w s c l d : ℕ} (p q : ℕ) → NotAfter w s p q → Done R f w s c l d → Done R f p q c l d
done_more p q h x = record { route = x.route; ending = x.ending; within = not-after-trans x.within h }

pub after_more : {R : Rules} {f code w s n : ℕ} (p q : ℕ) → NotAfter w s p q → After R f code w s n → After R f code p q n
after_more p q h (After.at_source a b c) = After.at_source a b c
after_more p q h (After.at_gate shut may x) = After.at_gate shut may (done_more p q h x)

-- an ending has at least one span and one step

pub done-weight : {R : Rules} {f w s c l d : ℕ} (x : Done R f w s c l d) → R.weight f ≤ weigh R f x.route
done-weight {R} {f = f} {c = c} x = ending-weight (ending-view R c 0 f _ x.route x.ending)

pub done-steps : {R : Rules} {f w s c l d : ℕ} (x : Done R f w s c l d) → 0 < length x.route
done-steps {R} {f = f} {c = c} x = ending-visits (ending-view R c 0 f _ x.route x.ending)

pub none-without-steps : {R : Rules} {f c l d : ℕ} → Open R f 0 0 c l d → ⊥
none-without-steps {R} {f} x = go (done-weight x) (done-steps x) x.within
  where
    go : {a b : ℕ} → R.weight f ≤ a → 0 < b → NotAfter a b (R.weight f + 0) 0 → ⊥
    go p q (inl h) = omega arith
    go p q (inr h) = omega arith

-- a state that can be completed has a load within the limit
pub light : {R : Rules} {c i f : ℕ} {st : Stage} {vs : Route} → Ending R c i f st vs → st.load ≤ R.limit
unfolding arrive
light (Ending.ends h) = omega (arith, h.reached.light)
light (Ending.passes h e) = omega (arith, h.reached.light)
light (Ending.buffers h e) = omega (arith, h.reached.light)
light (Ending.closes h e) = omega (arith, h.reached.light)

pub done-light : {R : Rules} {f w s c l d : ℕ} → Done R f w s c l d → l ≤ R.limit
done-light {R} {f = f} {c = c} {l = l} {d = d} x = light (ending-view R c 0 f (stage l d) x.route x.ending)

-- an ending has not passed more FIFOs than a route has
ending-side : {R : Rules} {c i f : ℕ} {st : Stage} {vs : Route} → Ending R c i f st vs → f ≤ R.fifos
ending-side (Ending.ends h) = omega (arith, h.passed)
ending-side (Ending.passes h e) = ending-side e
ending-side (Ending.buffers h e) = ending-side e
ending-side {f = f} (Ending.closes {v = v} h e) = omega (arith, ending-side e, side-more f v.code)
  where
    side-more : (f code : ℕ) → f ≤ side_after f code
    side-more f code = go (equal code fifo_code)
      where
        go : (code ≡ fifo_code) ⊎ (code ≡ fifo_code → ⊥) → f ≤ side_after f code
        go (inl e) = omega (arith, side-fifo f code e)
        go (inr e) = omega (arith, side_same f code e)

pub done-side : {R : Rules} {f w s c l d : ℕ} → Done R f w s c l d → f ≤ R.fifos
done-side {R} {f = f} {c = c} {l = l} {d = d} x = ending-side (ending-view R c 0 f (stage l d) x.route x.ending)

module _ (R : Rules) (law : Lawful R) where
  -- with one bound for all spans of a side the span's number does not matter
  pub any-span : {c i f : ℕ} {st : Stage} {vs : Route} (j : ℕ) → Ending R c i f st vs → Ending R c j f st vs
  any-span {c} {i} {f} {st} j (Ending.ends {v = v} h) =
      Ending.ends {span = j} {fifos = f} (record { reached = h.reached; at_source = h.at_source; code = h.code; passed = h.passed; closed = omega (arith, h.closed, law.steady i f, law.steady j f) })
  any-span j (Ending.passes h e) = Ending.passes h (any-span j e)
  any-span j (Ending.buffers h e) = Ending.buffers h (any-span j e)
  any-span {c} {i} {f} {st} j (Ending.closes {v = v} h e) =
      Ending.closes {span = j} {fifos = f}
      (record { reached = h.reached; code = h.code; stands = h.stands; light_after = h.light_after; closed = omega (arith, h.closed, law.steady i f, law.steady j f) })
      (any-span (suc j) e)

  module _ (f k s : ℕ) (seed : Seeds) where
    -- a visit put in front of an ending: no span closes
    longer : {c l d : ℕ} (st : Stage) (v : Visit) (x : Open R f k s v.cell st.load st.delay) → T (not (is_closing v.code)) → Ending R c 0 f (stage l d) (v ∷ x.route) → Open R f k (suc s) c l d
    longer {c} {l} {d} st v x other e = record { route = v ∷ x.route; ending = ending-test e; within = rw (weigh-kept R f v x.route other) (go x.within) }
      where
        go : {a b w : ℕ} → NotAfter a b w s → NotAfter a (suc b) w (suc s)
        go (inl h) = inl h
        go (inr h) = inr (h.0, omega arith)

    pub step-done : ((code n : ℕ) → T (is_closing code) → T (seed code n) → After R f code k s n) → (c l d : ℕ) → Step R seed (R.bound 0 f) (Open R f k s) c l d → Open R f k (suc s) c l d
    unfolding arrive buffered closing load_at delay_at load_of buffer_cost close_cost
    step-done right c l d (Step.stays x) = done_more _ (suc s) (inr (refl, omega arith)) x
    step-done right c l d (Step.passes n link may fits x) =
        let v : Visit = record { cell = n; code = no_gate } in
        longer {c = c} {l = l} {d = d} (stage (load_at R c n l) (delay_at R c n l d)) v x (none_open no_gate refl)
        (Ending.passes (record { reached = record { in_plan = law.in_plan c n link; wired = link; light = fits }; code = refl; stands = may })
        (ending-view R n 0 f _ x.route x.ending))
    step-done right c l d (Step.drives n i six link may fits after x) =
        let v : Visit = record { cell = n; code = suc i } in
        let no_close : T (not (is_closing (suc i))) = Rattle.budget.proofs.Codes.buffer-open i six in
        longer {c = c} {l = l} {d = d} (stage (load_of R (suc i)) (delay_at R c n l d + buffer_cost R (suc i) (load_at R c n l))) v x no_close
        (Ending.buffers
        (record { reached = record { in_plan = law.in_plan c n link; wired = link; light = fits }; some_gate = λ e. omega arith; no_close = no_close; stands = may; light_after = after })
        (ending-view R n 0 f _ x.route x.ending))
    step-done right c l d (Step.closes n code shut link t fits h) = close (right code n shut t)
      where
        reached : Reached R c (stage l d) n
        reached = record { in_plan = law.in_plan c n link; wired = link; light = fits }

        v : Visit
        v = record { cell = n; code = code }

        close : After R f code k s n → Open R f k (suc s) c l d
        close (After.at_source e p q) =
            record {
              route = v ∷ [];
              ending = ending-test (Ending.ends {from = c} {span = 0} {fifos = f} {s = stage l d} {v = v} (record { reached = reached; at_source = q; code = e; passed = p; closed = h }));
              within = rw (weigh-closed R f v [] shut, weigh-none R (side_after f code)) (one k);
            }
          where
            one : (k : ℕ) → NotAfter (R.weight f + 0) 1 (R.weight f + k) (suc s)
            one zero = inr (refl, omega arith)
            one (suc k) = inl (omega arith)
        close (After.at_gate shut may x) =
            record {
              route = v ∷ x.route;
              ending =
                  ending-test
                  (Ending.closes {from = c} {span = 0} {fifos = f} {s = stage l d} {v = v}
                  (record { reached = reached; code = shut; stands = may; light_after = done-light x; closed = h })
                  (any-span 1 (ending-view R n 0 (side_after f code) _ x.route x.ending)));
              within = rw (weigh-closed R f v x.route shut) (not-after-plus (R.weight f) x.within);
            }

    -- the ending of a visit in between has one step less
    shorter : {b a n m w : ℕ} → b ≡ a → suc n ≡ m → NotAfter b m w (suc s) → NotAfter a n w s
    shorter p q (inl h) = inl (omega arith)
    shorter p q (inr h) = inr (omega arith, omega arith)

    pub ending-step : ((code n : ℕ) → After R f code k s n → T (seed code n)) → {c i : ℕ} {st : Stage} {vs : Route} → Ending R c i f st vs → NotAfter (weigh R f vs) (length vs) (R.weight f + k) (suc s) → Step R seed (R.bound 0 f) (Open R f k s) c st.load st.delay
    unfolding arrive buffered closing load_at delay_at load_of buffer_cost close_cost
    ending-step right {c} {i} {st} (Ending.ends {v = v} h) w =
        Step.closes {d = st.delay} v.cell v.code (register-closing v.code h.code) h.reached.wired (right v.code v.cell (After.at_source h.code h.passed h.at_source)) h.reached.light (omega (arith, h.closed, law.steady i f))
    ending-step right {c} {i} {st} (Ending.passes {v = v} {vs = vs} h e) w =
        Step.passes v.cell h.reached.wired (rw h.code at h.stands) h.reached.light
        (record { route = vs; ending = ending-test (any-span 0 e); within = shorter (weigh-kept R f v vs (none_open v.code h.code)) refl w })
    ending-step right {c} {i} {st} (Ending.buffers {v = v} {vs = vs} h e) w = go v.code refl
      where
        go : (code : ℕ) → v.code ≡ code → Step R seed (R.bound 0 f) (Open R f k s) c st.load st.delay
        go zero q = absurd (h.some_gate q)
        go (suc b) q =
            let six : b < 6 = Rattle.budget.proofs.Codes.open-buffer b (law.codes v.cell (suc b) (rw q at h.stands)) (rw q at h.no_close) in
            Step.drives v.cell b six h.reached.wired (rw q at h.stands) h.reached.light (rw q at h.light_after)
            (record {
              route = vs;
              ending = rw q at (ending-test (any-span 0 e));
              within = shorter (weigh-kept R f v vs h.no_close) refl w;
            })
    ending-step right {c} {i} {st} (Ending.closes {v = v} {vs = vs} h e) w =
        Step.closes {d = st.delay} v.cell v.code h.code h.reached.wired
        (right v.code v.cell (After.at_gate h.code h.stands (record { route = vs; ending = ending-test (any-span 0 e); within = not-after-less (R.weight f) (rw (weigh-closed R f v vs h.code) at w) })))
        h.reached.light (omega (arith, h.closed, law.steady i f))

-- A layer, with the seeds of (k, s), takes the table of `Open k s` to the table of `Open k (s + 1)`.
pub layer-done : (R : Rules) (law : Lawful R) (f k s : ℕ) (seed : Seeds) → ((code n : ℕ) → T (is_closing code) → T (seed code n) → After R f code k s n) → ((code n : ℕ) → After R f code k s n → T (seed code n)) → (A : Table) → Represents A (Open R f k s) → Represents (layer R seed (R.bound 0 f) A) (Open R f k (suc s))
layer-done R law f k s seed right left A rep =
    let q = layer-represents R seed (R.bound 0 f) A (Open R f k s) law.in_plan rep in
    record {
      sound = λ c l d h. step-done R law f k s seed right c l d (q.sound c l d h);
      complete = λ c l d x. q.complete c l d (ending-step R law f k s seed left (ending-view R c 0 f (stage l d) x.route x.ending) x.within);
    }
