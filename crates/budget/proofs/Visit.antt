-- One visit: what it does to load, delay and weight by its code, and an ending taken apart into its first visit and the rest.
use Prim.Native.Nat.{ℕ, suc, ◌+◌, ◌-◌, ◌≤◌, ◌<◌}
use mathlib.Core.Path.{◌≡◌, refl}
use mathlib.Core.Bool.{not, cond}
use mathlib.Core.List.{[], ◌∷◌}
use mathlib.Core.Logic.{◌⊎◌, inl, inr}
use native.Mathlib.Omega.{arith}
use borrow.Author.Tests.{eq-eqb, ne_eqb}
use lib.Dec.{T, T_not}
use Rattle.rules.specs.Rules.{Stage, Rules, no_gate, register_code, is_closing, side_after}
use Rattle.rules.specs.Legal.{Visit, Route, arrive, buffered, closing, may_stand, legal_from}
use Rattle.rules.specs.Ranking.{weigh}
use Rattle.plan.proofs.Truth.{equal, decided, is_true, is_false}
use Rattle.rules.proofs.View.{Ending, Reached, ending-view, ending-test, closing-some, none_open, side-kept}
use Rattle.budget.specs.Table.{load_at, delay_at, buffer_cost, load_of, close_cost}
use Rattle.budget.specs.Done.{stage, NotAfter, Done, Lawful}
use Rattle.budget.specs.Emission.{after_load, after_delay, after_weight, visit}
use Rattle.budget.proofs.Done.{light, any-span}

-- A visit, by its code

pub data Gate (code : ℕ) : Type 0 where
  none : code ≡ no_gate → Gate code
  shuts : T (is_closing code) → Gate code
  buffer : (code ≡ no_gate → ⊥) → T (not (is_closing code)) → Gate code

pub gate : (code : ℕ) → Gate code
gate code = go (equal code no_gate) (decided (is_closing code))
  where
    go : (code ≡ no_gate) ⊎ (code ≡ no_gate → ⊥) → T (is_closing code) ⊎ T (not (is_closing code)) → Gate code
    go (inl e) q = none e
    go (inr f) (inl e) = shuts e
    go (inr f) (inr g) = buffer f g

-- the weight of the span that a visit closes
unfoldable pub shut_weight : Rules → ℕ → ℕ → ℕ
shut_weight R f code = cond (is_closing code) (R.weight f) 0

pub weight-shut : (R : Rules) (f code : ℕ) → T (is_closing code) → shut_weight R f code ≡ R.weight f
unfolding shut_weight
weight-shut R f code h = simp (is_true (is_closing code) h)

pub weight-open : (R : Rules) (f code : ℕ) → T (not (is_closing code)) → shut_weight R f code ≡ 0
unfolding shut_weight
weight-open R f code h = simp (is_false (is_closing code) h)

pub weigh-cons : (R : Rules) (f : ℕ) (v : Visit) (vs : Route) → weigh R f (v ∷ vs) ≡ shut_weight R f v.code + weigh R (side_after f v.code) vs
unfolding weigh shut_weight
weigh-cons R f v vs = refl

-- the weight after the next span; only a close that is the last visit has none to leave

pub weight-after-shut : (R : Rules) (f k code : ℕ) → T (is_closing code) → after_weight R f k code ≡ k - R.weight (side_after f code)
unfolding after_weight
weight-after-shut R f k code h = simp (is_true (is_closing code) h)

pub weight-after-open : (R : Rules) (f k code : ℕ) → T (not (is_closing code)) → after_weight R f k code ≡ k
unfolding after_weight
weight-after-open R f k code h = simp (is_false (is_closing code) h)

-- what is to go before a visit is what it closes and what is to go after it
pub after-weight : (R : Rules) (f k code : ℕ) → (T (is_closing code) → R.weight (side_after f code) ≤ k) → R.weight f + k ≡ shut_weight R f code + (R.weight (side_after f code) + after_weight R f k code)
after-weight R f k code room = go (decided (is_closing code))
  where
    go : T (is_closing code) ⊎ T (not (is_closing code)) → R.weight f + k ≡ shut_weight R f code + (R.weight (side_after f code) + after_weight R f k code)
    go (inl h) = omega (arith, weight-shut R f code h, weight-after-shut R f k code h, room h)
    go (inr h) = rw (side-kept f code h) (omega (arith, weight-open R f code h, weight-after-open R f k code h))

pub after-lighter : (R : Rules) (f k code : ℕ) → after_weight R f k code ≤ k
after-lighter R f k code = go (decided (is_closing code))
  where
    go : T (is_closing code) ⊎ T (not (is_closing code)) → after_weight R f k code ≤ k
    go (inl h) = omega (arith, weight-after-shut R f k code h)
    go (inr h) = omega (arith, weight-after-open R f k code h)

pub within-cons : {w s a b : ℕ} (i : ℕ) → NotAfter a b w s → NotAfter (i + a) (suc b) (i + w) (suc s)
within-cons i (inl h) = inl (omega arith)
within-cons i (inr h) = inr (omega arith, omega arith)

module _ (R : Rules) (c n l d code : ℕ) where
  pub after_none : code ≡ no_gate → (after_load R c n l code ≡ load_at R c n l) × (after_delay R c n l d code ≡ delay_at R c n l d)
  unfolding after_load after_delay
  after_none e = (simp (eq-eqb code no_gate e), simp (eq-eqb code no_gate e))

  pub after-shut : T (is_closing code) → (after_load R c n l code ≡ (R.fresh code).load) × (after_delay R c n l d code ≡ (R.fresh code).delay)
  unfolding after_load after_delay
  after-shut h =
      let some = ne_eqb code no_gate (closing-some code h) in
      (simp (some, is_true (is_closing code) h), simp (some, is_true (is_closing code) h))

  pub after-buffer : (code ≡ no_gate → ⊥) → T (not (is_closing code)) → (after_load R c n l code ≡ load_of R code) × (after_delay R c n l d code ≡ delay_at R c n l d + buffer_cost R code (load_at R c n l))
  unfolding after_load after_delay
  after-buffer f g = (simp (ne_eqb code no_gate f, is_false (is_closing code) g), simp (ne_eqb code no_gate f, is_false (is_closing code) g))

-- a wire leads from (c, l, d) to n, within the load limit
pub record Arrives (R : Rules) (c l n : ℕ) : Type 0 where
  pub link : T (R.linked c n)
  pub fits : load_at R c n l ≤ R.limit

-- the span closes at n in time
abbrev pub InTime : Rules → ℕ → ℕ → ℕ → ℕ → ℕ → ℕ → Type 0
InTime R f c l d n code = delay_at R c n l d + close_cost R n code (load_at R c n l) < R.bound 0 f

-- a visit in between
pub record Onward (R : Rules) (f c l d n code : ℕ) : Type 0 where
  pub arrives : Arrives R c l n
  pub stands : T (may_stand R n code)
  pub in_time : T (is_closing code) → InTime R f c l d n code

-- the last visit
pub record Final (R : Rules) (f c l d n code : ℕ) : Type 0 where
  pub arrives : Arrives R c l n
  pub at_source : n ≡ R.source
  pub is_register : code ≡ register_code
  pub passed : f ≡ R.fifos
  pub in_time : InTime R f c l d n code

-- An ending taken apart: the last visit, or a visit in between and an ending after it
pub data Way (R : Rules) (f c l d : ℕ) : Route → Type 0 where
  last : {v : Visit} → Final R f c l d v.cell v.code → Way R f c l d (v ∷ [])
  on : {v : Visit} {vs : Route} → Onward R f c l d v.cell v.code → T (legal_from R v.cell 0 (side_after f v.code) (stage (after_load R c v.cell l v.code) (after_delay R c v.cell l d v.code)) vs) → Way R f c l d (v ∷ vs)

module _ (R : Rules) (law : Lawful R) where
  way-view : {f c : ℕ} {st : Stage} {vs : Route} → Ending R c 0 f st vs → Way R f c st.load st.delay vs
  unfolding arrive buffered closing load_at delay_at load_of buffer_cost close_cost
  way-view {f} {c} {st} (Ending.ends {v = v} h) =
      last (record { arrives = record { link = h.reached.wired; fits = h.reached.light }; at_source = h.at_source; is_register = h.code; passed = h.passed; in_time = h.closed })
  way-view {f} {c} {st} (Ending.passes {v = v} {vs = vs} h e) =
      let a = after_none R c v.cell st.load st.delay v.code h.code in
      let no_close = none_open v.code h.code in
      on {vs = vs} (record { arrives = record { link = h.reached.wired; fits = h.reached.light }; stands = h.stands; in_time = λ q. absurd (T_not (is_closing v.code) no_close q) })
      (rw (a.0, a.1, side-kept f v.code no_close) (ending-test e))
  way-view {f} {c} {st} (Ending.buffers {v = v} {vs = vs} h e) =
      let a = after-buffer R c v.cell st.load st.delay v.code h.some_gate h.no_close in
      on {vs = vs} (record { arrives = record { link = h.reached.wired; fits = h.reached.light }; stands = h.stands; in_time = λ q. absurd (T_not (is_closing v.code) h.no_close q) })
      (rw (a.0, a.1, side-kept f v.code h.no_close) (ending-test e))
  way-view {f} {c} {st} (Ending.closes {v = v} {vs = vs} h e) =
      let a = after-shut R c v.cell st.load st.delay v.code h.code in
      on {vs = vs} (record { arrives = record { link = h.reached.wired; fits = h.reached.light }; stands = h.stands; in_time = λ q. h.closed })
      (rw (a.0, a.1) (ending-test (any-span R law 0 e)))

  pub way : (f c l d : ℕ) (vs : Route) → T (legal_from R c 0 f (stage l d) vs) → Way R f c l d vs
  way f c l d vs h = way-view (ending-view R c 0 f (stage l d) vs h)

  reached : {c l n : ℕ} (d : ℕ) → Arrives R c l n → Reached R c (stage l d) n
  unfolding arrive load_at
  reached {c} {l} {n} d a = record { in_plan = law.in_plan c n a.link; wired = a.link; light = a.fits }

  pub last-ending : (f c l d n code : ℕ) → Final R f c l d n code → T (legal_from R c 0 f (stage l d) (visit n code ∷ []))
  unfolding arrive closing load_at delay_at close_cost
  last-ending f c l d n code h =
      ending-test (Ending.ends {from = c} {span = 0} {fifos = f} {s = stage l d} {v = visit n code} (record { reached = reached d h.arrives; at_source = h.at_source; code = h.is_register; passed = h.passed; closed = h.in_time }))

  -- a visit in between put in front of an ending
  pub cons : (f c l d n code : ℕ) → Onward R f c l d n code → (vs : Route) → T (legal_from R n 0 (side_after f code) (stage (after_load R c n l code) (after_delay R c n l d code)) vs) → T (legal_from R c 0 f (stage l d) (visit n code ∷ vs))
  unfolding arrive buffered closing load_at delay_at load_of buffer_cost close_cost
  cons f c l d n code h vs e = go (gate code)
    where
      go : Gate code → T (legal_from R c 0 f (stage l d) (visit n code ∷ vs))
      go (none q) =
          let a = after_none R c n l d code q in
          ending-test
          (Ending.passes {from = c} {span = 0} {fifos = f} {s = stage l d} {v = visit n code} (record { reached = reached d h.arrives; code = q; stands = h.stands })
          (ending-view R n 0 f (stage (load_at R c n l) (delay_at R c n l d)) vs (rw (a.0, a.1, side-kept f code (none_open code q)) at e)))
      go (shuts q) =
          let a = after-shut R c n l d code q in
          let x : T (legal_from R n 0 (side_after f code) (R.fresh code) vs) = rw (a.0, a.1) at e in
          ending-test
          (Ending.closes {from = c} {span = 0} {fifos = f} {s = stage l d} {v = visit n code} (record { reached = reached d h.arrives; code = q; stands = h.stands; light_after = light (ending-view R n 0 (side_after f code) (R.fresh code) vs x); closed = h.in_time q })
          (any-span R law 1 (ending-view R n 0 (side_after f code) (R.fresh code) vs x)))
      go (buffer g p) =
          let a = after-buffer R c n l d code g p in
          let x = ending-view R n 0 f (stage (load_of R code) (delay_at R c n l d + buffer_cost R code (load_at R c n l))) vs (rw (a.0, a.1, side-kept f code p) at e) in
          ending-test
          (Ending.buffers {from = c} {span = 0} {fifos = f} {s = stage l d} {v = visit n code} (record { reached = reached d h.arrives; some_gate = g; no_close = p; stands = h.stands; light_after = light x })
          x)

  pub done-cons : (f c l d n code w s : ℕ) → Onward R f c l d n code → Done R (side_after f code) w s n (after_load R c n l code) (after_delay R c n l d code) → Done R f (shut_weight R f code + w) (suc s) c l d
  done-cons f c l d n code w s h x =
      record {
        route = visit n code ∷ x.route;
        ending = cons f c l d n code h x.route x.ending;
        within = rw (weigh-cons R f (visit n code) x.route) (within-cons (shut_weight R f code) x.within);
      }
