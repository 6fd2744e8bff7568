-- Between two clocks: the weight of a legal route is its latency.
-- Proof: on the source side each register and the source close one span of weight s; so the weight is s times their number. On the sink side the registers and the FIFO close spans of weight t. Qed.
use Prim.Native.Nat.{ℕ, suc, ◌+◌, ◌*◌, ◌-◌, ◌≤◌, ◌<◌}
use mathlib.Core.Bool.{not}
use mathlib.Core.List.{[], ◌∷◌}
use mathlib.Core.Path.{◌≡◌, refl, ap, ◌∙◌}
use mathlib.Core.Logic.{◌⊎◌, inl, inr}
use native.Mathlib.Omega.{arith}
use native.Mathlib.Nat.{mul-suc, mul-zero, mul-one}
use borrow.Author.Tests.{eq-eqb, ne_eqb}
use lib.Dec.{T, T_not}
use Rattle.rules.specs.Rules.{Stage, Rules, register_code, fifo_code, is_closing, side_after}
use Rattle.rules.specs.Legal.{Visit, Route}
use Rattle.rules.specs.Ranking.{code_sevens, weigh}
use Rattle.rules.specs.Crossing.{sink_side, source_side, sink_registers, source_registers, crossing_latency}
use Rattle.rules.proofs.View.{FirstVisit, Ending, ends, passes, buffers, closes, closing-codes, register-closing, fifo-closing, none_open, side_same, side-fifo}
use Rattle.rules.proofs.Figures.{weigh-none, weigh-closed, weigh-kept, sevens-none, sevens-more, sevens-kept}

sides-fifo : (v : Visit) (vs : Route) → v.code ≡ fifo_code → (sink_side (v ∷ vs) ≡ []) × (source_side (v ∷ vs) ≡ vs)
unfolding sink_side source_side
sides-fifo v vs e = (simp (eq-eqb v.code fifo_code e), simp (eq-eqb v.code fifo_code e))

sides-other : (v : Visit) (vs : Route) → (v.code ≡ fifo_code → ⊥) → (sink_side (v ∷ vs) ≡ v ∷ sink_side vs) × (source_side (v ∷ vs) ≡ source_side vs)
unfolding sink_side source_side
sides-other v vs f = (simp (ne_eqb v.code fifo_code f), simp (ne_eqb v.code fifo_code f))

module _ (R : Rules) (one : R.fifos ≡ 1) where
  -- after the FIFO: at least the source
  record Far (vs : Route) : Type 0 where
    pub some : 0 < code_sevens vs
    pub weighs : weigh R 1 vs ≡ R.weight 1 * code_sevens vs

  no_third : {c i f : ℕ} {st : Stage} {vs : Route} → Ending R c i f st vs → 1 < f → ⊥
  no_third (ends h) q = omega (arith, h.passed)
  no_third (passes h e) q = no_third e q
  no_third (buffers h e) q = no_third e q
  no_third {f = f} (closes {v = v} h e) q = no_third e (omega (arith, more f v.code))
    where
      more : (f code : ℕ) → f ≤ side_after f code
      more f code = go (Rattle.plan.proofs.Truth.equal code fifo_code)
        where
          go : (code ≡ fifo_code) ⊎ (code ≡ fifo_code → ⊥) → f ≤ side_after f code
          go (inl e) = omega (arith, side-fifo f code e)
          go (inr e) = omega (arith, side_same f code e)

  -- one register more
  far-more : (v : Visit) (vs : Route) → v.code ≡ register_code → weigh R 1 vs ≡ R.weight 1 * code_sevens vs → Far (v ∷ vs)
  far-more v vs q w =
      record {
        some = omega (arith, sevens-more v vs q);
        weighs = rw (sevens-more v vs q, weigh-closed R 1 v vs (register-closing v.code q), side_same 1 v.code (λ z. omega arith), w, mul-suc (R.weight 1) (code_sevens vs)) (omega arith);
      }

  far-kept : (v : Visit) (vs : Route) → T (not (is_closing v.code)) → Far vs → Far (v ∷ vs)
  far-kept v vs p x =
      let kept = sevens-kept v vs (λ z. T_not (is_closing v.code) p (register-closing v.code z)) in
      record { some = omega (arith, kept, x.some); weighs = rw (kept, weigh-kept R 1 v vs p) x.weighs }

  far : {c i f : ℕ} {st : Stage} {vs : Route} → Ending R c i f st vs → f ≡ 1 → Far vs
  far (ends {v = v} h) q = far-more v [] h.code (rw (weigh-none R 1, sevens-none) (omega (arith, mul-zero (R.weight 1))))
  far (passes {v = v} {vs = vs} h e) q = far-kept v vs (none_open v.code h.code) (far e q)
  far (buffers {v = v} {vs = vs} h e) q = far-kept v vs h.no_close (far e q)
  far {f = f} (closes {v = v} {vs = vs} h e) q = go (closing-codes v.code h.code) (λ s. far e (s ∙ q)) (λ s. no_third e (omega (arith, s)))
    where
      go : (v.code ≡ register_code) ⊎ (v.code ≡ fifo_code) → (side_after f v.code ≡ f → Far vs) → (side_after f v.code ≡ suc f → ⊥) → Far (v ∷ vs)
      go (inl a) same past = far-more v vs a (same (side_same f v.code (λ z. omega arith))).weighs
      go (inr a) same past = absurd (past (side-fifo f v.code a))

  -- before it: the spans of the sink side close at its registers and at the FIFO
  record Near (vs : Route) : Type 0 where
    pub some : 0 < code_sevens (source_side vs)
    pub weighs : weigh R 0 vs ≡ R.weight 0 * suc (code_sevens (sink_side vs)) + R.weight 1 * code_sevens (source_side vs)

  near-other : (v : Visit) (vs : Route) → (v.code ≡ fifo_code → ⊥) → (weigh R 0 vs ≡ R.weight 0 * suc (code_sevens (sink_side vs)) + R.weight 1 * code_sevens (source_side vs) → weigh R 0 (v ∷ vs) ≡ R.weight 0 * suc (code_sevens (v ∷ sink_side vs)) + R.weight 1 * code_sevens (source_side vs)) → Near vs → Near (v ∷ vs)
  near-other v vs f g x =
      let s = sides-other v vs f in
      record { some = rw s.1 x.some; weighs = rw (s.0, s.1) (g x.weighs) }

  near-kept : (v : Visit) (vs : Route) → T (not (is_closing v.code)) → Near vs → Near (v ∷ vs)
  near-kept v vs p x =
      near-other v vs (λ z. T_not (is_closing v.code) p (fifo-closing v.code z))
      (λ w. rw (weigh-kept R 0 v vs p, sevens-kept v (sink_side vs) (λ z. T_not (is_closing v.code) p (register-closing v.code z))) w) x

  near : {c i f : ℕ} {st : Stage} {vs : Route} → Ending R c i f st vs → f ≡ 0 → Near vs
  near (ends {v = v} h) q = absurd (omega (arith, h.passed))
  near (passes {v = v} {vs = vs} h e) q = near-kept v vs (none_open v.code h.code) (near e q)
  near (buffers {v = v} {vs = vs} h e) q = near-kept v vs h.no_close (near e q)
  near {f = f} (closes {v = v} {vs = vs} h e) q = go (closing-codes v.code h.code) (λ s. near e (s ∙ q)) (λ s. far e (s ∙ ap suc q))
    where
      go : (v.code ≡ register_code) ⊎ (v.code ≡ fifo_code) → (side_after f v.code ≡ f → Near vs) → (side_after f v.code ≡ suc f → Far vs) → Near (v ∷ vs)
      go (inl a) same next =
          near-other v vs (λ z. omega arith)
          (λ w. rw (weigh-closed R 0 v vs h.code, side_same 0 v.code (λ z. omega arith), w, sevens-more v (sink_side vs) a, mul-suc (R.weight 0) (suc (code_sevens (sink_side vs)))) (omega arith))
          (same (side_same f v.code (λ z. omega arith)))
      go (inr a) same next =
          let x = next (side-fifo f v.code a) in
          let s = sides-fifo v vs a in
          record {
            some = rw s.1 x.some;
            weighs = rw (weigh-closed R 0 v vs h.code, side-fifo 0 v.code a, x.weighs, s.0, s.1, sevens-none, mul-one (R.weight 0)) refl;
          }

  -- The weight of a legal route is its latency.
  pub crossing-weight : {v : Visit} {vs : Route} → FirstVisit R v → Ending R R.sink 0 0 R.start vs → crossing_latency (R.weight 1) (R.weight 0) (v ∷ vs) ≡ weigh R 0 vs
  unfolding crossing_latency source_registers sink_registers
  crossing-weight {v} {vs} h e =
      let x = near e refl in
      let s = sides-other v vs (λ z. omega (arith, h.code)) in
      let near-count : code_sevens (sink_side (v ∷ vs)) - 1 + 1 ≡ suc (code_sevens (sink_side vs)) = rw s.0 (omega (arith, sevens-more v (sink_side vs) h.code)) in
      let far-count : code_sevens (source_side (v ∷ vs)) - 1 + 1 ≡ code_sevens (source_side vs) = rw s.1 (omega (arith, x.some)) in
      rw (near-count, far-count, x.weighs) (omega arith)
