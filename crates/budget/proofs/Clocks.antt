-- The rules with any clocks are lawful, whatever the plan and the ends: the theory of the search applies to them. How long and heavy a route can be; between two clocks its weight is its latency.
use Prim.Native.Nat.{ℕ, zero, suc, ◌*◌, ◌≤◌, ◌<◌}
use mathlib.Core.Bool.{Bool, true, false, ◌&&◌, cond}
use mathlib.Core.List.{◌∷◌}
use mathlib.Core.Path.{◌≡◌, refl, sym, ap₂, ◌∙◌}
use mathlib.Core.Logic.{◌⊎◌, inl, inr}
use native.Mathlib.Nat.{mul-le-mul, add-zero}
use native.Mathlib.Omega.{arith}
use lib.Dec.{T, leb}
use Rattle.plan.specs.Plan.{Plan}
use Rattle.plan.proofs.Joined.{joined_in}
use Rattle.plan.proofs.Truth.{equal}
use Rattle.timing.specs.declared.elements.Elements.{Elements}
use Rattle.timing.specs.declared.clocks.Clocks.{Clocks}
use Rattle.timing.specs.Valid.{Valid}
use Rattle.timing.specs.Clocks.{ValidClocks}
use Rattle.rules.specs.Rules.{Rules, no_gate, register_code, fifo_code}
use Rattle.rules.specs.Legal.{may_stand}
use Rattle.rules.specs.Crossing.{period_on, rules_between, crossing_latency}
use Rattle.rules.proofs.Document01.{buffer-site}
use Rattle.rules.proofs.Clocks.{period-sink, period-source, between-cell_count, between-limit, between-linked, between-fifos, between-bound, weight-one, weight-two, stands_alike}
use Rattle.rules.proofs.Crossing.{crossing-weight}
use Rattle.budget.specs.Done.{Lawful}
use Rattle.budget.proofs.Best.{Costs}
use Rattle.budget.proofs.Short.{most_steps, most_weight}

module _ (p : Plan) (e : Elements) (x : Clocks) (from to : ℕ) where
  abbrev R : Rules
  R = rules_between p e x from to

  codes : Valid e → (c code : ℕ) → T (may_stand R c code) → code ≤ fifo_code
  codes valid c code h = go (equal code no_gate) (equal code register_code) (equal code fifo_code)
    where
      go : (code ≡ no_gate) ⊎ (code ≡ no_gate → ⊥) → (code ≡ register_code) ⊎ (code ≡ register_code → ⊥) → (code ≡ fifo_code) ⊎ (code ≡ fifo_code → ⊥) → code ≤ fifo_code
      go (inl q) b d = omega arith
      go (inr f) (inl q) d = omega arith
      go (inr f) (inr g) (inl q) = omega arith
      go (inr f) (inr g) (inr k) =
          omega (arith, (buffer-site p e from to c code f g (rw (stands_alike p e x from to c code k) at h)).listed, valid.count)

  -- the clocks in use
  clocks-in : (x.fifos ≡ 0) ⊎ (x.fifos ≡ 0 → ⊥)
  clocks-in = equal x.fifos 0

  module _ (valid : Valid e) (clocks : ValidClocks x) where
    -- a span's period is one of the two
    pub period-least : (f : ℕ) → 1 ≤ period_on e x f
    unfolding period_on
    period-least f = go (leb 1 x.fifos && leb 1 f)
      where
        go : (b : Bool) → 1 ≤ cond b x.period e.period
        go true = clocks.least
        go false = valid.least

    pub period-most : (f : ℕ) → period_on e x f ≤ 30000
    unfolding period_on
    period-most f = go (leb 1 x.fifos && leb 1 f)
      where
        go : (b : Bool) → cond b x.period e.period ≤ 30000
        go true = clocks.most
        go false = valid.most

    pub weight-least : (f : ℕ) → 1 ≤ R.weight f
    weight-least f = go clocks-in
      where
        go : (x.fifos ≡ 0) ⊎ (x.fifos ≡ 0 → ⊥) → 1 ≤ R.weight f
        go (inl h) = omega (arith, weight-one p e x from to h f)
        go (inr h) = omega (arith, weight-two p e x from to (omega arith) f, period-least f)

    weight-each : (f : ℕ) → R.weight f ≤ 30000
    weight-each f = go clocks-in
      where
        go : (x.fifos ≡ 0) ⊎ (x.fifos ≡ 0 → ⊥) → R.weight f ≤ 30000
        go (inl h) = omega (arith, weight-one p e x from to h f)
        go (inr h) = omega (arith, weight-two p e x from to (omega arith) f, period-most f)

    pub between-lawful : Lawful R
    between-lawful =
        record {
          in_plan = λ c n h. rw (between-cell_count p e x from to) (joined_in p c n (rw (between-linked p e x from to c n) at h)).1;
          codes = codes valid;
          steady = λ span f. rw (between-bound p e x from to span f, between-bound p e x from to 0 f);
          heavy = λ f. omega (arith, weight-least f);
        }

    -- With 1,024 cells at most and 64 loads: a side has at most 1,024 · 64 · 1,025 steps and 1,025 spans. There are two sides at most.
    module _ (few : R.cell_count ≤ 1024) where
      one_side : (w : ℕ) → w ≤ 30000 → w * suc R.cell_count ≤ 30750000
      one_side w h = mul-le-mul {n₂ = 30000} {m₂ = 1025} h (omega arith)

      pub between-steps : (more : ℕ) → more ≤ 1 → most_steps R more ≤ 134348800
      unfolding most_steps
      between-steps more h =
          let row : suc R.limit * 1 ≤ 64 = omega (arith, between-limit p e x from to, valid.limit) in
          let span : R.cell_count * (suc R.limit * 1) ≤ 65536 = mul-le-mul {n₂ = 1024} {m₂ = 64} few row in
          let side : R.cell_count * (suc R.limit * 1) * suc R.cell_count ≤ 67174400 = mul-le-mul {n₂ = 65536} {m₂ = 1025} span (omega arith) in
          go more h side
        where
          go : (n : ℕ) → n ≤ 1 → R.cell_count * (suc R.limit * 1) * suc R.cell_count ≤ 67174400 → most_steps R n ≤ 134348800
          go zero h side = omega arith
          go (suc zero) h side = omega arith
          go (suc (suc n)) h side = absurd (omega arith)

      pub between-weight : (f more : ℕ) → more ≤ 1 → most_weight R f more ≤ 61500000
      unfolding most_weight
      between-weight f more h = go more h (one_side (R.weight f) (weight-each f)) (one_side (R.weight (suc f)) (weight-each (suc f)))
        where
          go : (n : ℕ) → n ≤ 1 → R.weight f * suc R.cell_count ≤ 30750000 → R.weight (suc f) * suc R.cell_count ≤ 30750000 → most_weight R f n ≤ 61500000
          go zero h a b = omega arith
          go (suc zero) h a b = omega arith
          go (suc (suc n)) h a b = absurd (omega arith)

  pub between-from : (c n : ℕ) → T (R.linked c n) → c < R.cell_count
  between-from c n h = rw (between-cell_count p e x from to) (joined_in p c n (rw (between-linked p e x from to c n) at h)).0

  -- between two clocks what is ranked first is the latency, which is the weight: the sum over the spans of each span's own period; so too by other rules with these FIFOs and weights
  pub latency-cost : (Q : Rules) → Q.fifos ≡ R.fifos → ((f : ℕ) → Q.weight f ≡ R.weight f) → x.fifos ≡ 1 → Costs Q (crossing_latency x.period e.period) 0
  latency-cost Q fifos weights one v vs h ending =
      let two : 1 ≤ x.fifos = omega arith in
      let far : Q.weight 1 ≡ x.period = weights 1 ∙ weight-two p e x from to two 1 ∙ period-source e x 1 two (omega arith) in
      let near : Q.weight 0 ≡ e.period = weights 0 ∙ weight-two p e x from to two 0 ∙ period-sink e x 0 refl in
      add-zero _ ∙ (ap₂ (λ (s t : ℕ). crossing_latency s t (v ∷ vs)) (sym far) (sym near) ∙ crossing-weight Q (fifos ∙ between-fifos p e x from to ∙ one) h ending)

  pub crossing-cost : x.fifos ≡ 1 → Costs R (crossing_latency x.period e.period) 0
  crossing-cost = latency-cost R refl (λ f. refl)
