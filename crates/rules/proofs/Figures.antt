-- The figures of a legal route, read off its derivation: the weight is the sum over its spans, the steps are the visits after the sink.
use Prim.Native.Nat.{ℕ, suc, ◌+◌, ◌≤◌, ◌<◌}
use mathlib.Core.Bool.{not, cond}
use mathlib.Core.List.{[], ◌∷◌}
use mathlib.Core.Path.{◌≡◌, refl, ap₂}
use mathlib.Core.Logic.{◌⊎◌, inl, inr}
use native.Mathlib.Omega.{arith}
use borrow.Author.Tests.{eq-eqb, ne_eqb}
use lib.Dec.{T, T_not}
use lib.ListN.{length}
use Rattle.rules.specs.Rules.{Stage, Rules, register_code, fifo_code, is_closing, side_after}
use Rattle.rules.specs.Legal.{Visit, Route}
use Rattle.rules.specs.Ranking.{code_sevens, registers, weigh, steps}
use Rattle.plan.proofs.Truth.{is_true, is_false}
use Rattle.rules.proofs.View.{FirstVisit, Ending, ends, passes, buffers, closes, closing-codes, register-closing, none_open, side-fifo, side_same, side-kept}

pub weigh-none : (R : Rules) (fifos : ℕ) → weigh R fifos [] ≡ 0
unfolding weigh
weigh-none R fifos = refl

pub weigh-closed : (R : Rules) (fifos : ℕ) (v : Visit) (vs : Route) → T (is_closing v.code) → weigh R fifos (v ∷ vs) ≡ R.weight fifos + weigh R (side_after fifos v.code) vs
unfolding weigh
weigh-closed R fifos v vs h = simp (is_true (is_closing v.code) h)

pub weigh-kept : (R : Rules) (fifos : ℕ) (v : Visit) (vs : Route) → T (not (is_closing v.code)) → weigh R fifos (v ∷ vs) ≡ weigh R fifos vs
unfolding weigh
weigh-kept R fifos v vs f = simp (is_false (is_closing v.code) f, side-kept fifos v.code f) (omega arith)

-- an ending has at least one span and one step

pub ending-weight : {R : Rules} {from span fifos : ℕ} {s : Stage} {vs : Route} → Ending R from span fifos s vs → R.weight fifos ≤ weigh R fifos vs
ending-weight {R} {fifos = fifos} (ends {v = v} h) = omega (arith, weigh-closed R fifos v [] (register-closing v.code h.code))
ending-weight {R} {fifos = fifos} (passes {v = v} {vs = vs} h e) =
    omega (arith, weigh-kept R fifos v vs (none_open v.code h.code), ending-weight e)
ending-weight {R} {fifos = fifos} (buffers {v = v} {vs = vs} h e) = omega (arith, weigh-kept R fifos v vs h.no_close, ending-weight e)
ending-weight {R} {fifos = fifos} (closes {v = v} {vs = vs} h e) = omega (arith, weigh-closed R fifos v vs h.code)

pub ending-visits : {R : Rules} {from span fifos : ℕ} {s : Stage} {vs : Route} → Ending R from span fifos s vs → 1 ≤ length vs
ending-visits (ends h) = omega arith
ending-visits (passes h e) = omega arith
ending-visits (buffers h e) = omega arith
ending-visits (closes h e) = omega arith

pub route-steps : (v : Visit) (vs : Route) → steps (v ∷ vs) ≡ length vs
unfolding steps
route-steps v vs = omega arith

-- Registers

pub sevens-none : code_sevens [] ≡ 0
unfolding code_sevens
sevens-none = refl

pub sevens-more : (v : Visit) (vs : Route) → v.code ≡ register_code → code_sevens (v ∷ vs) ≡ suc (code_sevens vs)
unfolding code_sevens
sevens-more v vs e = simp (eq-eqb v.code register_code e) (omega arith)

pub sevens-kept : (v : Visit) (vs : Route) → (v.code ≡ register_code → ⊥) → code_sevens (v ∷ vs) ≡ code_sevens vs
unfolding code_sevens
sevens-kept v vs f = simp (ne_eqb v.code register_code f) (omega arith)

-- a gate that closes no span is no register
pub kept-open : (v : Visit) (vs : Route) → T (not (is_closing v.code)) → code_sevens (v ∷ vs) ≡ code_sevens vs
kept-open v vs f = sevens-kept v vs (λ e. T_not (is_closing v.code) f (register-closing v.code e))

-- the visits that close a span
unfoldable pub closings : Route → ℕ
closings [] = 0
closings (v ∷ vs) = cond (is_closing v.code) 1 0 + closings vs

closings-more : (v : Visit) (vs : Route) → T (is_closing v.code) → closings (v ∷ vs) ≡ suc (closings vs)
unfolding closings
closings-more v vs h = simp (is_true (is_closing v.code) h) (omega arith)

closings-kept : (v : Visit) (vs : Route) → T (not (is_closing v.code)) → closings (v ∷ vs) ≡ closings vs
unfolding closings
closings-kept v vs f = simp (is_false (is_closing v.code) f) (omega arith)

closings-none : closings [] ≡ 0
unfolding closings
closings-none = refl

-- they are registers, the source, and the FIFOs still to be passed
record Counted (R : Rules) (fifos : ℕ) (vs : Route) : Type 0 where
  pub some : 0 < code_sevens vs
  pub sum : closings vs + fifos ≡ code_sevens vs + R.fifos

ending-counted : {R : Rules} {from span fifos : ℕ} {s : Stage} {vs : Route} → Ending R from span fifos s vs → Counted R fifos vs
ending-counted {R} {fifos = fifos} (ends {v = v} h) =
    record {
      some = omega (arith, sevens-more v [] h.code);
      sum = omega (arith, sevens-more v [] h.code, sevens-none, closings-more v [] (register-closing v.code h.code), closings-none, h.passed);
    }
ending-counted (passes {v = v} {vs = vs} h e) =
    let f = none_open v.code h.code in
    let x = ending-counted e in
    record { some = omega (arith, kept-open v vs f, x.some); sum = omega (arith, kept-open v vs f, closings-kept v vs f, x.sum) }
ending-counted (buffers {v = v} {vs = vs} h e) =
    let x = ending-counted e in
    record { some = omega (arith, kept-open v vs h.no_close, x.some); sum = omega (arith, kept-open v vs h.no_close, closings-kept v vs h.no_close, x.sum) }
ending-counted {R} {fifos = fifos} (closes {v = v} {vs = vs} h e) = go (closing-codes v.code h.code) (ending-counted e)
  where
    go : (v.code ≡ register_code) ⊎ (v.code ≡ fifo_code) → Counted R (side_after fifos v.code) vs → Counted R fifos (v ∷ vs)
    go (inl q) x =
        record {
          some = omega (arith, sevens-more v vs q);
          sum = omega (arith, sevens-more v vs q, closings-more v vs h.code, side_same fifos v.code (λ z. omega arith), x.sum);
        }
    go (inr q) x =
        let other = sevens-kept v vs (λ z. omega arith) in
        record {
          some = omega (arith, other, x.some);
          sum = omega (arith, other, closings-more v vs h.code, side-fifo fifos v.code q, x.sum);
        }

pub ending-sevens : {R : Rules} {from span fifos : ℕ} {s : Stage} {vs : Route} → Ending R from span fifos s vs → 0 < code_sevens vs
ending-sevens e = (ending-counted e).some

pub route-closings : {R : Rules} {v : Visit} {vs : Route} → FirstVisit R v → Ending R R.sink 0 0 R.start vs → closings vs ≡ registers (v ∷ vs) + 1 + R.fifos
unfolding registers
route-closings {v = v} {vs = vs} h e = omega (arith, sevens-more v vs h.code, ending-sevens e, (ending-counted e).sum)

-- where every span weighs 1, the weight counts the closes
weigh-closings : (R : Rules) → ((f : ℕ) → R.weight f ≡ 1) → (f : ℕ) (vs : Route) → weigh R f vs ≡ closings vs
unfolding weigh closings
weigh-closings R one f [] = refl
weigh-closings R one f (v ∷ vs) = ap₂ (λ (a b : ℕ). cond (is_closing v.code) a 0 + b) (one f) (weigh-closings R one (side_after f v.code) vs)

-- One clock: the registers are one less than the weight.
pub registers-weigh : (R : Rules) → ((f : ℕ) → R.weight f ≡ 1) → R.fifos ≡ 0 → (v : Visit) (vs : Route) → FirstVisit R v → Ending R R.sink 0 0 R.start vs → registers (v ∷ vs) + 1 ≡ weigh R 0 vs
registers-weigh R one none v vs h e = omega (arith, weigh-closings R one 0 vs, route-closings h e)
