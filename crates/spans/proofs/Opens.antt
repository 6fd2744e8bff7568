-- What `Opens` and `Shuts` stand for, carried on: to worse states, to longer periods, from the sink, and over one step.
-- Idea: an ending from where the step leads is an ending from where it began, with one visit put in front.
use Prim.Native.Nat.{ℕ, ◌≤◌}
use mathlib.Core.Path.{◌≡◌, refl, subst}
use mathlib.Core.Logic.{inl, inr}
use mathlib.Core.List.{List, [], ◌∷◌}
use native.Mathlib.Omega.{arith}
use lib.Dec.{T}
use Rattle.timing.specs.Relaxed.{at_period}
use Rattle.timing.specs.Formulas.{register_load, setup_delay}
use Rattle.rules.specs.Rules.{no_gate, register_code, side_after, site_of, wire_between, rules_of}
use Rattle.rules.specs.Legal.{Visit, arrive, buffered, closing, is_end, may_stand}
use Rattle.rules.specs.Carrying.{NotWorse}
use Rattle.rules.proofs.View.{Reached, LastVisit, PlainVisit, BufferVisit, ClosingVisit, Ending, FirstVisit, ending-view, ending-test, starts, route-test, register-closing}
use Rattle.rules.proofs.Carrying.{renamed-id, ending-carries, carries-self}
use Rattle.rules.proofs.Document01.{no-gate-stands}
use Rattle.budget.specs.Done.{stage, Lawful}
use Rattle.budget.proofs.Done.{any-span}
use Rattle.budget.proofs.Document01.{rules-lawful}
use Rattle.problem.specs.declared.Problem.{Problem}
use Rattle.problem.proofs.Sizes.{cells_are}
use Rattle.problem.specs.Problem.{Ready, plan_for, rules_for}
use Rattle.spans.specs.Opens.{MayClose, rules_at, Opens, Shuts, Comes}

module _ (p : Problem) (marks : List ℕ) where
  -- an ending of a worse state is one of the better
  pub opens-worse : (t c l d m e : ℕ) → Opens p marks t c l d → l ≤ m → d ≤ e → Opens p marks t c m e
  opens-worse t c l d m e given h k u late vs legal =
      let better : NotWorse (stage l d) (stage m e) = record { load = h; delay = k } in
      let x = ending-carries (carries-self (rules_at p marks u)) (ending-view (rules_at p marks u) c 0 0 (stage m e) vs legal) (stage l d) better in
      given u late vs (ending-test (subst (Ending (rules_at p marks u) c 0 0 (stage l d)) (renamed-id vs) x))

  -- for a longer period it holds too

  pub opens-later : (t u c l d : ℕ) → Opens p marks t c l d → t ≤ u → Opens p marks u c l d
  opens-later t u c l d given h w late = given w (omega arith)

  pub shuts-later : {t u c closing : ℕ} → Shuts p marks t c closing → t ≤ u → Shuts p marks u c closing
  shuts-later shut h = record { at_source = λ e w late. shut.at_source e w (omega arith); elsewhere = λ f w late. shut.elsewhere f w (omega arith) }

  -- the span that starts at the sink
  pub start-opens : (t : ℕ) → Ready p marks → register_load p.elements.register ≤ p.elements.limit.0 → Opens p marks t p.sink (register_load p.elements.register) (setup_delay p.elements.register)
  unfolding rules_at rules_of at_period
  start-opens t ready light u late vs legal =
      let v : Visit = record { cell = p.sink; code = register_code } in
      let first : FirstVisit (rules_at p marks u) v = record { at_sink = refl; code = refl; in_plan = omega (arith, cells_are p marks ready, ready.sink); light = light } in
      record { route = v ∷ vs; is_legal = route-test (starts {v = v} first (ending-view (rules_at p marks u) p.sink 0 0 _ vs legal)) }

  -- every span has the same bound, so the span's number does not matter
  pub lawful-at : Ready p marks → (u : ℕ) → Lawful (rules_at p marks u)
  unfolding rules_at rules_of at_period site_of may_stand is_end
  lawful-at ready u =
      let law = rules-lawful (plan_for p marks) p.elements p.source p.sink ready.valid in
      record { in_plan = law.in_plan; codes = law.codes; steady = λ span f. refl; heavy = law.heavy }

  -- one step
  module _ (ready : Ready p marks) (light : register_load p.elements.register ≤ p.elements.limit.0) where
    pub step-comes : (t c l d to : ℕ) → Opens p marks t c l d → T ((rules_for p marks).linked c to) → (arrive (rules_for p marks) c (stage l d) to).load ≤ p.elements.limit.0 → Comes p marks t to (arrive (rules_for p marks) c (stage l d) to).load (arrive (rules_for p marks) c (stage l d) to).delay
    unfolding rules_at rules_for rules_of at_period site_of wire_between arrive buffered closing may_stand is_end side_after
    step-comes t c l d to given link fits =
        record {
          passes = λ u late vs legal.
              let v : Visit = record { cell = to; code = no_gate } in
              let visit : PlainVisit (rules_at p marks u) c (stage l d) v = record { reached = reached u; code = refl; stands = no-gate-stands (plan_for p marks) p.elements p.source p.sink to } in
              given u late (v ∷ vs) (ending-test (Ending.passes {v = v} visit (ending-view (rules_at p marks u) to 0 0 _ vs legal)));
          buffers = λ code f may after u late vs legal.
              let v : Visit = record { cell = to; code = code } in
              let visit : BufferVisit (rules_at p marks u) c (stage l d) v = record { reached = reached u; some_gate = f.some_gate; no_close = f.no_close; stands = may; light_after = after } in
              given u late (v ∷ vs) (ending-test (Ending.buffers {v = v} visit (ending-view (rules_at p marks u) to 0 0 _ vs legal)));
          closes = λ may. record {
            at_source = λ e u late early.
                let v : Visit = record { cell = to; code = register_code } in
                let visit : LastVisit (rules_at p marks u) c 0 0 (stage l d) v = record { reached = reached u; at_source = e; code = refl; passed = refl; closed = omega arith } in
                given u late (v ∷ []) (ending-test (Ending.ends {from = c} {span = 0} {fifos = 0} {s = stage l d} {v = v} visit));
            elsewhere = λ f u late early w more vs legal.
                let v : Visit = record { cell = to; code = register_code } in
                let visit : ClosingVisit (rules_at p marks w) c 0 0 (stage l d) v = record { reached = reached w; code = register-closing register_code refl; stands = stands f may; light_after = light; closed = omega arith } in
                given w (omega arith) (v ∷ vs) (ending-test (Ending.closes {span = 0} {fifos = 0} {v = v} visit (any-span (rules_at p marks w) (lawful-at ready w) 1 (ending-view (rules_at p marks w) to 0 0 _ vs legal))));
          };
        }
      where
        reached : (u : ℕ) → Reached (rules_at p marks u) c (stage l d) to
        reached u = record { in_plan = (lawful-at ready u).in_plan c to link; wired = link; light = fits }

        stands : (to ≡ p.source → ⊥) → MayClose (rules_for p marks) to → T (may_stand (rules_for p marks) to register_code)
        stands f (inl e) = absurd (f e)
        stands f (inr h) = h
