-- Document 01's rules with something left out (document 02, C-13): another period, no delays, no loads either. What is legal under which of them, and what that means: `fits-untimed`, `chain-bare`, `route-chain`.
use Prim.Native.Nat.{ℕ, ◌-◌, ◌≤◌, ◌<◌}
use mathlib.Core.Bool.{Bool, true, false, ◌&&◌, cond}
use mathlib.Core.List.{List, [], ◌∷◌}
use mathlib.Core.Path.{◌≡◌, refl, sym, ap, ◌∙◌, subst}
use native.Mathlib.Omega.{arith}
use lib.Dec.{T}
use Rattle.plan.specs.Plan.{Plan, cells}
use Rattle.plan.specs.Joined.{horizontal, joined}
use Rattle.plan.proofs.Joined.{joined_in}
use Rattle.timing.specs.declared.elements.Elements.{Elements}
use Rattle.timing.specs.Formulas.{wire_delay, wire_load, gate_delay, skewed, register_driver, register_load, setup_delay}
use Rattle.timing.specs.Elements.{register_of, driver_of}
use Rattle.timing.specs.Relaxed.{at_period, relaxed_wire, relaxed_register, relaxed}
use Rattle.rules.specs.Rules.{Rules, wire_between, site_of, rules_of}
use Rattle.rules.specs.Legal.{Route, legal}
use Rattle.rules.specs.Carrying.{Carries}
use Rattle.rules.specs.Relaxed.{fits, chain_from, Chain, HasRoute}
use Rattle.rules.proofs.Document01.{no-gate-stands}
use Rattle.rules.proofs.Carrying.{legal-eases}
use Rattle.rules.proofs.Relaxed.{Timeless, legal-fitting, legal-fits, SameLoads, fits-alike}
use Rattle.rules.proofs.Chains.{Weightless, chain_route, chain-legal, legal-chain}
use Rattle.timing.proofs.Relaxed.{buffer-at, wire-load, wire-quick, buffer-quick, buffer-load}
use Rattle.rules.proofs.Looser.{buffer_at, looser-carries, later-looser, bare-looser}

module _ (p : Plan) (e : Elements) (from to : ℕ) where
  -- the rules with these tables
  abbrev R : Elements → Rules
  R d = rules_of p d from to

  pub relaxed-timeless : (loads : Bool) → Timeless (rules_of p (relaxed loads e) from to)
  unfolding rules_of relaxed wire_between relaxed_register register_of driver_of skewed register_driver setup_delay gate_delay
  relaxed-timeless loads =
      record {
        wires = λ a b load. wire (horizontal p a b) load;
        buffers = λ code load. rw (buffer-at loads e.buffers (code - 1)) (buffer-quick loads (buffer_at e (code - 1)) load);
        closers = λ cell code load. omega arith;
        start = refl;
        fresh = λ code. refl;
        bound = λ span fifos. omega arith;
      }
    where
      wire : (across : Bool) (load : ℕ) → wire_delay (cond across (relaxed_wire loads e.horizontal) (relaxed_wire loads e.vertical)) load ≡ 0
      wire true load = wire-quick loads e.horizontal load
      wire false load = wire-quick loads e.vertical load

  -- "with the period test left out": no delays

  pub untimed-same : SameLoads (rules_of p e from to) (rules_of p (relaxed true e) from to)
  unfolding rules_of site_of wire_between relaxed relaxed_register register_of register_load
  untimed-same =
      record {
        cells = refl;
        source = refl;
        sink = refl;
        limit = refl;
        linked = λ a b. refl;
        site = λ cell code. refl;
        wires = λ a b. wire (horizontal p a b);
        buffers = λ code. rw (buffer-at true e.buffers (code - 1)) (sym (buffer-load true (buffer_at e (code - 1))));
        start = refl;
        fresh = λ code. refl;
        fifos = refl;
      }
    where
      wire : (across : Bool) → wire_load (cond across e.horizontal e.vertical) ≡ wire_load (cond across (relaxed_wire true e.horizontal) (relaxed_wire true e.vertical))
      wire true = sym (wire-load true e.horizontal)
      wire false = sym (wire-load true e.vertical)

  period-same : (t : ℕ) → SameLoads (rules_of p (at_period t e) from to) (rules_of p e from to)
  unfolding rules_of site_of wire_between at_period
  period-same t =
      record {
        cells = refl;
        source = refl;
        sink = refl;
        limit = refl;
        linked = λ a b. refl;
        site = λ cell code. refl;
        wires = λ a b. refl;
        buffers = λ code. refl;
        start = refl;
        fresh = λ code. refl;
        fifos = refl;
      }

  pub fits-untimed : (r : Route) → fits (rules_of p e from to) r ≡ legal (rules_of p (relaxed true e) from to) r
  fits-untimed r = fits-alike untimed-same r ∙ sym (legal-fits (R (relaxed true e)) (relaxed-timeless true) r)

  -- Legal stays legal: with a longer period; from any period, with no delays; and with no loads either

  pub later-carries : (t u : ℕ) → t ≤ u → Carries (λ c. c) (rules_of p (at_period t e) from to) (rules_of p (at_period u e) from to)
  later-carries t u h = looser-carries p from to (later-looser e t u h)

  pub legal-later : (t u : ℕ) → t ≤ u → (r : Route) → T (legal (rules_of p (at_period t e) from to) r) → T (legal (rules_of p (at_period u e) from to) r)
  legal-later t u h = legal-eases (later-carries t u h)

  pub legal-untimed : (t : ℕ) (r : Route) → T (legal (rules_of p (at_period t e) from to) r) → T (legal (rules_of p (relaxed true e) from to) r)
  legal-untimed t r h = subst T (fits-alike (period-same t) r ∙ fits-untimed r) (legal-fitting (R (at_period t e)) r h)

  pub legal-bare : (r : Route) → T (legal (rules_of p (relaxed true e) from to) r) → T (legal (rules_of p (relaxed false e) from to) r)
  legal-bare = legal-eases (looser-carries p from to (bare-looser e))

  -- "no chain of uncut wires joins the ends": no delays and no loads

  pub bare-weightless : Weightless (rules_of p (relaxed false e) from to)
  unfolding rules_of wire_between relaxed relaxed_register register_of register_load
  bare-weightless =
      record {
        timeless = relaxed-timeless false;
        wires = λ a b. wire (horizontal p a b);
        start = refl;
        fifos = refl;
        in_plan = λ a b h. (joined_in p a b h).1;
        clear = no-gate-stands p (relaxed false e) from to;
      }
    where
      wire : (across : Bool) → wire_load (cond across (relaxed_wire false e.horizontal) (relaxed_wire false e.vertical)) ≡ 0
      wire true = wire-load false e.horizontal
      wire false = wire-load false e.vertical

-- the same chains, whatever the tables

same_from : (p : Plan) (d e : Elements) (from to cell : ℕ) (ns : List ℕ) → chain_from (rules_of p d from to) cell ns ≡ chain_from (rules_of p e from to) cell ns
unfolding rules_of chain_from
same_from p d e from to cell [] = refl
same_from p d e from to cell (n ∷ ns) = ap (λ (rest : Bool). joined p cell n && rest) (same_from p d e from to n ns)

pub chain_same : (p : Plan) (d e : Elements) (from to : ℕ) → Chain (rules_of p d from to) → Chain (rules_of p e from to)
unfolding rules_of
chain_same p d e from to c = record { cells = c.cells; uncut = subst T (same_from p d e from to to c.cells) c.uncut }

module _ (p : Plan) (e : Elements) (from to : ℕ) where
  pub chain-bare : (from ≡ to → ⊥) → to < cells p → Chain (rules_of p e from to) → HasRoute (rules_of p (relaxed false e) from to)
  unfolding rules_of
  chain-bare f h c =
      let bare = chain_same p e (relaxed false e) from to c in
      record { route = chain_route bare; is_legal = chain-legal (rules_of p (relaxed false e) from to) (bare-weightless p e from to) h (λ z. f (sym z)) bare }

  -- back, from any tables
  pub route-chain : (d : Elements) → HasRoute (rules_of p d from to) → Chain (rules_of p e from to)
  route-chain d r = chain_same p d e from to (legal-chain (rules_of p d from to) r.route r.is_legal)
