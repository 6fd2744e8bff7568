-- "A chain of uncut wires" (document 02, C-13): under rules without loads and delays each is a legal route, no gate between its ends; and every legal route follows one.
use Prim.Native.Nat.{ℕ, ◌<◌}
use mathlib.Core.List.{List, [], ◌∷◌}
use mathlib.Core.Path.{◌≡◌, refl, sym}
use native.Mathlib.Omega.{arith}
use lib.Dec.{T, eqb→eq}
use Rattle.timing.specs.Formulas.{wire_load}
use Rattle.plan.proofs.Truth.{both, parts, eq→eqb}
use Rattle.rules.specs.Rules.{Stage, Rules, no_gate, register_code}
use Rattle.rules.specs.Legal.{Route, arrive, closing, may_stand, legal}
use Rattle.rules.specs.Relaxed.{chain_from, Chain}
use Rattle.rules.proofs.View.{Reached, Ending, ends, passes, buffers, closes, LegalRoute, starts, route-view, route-test}
use Rattle.rules.proofs.Relaxed.{Timeless}

-- Under rules without loads and delays a chain is a legal route

pub record Weightless (R : Rules) : Type 0 where
  pub timeless : Timeless R
  pub wires : (a b : ℕ) → wire_load (R.wire a b) ≡ 0
  pub start : R.start.load ≡ 0
  pub fifos : R.fifos ≡ 0
  pub in_plan : (a b : ℕ) → T (R.linked a b) → b < R.cell_count
  pub clear : (cell : ℕ) → T (may_stand R cell no_gate)

-- the visits of a chain, the last with a register
unfoldable pub along : List ℕ → Route
along [] = []
along (n ∷ []) = record { cell = n; code = register_code } ∷ []
along (n ∷ m ∷ ns) = record { cell = n; code = no_gate } ∷ along (m ∷ ns)

-- the route of a chain from the sink
unfoldable pub chain_route : {R : Rules} → Chain R → Route
chain_route {R} c = record { cell = R.sink; code = register_code } ∷ along c.cells

-- nothing so far
record Empty (s : Stage) : Type 0 where
  pub load : s.load ≡ 0
  pub delay : s.delay ≡ 0

module _ (R : Rules) (w : Weightless R) where
  arrives : (from : ℕ) (s : Stage) (to : ℕ) → Empty s → Empty (arrive R from s to)
  unfolding arrive
  arrives from s to h =
      record {
        load = omega (arith, w.wires from to, h.load);
        delay = omega (arith, w.timeless.wires from to s.load, h.delay);
      }

  closes-soon : (span fifos : ℕ) (s : Stage) (cell code : ℕ) → Empty s → closing R s cell code < R.bound span fifos
  unfolding closing
  closes-soon span fifos s cell code h = omega (arith, w.timeless.closers cell code s.load, w.timeless.bound span fifos, h.delay)

  reached : (from : ℕ) (s : Stage) (n : ℕ) (ns : List ℕ) → Empty s → T (chain_from R from (n ∷ ns)) → Reached R from s n
  unfolding chain_from
  reached from s n ns h t =
      let l : T (R.linked from n) = search parts in
      record { in_plan = w.in_plan from n l; wired = l; light = omega (arith, (arrives from s n h).load) }

  rest : (from n : ℕ) (ns : List ℕ) → T (chain_from R from (n ∷ ns)) → T (chain_from R n ns)
  unfolding chain_from
  rest from n ns t = search parts

  closed : (n : ℕ) → T (chain_from R n []) → n ≡ R.source
  unfolding chain_from
  closed n t = eqb→eq n R.source t

  chain-ending : (from span : ℕ) (s : Stage) (n : ℕ) (ns : List ℕ) → Empty s → T (chain_from R from (n ∷ ns)) → Ending R from span 0 s (along (n ∷ ns))
  unfolding along
  chain-ending from span s n [] h t =
      ends
      {v = record { cell = n; code = register_code }}
      (record {
        reached = reached from s n [] h t;
        at_source = closed n (rest from n [] t);
        code = refl;
        passed = sym w.fifos;
        closed = closes-soon span 0 (arrive R from s n) n register_code (arrives from s n h);
      })
  chain-ending from span s n (m ∷ ns) h t =
      passes
      {v = record { cell = n; code = no_gate }}
      (record { reached = reached from s n (m ∷ ns) h t; code = refl; stands = w.clear n })
      (chain-ending n span (arrive R from s n) m ns (arrives from s n h) (rest from n (m ∷ ns) t))

  pub chain-legal : R.sink < R.cell_count → (R.sink ≡ R.source → ⊥) → (c : Chain R) → T (legal R (chain_route c))
  unfolding chain_route
  chain-legal h f c = go c.cells c.uncut
    where
      go : (ns : List ℕ) → T (chain_from R R.sink ns) → T (legal R (record { cell = R.sink; code = register_code } ∷ along ns))
      go [] t = absurd (f (closed R.sink t))
      go (n ∷ ns) t =
          route-test
          (starts
          {v = record { cell = R.sink; code = register_code }}
          (record { at_sink = refl; code = refl; in_plan = h; light = omega (arith, w.start) })
          (chain-ending R.sink 0 R.start n ns (record { load = w.start; delay = w.timeless.start }) t))

-- Back: a legal route follows a chain, whatever the rules

unfoldable pub cells_of : Route → List ℕ
cells_of [] = []
cells_of (v ∷ vs) = v.cell ∷ cells_of vs

linked-chain : {R : Rules} {from : ℕ} {s : Stage} (n : ℕ) (ns : List ℕ) → Reached R from s n → T (chain_from R n ns) → T (chain_from R from (n ∷ ns))
unfolding chain_from
linked-chain {R} {from} n ns h k = both (R.linked from n) _ h.wired k

chain-at_source : (R : Rules) (cell : ℕ) → cell ≡ R.source → T (chain_from R cell [])
unfolding chain_from
chain-at_source R cell e = eq→eqb cell R.source e

pub ending-chain : {R : Rules} {from span fifos : ℕ} {s : Stage} {vs : Route} → Ending R from span fifos s vs → T (chain_from R from (cells_of vs))
unfolding cells_of
ending-chain {R} (ends {v = v} h) = linked-chain v.cell [] h.reached (chain-at_source R v.cell h.at_source)
ending-chain (passes {v = v} {vs = vs} h e) = linked-chain v.cell (cells_of vs) h.reached (ending-chain e)
ending-chain (buffers {v = v} {vs = vs} h e) = linked-chain v.cell (cells_of vs) h.reached (ending-chain e)
ending-chain (closes {v = v} {vs = vs} h e) = linked-chain v.cell (cells_of vs) h.reached (ending-chain e)

pub legal-chain : (R : Rules) (r : Route) → T (legal R r) → Chain R
legal-chain R r h = go (route-view R r h)
  where
    go : {r : Route} → LegalRoute R r → Chain R
    go (starts {vs = vs} f e) = record { cells = cells_of vs; uncut = ending-chain e }
