-- A span that has come to a cell is driven by the buffers, one after another.
use Prim.Native.Nat.{ℕ, zero, suc, ◌+◌, ◌≤◌, ◌<◌}
use mathlib.Core.Path.{◌≡◌}
use mathlib.Core.Bool.{true, false}
use mathlib.Core.List.{List}
use mathlib.Core.Logic.{◌⊎◌, inl, inr}
use native.Mathlib.Omega.{arith}
use borrow.Author.Count.{below_more}
use lib.Dec.{T, T_not}
use lib.ListN.{length, get_or}
use Rattle.timing.specs.Formulas.{gate_delay, buffer_driver, buffer_load}
use Rattle.rules.specs.Rules.{Rules, register_code, is_closing}
use Rattle.rules.specs.Legal.{may_stand}
use Rattle.rules.specs.Carrying.{Buffering}
use Rattle.rules.proofs.View.{register-closing}
use Rattle.rules.proofs.Document01.{buffer-site, buffer-stands}
use Rattle.plan.proofs.Truth.{of-false}
use Rattle.budget.proofs.Codes.{buffer-open}
use Rattle.costs.specs.Costs.{buffer_at}
use Rattle.rows.specs.Rows.{view_of}
use Rattle.problem.specs.declared.Problem.{Problem}
use Rattle.problem.specs.Problem.{plan_for, rules_for, Ready}
use Rattle.table.specs.ArrivalRow.{takes_buffers}
use Rattle.table.proofs.ArrivalRow.{takes-site, site-takes}
use Rattle.spans.proofs.Named.{buffer-named, limit-named}
use Rattle.delays.specs.Delays.{latest, Eased}
use Rattle.spans.specs.Opens.{Opens}
use Rattle.spans.specs.Eases.{Ground, Eases}
use Rattle.spans.specs.Arrive.{ArriveAsks, BuffersIn}
use Rattle.spans.proofs.Eases.{eases-self, eases-then, ground-eases, eased-eases, eased-in}

no_register : {code : ℕ} → Buffering code → code ≡ register_code → ⊥
no_register {code} b e = T_not (is_closing code) b.no_close (register-closing code e)

-- the delay after buffer i
abbrev pub driven_by : Problem → ℕ → ℕ → ℕ → ℕ
driven_by p load delay i = delay + gate_delay (buffer_driver (buffer_at p.elements i)) load

module _ (p : Problem) (marks : List ℕ) (cell : ℕ) where
  abbrev R : Rules
  R = rules_for p marks

  -- buffer i stands there, if the cell takes buffers
  stands : Ready p marks → takes_buffers (get_or marks cell 0) p cell ≡ true → (i : ℕ) → i < p.elements.count → T (may_stand R cell (suc i))
  unfolding rules_for
  stands ready takes i h =
      buffer-stands (plan_for p marks) p.elements p.source p.sink cell (suc i) ready.valid.count (takes-site p marks cell takes (suc i) (omega arith) (omega arith))

  -- a buffer that may stand is one of the list, and the cell takes buffers
  listed : (i : ℕ) → Buffering (suc i) → T (may_stand R cell (suc i)) → i < p.elements.count
  unfolding rules_for
  listed i b t = omega (arith, (buffer-site (plan_for p marks) p.elements p.source p.sink cell (suc i) b.some_gate (no_register b) t).listed)

  takes-some : (code : ℕ) → Buffering code → T (may_stand R cell code) → T (takes_buffers (get_or marks cell 0) p cell)
  unfolding rules_for
  takes-some code b t = site-takes p marks cell code (buffer-site (plan_for p marks) p.elements p.source p.sink cell code b.some_gate (no_register b) t)

  -- What the buffers leave, as the rules name them
  module _ (words : List ℕ) (load delay : ℕ) where
    abbrev pub Named : Type 0
    Named = (code : ℕ) → Buffering code → T (may_stand R cell code) → buffer_load (R.buffer code) ≤ R.limit → delay + gate_delay (buffer_driver (R.buffer code)) load ≤ latest → view_of words cell (buffer_load (R.buffer code)) ≤ delay + gate_delay (buffer_driver (R.buffer code)) load

    pub buffers-named : BuffersIn p.elements words cell load delay p.elements.count → Named
    buffers-named b zero f t = absurd (f.some_gate (omega arith))
    buffers-named b (suc i) f t = rw (buffer-named p marks i, limit-named p marks) (b i (listed i f t))

    pub buffers-refused : takes_buffers (get_or marks cell 0) p cell ≡ false → Named
    buffers-refused e code f t =
        absurd (T_not (takes_buffers (get_or marks cell 0) p cell) (of-false (takes_buffers (get_or marks cell 0) p cell) e) (takes-some code f t))

-- From what had come to the cell, after i buffers
module _ (p : Problem) (marks : List ℕ) (t : ℕ) (old : List ℕ) (count cell load delay : ℕ) (asks : ArriveAsks p marks t old count cell load delay) where
  pub record Driven (words : List ℕ) (waiting i : ℕ) : Type 0 where
    pub eases : Eases p marks t old count words waiting
    pub done : BuffersIn p.elements words cell load delay i

  pub driven-none : Driven old count 0
  driven-none = record { eases = eases-self p marks t old count asks.ground; done = λ i h. absurd (omega arith) }

  module _ (words : List ℕ) (waiting i : ℕ) (d : Driven words waiting i) where
    pub driven-ground : Ground p marks words waiting
    driven-ground = ground-eases p marks t old count words waiting asks.ground d.eases

    -- too heavy or too late
    pub driven-past : (p.elements.limit.0 < buffer_load (buffer_at p.elements i)) ⊎ (latest < driven_by p load delay i) → Driven words waiting (i + 1)
    driven-past past = record { eases = d.eases; done = below_more _ i d.done (λ k q. absurd (go past k q)) }
      where
        go : (p.elements.limit.0 < buffer_load (buffer_at p.elements i)) ⊎ (latest < driven_by p load delay i) → buffer_load (buffer_at p.elements i) ≤ p.elements.limit.0 → driven_by p load delay i ≤ latest → ⊥
        go (inl h) k q = omega arith
        go (inr h) k q = omega arith

    module _ (takes : takes_buffers (get_or marks cell 0) p cell ≡ true) (in_list : i < p.elements.count) (light : buffer_load (buffer_at p.elements i) ≤ p.elements.limit.0) where
      buffering : Buffering (suc i)
      buffering = record { some_gate = λ z. omega arith; no_close = buffer-open i (omega (arith, asks.ground.ready.valid.count)) }

      opened : Opens p marks t cell (buffer_load (buffer_at p.elements i)) (driven_by p load delay i)
      opened =
          rw (buffer-named p marks i) at (asks.comes.buffers (suc i) buffering (stands p marks cell asks.ground.ready takes i in_list) (rw (buffer-named p marks i) light))

      pub driven-more : (new : List ℕ) (next : ℕ) → Eased (length marks) p.elements.limit.0 cell (buffer_load (buffer_at p.elements i)) (driven_by p load delay i) words waiting new next → Driven new next (i + 1)
      driven-more new next e =
          let here = eased-eases p marks t words waiting cell _ _ new next driven-ground asks.inside light e opened in
          record {
            eases = eases-then p marks t old count words waiting new next asks.ground d.eases here;
            done = below_more _ i (λ j h k q. omega (arith, here.lower cell (buffer_load (buffer_at p.elements j)) asks.inside k, d.done j h k q)) (λ k q. eased-in e light);
          }
