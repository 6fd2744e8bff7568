-- A span comes to a cell: it passes, the buffers drive it, it closes. What each leaves, and all of it together.
use Prim.Native.Nat.{ℕ, ◌+◌, ◌≤◌}
use mathlib.Core.Path.{◌≡◌, refl}
use mathlib.Core.Bool.{false}
use mathlib.Core.List.{List}
use native.Mathlib.Omega.{arith}
use lib.ListN.{length, get_or}
use Rattle.timing.specs.Formulas.{gate_delay, skewed, register_driver, buffer_load}
use Rattle.rules.specs.Rules.{Rules, rules_of, register_code}
use Rattle.rows.specs.Rows.{view_of}
use Rattle.problem.specs.declared.Problem.{Problem}
use Rattle.problem.specs.Problem.{rules_for}
use Rattle.table.specs.ArrivalRow.{takes_buffers}
use Rattle.spans.proofs.Named.{limit-named}
use Rattle.delays.specs.Delays.{Eased}
use Rattle.spans.specs.Opens.{MayClose}
use Rattle.spans.specs.Eases.{Eases}
use Rattle.spans.specs.Arrive.{ArriveAsks, BuffersIn, ShutAsks, ShutIn, Arrived}
use Rattle.spans.proofs.Eases.{eases-then, ground-eases, eased-eases, eased-in}
use Rattle.spans.proofs.Buffers.{Named, buffers-named, buffers-refused}

module _ (p : Problem) (marks : List ℕ) where
  abbrev R : Rules
  R = rules_for p marks

  closer-named : (cell : ℕ) → R.closer cell register_code ≡ skewed p.elements.skew (register_driver p.elements.register)
  unfolding rules_for rules_of
  closer-named cell = refl

  pub source-named : R.source ≡ p.source
  unfolding rules_for rules_of
  source-named = refl

  module _ (t : ℕ) (old : List ℕ) (count cell load delay : ℕ) (asks : ArriveAsks p marks t old count cell load delay) where
    abbrev closing : ℕ
    closing = delay + gate_delay (skewed p.elements.skew (register_driver p.elements.register)) load

    -- It has passed.
    module _ (mid : List ℕ) (c1 : ℕ) (e : Eased (length marks) p.elements.limit.0 cell load delay old count mid c1) where
      pub passed : Eases p marks t old count mid c1
      passed = eased-eases p marks t old count cell load delay mid c1 asks.ground asks.inside asks.light e asks.comes.passes

      pub passed-asks : ArriveAsks p marks t mid c1 cell load delay
      passed-asks =
          record {
            ground = ground-eases p marks t old count mid c1 asks.ground passed;
            inside = asks.inside;
            most = asks.most;
            light = asks.light;
            early = asks.early;
            comes = asks.comes;
          }

    -- It has passed, and the buffers have driven it.
    pub record Through (words : List ℕ) (waiting : ℕ) : Type 0 where
      pub eases : Eases p marks t old count words waiting
      pub passes : view_of words cell load ≤ delay
      pub buffers : Named p marks cell words load delay

    module _ (mid : List ℕ) (c1 : ℕ) (e : Eased (length marks) p.elements.limit.0 cell load delay old count mid c1) where
      pub through-none : takes_buffers (get_or marks cell 0) p cell ≡ false → Through mid c1
      through-none none =
          record {
            eases = passed mid c1 e;
            passes = eased-in e asks.light;
            buffers = buffers-refused p marks cell mid load delay none;
          }

      pub through-buffers : (words : List ℕ) (waiting : ℕ) → Eases p marks t mid c1 words waiting × BuffersIn p.elements words cell load delay p.elements.count → Through words waiting
      through-buffers words waiting d =
          record {
            eases = eases-then p marks t old count mid c1 words waiting asks.ground (passed mid c1 e) d.0;
            passes = omega (arith, d.0.lower cell load asks.inside asks.light, eased-in e asks.light);
            buffers = buffers-named p marks cell words load delay d.1;
          }

    module _ (words : List ℕ) (waiting : ℕ) (d : Through words waiting) where
      -- it may not close
      pub arrived-open : (MayClose R cell → ⊥) → Eases p marks t old count words waiting × Arrived R (length marks) words cell load delay
      arrived-open never = (d.eases, record { passes = d.passes; buffers = d.buffers; closes = λ m. absurd (never m) })

      pub shut-asks : MayClose R cell → ShutAsks p marks t words waiting cell closing
      shut-asks m =
          record {
            ground = ground-eases p marks t old count words waiting asks.ground d.eases;
            inside = asks.inside;
            most = asks.most;
            shuts = rw (closer-named cell) at (asks.comes.closes m);
          }

      -- it has closed
      pub arrived-shut : (new : List ℕ) (next : ℕ) → Eases p marks t words waiting new next × ShutIn (length marks) new cell closing → Eases p marks t old count new next × Arrived R (length marks) new cell load delay
      arrived-shut new next s = (
        eases-then p marks t old count words waiting new next asks.ground d.eases s.0,
        record {
          passes = omega (arith, s.0.lower cell load asks.inside asks.light, d.passes);
          buffers = λ code b may light early. omega (arith, s.0.lower cell (buffer_load (R.buffer code)) asks.inside (omega (arith, limit-named p marks)), d.buffers code b may light early);
          closes = λ m. rw (closer-named cell) s.1;
        },
      )
