-- The active cells have one colour, from layer to layer: a cell that a layer lists is linked to one that was listed before.
use Rattle.std.proofs.Common.{ℕ, suc, ◌+◌, ◌*◌, ◌<◌, max, ◌≡◌, List, arith, get_or}
use Rattle.rules.specs.Rules.{Rules}
use Rattle.budget.specs.Table.{max_below, given}
use Rattle.budget.specs.Colours.{Colouring}
use Rattle.budget.proofs.Max.{Above, below-max, only-test}
use Rattle.budget.proofs.Active.{max-at}
use Rattle.budget.proofs.Colours.{rules-colouring, linked-in-step, same-unlinked}
use Rattle.layout.specs.Layout.{active_at}
use Rattle.lists.specs.Lists.{flag_of, Listed}
use Rattle.lists.proofs.Lists.{empty-flags}
use Rattle.trail.specs.declared.Trail.{Trail}
use Rattle.problem.specs.declared.net.Net.{Net}
use Rattle.table.specs.declared.pushes.Grown.{Grown}
use Rattle.table.specs.Problem.{plan_for, net_rules, budget_of}
use Rattle.table.specs.Layer.{arrivals, SpreadAll, Layered}
use Rattle.table.specs.Colours.{ActiveNeighbour, Coloured, Unlinked}

-- the rules of a problem have a colouring
pub problem-colouring : (net : Net) (marks : List ℕ) → Colouring (net_rules net marks)
unfolding net_rules
problem-colouring net marks =
    rules-colouring (plan_for net.problem marks) net.problem.elements net.clocks net.problem.source net.problem.sink

pub coloured-unlinked : {R : Rules} {n s : ℕ} {words : List ℕ} → Colouring R → Coloured R n s words → Unlinked R n words
coloured-unlinked K k c d h i f g = same-unlinked K (k.in_step c h f) (k.in_step d i g)

-- with no active cell there is nothing to show
pub coloured-none : (R : Rules) {n : ℕ} (s : ℕ) {words : List ℕ} {base count : ℕ} → Listed n words base count → count ≡ 0 → Coloured R n s words
coloured-none R s l none = record { in_step = λ c h f. absurd (omega (arith, empty-flags l none c h)) }

-- words with no new flags
pub coloured-kept : {R : Rules} {n s : ℕ} {old : List ℕ} → Coloured R n s old → (new : List ℕ) → ((c : ℕ) → c < n → flag_of n new c ≡ 1 → flag_of n old c ≡ 1) → Coloured R n s new
coloured-kept k new old = record { in_step = λ c h f. k.in_step c h (old c h f) }

-- Proof: what is in the table after the pushes was there or is given by a listed cell, and a cell gives only over a wire. Qed.
pub pushes-neighbour : (R : Rules) (n top : ℕ) (t : Trail) (old mid pushed : List ℕ) (active : ℕ) (next : Grown) → Listed n old (n * active_at) active → ((i : ℕ) → i < active → get_or mid (n * active_at + i) 0 ≡ get_or old (n * active_at + i) 0) → SpreadAll R n top active t mid pushed next → (c l : ℕ) → budget_of n mid c l < budget_of n pushed c l → ActiveNeighbour R n old c
unfolding given
pushes-neighbour R n top t old mid pushed active next listed same spread c l more =
    from (below-max active offered (budget_of n mid c l) (omega (arith, spread.most (max (budget_of n mid c l) (max_below active offered)) c l (omega arith) (λ i h. omega (arith, max-at active offered i h)))))
  where
    offered : ℕ → ℕ
    offered i = given R (arrivals R n top mid) (get_or mid (n * active_at + i) 0) c l

    from : Above active offered (budget_of n mid c l) → ActiveNeighbour R n old c
    from x =
        record {
          cell = get_or old (n * active_at + x.at) 0;
          inside = listed.cells x.at x.below;
          flagged = listed.flagged x.at x.below;
          link = rw (same x.at x.below) at (only-test (R.linked c (get_or mid (n * active_at + x.at) 0)) _ (budget_of n mid c l) x.above);
        }

pub coloured-layer : {R : Rules} {n top s : ℕ} {t : Trail} {old new : List ℕ} {next : Grown} → Layered R n top t old new next → Coloured R n s old → Coloured R n (suc s) new
coloured-layer {R} {n} {s} {t} {old} l k =
    record {
      in_step = λ c h f.
          let g : ActiveNeighbour R n old c = l.neighbour c h f in
          linked-in-step c g.link (k.in_step g.cell g.inside g.flagged);
    }
