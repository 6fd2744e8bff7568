-- `router::least::least_ready` meets its contract: what the search found is the best route's figures.
use Prim.Native.Nat.{ℕ}
use mathlib.Core.Path.{◌≡◌, refl}
use native.Mathlib.Omega.{arith}
use Rattle.rules.specs.Rules.{Rules}
use Rattle.best.specs.Best.{none, best}
use Rattle.problem.specs.Problem.{rules_for}
use Rattle.router.specs.Least.{least_of}
use Rattle.router.specs.declared.least.Least.{Least}
use Rattle.std.specs.Prelude.{Option, Some, None}
use Rattle.router.proofs.BestRoute.{BestIs, best-is, best-is-none}
use Rattle.router.proofs.OneClock.{one-rest, net-ready, net-costed, one_side, one-searched}
use Rattle.router.proofs.Searched.{reached-sink, reached-nothing}
use Rattle.router.proofs.least.least_ready.Goals as goal
use Rattle.router.proofs.least.least_ready.Goals.{In-Sink}

least-is : {R : Rules} {period k s : ℕ} → BestIs R period k s → ◌≡◌ {A = Option Least} (Some (record { registers = k; steps = s })) (least_of (best R))
unfolding least_of
least-is b = rw (b.is_found, least_of, b.registers_are, b.steps_are)

least-none : (R : Rules) → best R ≡ none → ◌≡◌ {A = Option Least} None (least_of (best R))
unfolding least_of
least-none R e = rw e

pub search_anew-requires : goal.search_anew-requires
search_anew-requires c =
    let one = c.one_clock-net.ensures in
    (net-ready _ _ one _ c.requires.0, (c.requires.1.0, (one_side _ _ one _ _, net-costed _ _ one _ c.requires.1.1)))

-- the figures, where the sink was reached
figures : (c : In-Sink) → BestIs (rules_for c.args.p c.args.plan.now) c.args.p.elements.period c.in-Sink.weight c.in-Sink.steps
figures c =
    best-is _ _ c.requires.0 _ _ _ _ _ _ (reached-sink (rw c.in-Sink.is at (one-searched _ _ c.one_clock-net.ensures _ c.search_anew.ensures).done))

pub overflow_cast-result : goal.overflow_cast-result
overflow_cast-result c = omega (arith, (figures (goal.at.overflow_cast-result c).In-Sink).registers_fit)

pub shape_of-scratch-in-Sink : goal.shape_of-scratch-in-Sink
shape_of-scratch-in-Sink c = c.search_anew.ensures.same

pub returns-in-Sink : goal.returns-in-Sink
returns-in-Sink c =
    let found = c.search_anew.ensures in
    record {
      least = least-is (figures (goal.at.returns-in-Sink c).In-Sink);
      same = found.same;
      rest = one-rest found.beyond;
    }

pub shape_of-scratch-in-Nothing : goal.shape_of-scratch-in-Nothing
shape_of-scratch-in-Nothing c = c.search_anew.ensures.same

pub returns-in-Nothing : goal.returns-in-Nothing
returns-in-Nothing c =
    let found = c.search_anew.ensures in
    record {
      least = least-none _ (best-is-none _ _ c.requires.0 ((reached-nothing (rw c.in-Nothing.is at (one-searched _ _ c.one_clock-net.ensures _ found).done)).none refl));
      same = found.same;
      rest = one-rest found.beyond;
    }
