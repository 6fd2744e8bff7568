-- `crossing_router::sides::search_far` meets its contract: the source's side is searched, and its labels are laid aside.
use Prim.Native.Nat.{◌≤◌}
use mathlib.Core.Logic.{inl}
use mathlib.Core.Path.{◌≡◌, ◌∙◌}
use native.Mathlib.Omega.{arith}
use lib.ListN.{length}
use Rattle.problem.proofs.Sizes.{few-cells}
use Rattle.problem.proofs.Clocks.{net-fifos}
use Rattle.problem.specs.Net.{net_rules}
use Rattle.router.proofs.Searched.{reached-nothing}
use Rattle.crossing_router.proofs.FarSide.{no-sink, far-asks, far-done}
use Rattle.crossing_router.proofs.sides.search_far.Goals as goal
use Rattle.crossing_router.proofs.sides.search_far.Goals.{Start}

few : (s : Start) → length s.args.plan.now ≤ 1024
few s = few-cells _ _ s.requires.ready.ready

one-fifo : (s : Start) → (net_rules s.args.net s.args.plan.now).fifos ≡ 1
one-fifo s = net-fifos _ _ ∙ s.requires.two

pub overflow_mul-n : goal.overflow_mul-n
overflow_mul-n c = omega (arith, few (goal.at.overflow_mul-n c).Start)

pub overflow_mul-n-2 : goal.overflow_mul-n-2
overflow_mul-n-2 c = omega (arith, few (goal.at.overflow_mul-n-2 c).Start)

pub clear-requires : goal.clear-requires
clear-requires c = (omega arith, omega (arith, c.requires.room))

pub search_anew-requires : goal.search_anew-requires
search_anew-requires c =
    let cleared = c.clear.ensures in
    (c.requires.ready, (omega (arith, c.requires.room, cleared.same), (far-asks (one-fifo (goal.at.search_anew-requires c).Start) c.requires.room cleared, c.requires.costed)))

pub unreachable-requires : goal.unreachable-requires
unreachable-requires c = no-sink (rw c.in-Sink.is at c.search_anew.ensures.done)

pub overflow_mul-n-in-Nothing : goal.overflow_mul-n-in-Nothing
overflow_mul-n-in-Nothing c = omega (arith, few (goal.at.overflow_mul-n-in-Nothing c).Start)

pub overflow_mul-n-in-Nothing-2 : goal.overflow_mul-n-in-Nothing-2
overflow_mul-n-in-Nothing-2 c = omega (arith, few (goal.at.overflow_mul-n-in-Nothing-2 c).Start)

pub copy_set-requires : goal.copy_set-requires
copy_set-requires c =
    let long : length c.search_anew.new.scratch ≡ length c.args.scratch.now = c.search_anew.ensures.same ∙ c.clear.ensures.same in
    record {
      source = record { small = few (goal.at.copy_set-requires c).Start; low = omega (arith, few (goal.at.copy_set-requires c).Start); room = omega (arith, c.requires.room, long) };
      target = record { small = few (goal.at.copy_set-requires c).Start; low = omega (arith, few (goal.at.copy_set-requires c).Start); room = omega (arith, c.requires.room, long) };
      apart = inl (omega arith);
    }

pub returns : goal.returns
returns c =
    let found = c.search_anew.ensures in
    far-done (one-fifo (goal.at.returns c).Start) _ _ c.requires.room c.clear.ensures found.same found.beyond (reached-nothing (rw c.in-Nothing.is at found.done)) c.copy_set.ensures
