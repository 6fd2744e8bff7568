-- `router::writing::write_out` meets its contract: emission with all words that the route needs, or none; then the words are cleared.
use Prim.Native.Nat.{◌+◌, ◌*◌, ◌≤◌}
use mathlib.Core.Path.{◌≡◌, sym, ◌∙◌}
use native.Mathlib.Omega.{arith}
use lib.ListN.{length, take, length-take}
use Rattle.rules.specs.Ranking.{written}
use Rattle.problem.specs.Net.{net_rules}
use Rattle.labels.proofs.Ready.{ready-short}
use Rattle.emission.specs.Emission.{from_sink}
use Rattle.emission.proofs.Visits.{written-length}
use Rattle.router.proofs.Splice.{zeroed-is}
use Rattle.router.proofs.Lent.{Lends, lends, room_most, room_fits, room-some, kept-length, visits-left}
use Rattle.router.proofs.writing.write_out.Goals as goal
use Rattle.router.proofs.writing.write_out.Goals.{After-emit-arg-2-1, After-emit-told, After-words_for-room, Start}

-- the steps fit
few : (s : Start) → s.args.steps ≤ 134348800
few s = (ready-short _ _ s.requires.ready 0 (omega arith) _ s.requires.reaching.least).0

room : (c : After-words_for-room) → Lends (2 * (c.args.steps + 1)) (length c.args.visits.now) c.words_for-room.result
room c = lends _ _ _ c.words_for-room.ensures

-- the part lent has these words
taken : (c : After-emit-arg-2-1) → length (take c.words_for-room.result c.args.visits.now) ≡ c.words_for-room.result
taken c =
    omega (arith, length-take c.words_for-room.result c.args.visits.now, room_most (room (goal.at.After-emit-arg-2-1 c).After-words_for-room))

-- and after emission as many
left : (c : After-emit-told) → length c.emit-told.new.visits ≡ c.words_for-room.result
left c = c.emit-told.ensures.kept ∙ taken (goal.at.After-emit-told c).After-emit-arg-2-1

pub overflow_add-steps : goal.overflow_add-steps
overflow_add-steps c = omega (arith, few (goal.at.overflow_add-steps c).Start)

pub overflow_mul-steps : goal.overflow_mul-steps
overflow_mul-steps c = omega (arith, few (goal.at.overflow_mul-steps c).Start)

pub slice_bounds-emit-end : goal.slice_bounds-emit-end
slice_bounds-emit-end c = room_most (room (goal.at.slice_bounds-emit-end c).After-words_for-room)

pub slice_bounds-emit-end-2 : goal.slice_bounds-emit-end-2
slice_bounds-emit-end-2 c = sym (taken c)

pub emit-told-requires : goal.emit-told-requires
emit-told-requires c =
    let asks = c.requires in
    record {
      ready = asks.ready;
      costed = asks.costed;
      room = omega (arith, asks.own, asks.within);
      reaching = asks.reaching;
      ahead = asks.ahead;
      fits = room_fits (taken c) (room (goal.at.emit-told-requires c).After-words_for-room);
    }

pub clear-requires : goal.clear-requires
clear-requires c =
    (omega arith, omega (arith, c.requires.within, c.emit-told.ensures.same))

pub shape_of-scratch : goal.shape_of-scratch
shape_of-scratch c = c.clear.ensures.same ∙ c.emit-told.ensures.same

pub shape_of-visits : goal.shape_of-visits
shape_of-visits c =
    kept-length c.args.visits.now c.emit-told.new.visits c.words_for-room.result (left (goal.at.shape_of-visits c).After-emit-told) (room_most (room (goal.at.shape_of-visits c).After-words_for-room))

pub returns : goal.returns
returns c =
    let m = c.emit-told.ensures in
    let route = from_sink (net_rules c.args.net c.args.plan.now) m.made in
    record {
      made = m.made;
      is_first = m.is_first;
      slack = m.slack;
      sink = m.sink;
      source = m.source;
      zero-words = zeroed-is _ _ _ _ _ c.requires.own c.requires.within m.same m.rest c.clear.ensures;
      fits = room-some (room (goal.at.returns c).After-words_for-room) (omega arith);
      filled = visits-left c.args.visits.now _ _ (left (goal.at.returns c).After-emit-told) (written route) _ (room (goal.at.returns c).After-words_for-room) (omega (arith, written-length route, m.is_first.steps)) (λ h. m.filled (omega (arith, taken (goal.at.returns c).After-emit-arg-2-1)));
    }
