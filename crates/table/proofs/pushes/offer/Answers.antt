-- `table::pushes::offer` meets its contract: the laws of proofs/Offers, one for each way out.
use Rattle.std.proofs.Common.{◌+◌, ◌*◌, ◌<◌, arith}
use Rattle.layout.specs.Layout.{next_at, listed_at}
use Rattle.lists.proofs.Lists.{listed_kept, listed-count}
use Rattle.table.proofs.Offers.{offer-none, offer-quiet, noted-listed-kept, offer-grew}
use Rattle.table.proofs.pushes.offer.Goals as goal
use Rattle.table.proofs.pushes.offer.Goals.{then-to-n-via-then-to-n, then-to-n-via-else-to-n+then-not-grows}

pub returns-then-to-n : goal.returns-then-to-n
returns-then-to-n c =
    let a = c.args in
    elim c.then-to-n.branch [
      | then-to-n-via-then-to-n w ↦ offer-none a.n a.to a.costs.now a.base a.step a.next _ c.requires w.if-to-n.true
      | then-to-n-via-else-to-n+then-not-grows w ↦ offer-quiet a.n a.to a.costs.now a.base a.step a.next _ c.requires (omega (arith, w.if-to-n.false, c.requires.to_in)) (w.grows.ensures.none w.if-not-grows.true)
    ]

pub enlist-count-requires : goal.enlist-count-requires
enlist-count-requires c =
    let a = c.requires in
    let f = c.push_row.ensures in
    let listed = noted-listed-kept c.args.n c.args.to c.args.costs.now c.args.base c.args.step c.args.next _ a _ _ c.note-trail.ensures in
    let few = listed-count listed in
    let in_plan : c.args.to < c.args.n = omega (arith, c.if-to-n.false, a.to_in) in (
      listed_kept listed _ (λ k h. f.high (c.args.n * listed_at + k) (omega arith)) (λ i h. f.high (c.args.n * next_at + i) (omega arith)),
      (in_plan, (a.few, (omega arith, omega (arith, f.same, c.note-trail.ensures.same, a.room)))),
    )

pub returns : goal.returns
returns c =
    let a = c.args in
    offer-grew a.n a.to a.costs.now a.base a.step a.next _ c.requires _ _ c.note-trail.ensures _ (omega (arith, c.if-to-n.false, c.requires.to_in)) c.push_row.ensures _ _
    (c.grows.ensures.some c.if-not-grows.false) c.enlist-count.ensures
