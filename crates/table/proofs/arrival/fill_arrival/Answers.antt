-- The row is `through` after the buffers (`mid`), whichever way the test of the site went, and `arrival` after the tries to close there. The seed mark lies beyond the rows, so it is as it was.
use Rattle.std.proofs.Common.{◌+◌, ◌*◌, ◌-◌, ◌≡◌, sym, ◌∙◌, arith, length, get_or}
use Rattle.layout.specs.Layout.{arrival_at, seeds_at}
use Rattle.rules.specs.Rules.{register_code, fifo_code}
use Rattle.rows.specs.Words.{Filled}
use Rattle.costs.specs.Costs.{row_words, none_at, register_at, fifo_at}
use Rattle.rows.specs.Rows.{copied}
use Rattle.rows.proofs.Words.{filled-as, filled-twice}
use Rattle.rows.proofs.Leaves.{limited, copied-limited}
use Rattle.table.specs.Problem.{marks_seed, seed_of}
use Rattle.table.specs.ArrivalRow.{takes_buffers, raised_by_buffers, seeded}
use Rattle.table.proofs.ArrivalRow.{through, limited-through, raised-by-through, seeded-arrival}
use Rattle.table.proofs.arrival.fill_arrival.Goals as goal
use Rattle.table.proofs.arrival.fill_arrival.Goals.{Joined-takes_buffers, then-takes_buffers, else-takes_buffers}

-- the row that the buffers leave
mid : (c : Joined-takes_buffers) → Filled (through c.args.net c.args.plan.now c.args.scratch.now c.args.cell c.requires.ready c.requires.inside) (length c.args.plan.now * arrival_at) row_words c.args.scratch.now c.if-takes_buffers.scratch
mid c =
    let a = c.args in
    let to = length a.plan.now * arrival_at in
    let row = c.copy_row in
    let known = c.slice_known-1.given in
    let test : c.takes_buffers.result ≡ takes_buffers (get_or a.plan.now a.cell 0) a.net.problem a.cell = c.takes_buffers.ensures in
    let copy : Filled (limited a.scratch.now a.cell a.net.problem.elements.limit.0) to row_words a.scratch.now row.new.scratch =
    filled-as {F = copied a.scratch.now a.cell a.costs.now none_at} row.ensures _ (λ k h. copied-limited a.scratch.now a.cell a.costs.now none_at a.net.problem.elements.limit.0 c.requires.costed.none k h (omega (arith, known (a.cell * row_words + k)))) in
    elim c.if-takes_buffers.branch [
      | then-takes_buffers w ↦
          let raise : Filled (raised_by_buffers row.new.scratch a.cell to a.net.problem.elements a.net.problem.elements.count) to row_words row.new.scratch w.raise_buffers.new.scratch = w.raise_buffers.ensures in
          rw w.scratch-is (filled-as (filled-twice copy _ _ raise) _ (λ k h. raised-by-through a.net a.plan.now a.scratch.now a.cell c.requires.ready c.requires.inside _ to k (sym test ∙ w.if-takes_buffers.true) (λ j l. copy.low (a.cell * row_words + j) (omega (arith, c.requires.inside))) (copy.done k h)))
      | else-takes_buffers w ↦ rw w.scratch-is (filled-as copy _ (λ k h. limited-through a.net a.plan.now a.scratch.now a.cell c.requires.ready c.requires.inside (sym test ∙ w.if-takes_buffers.false) k))
    ]

-- the seed mark is as it was
mark : (c : Joined-takes_buffers) → let a = c.args in let k = length a.plan.now * seeds_at + a.cell in get_or c.if-takes_buffers.scratch k 0 ≡ get_or a.scratch.now k 0
mark c =
    (mid c).high (length c.args.plan.now * seeds_at + c.args.cell) (omega (arith, c.requires.inside))

pub returns : goal.returns
unfolding seed_of
returns c =
    let a = c.args in
    let n = length a.plan.now in
    let to = n * arrival_at in
    let at = n * seeds_at + a.cell in
    let past = c.raise_seed.new.scratch in
    let first : Filled (seeded (marks_seed (get_or c.if-takes_buffers.scratch at 0) register_code) c.if-takes_buffers.scratch to (a.top - 2 * a.net.problem.elements.skew) a.costs.now register_at) to row_words c.if-takes_buffers.scratch past = c.raise_seed.ensures in
    let second : Filled (seeded (marks_seed (get_or past at 0) fifo_code) past to (a.top - 2 * a.net.problem.elements.skew) a.costs.now fifo_at) to row_words past c.raise_seed-2.new.scratch = c.raise_seed-2.ensures in
    let still : get_or past at 0 ≡ get_or a.scratch.now at 0 = first.high at (omega (arith, c.requires.inside)) ∙ mark (goal.at.returns c).Joined-takes_buffers in
    filled-as (filled-twice (filled-twice (mid (goal.at.returns c).Joined-takes_buffers) _ _ first) _ _ (rw still at second)) _
    (λ k h.
    seeded-arrival a.net a.plan.now a.scratch.now a.cell c.requires.ready c.requires.inside a.top a.costs.now c.requires.costed (omega arith) c.if-takes_buffers.scratch past to k h ((mid (goal.at.returns c).Joined-takes_buffers).done k h) ((rw (mark (goal.at.returns c).Joined-takes_buffers) at first).done k h))
