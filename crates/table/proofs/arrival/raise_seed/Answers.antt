-- Raised where the mark says so, else as it was.
use Rattle.std.proofs.Common.{◌≡◌, refl, sym, ◌∙◌, true, false, get_or}
use Rattle.rows.proofs.Words.{filled-as}
use Rattle.table.specs.Problem.{marks_seed}
use Rattle.table.specs.ArrivalRow.{seeded}
use Rattle.table.proofs.arrival.raise_seed.Goals as goal

pub returns-then-marks_seed : goal.returns-then-marks_seed
unfolding seeded
returns-then-marks_seed c =
    let test : marks_seed (get_or c.args.scratch.now c.args.mark 0) c.args.code ≡ true = sym c.marks_seed.ensures ∙ c.if-marks_seed.true in
    filled-as c.raise_row.ensures _ (λ k h. simp (test, c.saturating_sub.ensures))

pub returns-else-marks_seed : goal.returns-else-marks_seed
unfolding seeded
returns-else-marks_seed c =
    let test : marks_seed (get_or c.args.scratch.now c.args.mark 0) c.args.code ≡ false = sym c.marks_seed.ensures ∙ c.if-marks_seed.false in
    record { same = refl; done = λ k h. simp test; low = λ k h. refl; high = λ k h. refl }
