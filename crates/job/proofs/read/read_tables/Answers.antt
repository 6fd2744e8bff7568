-- The record of the thirteen numbers, which stand in the first words.
use Rattle.std.proofs.Common.{◌++◌, drop, refl, ◌∙◌, arith}
use Rattle.numbers.specs.Numbers.{number_max}
use Rattle.numbers.specs.Runs.{job_fault, run_of}
use Rattle.job.proofs.Stages.{read-first, tables-whole}
use Rattle.job.proofs.read.read_tables.Goals as goal

pub returns : goal.returns
unfolding run_of
returns c =
    let ran = read-first 13 number_max job_fault c.args.job.now c.read_series.new.words c.in_ok-rest.rest.now c.args.words.now (omega arith) c.in_ok-rest.ensures in
    λ plan. c.read_count.ensures plan ∙ tables-whole _ _ plan (c.read_series.new.words ++ drop 13 c.args.words.now) _ _ _ c.tables_of.ensures ran _ refl
