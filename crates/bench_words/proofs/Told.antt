-- What right lengths say.
use Rattle.std.proofs.Common.{ℕ, ◌≤◌, true, ◌≡◌, arith}
use Rattle.job.specs.Fields.{table_numbers}
use Rattle.bench_words.specs.Words.{inputs_right, result_numbers, lengths_right}

pub right-lengths : (t b f : ℕ) → lengths_right t b f ≡ true → (table_numbers ≤ t) × (f ≡ result_numbers)
unfolding lengths_right inputs_right
right-lengths t b f h = grind arith
