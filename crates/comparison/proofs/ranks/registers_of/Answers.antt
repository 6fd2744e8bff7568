use Rattle.std.proofs.Common.{◌≡◌, ℕ, ◌-◌, ◌/◌, length, get_or, ◌==◌, rules, ap, ◌∙◌}
use Rattle.std.specs.List.{count_by}
use Rattle.std.specs.Simd.{first_chunks}
use Rattle.rules.specs.Ranking.{registers}
use Rattle.comparison.proofs.Rest.{sevens-pairs}
use Rattle.comparison.proofs.ranks.registers_of.Goals as goal

pub returns : goal.returns
unfolding registers
returns c =
    let n : c.count.result ≡ count_by (λ v. get_or v 1 0 == 7) (first_chunks 2 (length c.args.words.now / 2) c.args.words.now) = search rules in
    c.saturating_sub.ensures ∙ ap (λ (k : ℕ). k - 2) (n ∙ sevens-pairs c.args.words.now)
