-- The lengths decide; where they are right, the search was asked.
use mathlib.Core.Path.{refl, sym, ◌∙◌}
use Rattle.bench_words.proofs.Told.{right-lengths}
use Rattle.bench_entry.proofs.least.bench_search.Goals as goal

pub ask_search-requires : goal.ask_search-requires
ask_search-requires c = right-lengths _ _ _ (sym c.lengths_right.ensures ∙ c.if-lengths_right.true)

pub returns-then-lengths_right : goal.returns-then-lengths_right
returns-then-lengths_right c =
    rw (sym c.lengths_right.ensures ∙ c.if-lengths_right.true) c.ask_search.ensures

pub returns : goal.returns
returns c = rw (sym c.lengths_right.ensures ∙ c.if-lengths_right.false) (record { number = refl; scratch_left = refl; told_left = refl })
