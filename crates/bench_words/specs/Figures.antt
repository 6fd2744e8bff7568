-- The words that tell an answer of the route call.
use Rattle.std.specs.Prelude.{ℕ, List, [], ◌∷◌}
use Rattle.answers.specs.Numbers.{answer_figures}
use Rattle.answers.specs.Numbers.{Answer}
use Rattle.answers.specs.declared.answer.RouteAnswer.TheVariants.{Found, NoRoom, Refused}
use Rattle.timing.specs.Slack.{magnitude}
use Rattle.bench_words.specs.Words.{refusal_fault}

-- refusal 4's place; 0 for every other answer
abbrev pub answer_fault : Answer → ℕ
answer_fault (Found f) = 0
answer_fault (NoRoom f) = 0
answer_fault (Refused r) = refusal_fault 1 r

-- registers, steps, latency, fault, spare half-ticks
unfoldable pub figure_words : Answer → List ℕ
figure_words a = (answer_figures a).registers ∷ (answer_figures a).steps ∷ (answer_figures a).latency ∷ answer_fault a ∷ magnitude (answer_figures a).slack ∷ []
