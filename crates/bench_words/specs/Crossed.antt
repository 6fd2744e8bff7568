-- Two clocks in words: lengths, the clocks read from them, and the words that tell an answer.
use Rattle.std.specs.Prelude.{ℕ, Bool, ◌&&◌, List, [], ◌∷◌, eqb, get_or}
use Rattle.answers.specs.Numbers.{crossing_figures}
use Rattle.answers.specs.declared.records.Crossing.{Crossing}
use Rattle.answers.specs.Numbers.{CrossingAnswer}
use Rattle.answers.specs.declared.answer.RouteAnswer.TheVariants.{Found, NoRoom, Refused}
use Rattle.timing.specs.Slack.{magnitude}
use Rattle.bench_words.specs.Words.{inputs_right, refusal_fault}

-- five words of the clocks, six words for what is told
abbrev pub clock_numbers : ℕ
clock_numbers = 5

abbrev pub crossing_results : ℕ
crossing_results = 6

unfoldable pub crossing_lengths_right : ℕ → ℕ → ℕ → ℕ → Bool
crossing_lengths_right tables clocks buffers results = eqb clocks clock_numbers && eqb results crossing_results && inputs_right tables buffers

-- the source's period, FIFO R K C setup
unfoldable pub crossing_in : List ℕ → Crossing
crossing_in ws =
    record {
      period = get_or ws 0 0;
      fifo = record { resistance = get_or ws 1 0; delay = get_or ws 2 0; load = get_or ws 3 0; setup = get_or ws 4 0 };
    }

-- refusal 4's place in the order of two clocks; 0 for every other answer
abbrev pub crossing_answer_fault : CrossingAnswer → ℕ
crossing_answer_fault (Found f) = 0
crossing_answer_fault (NoRoom f) = 0
crossing_answer_fault (Refused r) = refusal_fault 2 r

-- registers of the source's side, of the sink's, steps, latency, fault, spare half-ticks
unfoldable pub crossed_figures : CrossingAnswer → List ℕ
crossed_figures a = (crossing_figures a).source ∷ (crossing_figures a).sink ∷ (crossing_figures a).steps ∷ (crossing_figures a).latency ∷ crossing_answer_fault a ∷ magnitude (crossing_figures a).slack ∷ []
