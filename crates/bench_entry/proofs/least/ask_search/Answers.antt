-- The question of the words is the one that was asked.
use Rattle.std.proofs.Common.{ap, ◌∙◌}
use Rattle.answers.specs.Numbers.{answer_number}
use Rattle.bench_words.specs.Figures.{figure_words}
use Rattle.bench_entry.specs.Question.{bench_question}
use Rattle.bench_entry.proofs.least.ask_search.Goals as goal

pub returns : goal.returns
unfolding bench_question
returns c =
    let done = rw (c.tables_of.ensures, c.read_list.ensures, c.read_buffers.ensures) at c.search_asked-answer.ensures in
    record {
      number = c.number.ensures ∙ ap answer_number done.answer;
      scratch_left = done.scratch_left;
      told = c.write_figures.ensures ∙ ap figure_words done.answer;
    }
