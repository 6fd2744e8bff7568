-- A question as the code hands it on.
use Rattle.answers.specs.declared.records.Crossing.{Crossing}
use Rattle.question.specs.declared.asking.Asking.{Asking}
use Rattle.question.specs.Question.{Question, question_of}
use Rattle.question.specs.Crossing.{CrossingQuestion}

abbrev pub asked : Asking → Question
asked a = question_of a.plan.now a.width a.height a.tables a.buffers a.source a.sink

abbrev pub asked_between : Asking → Crossing → CrossingQuestion
asked_between a x = record { question = asked a; crossing = x }
