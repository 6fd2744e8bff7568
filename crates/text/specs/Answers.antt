-- The text of an answer: document 01, "The job and its printed sheet".
-- First line: registers, steps, latency, spare half-ticks. Then cell and code of each visit from the sink. For 7 it prints `none`;
-- for other refusals `refused` and the number. Every line ends with a newline.
use Rattle.std.specs.Prelude.{ℕ, zero, suc, ◌+◌, ◌*◌, ◌≤◌, cond, List, [], ◌∷◌, ◌++◌, eqb, get_or}
use Rattle.answers.specs.Numbers.{refusal_number, answer_number}
use Rattle.answers.specs.declared.answer.Figures.{Figures}
use Rattle.answers.specs.declared.refusal.Refusal.{Refusal}
use Rattle.answers.specs.Numbers.{Answer}
use Rattle.answers.specs.declared.answer.RouteAnswer.TheVariants.{Found, NoRoom, Refused}
use Rattle.text.specs.Decimal.{decimal, signed}

abbrev pub newline : List ℕ
newline = 10 ∷ []

abbrev pub space : List ℕ
space = 32 ∷ []

-- "route "
abbrev pub route_word : List ℕ
route_word = 114 ∷ 111 ∷ 117 ∷ 116 ∷ 101 ∷ 32 ∷ []

-- "refused "
abbrev pub refused_word : List ℕ
refused_word = 114 ∷ 101 ∷ 102 ∷ 117 ∷ 115 ∷ 101 ∷ 100 ∷ 32 ∷ []

-- "none" and a newline
abbrev pub none_line : List ℕ
none_line = 110 ∷ 111 ∷ 110 ∷ 101 ∷ 10 ∷ []

-- the number of "no route"
abbrev pub no_route : ℕ
no_route = refusal_number Refusal.NoRoute

unfoldable pub refused_line : ℕ → List ℕ
refused_line n = refused_word ++ decimal n ++ newline

-- what is printed for a refusal's number
unfoldable pub refusal_text : ℕ → List ℕ
refusal_text n = cond (eqb n no_route) none_line (refused_line n)

unfoldable pub figures_line : Figures → List ℕ
figures_line f = route_word ++ decimal f.registers ++ space ++ decimal f.steps ++ space ++ decimal f.latency ++ space ++ signed f.slack ++ newline

unfoldable pub visit_line : ℕ → ℕ → List ℕ
visit_line cell code = decimal cell ++ space ++ decimal code ++ newline

-- the lines of the first n visits
unfoldable pub visit_lines : List ℕ → ℕ → List ℕ
visit_lines visits zero = []
visit_lines visits (suc n) = visit_lines visits n ++ visit_line (get_or visits (2 * n) 0) (get_or visits (2 * n + 1) 0)

unfoldable pub answer_text : Answer → List ℕ → List ℕ
answer_text (Found f) visits = figures_line f ++ visit_lines visits (f.steps + 1)
answer_text (NoRoom f) visits = refusal_text (answer_number (NoRoom f))
answer_text (Refused r) visits = refusal_text (refusal_number r)

-- the visits that an answer speaks of stand in this many words
unfoldable pub VisitsWithin : Answer → ℕ → Type 0
VisitsWithin (Found f) words = 2 * (f.steps + 1) ≤ words
VisitsWithin (NoRoom f) words = Unit
VisitsWithin (Refused r) words = Unit

-- bytes that suffice for every answer with so many words of visits: 46 for the first line, 12 a visit
abbrev pub text_room : ℕ → ℕ
text_room words = 46 + 6 * words
