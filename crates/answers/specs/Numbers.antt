-- The number and the figures that document 01 gives for each case of a route's answer, with one clock and with two (document 02, C-15), and the words it fills; the numbers of a verdict, of a comparison and of a reason (document 02, C-11 and C-13).
use Rattle.std.specs.Prelude.{ℕ, ◌+◌, ◌*◌, ◌≡◌, refl, pos, Result, Ok, Err}
use Rattle.plan.specs.declared.PlanFault.{PlanFault}
use Rattle.answers.specs.declared.refusal.Refusal.{Refusal}
use Rattle.answers.specs.declared.refusal.Refusal.TheVariants.{Grid, Length, Mark, Element, Ends, Scratch, NoRoute, RouteList, NoneLegal, RouteExists}
use Rattle.answers.specs.declared.answer.Figures.{Figures}
use Rattle.answers.specs.declared.answer.CrossingFigures.{CrossingFigures}
use Rattle.answers.specs.declared.answer.RouteAnswer.{RouteAnswer}
use Rattle.answers.specs.declared.answer.RouteAnswer.TheVariants.{Found, NoRoom, Refused}
use Rattle.answers.specs.declared.explained.Reason.{Reason}
use Rattle.answers.specs.declared.verdicts.Finding.{Finding}
use Rattle.answers.specs.declared.verdicts.Which.{Which}

-- The answers of the calls, by the names that the code has for them

abbrev pub Answer : Type 0
Answer = RouteAnswer Figures

abbrev pub CrossingAnswer : Type 0
CrossingAnswer = RouteAnswer CrossingFigures

abbrev pub Verdict : Type 0
Verdict = Result Finding Refusal

abbrev pub Comparison : Type 0
Comparison = Result Which Refusal

abbrev pub Explained : Type 0
Explained = Result Reason Refusal

-- the refusal of a plan's fault
abbrev pub plan_refusal : PlanFault → Refusal
plan_refusal PlanFault.Grid = Grid
plan_refusal PlanFault.Length = Length
plan_refusal PlanFault.Mark = Mark

abbrev pub refusal_number : Refusal → ℕ
refusal_number Grid = 1
refusal_number Length = 2
refusal_number Mark = 3
refusal_number (Element f) = 4
refusal_number Ends = 5
refusal_number Scratch = 6
refusal_number NoRoute = 7
refusal_number RouteList = 17
refusal_number NoneLegal = 18
refusal_number RouteExists = 19

abbrev pub route_number : {F : Type 0} → RouteAnswer F → ℕ
route_number (Found f) = 0
route_number (NoRoom f) = 8
route_number (Refused r) = refusal_number r

abbrev pub answer_number : Answer → ℕ
answer_number a = route_number a

abbrev pub no_figures : Figures
no_figures = record { registers = 0; steps = 0; latency = 0; slack = pos 0 }

-- 7 is among the refusals, and has no figures
abbrev pub answer_figures : Answer → Figures
answer_figures (Found f) = f
answer_figures (NoRoom f) = f
answer_figures (Refused r) = no_figures

-- the visit words that an answer fills: two a visit
abbrev pub filled_words : Answer → ℕ
filled_words (Found f) = 2 * (f.steps + 1)
filled_words (NoRoom f) = 0
filled_words (Refused r) = 0

-- the same between two clocks
abbrev pub crossing_number : CrossingAnswer → ℕ
crossing_number a = route_number a

abbrev pub no_crossing : CrossingFigures
no_crossing = record { source = 0; sink = 0; steps = 0; latency = 0; slack = pos 0 }

abbrev pub crossing_figures : CrossingAnswer → CrossingFigures
crossing_figures (Found f) = f
crossing_figures (NoRoom f) = f
crossing_figures (Refused r) = no_crossing

abbrev pub crossed_words : CrossingAnswer → ℕ
crossed_words (Found f) = 2 * (f.steps + 1)
crossed_words (NoRoom f) = 0
crossed_words (Refused r) = 0

-- what the figures and the words of an answer are, of any kind of figures
pub record FiguresLaws {F : Type 0} (nothing : F) (steps_of : F → ℕ) (figures_of : RouteAnswer F → F) (words_of : RouteAnswer F → ℕ) : Type 0 where
  pub found : (f : F) → figures_of (Found f) ≡ f
  pub no_room : (f : F) → figures_of (NoRoom f) ≡ f
  pub refused : (r : Refusal) → figures_of (Refused r) ≡ nothing
  pub found_words : (f : F) → words_of (Found f) ≡ 2 * (steps_of f + 1)
  pub no_room_words : (f : F) → words_of (NoRoom f) ≡ 0
  pub refused_words : (r : Refusal) → words_of (Refused r) ≡ 0

pub figures-laws : FiguresLaws no_figures (λ f. f.steps) answer_figures filled_words
figures-laws = record { found = λ f. refl; no_room = λ f. refl; refused = λ r. refl; found_words = λ f. refl; no_room_words = λ f. refl; refused_words = λ r. refl }

pub crossing-laws : FiguresLaws no_crossing (λ f. f.steps) crossing_figures crossed_words
crossing-laws = record { found = λ f. refl; no_room = λ f. refl; refused = λ r. refl; found_words = λ f. refl; no_room_words = λ f. refl; refused_words = λ r. refl }

-- the number of what a call answers that may be refused
abbrev pub result_number : {T : Type 0} → Result T Refusal → ℕ
result_number (Ok x) = 0
result_number (Err r) = refusal_number r

-- an illegal list is answered, not refused
abbrev pub verdict_number : Verdict → ℕ
verdict_number v = result_number v

abbrev pub comparison_number : Comparison → ℕ
comparison_number c = result_number c

abbrev pub explained_number : Explained → ℕ
explained_number e = result_number e
