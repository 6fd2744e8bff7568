-- The words that tell why there is no route.
use Rattle.std.specs.Prelude.{ℕ, List, [], ◌∷◌}
use Rattle.answers.specs.declared.explained.Reason.{Reason}
use Rattle.answers.specs.declared.explained.Reason.TheVariants.{WalledOff, Load, Period, TooShort}
use Rattle.answers.specs.Numbers.{Explained}
use Rattle.std.specs.Prelude.{Ok, Err}
use Rattle.bench_words.specs.Words.{refusal_fault}
use Rattle.bench_words.specs.declared.why.Why.{Why}

-- the place of a reason, from 1
abbrev pub reason_place : Reason → ℕ
reason_place WalledOff = 1
reason_place Load = 2
reason_place (Period t) = 3
reason_place TooShort = 4

-- the smallest period; 0 for any other reason
abbrev pub period_told : Reason → ℕ
period_told WalledOff = 0
period_told Load = 0
period_told (Period t) = t
period_told TooShort = 0

-- what is told
abbrev pub why_of : Explained → Why
why_of (Ok reason) = record { reason = reason_place reason; period = period_told reason; element = 0 }
why_of (Err r) = record { reason = 0; period = 0; element = refusal_fault 1 r }

unfoldable pub why_words : Why → List ℕ
why_words w = w.reason ∷ w.period ∷ w.element ∷ 0 ∷ 0 ∷ []
