-- The words that tell a verdict.
use Rattle.std.specs.Prelude.{ℕ, List, [], ◌∷◌}
use Rattle.answers.specs.declared.verdicts.VisitFault.{VisitFault}
use Rattle.answers.specs.declared.verdicts.VisitFault.TheVariants.{Cell, Wire, Site, Load, Period}
use Rattle.answers.specs.Numbers.{Verdict}
use Rattle.std.specs.Prelude.{Ok, Err}
use Rattle.answers.specs.declared.verdicts.Finding.{Finding}
use Rattle.answers.specs.declared.verdicts.Finding.TheVariants.{Accepted, AtFault}
use Rattle.timing.specs.Slack.{magnitude}
use Rattle.bench_words.specs.Words.{refusal_fault}
use Rattle.bench_words.specs.declared.found.Found.{Found}

-- the place of a fault in the order of the tests, from 1
abbrev pub visit_fault_place : VisitFault → ℕ
visit_fault_place Cell = 1
visit_fault_place Wire = 2
visit_fault_place Site = 3
visit_fault_place Load = 4
visit_fault_place (Period z) = 5

-- by how much a period fault misses; 0 for any other
abbrev pub miss_of : VisitFault → ℕ
miss_of Cell = 0
miss_of Wire = 0
miss_of Site = 0
miss_of Load = 0
miss_of (Period z) = magnitude z

-- what is told of a verdict
abbrev pub found_of : Verdict → Found
found_of (Ok (Accepted z)) = record { accepted = 1; visit = 0; fault = 0; element = 0; slack = magnitude z }
found_of (Ok (AtFault i f)) = record { accepted = 0; visit = i; fault = visit_fault_place f; element = 0; slack = miss_of f }
found_of (Err r) = record { accepted = 0; visit = 0; fault = 0; element = refusal_fault 1 r; slack = 0 }

unfoldable pub found_words : Found → List ℕ
found_words f = f.accepted ∷ f.visit ∷ f.fault ∷ f.element ∷ f.slack ∷ []
