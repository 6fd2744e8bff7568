-- The whole effect of the calls on two route lists: document 02, C-11. "by the ranking of demand 2; where only one is legal, that one; where they are equal, the first"
use Rattle.std.specs.Prelude.{Ok, Err}
use Rattle.std.specs.Prelude.{ℕ, ◌&&◌, ◌||◌, cond, List, [], ◌≡◌}
use Rattle.std.specs.Borrow.{Bor}
use Rattle.answers.specs.declared.refusal.Refusal.{Refusal}
use Rattle.answers.specs.Numbers.{Comparison}
use Rattle.answers.specs.declared.verdicts.Which.TheVariants.{First, Second}
use Rattle.rules.specs.Rules.{Rules}
use Rattle.rules.specs.Legal.{Route, legal}
use Rattle.rules.specs.Ranking.{registers, ranks_before}
use Rattle.question.specs.Question.{Question, rules_asked, Check, passes, fails, or_else, question_checks}
use Rattle.verdict.specs.Verdict.{route_in, bad_list}

-- the better of the two, or 18, "where neither of two lists is legal"
unfoldable pub comparison_for : Rules → Route → Route → Comparison
comparison_for R a b =
    cond (legal R a)
    (cond (legal R b && ranks_before registers b a) (Ok Second) (Ok First))
    (cond (legal R b) (Ok Second) (Err Refusal.NoneLegal))

-- Refusals 1 to 5, then 17 for either list; then the comparison, under any rules R; the call's own are those of the question.

unfoldable pub comparison_after : Check → Rules → List ℕ → List ℕ → Comparison
comparison_after passes R a b = comparison_for R (route_in a) (route_in b)
comparison_after (fails r) R a b = Err r

abbrev pub comparison_under : Rules → Question → List ℕ → List ℕ → Comparison
comparison_under R q a b = comparison_after (question_checks q (or_else (bad_list a || bad_list b) Refusal.RouteList passes)) R a b

unfoldable pub comparison_of : Question → List ℕ → List ℕ → Comparison
comparison_of q a b = comparison_under (rules_asked q) q a b

-- What is handed back of two lists: "the caller's own words", or an empty part
abbrev pub Handed : Comparison → Bor (List ℕ) → Bor (List ℕ) → Bor (List ℕ) → Type 0
Handed (Ok First) a b r = r ≡ a
Handed (Ok Second) a b r = r ≡ b
Handed (Err k) a b r = r.now ≡ []
