-- What the lent words hold beforehand does not matter to the text of an answer.
use Prim.Native.Nat.{ℕ, zero, suc, ◌+◌, ◌*◌, ◌≤◌}
use mathlib.Core.Path.{◌≡◌, refl, sym, ap, ◌∙◌}
use mathlib.Core.Bool.{Bool, true, false, cond}
use mathlib.Core.List.{List, [], ◌∷◌, ◌++◌}
use native.Mathlib.Omega.{arith}
use lib.Dec.{leb}
use lib.ListN.{length, get_or, drop, length-replicate, get_or-append}
use borrow.Author.Tests.{leb-true}
use Rattle.rules.specs.Rules.{Rules}
use Rattle.rules.specs.Legal.{Route}
use Rattle.rules.specs.Ranking.{steps, written}
use Rattle.best.specs.Search.{Found, figures, nothing, search_side}
use Rattle.best.specs.Best.{exits_at, route_of, Outcome, found, none, outcome, best}
use Rattle.answers.specs.Numbers.{Answer}
use Rattle.router.specs.Route.{Question, rules_asked, Check, passes, fails, checks, figures_of, answer_for, visits_for, answer_after, answer_under, answer_of, visits_after, visits_under, visits_of}
use Rattle.text.specs.Answers.{figures_line, visit_lines, answer_text, VisitsWithin}
use Rattle.printing.specs.Printed.{blank}
use Rattle.answers.specs.declared.answer.RouteAnswer.{RouteAnswer}

-- the lines of the first visits read no later words
lines-front : (front rest : List ℕ) (n : ℕ) → 2 * n ≤ length front → visit_lines (front ++ rest) n ≡ visit_lines front n
unfolding visit_lines
lines-front front rest zero h = refl
lines-front front rest (suc n) h =
    let a : get_or (front ++ rest) (2 * n) 0 ≡ get_or front (2 * n) 0 = get_or-append front rest 0 (2 * n) (omega arith) in
    let b : get_or (front ++ rest) (2 * n + 1) 0 ≡ get_or front (2 * n + 1) 0 = get_or-append front rest 0 (2 * n + 1) (omega arith) in
    rw (lines-front front rest n (omega arith), a, b)

written-length : (r : Route) → length (written r) ≡ 2 * length r
unfolding written
written-length [] = refl
written-length (v ∷ r) = omega (arith, written-length r)

steps-are : (r : Route) → 1 ≤ length r → steps r + 1 ≡ length r
unfolding steps
steps-are r h = omega arith

-- the best route has a visit
unfoldable pub Visits : Outcome → Type 0
Visits (found r) = 1 ≤ length r
Visits none = Unit

best-visits : (R : Rules) → Visits (best R)
unfolding best outcome route_of Visits
best-visits R = go (search_side R (exits_at R 0) 0)
  where
    go : (x : Found) → Visits (outcome R x)
    go (figures k s m) = omega arith
    go (nothing m) = tt

-- an outcome's text, by the number of words lent
outcome-text : (R : Rules) (period : ℕ) (o : Outcome) → Visits o → (a b : List ℕ) → length a ≡ length b → answer_text (answer_for R period (length a) o) (visits_for o a) ≡ answer_text (answer_for R period (length b) o) (visits_for o b)
unfolding answer_for visits_for answer_text figures_of Visits
outcome-text R period none v a b e = refl
outcome-text R period (found r) v a b e = rw e (go (leb (2 * (steps r + 1)) (length b)))
  where
    front : (x : List ℕ) → visit_lines (written r ++ drop (length (written r)) x) (steps r + 1) ≡ visit_lines (written r) (steps r + 1)
    front x = lines-front (written r) (drop (length (written r)) x) (steps r + 1) (omega (arith, written-length r, steps-are r v))

    go : (room : Bool) → answer_text (cond room (RouteAnswer.Found (figures_of R period r)) (RouteAnswer.NoRoom (figures_of R period r))) (cond room (written r ++ drop (length (written r)) a) a) ≡ answer_text (cond room (RouteAnswer.Found (figures_of R period r)) (RouteAnswer.NoRoom (figures_of R period r))) (cond room (written r ++ drop (length (written r)) b) b)
    go true = ap (λ (ls : List ℕ). figures_line (figures_of R period r) ++ ls) (front a ∙ sym (front b))
    go false = refl

-- a check's text, by the number of words lent
check-text : (x : Check) (R : Rules) (q : Question) (a b : List ℕ) → length a ≡ length b → answer_text (answer_after x R q a) (visits_after x R a) ≡ answer_text (answer_after x R q b) (visits_after x R b)
unfolding answer_after visits_after answer_text
check-text passes R q a b e = outcome-text R q.tables.period (best R) (best-visits R) a b e
check-text (fails r) R q a b e = refl

pub same_text : (q : Question) (s t a b : List ℕ) → length s ≡ length t → length a ≡ length b → answer_text (answer_of q s a) (visits_of q s a) ≡ answer_text (answer_of q t b) (visits_of q t b)
unfolding answer_of answer_under visits_of visits_under
same_text q s t a b e f = rw e (check-text (checks q (length t)) (rules_asked q) q a b f)

-- an answer's visits are within the words lent
outcome-within : (R : Rules) (period room : ℕ) (o : Outcome) → VisitsWithin (answer_for R period room o) room
unfolding answer_for VisitsWithin figures_of
outcome-within R period room none = tt
outcome-within R period room (found r) = go (leb (2 * (steps r + 1)) room) refl
  where
    go : (b : Bool) → leb (2 * (steps r + 1)) room ≡ b → VisitsWithin (cond b (RouteAnswer.Found (figures_of R period r)) (RouteAnswer.NoRoom (figures_of R period r))) room
    go true e = leb-true _ _ e
    go false e = tt

check-within : (x : Check) (R : Rules) (q : Question) (a : List ℕ) → VisitsWithin (answer_after x R q a) (length a)
unfolding answer_after VisitsWithin
check-within passes R q a = outcome-within R q.tables.period (length a) (best R)
check-within (fails r) R q a = tt

pub within-lent : (q : Question) (s a : List ℕ) → VisitsWithin (answer_of q s a) (length a)
unfolding answer_of answer_under
within-lent q s a = check-within (checks q (length s)) (rules_asked q) q a

pub blank-length : (n : ℕ) → length (blank n) ≡ n
unfolding blank
blank-length n = length-replicate n 0
