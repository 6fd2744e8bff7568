-- The keep_out theorem (specs/KeepOut.antt): the rules of now are those of before with one kind of site barred, so the best route stays the best just if it stands on none of these; and a route is read off the words it fills.
use Prim.Native.Nat.{ℕ, zero, suc, ◌+◌, ◌*◌, ◌≤◌, ◌<◌}
use mathlib.Core.Bool.{Bool, true, false, not, ◌&&◌, cond, and-false}
use mathlib.Core.List.{List, [], ◌∷◌, ◌++◌}
use mathlib.Core.Path.{◌≡◌, refl, sym, ap, ap₂, subst, ◌∙◌}
use mathlib.Core.Logic.{◌↔◌, ◌⊎◌, inl, inr}
use native.Mathlib.Omega.{arith}
use borrow.Author.Tests.{le-leb, lt-ltb}
use lib.Dec.{T, leb, T_not}
use lib.ListN.{length, get_or, drop, length-drop, get_or-eq_default}
use Rattle.plan.specs.Plan.{Plan, cells, marks_at, tap}
use Rattle.plan.proofs.Truth.{fst, snd, decided, is_true, of-true, split}
use Rattle.rules.specs.Rules.{Rules, is_closing, rules_of}
use Rattle.rules.specs.Legal.{Route, may_stand, is_last, cell_right, code_right, legal}
use Rattle.rules.specs.Beginning.{Place}
use Rattle.rules.specs.Ranking.{registers, steps, written, IsBest}
use Rattle.rules.specs.Slack.{least_slack}
use Rattle.rules.specs.KeepOut.{on_both, puts, barred}
use Rattle.rules.proofs.Order.{written-injective}
use Rattle.rules.proofs.KeepOut.{stands-barred, best-stays, best_keeps, none_stays, slack-barred, none_free, rules-barred, between-barred}
use Rattle.best.specs.Best.{Outcome, found, none, best}
use Rattle.best.proofs.KeepOut.{before-best, before-none, between-before-best, between-before-none}
use Rattle.emission.proofs.Visits.{written-length}
use Rattle.answers.specs.Tables.{elements_of}
use Rattle.answers.specs.Crossing.{clocks_of}
use Rattle.answers.specs.declared.answer.Figures.{Figures}
use Rattle.answers.specs.Numbers.{Answer}
use Rattle.answers.specs.declared.answer.CrossingFigures.{CrossingFigures}
use Rattle.answers.specs.Numbers.{CrossingAnswer}
use Rattle.answers.specs.declared.verdicts.VisitFault.{VisitFault}
use Rattle.question.specs.Question.{Question, Check, passes, fails, rules_asked}
use Rattle.question.specs.Crossing.{CrossingQuestion}
use Rattle.question.specs.Checked.{problem_asked}
use Rattle.question.proofs.Checks.{passed-ready}
use Rattle.problem.specs.Problem.{plan_for}
use Rattle.problem.proofs.Sizes.{cells_are}
use Rattle.router.specs.Route.{checks, figures_of, answer_for, answer_after, answer_under, answer_of, visits_for, visits_after, visits_under, visits_of}
use Rattle.router.proofs.Passed.{passed-valid, asked-best, asked-none}
use Rattle.crossing_router.specs.Route as crossing
use Rattle.crossing_router.specs.Route.{rules_crossed, latency_crossed, crossing_answer_of, crossing_visits_of}
use Rattle.crossing_router.proofs.Passed as crossing-passed
use Rattle.verdict.specs.Verdict.{route_in}
use Rattle.verdict.specs.Fault.{test_order, later_test, next_test, fault_test}
use Rattle.verdict.proofs.Exact.{verdict-exact}
use Rattle.verdict.proofs.Accepted.{legal-visits}
use Rattle.rule_changes.specs.Asked.{plan_asked}
use Rattle.rule_changes.specs.KeepOut.{route_puts, puts_after, Ample, KeepOut, tap_last_asked, RouteKeepOut, tap_last_crossed, CrossingKeepOut, KeptOutVisit, KeptOutFault}
use Rattle.answers.specs.declared.answer.RouteAnswer.{RouteAnswer}

-- The words of two routes with as many steps tell them apart.

fronts : (a b c d : List ℕ) → length a ≡ length b → a ++ c ≡ b ++ d → a ≡ b
fronts [] [] c d n e = refl
fronts [] (y ∷ b) c d n e = absurd (omega arith)
fronts (x ∷ a) [] c d n e = absurd (omega arith)
fronts (x ∷ a) (y ∷ b) c d n e =
    let head : x ≡ y = cc in
    let tail : a ≡ b = fronts a b c d (omega arith) (cc) in
    ap₂ (λ (z : ℕ) (zs : List ℕ). z ∷ zs) head tail

same_route : (q r : Route) (visits : List ℕ) → 2 ≤ length q → 2 ≤ length r → steps q ≡ steps r → 2 * (steps r + 1) ≤ length visits → visits_for (found q) visits ≡ visits_for (found r) visits → q ≡ r
unfolding visits_for steps
same_route q r visits k m alike room e =
    written-injective q r (fronts (written q) (written r) _ _ (omega (arith, written-length q, written-length r)) words)
  where
    words : written q ++ drop (length (written q)) visits ≡ written r ++ drop (length (written r)) visits
    words = rw (le-leb (2 * (steps q + 1)) (length visits) (omega arith), le-leb (2 * (steps r + 1)) (length visits) room) at e

-- both directions out of two
exactly : {A : Type 0} {stood : Bool} {ample : Type 0} {new old : A × List ℕ} → (T (not stood) → new ≡ old) → (ample → T stood → new ≡ old → ⊥) → KeepOut A stood ample new old
exactly {A} {stood} {ample} {new} {old} stays changes = record { stays = stays; changes = λ a. (λ c. go c (decided stood), changes a) }
  where
    go : (new ≡ old → ⊥) → T stood ⊎ T (not stood) → T stood
    go c (inl t) = t
    go c (inr f) = absurd (c (stays f))

-- Any rules, and the same with the sites barred that have both marks

same-slack : (p : Plan) (R N : Rules) → N ≡ barred R (on_both p) → (r : Route) → least_slack N r ≡ least_slack R r
same-slack p R N is r = ap (λ (Q : Rules). least_slack Q r) is ∙ slack-barred R (on_both p) (none_free p) r

module _ (p : Plan) (R N : Rules) (is : N ≡ barred R (on_both p)) (cost : Route → ℕ) (best-before : (r : Route) → (best R ≡ found r) ↔ IsBest cost R r) (none_before : (best R ≡ none) ↔ ((r : Route) → T (legal R r) → ⊥)) (best-now : (r : Route) → (best N ≡ found r) ↔ IsBest cost N r) (none-now : (best N ≡ none) ↔ ((r : Route) → T (legal N r) → ⊥)) where
  same-best : T (not (route_puts p (best R))) → best N ≡ best R
  unfolding route_puts
  same-best = go (best R) refl
    where
      go : (o : Outcome) → best R ≡ o → T (not (route_puts p o)) → best N ≡ o
      go none e h = none-now.1 (λ r l. none_stays R (on_both p) (none_free p) (none_before.0 e) r (subst (λ (Q : Rules). T (legal Q r)) is l))
      go (found r) e h = (best-now r).1 (subst (λ (Q : Rules). IsBest cost Q r) (sym is) (best-stays R (on_both p) (none_free p) cost r ((best-before r).0 e) h))

  other-best : (r : Route) → T (puts (on_both p) r) → best N ≡ found r → ⊥
  other-best r h e =
      T_not (puts (on_both p) r) (best_keeps R (on_both p) (none_free p) cost r (subst (λ (Q : Rules). IsBest cost Q r) is ((best-now r).0 e))) h

  -- a call that tells the outcome so, by the rules and the words lent
  module _ (visits : List ℕ) {A : Type 0} (tell : Rules → Outcome → A) (told-alike : (o : Outcome) → tell N o ≡ tell R o) (told_none : (r : Route) → 2 * (steps r + 1) ≤ length visits → tell N none ≡ tell R (found r) → ⊥) (told-steps : (q r : Route) → 2 * (steps r + 1) ≤ length visits → tell N (found q) ≡ tell R (found r) → steps q ≡ steps r) where
    abbrev gives : Rules → A × List ℕ
    gives Q = (tell Q (best Q), visits_for (best Q) visits)

    outcome-stays : T (not (route_puts p (best R))) → gives N ≡ gives R
    outcome-stays h = rw (same-best h) (ap (λ (a : A). (a, visits_for (best R) visits)) (told-alike (best R)))

    outcome-changes : Ample R visits → T (route_puts p (best R)) → gives N ≡ gives R → ⊥
    unfolding route_puts
    outcome-changes ample h e = go (best R) refl (best N) refl h
      where
        go : (o : Outcome) → best R ≡ o → (n : Outcome) → best N ≡ n → T (route_puts p o) → ⊥
        go none b n d h = h
        go (found r) b none d h = told_none r (ample r b) (rw (b, d) at (ap (λ (x : A × List ℕ). x.0) e))
        go (found r) b (found q) d h =
            let alike = told-steps q r (ample r b) (rw (b, d) at (ap (λ (x : A × List ℕ). x.0) e)) in
            let same = same_route q r visits (legal-visits N q ((best-now q).0 d).is_legal) (legal-visits R r ((best-before r).0 b).is_legal) alike (ample r b) (rw (b, d) at (ap (λ (x : A × List ℕ). x.1) e)) in
            other-best r h (d ∙ ap found same)

    pub kept_out : KeepOut A (route_puts p (best R)) (Ample R visits) (gives N) (gives R)
    kept_out = exactly outcome-stays outcome-changes

-- One clock

asked-barred : (q : Question) → rules_asked q ≡ barred (tap_last_asked q) (on_both (plan_asked q))
unfolding rules_asked tap_last_asked
asked-barred q = rules-barred (plan_asked q) (elements_of q.tables q.buffers) q.source q.sink

module _ (q : Question) (visits : List ℕ) where
  abbrev tells : Rules → Outcome → Answer
  tells R = answer_for R q.tables.period (length visits)

  told-alike : (o : Outcome) → tells (rules_asked q) o ≡ tells (tap_last_asked q) o
  unfolding answer_for figures_of
  told-alike none = refl
  told-alike (found r) = rw (same-slack (plan_asked q) (tap_last_asked q) (rules_asked q) (asked-barred q) r)

  told_none : (r : Route) → 2 * (steps r + 1) ≤ length visits → tells (rules_asked q) none ≡ tells (tap_last_asked q) (found r) → ⊥
  unfolding answer_for
  told_none r room e =
      let other = rw (le-leb (2 * (steps r + 1)) (length visits) room) at e in
      let z : ◌≡◌ {A = ℕ} 0 1 = cc in
      omega arith

  told-steps : (n r : Route) → 2 * (steps r + 1) ≤ length visits → tells (rules_asked q) (found n) ≡ tells (tap_last_asked q) (found r) → steps n ≡ steps r
  unfolding answer_for figures_of
  told-steps n r room e =
      ap (λ (f : Figures). f.steps) (told (leb (2 * (steps n + 1)) (length visits)) (rw (le-leb (2 * (steps r + 1)) (length visits) room) at e))
    where
      told : (b : Bool) {f g : Figures} → cond b (RouteAnswer.Found f) (RouteAnswer.NoRoom f) ≡ RouteAnswer.Found g → f ≡ g
      told true e = cc
      told false e = let z : ◌≡◌ {A = ℕ} 0 1 = cc in absurd (omega arith)

pub keep_out : (q : Question) (scratch visits : List ℕ) → RouteKeepOut q scratch visits
unfolding answer_of answer_under answer_after visits_of visits_under visits_after puts_after tap_last_asked
keep_out q scratch visits = go (checks q (length scratch)) refl
  where
    go : (k : Check) → checks q (length scratch) ≡ k → KeepOut Answer (puts_after k (plan_asked q) (tap_last_asked q)) (Ample (tap_last_asked q) visits) (answer_after k (rules_asked q) q visits, visits_after k (rules_asked q) visits) (answer_after k (tap_last_asked q) q visits, visits_after k (tap_last_asked q) visits)
    go passes pass =
        let valid = passed-valid q (length scratch) pass in
        let e = elements_of q.tables q.buffers in
        kept_out (plan_asked q) (tap_last_asked q) (rules_asked q) (asked-barred q) registers
        (before-best (plan_asked q) e q.source q.sink valid) (before-none (plan_asked q) e q.source q.sink valid) (asked-best q (length scratch) pass) (asked-none q (length scratch) pass)
        visits (tells q visits) (told-alike q visits) (told_none q visits) (told-steps q visits)
    go (fails r) pass = exactly (λ h. refl) (λ a t d. t)

-- Two clocks

crossed-barred : (c : CrossingQuestion) → rules_crossed c ≡ barred (tap_last_crossed c) (on_both (plan_asked c.question))
unfolding rules_crossed tap_last_crossed
crossed-barred c =
    between-barred (plan_asked c.question) (elements_of c.question.tables c.question.buffers) (clocks_of c.crossing) c.question.source c.question.sink

module _ (c : CrossingQuestion) (visits : List ℕ) where
  abbrev crossing-tells : Rules → Outcome → CrossingAnswer
  crossing-tells R = crossing.answer_for R c.crossing.period c.question.tables.period (length visits)

  crossing-alike : (o : Outcome) → crossing-tells (rules_crossed c) o ≡ crossing-tells (tap_last_crossed c) o
  unfolding crossing.answer_for crossing.figures_of
  crossing-alike none = refl
  crossing-alike (found r) = rw (same-slack (plan_asked c.question) (tap_last_crossed c) (rules_crossed c) (crossed-barred c) r)

  crossing-none : (r : Route) → 2 * (steps r + 1) ≤ length visits → crossing-tells (rules_crossed c) none ≡ crossing-tells (tap_last_crossed c) (found r) → ⊥
  unfolding crossing.answer_for
  crossing-none r room e =
      let other = rw (le-leb (2 * (steps r + 1)) (length visits) room) at e in
      let z : ◌≡◌ {A = ℕ} 0 1 = cc in
      omega arith

  crossing-steps : (n r : Route) → 2 * (steps r + 1) ≤ length visits → crossing-tells (rules_crossed c) (found n) ≡ crossing-tells (tap_last_crossed c) (found r) → steps n ≡ steps r
  unfolding crossing.answer_for crossing.figures_of
  crossing-steps n r room e =
      ap (λ (f : CrossingFigures). f.steps) (told (leb (2 * (steps n + 1)) (length visits)) (rw (le-leb (2 * (steps r + 1)) (length visits) room) at e))
    where
      told : (b : Bool) {f g : CrossingFigures} → cond b (RouteAnswer.Found f) (RouteAnswer.NoRoom f) ≡ RouteAnswer.Found g → f ≡ g
      told true e = cc
      told false e = let z : ◌≡◌ {A = ℕ} 0 1 = cc in absurd (omega arith)

pub keep-out-crossing : (c : CrossingQuestion) (scratch visits : List ℕ) → CrossingKeepOut c scratch visits
unfolding crossing_answer_of crossing.answer_after crossing_visits_of crossing.visits_after puts_after tap_last_crossed problem_asked elements_of clocks_of
keep-out-crossing c scratch visits = go (crossing.checks c (length scratch)) refl
  where
    go : (k : Check) → crossing.checks c (length scratch) ≡ k → KeepOut CrossingAnswer (puts_after k (plan_asked c.question) (tap_last_crossed c)) (Ample (tap_last_crossed c) visits) (crossing.answer_after k (rules_crossed c) c visits, crossing.visits_after k (rules_crossed c) visits) (crossing.answer_after k (tap_last_crossed c) c visits, crossing.visits_after k (tap_last_crossed c) visits)
    go passes pass =
        let ready = crossing-passed.passed-ready c (length scratch) pass in
        let e = elements_of c.question.tables c.question.buffers in
        let x = clocks_of c.crossing in
        kept_out (plan_asked c.question) (tap_last_crossed c) (rules_crossed c) (crossed-barred c) (latency_crossed c)
        (between-before-best (plan_asked c.question) e x c.question.source c.question.sink ready.ready.valid ready.clocks refl) (between-before-none (plan_asked c.question) e x c.question.source c.question.sink ready.ready.valid ready.clocks refl) (crossing-passed.asked-best c (length scratch) pass) (crossing-passed.asked-none c (length scratch) pass)
        visits (crossing-tells c visits) (crossing-alike c visits) (crossing-none c visits) (crossing-steps c visits)
    go (fails r) pass = exactly (λ h. refl) (λ a t d. t)

-- The verdict

module _ (q : Question) (cell code : ℕ) where
  stands-not : T (on_both (plan_asked q) cell code) → may_stand (rules_asked q) cell code ≡ false
  stands-not h =
      ap (λ (R : Rules). may_stand R cell code) (asked-barred q)
      ∙ (stands-barred (tap_last_asked q) (on_both (plan_asked q)) (none_free (plan_asked q)) cell code
      ∙ rw (is_true (on_both (plan_asked q) cell code) h) (and-false (may_stand (tap_last_asked q) cell code)))

module _ (q : Question) (words : List ℕ) (i : ℕ) (k : KeptOutVisit q words i) where
  -- a cell with marks is in the plan
  in-plan : k.visit.cell < (rules_asked q).cell_count
  unfolding rules_asked rules_of on_both marks_at tap problem_asked plan_for
  in-plan = go (split (length q.marks) k.visit.cell)
    where
      marks : ℕ
      marks = get_or q.marks k.visit.cell 0

      go : (length q.marks ≤ k.visit.cell) ⊎ (k.visit.cell < length q.marks) → k.visit.cell < cells (plan_asked q)
      go (inl h) =
          let tapped = snd (is_closing k.visit.code) _ (fst (is_closing k.visit.code && tap marks) _ k.both) in
          absurd (rw (get_or-eq_default q.marks 0 h) at tapped)
      go (inr h) = omega (arith, cells_are (problem_asked q) q.marks (passed-ready q passes k.question))

  -- the tests of the visit, as it stands in the list
  at-visit : (f : VisitFault) (b : Bool) → ((a : Place) → later_test (rules_asked q) a false k.visit f ≡ b) → fault_test (rules_asked q) (route_in words) i f ≡ b
  unfolding fault_test next_test is_last
  at-visit f b is = go i (route_in words) k.later k.here
    where
      go : (j : ℕ) (r : Route) → 0 < j → drop j r ≡ k.visit ∷ (k.next ∷ k.rest) → fault_test (rules_asked q) r j f ≡ b
      go zero r h e = absurd (omega arith)
      go (suc j) [] h e = let z : ◌≡◌ {A = ℕ} 0 1 = cc in absurd (omega arith)
      go (suc j) (v ∷ vs) h e = rw e (is _)

  cell-right : fault_test (rules_asked q) (route_in words) i VisitFault.Cell ≡ true
  unfolding later_test cell_right
  cell-right = at-visit VisitFault.Cell true (λ a. rw (lt-ltb k.visit.cell (rules_asked q).cell_count in-plan))

  site-wrong : fault_test (rules_asked q) (route_in words) i VisitFault.Site ≡ false
  unfolding later_test code_right
  site-wrong = at-visit VisitFault.Site false (λ a. stands-not q k.visit.cell k.visit.code k.both)

  earlier-tests : (f : VisitFault) → test_order f < 2 → T (fault_test (rules_asked q) (route_in words) i f)
  unfolding test_order
  earlier-tests VisitFault.Cell h = of-true _ cell-right
  earlier-tests VisitFault.Wire h = k.wire
  earlier-tests VisitFault.Site h = absurd (omega arith)
  earlier-tests VisitFault.Load h = absurd (omega arith)
  earlier-tests (VisitFault.Period z) h = absurd (omega arith)

pub kept-out-fault : (q : Question) (words : List ℕ) (i : ℕ) → KeptOutFault q words i
unfolding test_order
kept-out-fault q words i k =
    ((verdict-exact q words).at_fault i VisitFault.Site).1
    (record { question = k.question; list = k.list }, record { in_list = omega (arith, length-drop i (route_in words), ap length k.here); before = k.before; earlier = earlier-tests q words i k; fails = site-wrong q words i k; figure = tt })
