-- Every question: what the call hands back and fills is the reply that the rules of documents 01 and 02 give, and they give one, the model's; it is the same for questions that are alike. They stand in the files of Replies/; here they are joined, a case each.
use Prim.Native.Nat.{ℕ}
use mathlib.Core.List.{List}
use mathlib.Core.Path.{◌≡◌, ap}
use Rattle.session_model.specs.Asks.Asking.{asked}
use Rattle.session_model.specs.Asks.Crossing.{asked_crossing}
use Rattle.session_model.specs.Asks.{Ask, Reply, route, routed, crossing, crossed, explain, explained, judge, judged, compare, compared, better, bettered, Alike, routes, crossings, explains, judges, compares, betters, gives, answer_to, ByRules, by_route, by_crossing, by_explain, by_judge, by_compare, by_better}
use Rattle.session_model.proofs.Replies.Route.{route-only, route-answered, alike-routes}
use Rattle.session_model.proofs.Replies.Crossing.{crossing-only, crossing-answered, alike-crossings}
use Rattle.session_model.proofs.Replies.Explain.{explain-only, explain-answered, alike-explains}
use Rattle.session_model.proofs.Replies.Judge.{judge-only, judge-answered, alike-judges}
use Rattle.session_model.proofs.Replies.Better.{compare-only, compare-answered, alike-compares, better-only, better-answered, alike-betters}
pub mod Asking
pub mod Route
pub mod Crossing
pub mod Explain
pub mod Judge
pub mod Better

pub by-rules : (a : Ask) (marks : List ℕ) → ByRules marks a (gives a marks)
unfolding gives
by-rules (route a) marks = by_route (route-answered (asked a.asking marks) a.scratch a.visits)
by-rules (crossing a) marks = by_crossing (crossing-answered (asked_crossing a marks) a.scratch a.visits)
by-rules (explain a) marks = by_explain (explain-answered (asked a.asking marks) a.scratch)
by-rules (judge a) marks = by_judge (judge-answered (asked a.asking marks) a.words)
by-rules (compare a) marks = by_compare (compare-answered (asked a.asking marks) a.first a.second)
by-rules (better a) marks = by_better (better-answered (asked a.asking marks) a.first a.second)

pub one-reply : {a : Ask} {r : Reply} {marks : List ℕ} → ByRules marks a r → r ≡ answer_to a marks
unfolding answer_to
one-reply (by_route h) = ap routed (route-only _ _ _ h)
one-reply (by_crossing h) = ap crossed (crossing-only _ _ _ h)
one-reply (by_explain h) = ap explained (explain-only _ _ h)
one-reply (by_judge h) = ap judged (judge-only _ _ h)
one-reply (by_compare h) = ap compared (compare-only _ _ _ h)
one-reply (by_better h) = ap bettered (better-only _ _ _ h)

pub gives-is : (a : Ask) (marks : List ℕ) → gives a marks ≡ answer_to a marks
gives-is a marks = one-reply (by-rules a marks)

pub alike-answers : {a b : Ask} → Alike a b → (marks : List ℕ) → answer_to a marks ≡ answer_to b marks
unfolding answer_to
alike-answers (routes e) marks = ap routed (alike-routes e marks)
alike-answers (crossings e) marks = ap crossed (alike-crossings e marks)
alike-answers (explains e) marks = ap explained (alike-explains e marks)
alike-answers (judges e) marks = ap judged (alike-judges e marks)
alike-answers (compares e) marks = ap compared (alike-compares e marks)
alike-answers (betters e) marks = ap bettered (alike-betters e marks)
