-- A session's questions and their replies. A question is a call that reads the session's plan and is lent no part of the session to write on: `route`, `route_crossing`, `explain`, `judge`, `compare` and `better`. They stand in the files of Asks/; here they are joined, a case each.
use Rattle.std.specs.Prelude.{ℕ, List, length}
use Rattle.std.specs.Prelude.{Ok, Err}
use Rattle.answers.specs.declared.verdicts.Finding.{Finding}
use Rattle.answers.specs.Numbers.{Verdict}
use Rattle.answers.specs.Numbers.{Comparison}
use Rattle.verdict.specs.Verdict.{verdict_of}
use Rattle.comparison.specs.Better.{comparison_of}
use Rattle.session_model.specs.Asks.Asking.{asked}
use Rattle.session_model.specs.Asks.Route.{RouteAsk, RouteReply, AlikeRoutes, route_gives, route_reply, RouteAnswered}
use Rattle.session_model.specs.Asks.Crossing.{CrossingAsk, asked_crossing, CrossingReply, AlikeCrossings, crossing_gives, crossing_reply, CrossingAnswered}
use Rattle.session_model.specs.Asks.Explain.{ExplainAsk, ExplainReply, AlikeExplains, explain_gives, explain_reply, ExplainAnswered}
use Rattle.session_model.specs.Asks.Judge.{JudgeAsk, AlikeJudges, JudgeAnswered}
use Rattle.session_model.specs.Asks.Better.{PairAsk, AlikePairs, CompareAnswered, BetterReply, better_of, BetterAnswered}
pub mod Asking
pub mod Route
pub mod Crossing
pub mod Explain
pub mod Judge
pub mod Better

pub data Ask : Type 0 where
  route : RouteAsk → Ask
  crossing : CrossingAsk → Ask
  explain : ExplainAsk → Ask
  judge : JudgeAsk → Ask
  compare : PairAsk → Ask
  better : PairAsk → Ask

pub data Reply : Type 0 where
  routed : RouteReply → Reply
  crossed : CrossingReply → Reply
  explained : ExplainReply → Reply
  judged : Verdict → Reply
  compared : Comparison → Reply
  bettered : BetterReply → Reply

-- the same question put to two sessions
pub data Alike : Ask → Ask → Type 0 where
  routes : {a b : RouteAsk} → AlikeRoutes a b → Alike (route a) (route b)
  crossings : {a b : CrossingAsk} → AlikeCrossings a b → Alike (crossing a) (crossing b)
  explains : {a b : ExplainAsk} → AlikeExplains a b → Alike (explain a) (explain b)
  judges : {a b : JudgeAsk} → AlikeJudges a b → Alike (judge a) (judge b)
  compares : {a b : PairAsk} → AlikePairs a b → Alike (compare a) (compare b)
  betters : {a b : PairAsk} → AlikePairs a b → Alike (better a) (better b)

-- what the call hands back and fills, on a plan's bytes
unfoldable pub gives : Ask → List ℕ → Reply
gives (route a) marks = routed (route_gives (asked a.asking marks) a.scratch a.visits)
gives (crossing a) marks = crossed (crossing_gives (asked_crossing a marks) a.scratch a.visits)
gives (explain a) marks = explained (explain_gives (asked a.asking marks) a.scratch)
gives (judge a) marks = judged (verdict_of (asked a.asking marks) a.words)
gives (compare a) marks = compared (comparison_of (asked a.asking marks) a.first a.second)
gives (better a) marks = bettered (better_of (asked a.asking marks) a.first a.second)

-- what the model replies
unfoldable pub answer_to : Ask → List ℕ → Reply
answer_to (route a) marks = routed (route_reply (asked a.asking marks) (length a.scratch) (length a.visits))
answer_to (crossing a) marks = crossed (crossing_reply (asked_crossing a marks) (length a.scratch) (length a.visits))
answer_to (explain a) marks = explained (explain_reply (asked a.asking marks) (length a.scratch))
answer_to (judge a) marks = judged (verdict_of (asked a.asking marks) a.words)
answer_to (compare a) marks = compared (comparison_of (asked a.asking marks) a.first a.second)
answer_to (better a) marks = bettered (better_of (asked a.asking marks) a.first a.second)

-- the reply that the rules of documents 01 and 02 give on a plan's bytes
pub data ByRules (marks : List ℕ) : Ask → Reply → Type 0 where
  by_route : {a : RouteAsk} {r : RouteReply} → RouteAnswered (asked a.asking marks) (length a.scratch) (length a.visits) r → ByRules marks (route a) (routed r)
  by_crossing : {a : CrossingAsk} {r : CrossingReply} → CrossingAnswered (asked_crossing a marks) (length a.scratch) (length a.visits) r → ByRules marks (crossing a) (crossed r)
  by_explain : {a : ExplainAsk} {r : ExplainReply} → ExplainAnswered (asked a.asking marks) (length a.scratch) r → ByRules marks (explain a) (explained r)
  by_judge : {a : JudgeAsk} {r : Verdict} → JudgeAnswered (asked a.asking marks) a.words r → ByRules marks (judge a) (judged r)
  by_compare : {a : PairAsk} {r : Comparison} → CompareAnswered (asked a.asking marks) a.first a.second r → ByRules marks (compare a) (compared r)
  by_better : {a : PairAsk} {r : BetterReply} → BetterAnswered (asked a.asking marks) a.first a.second r → ByRules marks (better a) (bettered r)
