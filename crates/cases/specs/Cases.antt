-- Document 01, "Routes worked through": R1 to R13 as one list, R12 by document 02, C-17; R1 and R3 with skew 1 (C-16) as another; with the visits that the papers leave out, and what it means that a case is right.
use Rattle.std.specs.Prelude.{ℕ, ◌-◌, ◌≡◌, List, [], ◌∷◌, ◌++◌, T, ℤ, pos, length, replicate}
use Rattle.plan.specs.Plan.{Plan, plan_of}
use Rattle.timing.specs.declared.elements.Wire.{Wire}
use Rattle.timing.specs.declared.elements.Buffer.{Buffer}
use Rattle.timing.specs.declared.elements.Elements.{Elements}
use Rattle.timing.specs.Ranges.{buffers_max}
use Rattle.timing.specs.Elements.{wire_of, buffer_of, register_of}
use Rattle.timing.specs.Relaxed.{with_skew}
use Rattle.rules.specs.Rules.{Rules, register_code, rules_of}
use Rattle.rules.specs.Legal.{Visit, Route, arrive, closing, legal}
use Rattle.rules.specs.Ranking.{registers, steps, latency, IsBest}
use Rattle.rules.specs.Beginning.{place_after}
use Rattle.rules.specs.Slack.{least_slack}
use Rattle.rules.specs.KeepOut.{tap_last}
use Rattle.budget.specs.Emission.{visit}

-- registers, steps, latency, spare half-ticks and visits; or 7, no route
pub data Expected : Type 0 where
  route : ℕ → ℕ → ℕ → ℤ → Route → Expected
  no_route : Expected

pub record Case : Type 0 where
  pub plan : Plan
  pub elements : Elements
  pub source : ℕ
  pub sink : ℕ
  pub expected : Expected

-- A case is right: the visits are the best route, with these figures; or no route is legal.

pub record CaseAnswered (R : Rules) (period k s t : ℕ) (z : ℤ) (r : Route) : Type 0 where
  pub is_best : IsBest registers R r
  pub registers : registers r ≡ k
  pub steps : steps r ≡ s
  pub latency : latency period r ≡ t
  pub slack : least_slack R r ≡ z

abbrev pub Meets : Rules → ℕ → Expected → Type 0
Meets R period (route k s t z r) = CaseAnswered R period k s t z r
Meets R period no_route = (r : Route) → T (legal R r) → ⊥

abbrev pub rules_in : Case → Rules
rules_in c = rules_of c.plan c.elements c.source c.sink

abbrev pub IsRight : Case → Type 0
IsRight c = Meets (rules_in c) c.elements.period c.expected

pub data Each (P : Case → Type 0) : List Case → Type 0 where
  none : Each P []
  more : (c : Case) {cs : List Case} → P c → Each P cs → Each P (c ∷ cs)

-- the delay with which the span closes at `cell` after the visits v ∷ vs, in half-ticks
unfoldable pub closes_at : Rules → Visit → Route → ℕ → ℕ
closes_at R v vs cell = closing R (arrive R (place_after R v vs).cell (place_after R v vs).stage cell) cell register_code

-- the strip's tables, with a period, a load limit, a vertical wire and a list of buffers
unfoldable pub tables : ℕ → ℕ → Wire → List Buffer → Elements
tables period limit vertical buffers =
    record {
      period = period;
      skew = 0;
      limit = record { 0 = limit };
      horizontal = wire_of 2 3;
      vertical = vertical;
      register = register_of 1 2 1 1;
      count = length buffers;
      buffers = buffers ++ replicate (buffers_max - length buffers) (buffer_of 0 0 0);
    }

-- the strip with these marks, period, load limit and buffers; from cell 0 to cell 2
unfoldable pub strip : List ℕ → ℕ → ℕ → List Buffer → Expected → Case
strip marks period limit buffers expected =
    record {
      plan = plan_of 3 1 marks;
      elements = tables period limit (wire_of 2 3) buffers;
      source = 0;
      sink = 2;
      expected = expected;
    }

-- a tap at cell 1
abbrev pub tapped : List ℕ
tapped = 0 ∷ 2 ∷ 0 ∷ []

-- B
abbrev pub buffers : List Buffer
buffers = buffer_of 1 1 1 ∷ []

-- the three visits with this code at cell 1
unfoldable pub straight : ℕ → Route
straight code = visit 2 7 ∷ visit 1 code ∷ visit 0 7 ∷ []

-- R1 to R13

unfoldable pub case1 : Case
case1 = strip tapped 26 63 [] (route 0 2 26 (pos 0) (straight 0))

-- where R1 closes, in half-ticks
abbrev pub close1 : ℕ
close1 = 52

unfoldable pub case2 : Case
case2 = strip tapped 25 63 [] (route 1 2 50 (pos 26) (straight 7))

unfoldable pub case3 : Case
case3 = strip tapped 12 63 [] (route 1 2 24 (pos 0) (straight 7))

unfoldable pub case4 : Case
case4 = strip tapped 11 63 [] no_route

unfoldable pub case5 : Case
case5 = strip tapped 26 7 [] (route 0 2 26 (pos 0) (straight 0))

unfoldable pub case6 : Case
case6 = strip tapped 26 6 [] (route 1 2 52 (pos 28) (straight 7))

unfoldable pub case7 : Case
case7 = strip tapped 26 3 [] no_route

unfoldable pub case8 : Case
case8 = strip tapped 22 63 buffers (route 0 2 22 (pos 0) (straight 1))

unfoldable pub case9 : Case
case9 = strip tapped 21 63 buffers (route 1 2 42 (pos 18) (straight 7))

unfoldable pub case10 : Case
case10 = strip tapped 26 63 buffers (route 0 2 26 (pos 0) (straight 0))

unfoldable pub case11 : Case
case11 = strip (0 ∷ 1 ∷ 0 ∷ []) 25 63 [] no_route

unfoldable pub case12 : Case
case12 = strip (0 ∷ 3 ∷ 0 ∷ []) 22 63 buffers no_route

-- document 01's own answer to R12, by the rules of before C-17
unfoldable pub before12 : Expected
before12 = route 1 2 44 (pos 20) (straight 7)

abbrev pub rules_before : Case → Rules
rules_before c = tap_last c.plan c.elements c.source c.sink

-- 3 by 2, with a tap below cell 1
unfoldable pub case13 : Case
case13 =
    record {
      plan = plan_of 3 2 (0 ∷ 1 ∷ 0 ∷ 0 ∷ 2 ∷ 0 ∷ []);
      elements = tables 12 63 (wire_of 0 0) [];
      source = 0;
      sink = 2;
      expected = route 1 4 24 (pos 0) (visit 2 7 ∷ visit 1 0 ∷ visit 4 7 ∷ visit 1 0 ∷ visit 0 7 ∷ []);
    }

abbrev pub cases : List Case
cases =
    case1 ∷ case2 ∷ case3 ∷ case4 ∷ case5 ∷ case6 ∷ case7 ∷ case8 ∷ case9 ∷ case10 ∷ case11 ∷ case12 ∷ case13 ∷ []

-- "With skew 1, R1 becomes one register and latency 52, and R3 becomes 7."

-- a case with this skew
unfoldable pub skewed_case : ℕ → Case → Expected → Case
skewed_case s c expected =
    record {
      plan = c.plan;
      elements = with_skew s c.elements;
      source = c.source;
      sink = c.sink;
      expected = expected;
    }

unfoldable pub skewed1 : Case
skewed1 = skewed_case 1 case1 (route 1 2 52 (pos 26) (straight 7))

unfoldable pub skewed3 : Case
skewed3 = skewed_case 1 case3 no_route

abbrev pub skewed_cases : List Case
skewed_cases = skewed1 ∷ skewed3 ∷ []
