-- The spare figure of a route: document 02, C-12. Each span that is closed has one; the route's is the smallest.
use Rattle.std.specs.Prelude.{ℕ, ◌-◌, ◌<◌, cond, List, [], ◌∷◌, ◌++◌, ◌≡◌, ℤ, length, get_or, ◌≤ℤ◌}
use Rattle.timing.specs.Slack.{slack_most, slack_of, smaller}
use Rattle.rules.specs.Rules.{Rules, is_closing}
use Rattle.rules.specs.Legal.{Visit, Route, arrive, closing}
use Rattle.rules.specs.Beginning.{Place, next_place, start_place}

-- "2T less the closing delay", the skew in it, of the span that a visit closes, from the place where the visits before it have come; the bound is one more than 2T
unfoldable pub slack_at : Rules → Place → Visit → ℤ
slack_at R a v = slack_of (R.bound a.span a.fifos - 1) (closing R (arrive R a.cell a.stage v.cell) v.cell v.code)

-- the figures of the spans that are closed from a place on, in their order
unfoldable pub slacks_from : Rules → Place → Route → List ℤ
slacks_from R a [] = []
slacks_from R a (v ∷ vs) = cond (is_closing v.code) (slack_at R a v ∷ []) [] ++ slacks_from R (next_place R a v) vs

-- the figures of a route's spans, the sink's first
unfoldable pub slacks : Rules → Route → List ℤ
slacks R [] = []
slacks R (v ∷ vs) = slacks_from R (start_place R v) vs

-- the smallest of some figures and one before them
unfoldable pub least_from : ℤ → List ℤ → ℤ
least_from least [] = least
least_from least (z ∷ zs) = least_from (smaller least z) zs

-- the smallest figure so far, after a visit
unfoldable pub slack_after : Rules → Place → ℤ → Visit → ℤ
slack_after R a least v = cond (is_closing v.code) (smaller least (slack_at R a v)) least

-- "its smallest spare figure"; no span has more than the first one here (`slack-smallest` in proofs/Slack.antt)
unfoldable pub least_slack : Rules → Route → ℤ
least_slack R r = least_from slack_most (slacks R r)

-- z is the smallest of the figures: none is less, and one is it
pub record Smallest (z : ℤ) (zs : List ℤ) : Type 0 where
  pub least : (i : ℕ) → i < length zs → z ≤ℤ get_or zs i slack_most
  pub place : ℕ
  pub in_list : place < length zs
  pub has : get_or zs place slack_most ≡ z
