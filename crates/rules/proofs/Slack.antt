-- Laws of the spare figure: one visit more, its sign, and that the route's figure is the smallest of its spans'.
use Prim.Native.Nat.{ℕ, zero, suc, ◌+◌, ◌-◌, ◌≤◌, ◌<◌}
use mathlib.Core.Bool.{Bool, true, false, cond}
use mathlib.Core.List.{List, [], ◌∷◌, ◌++◌}
use mathlib.Core.Logic.{◌⊎◌, inl, inr}
use mathlib.Core.Path.{◌≡◌, refl, sym, ap, ◌∙◌, subst}
use native.Mathlib.Omega.{arith}
use lib.Dec.{T, ltb}
use lib.IntN.{ℤ, pos}
use lib.ListN.{length, get_or}
use lib.Signed.{le_z, ◌≤ℤ◌, le_z_yes, ≤ℤ_refl}
use Rattle.plan.specs.Plan.{Plan}
use Rattle.timing.specs.declared.elements.Elements.{Elements}
use Rattle.timing.specs.Valid.{Valid}
use Rattle.timing.specs.Slack.{slack_most, smaller}
use Rattle.plan.proofs.Truth.{parts}
use Rattle.timing.proofs.SlackLaws.{slack-below, slack-most, le_trans, le_antisym, smaller-left, smaller-right, smaller-either}
use Rattle.rules.specs.Rules.{Rules, is_closing, rules_of}
use Rattle.rules.specs.Legal.{Visit, Route, arrive, in_time, is_last, period_right, visit_right, legal_from, legal}
use Rattle.rules.specs.Ranking.{registers}
use Rattle.rules.specs.Beginning.{Place, next_place, start_place}
use Rattle.rules.specs.Slack.{slack_at, slacks_from, slacks, least_from, slack_after, least_slack, Smallest}
use Rattle.rules.proofs.View.{LegalRoute, starts, route-view}
use Rattle.rules.proofs.Figures.{closings, route-closings}
use Rattle.rules.proofs.Document01.{rules-bound}

-- one visit more
pub least-next : (R : Rules) (a : Place) (least : ℤ) (v : Visit) (vs : Route) → least_from least (slacks_from R a (v ∷ vs)) ≡ least_from (slack_after R a least v) (slacks_from R (next_place R a v) vs)
unfolding slacks_from slack_after least_from
least-next R a least v vs = go (is_closing v.code)
  where
    go : (b : Bool) → least_from least (cond b (slack_at R a v ∷ []) [] ++ slacks_from R (next_place R a v) vs) ≡ least_from (cond b (smaller least (slack_at R a v)) least) (slacks_from R (next_place R a v) vs)
    go true = refl
    go false = refl

pub least-none : (R : Rules) (a : Place) (least : ℤ) → least_from least (slacks_from R a []) ≡ least
unfolding slacks_from least_from
least-none R a least = refl

-- "zero when it just fits, below zero by the miss": the sign is the period test
pub slack-in-time : (R : Rules) (a : Place) (v : Visit) → 0 < R.bound a.span a.fifos → le_z (pos 0) (slack_at R a v) ≡ in_time R a.span a.fifos (arrive R a.cell a.stage v.cell) v
unfolding slack_at in_time
slack-in-time R a v h = slack-below _ _ ∙ ap (ltb _) whole
  where
    whole : R.bound a.span a.fifos - 1 + 1 ≡ R.bound a.span a.fifos
    whole = omega arith

-- The smallest of a list of figures, none above the start

least-most : (z : ℤ) (zs : List ℤ) → least_from z zs ≤ℤ z
unfolding least_from
least-most z [] = ≤ℤ_refl z
least-most z (y ∷ zs) = le_trans (least-most (smaller z y) zs) (smaller-left z y)

least_at : (z : ℤ) (zs : List ℤ) (i : ℕ) → i < length zs → least_from z zs ≤ℤ get_or zs i slack_most
unfolding least_from
least_at z [] i h = absurd (omega arith)
least_at z (y ∷ zs) zero h = le_trans (least-most (smaller z y) zs) (smaller-right z y)
least_at z (y ∷ zs) (suc i) h = least_at (smaller z y) zs i (omega arith)

record Somewhere (z : ℤ) (zs : List ℤ) : Type 0 where
  pub place : ℕ
  pub in_list : place < length zs
  pub has : get_or zs place slack_most ≡ z

later : {z y : ℤ} {zs : List ℤ} → Somewhere z zs → Somewhere z (y ∷ zs)
later s = record { place = suc s.place; in_list = omega (arith, s.in_list); has = s.has }

least-is : (z : ℤ) (zs : List ℤ) → (least_from z zs ≡ z) ⊎ Somewhere (least_from z zs) zs
unfolding least_from
least-is z [] = inl refl
least-is z (y ∷ zs) = go (least-is (smaller z y) zs) (smaller-either z y)
  where
    go : (least_from (smaller z y) zs ≡ smaller z y) ⊎ Somewhere (least_from (smaller z y) zs) zs → (smaller z y ≡ z) ⊎ (smaller z y ≡ y) → (least_from (smaller z y) zs ≡ z) ⊎ Somewhere (least_from (smaller z y) zs) (y ∷ zs)
    go (inl e) (inl f) = inl (e ∙ f)
    go (inl e) (inr f) = inr (record { place = 0; in_list = omega arith; has = sym (e ∙ f) })
    go (inr s) f = inr (later s)

least-smallest : (zs : List ℤ) → 0 < length zs → ((i : ℕ) → i < length zs → get_or zs i slack_most ≤ℤ slack_most) → Smallest (least_from slack_most zs) zs
least-smallest zs h most = go (least-is slack_most zs)
  where
    made : Somewhere (least_from slack_most zs) zs → Smallest (least_from slack_most zs) zs
    made s = record { least = least_at slack_most zs; place = s.place; in_list = s.in_list; has = s.has }

    go : (least_from slack_most zs ≡ slack_most) ⊎ Somewhere (least_from slack_most zs) zs → Smallest (least_from slack_most zs) zs
    go (inr s) = made s
    go (inl e) =
        made (record { place = 0; in_list = h; has = le_antisym (subst (λ (z : ℤ). get_or zs 0 slack_most ≤ℤ z) (sym e) (most 0 h)) (least_at slack_most zs 0 h) })

-- each visit that closes a span has a figure
slacks-closings : (R : Rules) (a : Place) (vs : Route) → length (slacks_from R a vs) ≡ closings vs
unfolding slacks_from closings
slacks-closings R a [] = refl
slacks-closings R a (v ∷ vs) = go (is_closing v.code) (slacks-closings R (next_place R a v) vs)
  where
    go : (b : Bool) → length (slacks_from R (next_place R a v) vs) ≡ closings vs → length (cond b (slack_at R a v ∷ []) [] ++ slacks_from R (next_place R a v) vs) ≡ cond b 1 0 + closings vs
    go true rest = omega arith
    go false rest = omega arith

-- "Registers counted exclude both ends": a legal route has one span more, and one more for each FIFO
pub slacks-count : (R : Rules) (r : Route) → T (legal R r) → length (slacks R r) ≡ registers r + 1 + R.fifos
unfolding slacks
slacks-count R r h = go (route-view R r h)
  where
    go : {r : Route} → LegalRoute R r → length (slacks R r) ≡ registers r + 1 + R.fifos
    go (starts {v} {vs} f e) = omega (arith, slacks-closings R (start_place R v) vs, route-closings f e)

-- No bound is above 2 · 30,000 + 1: no figure is above the start

at_most : (R : Rules) (a : Place) (v : Visit) → ((k f : ℕ) → R.bound k f ≤ 60001) → slack_at R a v ≤ℤ slack_most
unfolding slack_at
at_most R a v low = slack-most (R.bound a.span a.fifos - 1) _ 60000 (omega (arith, low a.span a.fifos))

figures-most : (R : Rules) → ((k f : ℕ) → R.bound k f ≤ 60001) → (a : Place) (vs : Route) (i : ℕ) → i < length (slacks_from R a vs) → get_or (slacks_from R a vs) i slack_most ≤ℤ slack_most
unfolding slacks_from
figures-most R low a [] i h = absurd (omega arith)
figures-most R low a (v ∷ vs) i h = go (is_closing v.code) i h (figures-most R low (next_place R a v) vs)
  where
    zs : List ℤ
    zs = slacks_from R (next_place R a v) vs

    go : (b : Bool) (i : ℕ) → i < length (cond b (slack_at R a v ∷ []) [] ++ zs) → ((k : ℕ) → k < length zs → get_or zs k slack_most ≤ℤ slack_most) → get_or (cond b (slack_at R a v ∷ []) [] ++ zs) i slack_most ≤ℤ slack_most
    go true zero h rest = at_most R a v low
    go true (suc k) h rest = rest k (omega arith)
    go false k h rest = rest k h

-- The route's figure is the smallest of its spans': no close has less, and one has it. For any rules with periods in range, and for document 01's.
pub legal-smallest : (R : Rules) → ((k f : ℕ) → R.bound k f ≤ 60001) → (r : Route) → T (legal R r) → Smallest (least_slack R r) (slacks R r)
unfolding least_slack slacks legal
legal-smallest R low [] h = absurd h
legal-smallest R low (v ∷ vs) h =
    least-smallest (slacks_from R (start_place R v) vs) (omega (arith, slacks-count R (v ∷ vs) h)) (figures-most R low (start_place R v) vs)

pub slack-smallest : (p : Plan) (e : Elements) (from to : ℕ) (r : Route) → Valid e → T (legal (rules_of p e from to) r) → Smallest (least_slack (rules_of p e from to) r) (slacks (rules_of p e from to) r)
slack-smallest p e from to r valid =
    legal-smallest (rules_of p e from to) (λ k f. rw (rules-bound p e from to k f) (omega (arith, valid.most))) r

-- A legal route's spans close in time: none of its figures is below zero.

own-natural : (R : Rules) (a : Place) (v : Visit) → 0 < R.bound a.span a.fifos → T (period_right R a.span a.fifos (arrive R a.cell a.stage v.cell) v) → is_closing v.code ≡ true → pos 0 ≤ℤ slack_at R a v
unfolding period_right
own-natural R a v some h e = le_z_yes (rw (slack-in-time R a v some) (rw e at h))

-- the close of a visit, then the figures after it
more-natural : (b : Bool) (z : ℤ) (zs : List ℤ) → (b ≡ true → pos 0 ≤ℤ z) → ((i : ℕ) → i < length zs → pos 0 ≤ℤ get_or zs i slack_most) → (i : ℕ) → i < length (cond b (z ∷ []) [] ++ zs) → pos 0 ≤ℤ get_or (cond b (z ∷ []) [] ++ zs) i slack_most
more-natural true z zs own rest zero h = own refl
more-natural true z zs own rest (suc i) h = rest i (omega arith)
more-natural false z zs own rest i h = rest i h

figures-natural : (R : Rules) → ((k f : ℕ) → 0 < R.bound k f) → (a : Place) (vs : Route) → T (legal_from R a.cell a.span a.fifos a.stage vs) → (i : ℕ) → i < length (slacks_from R a vs) → pos 0 ≤ℤ get_or (slacks_from R a vs) i slack_most
unfolding slacks_from legal_from visit_right is_last next_place
figures-natural R some a [] h i k = absurd h
figures-natural R some a (v ∷ []) h i k =
    more-natural (is_closing v.code) (slack_at R a v) [] (own-natural R a v (some a.span a.fifos) (search parts)) (λ j l. absurd (omega arith)) i k
figures-natural R some a (v ∷ w ∷ vs) h i k =
    more-natural (is_closing v.code) (slack_at R a v) (slacks_from R (next_place R a v) (w ∷ vs)) (own-natural R a v (some a.span a.fifos) (search parts)) (figures-natural R some (next_place R a v) (w ∷ vs) (search parts)) i k

pub slack-natural : (p : Plan) (e : Elements) (from to : ℕ) (r : Route) → T (legal (rules_of p e from to) r) → (i : ℕ) → i < length (slacks (rules_of p e from to) r) → pos 0 ≤ℤ get_or (slacks (rules_of p e from to) r) i slack_most
unfolding slacks legal start_place
slack-natural p e from to [] h = absurd h
slack-natural p e from to (v ∷ vs) h =
    figures-natural (rules_of p e from to) (λ k f. rw (rules-bound p e from to k f) (omega arith)) (start_place (rules_of p e from to) v) vs (search parts)
