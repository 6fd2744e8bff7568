-- Rules with some of their sites barred: a route is legal by them just if it is legal and puts nothing on a barred site between its ends; so the best route stays the best just if it does not.
-- The rules of document 02, C-17, are those of before with one kind of site barred: a register or a FIFO on a cell with both marks.
use Prim.Native.Nat.{ℕ, ◌≤◌}
use mathlib.Core.Bool.{Bool, true, false, not, ◌&&◌, ◌||◌, cond, and-true, and-false, or-true, or-false, and_assoc}
use mathlib.Core.List.{List, [], ◌∷◌, ◌++◌}
use mathlib.Core.Path.{◌≡◌, refl, sym, ap, fun_ext}
use mathlib.Core.Logic.{◌⊎◌, inl, inr}
use native.Mathlib.Omega.{arith}
use borrow.Author.Tests.{le-leb, lt-leb, ne_eqb}
use lib.Dec.{T, eqb, leb, eqb→eq}
use lib.IntN.{ℤ}
use Rattle.plan.specs.Plan.{Plan, marks_at, blocked, tap, takes_register}
use Rattle.plan.proofs.Truth.{both, fst, snd, of-true, equal}
use Rattle.timing.specs.declared.elements.Elements.{Elements}
use Rattle.timing.specs.declared.clocks.Clocks.{Clocks}
use Rattle.timing.specs.Ranges.{buffers_max}
use Rattle.rules.specs.Rules.{Stage, Rules, no_gate, register_code, fifo_code, is_closing, side_after, sited_by, sites_by, site_of, rules_of}
use Rattle.rules.specs.Legal.{Route, arrive, buffered, leave, closing, in_time, is_end, may_stand, is_last, cell_right, wire_right, code_right, load_right, period_right, visit_right, span_after, legal_from, first_right, legal}
use Rattle.rules.specs.Ranking.{IsBest}
use Rattle.rules.specs.Beginning.{Place, next_place, start_place}
use Rattle.rules.specs.Slack.{slack_at, slacks_from, slacks, least_from, least_slack}
use Rattle.rules.specs.Crossing.{is_fifo, rules_between}
use Rattle.rules.specs.KeepOut.{tap_last, tap_last_between, on_both, puts_but_last, puts, barred}

-- the tests of a visit between the ends and of what follows, one of them with a bar, and the bar apart
apart : (cell wire stands bar load period rest later : Bool) → ((cell && wire && (stands && not bar) && load && period) && (rest && not later)) ≡ (((cell && wire && stands && load && period) && rest) && not (bar || later))
apart false wire stands bar load period rest later = refl
apart true false stands bar load period rest later = refl
apart true true false bar load period rest later = refl
apart true true true true load period rest later = sym (and-false ((load && period) && rest))
apart true true true false false period rest later = refl
apart true true true false true false rest later = refl
apart true true true false true true rest later = refl

module _ (R : Rules) (bars : ℕ → ℕ → Bool) (free : (cell : ℕ) → bars cell no_gate ≡ false) where
  abbrev B : Rules
  B = barred R bars

  pub stands-barred : (cell code : ℕ) → may_stand B cell code ≡ (may_stand R cell code && not (bars cell code))
  unfolding barred may_stand is_end
  stands-barred cell code = go (is_end R cell) (eqb code no_gate) refl
    where
      go : (end none : Bool) → eqb code no_gate ≡ none → cond end (eqb code no_gate) (R.site cell code && not (bars cell code)) ≡ (cond end (eqb code no_gate) (R.site cell code) && not (bars cell code))
      go true true e = rw (eqb→eq code no_gate (of-true _ e), free cell)
      go true false e = rw e
      go false none e = refl

  from-barred : (from span fifos : ℕ) (s : Stage) (vs : Route) → legal_from B from span fifos s vs ≡ (legal_from R from span fifos s vs && not (puts_but_last bars vs))
  unfolding barred legal_from visit_right cell_right wire_right code_right load_right period_right in_time closing arrive leave buffered is_last puts_but_last
  from-barred from span fifos s [] = refl
  from-barred from span fifos s (v ∷ []) = sym (and-true _)
  from-barred from span fifos s (v ∷ (w ∷ vs)) =
      rw (stands-barred v.cell v.code, from-barred v.cell (span_after span v) (side_after fifos v.code) (leave R (arrive R from s v.cell) v.code) (w ∷ vs))
      (apart (cell_right R false v) (wire_right R from v) (may_stand R v.cell v.code) (bars v.cell v.code) (load_right R false (arrive R from s v.cell) v) (period_right R span fifos (arrive R from s v.cell) v) _ (puts_but_last bars (w ∷ vs)))

  pub legal-barred : (r : Route) → legal B r ≡ (legal R r && not (puts bars r))
  unfolding barred legal first_right puts
  legal-barred [] = refl
  legal-barred (v ∷ vs) = rw (from-barred v.cell 0 0 R.start vs) (sym (and_assoc (first_right R v) _ _))

  -- so a best route that puts nothing there is still the best, and none other
  module _ (cost : Route → ℕ) (r : Route) where
    pub best-stays : IsBest cost R r → T (not (puts bars r)) → IsBest cost B r
    best-stays b h =
        record {
          is_legal = rw (legal-barred r) (both (legal R r) _ b.is_legal h);
          is_first = λ q l. b.is_first q (fst (legal R q) _ (rw (legal-barred q) at l));
        }

    pub best_keeps : IsBest cost B r → T (not (puts bars r))
    best_keeps b = snd (legal R r) _ (rw (legal-barred r) at b.is_legal)

  -- and where no route was legal none is
  pub none_stays : ((r : Route) → T (legal R r) → ⊥) → (r : Route) → T (legal B r) → ⊥
  none_stays f r h = f r (fst (legal R r) _ (rw (legal-barred r) at h))

  -- a route's spare figures do not depend on the sites
  slacks-from-barred : (a : Place) (vs : Route) → slacks_from B a vs ≡ slacks_from R a vs
  unfolding barred slacks_from slack_at next_place arrive leave buffered closing
  slacks-from-barred a [] = refl
  slacks-from-barred a (v ∷ vs) = ap (λ (zs : List ℤ). cond (is_closing v.code) (slack_at R a v ∷ []) [] ++ zs) (slacks-from-barred (next_place R a v) vs)

  pub slack-barred : (r : Route) → least_slack B r ≡ least_slack R r
  unfolding least_slack slacks start_place barred
  slack-barred [] = refl
  slack-barred (v ∷ vs) = ap (least_from _) (slacks-from-barred (start_place R v) vs)

-- The rules of C-17

-- a visit without a gate is never barred
pub none_free : (p : Plan) (cell : ℕ) → on_both p cell no_gate ≡ false
unfolding on_both is_closing
none_free p cell = refl

-- A site by the cell's marks: a listed buffer where there is no keep_out, a register on a tap without it; or a register on a tap, with what stands on both barred.
by-marks : (listed seven eight on-tap keep_out : Bool) → ((listed && not keep_out) || (seven && (on-tap && not keep_out))) ≡ (((listed && not keep_out) || (seven && on-tap)) && not ((seven || eight) && on-tap && keep_out))
by-marks listed seven eight on-tap false = simp (and-true, and-false)
by-marks listed false eight on-tap true = simp (and-false)
by-marks listed true eight true true = simp (and-false)
by-marks listed true eight false true = simp (and-false)

-- the same with a FIFO, where `fifo` says that there is one
by-clocks : (fifo seven eight on-tap keep_out other : Bool) → ((fifo && eight && (on-tap && not keep_out)) || (other && not ((seven || eight) && on-tap && keep_out))) ≡ (((fifo && eight && on-tap) || other) && not ((seven || eight) && on-tap && keep_out))
by-clocks fifo seven false on-tap keep_out other = simp (and-false)
by-clocks fifo seven true false keep_out other = simp (and-false, or-true)
by-clocks fifo seven true true false other = simp (and-true, or-true)
by-clocks fifo seven true true true other = simp (and-true, and-false, or-true)

module _ (p : Plan) (e : Elements) where
  -- before, a register stood on every tap, and a FIFO too

  pub register-before : e.count ≤ buffers_max → (from to cell : ℕ) → (tap_last p e from to).site cell register_code ≡ tap (marks_at p cell)
  unfolding tap_last
  register-before few from to cell = simp (lt-leb register_code e.count (omega arith))

  pub register-before-between : e.count ≤ buffers_max → (x : Clocks) (from to cell : ℕ) → (tap_last_between p e x from to).site cell register_code ≡ tap (marks_at p cell)
  unfolding tap_last_between is_fifo
  register-before-between few x from to cell = simp (and-false, lt-leb register_code e.count (omega arith))

  pub fifo-before : e.count ≤ buffers_max → (x : Clocks) → 1 ≤ x.fifos → (from to cell : ℕ) → (tap_last_between p e x from to).site cell fifo_code ≡ tap (marks_at p cell)
  unfolding tap_last_between is_fifo
  fifo-before few x two from to cell = simp (le-leb 1 x.fifos two, lt-leb fifo_code e.count (omega arith), or-false)

  -- now they stand where they stood before, but for what is barred

  site-barred : (cell code : ℕ) → site_of p e cell code ≡ (sites_by tap p e cell code && not (on_both p cell code))
  unfolding site_of takes_register on_both is_closing
  site-barred cell code = go (equal code no_gate)
    where
      go : (code ≡ no_gate) ⊎ (code ≡ no_gate → ⊥) → site_of p e cell code ≡ (sites_by tap p e cell code && not (on_both p cell code))
      go (inl z) = rw z
      go (inr f) = rw (ne_eqb code no_gate f) (by-marks (leb 1 code && leb code e.count) (eqb code register_code) (eqb code fifo_code) (tap (marks_at p cell)) (blocked (marks_at p cell)))

  pub rules-barred : (from to : ℕ) → rules_of p e from to ≡ barred (tap_last p e from to) (on_both p)
  unfolding barred tap_last rules_of
  rules-barred from to =
      ap (sited_by (rules_of p e from to)) (fun_ext (λ (cell : ℕ). fun_ext (λ (code : ℕ). site-barred cell code)))

  pub between-barred : (x : Clocks) (from to : ℕ) → rules_between p e x from to ≡ barred (tap_last_between p e x from to) (on_both p)
  unfolding barred tap_last_between rules_between rules_of is_fifo takes_register on_both is_closing
  between-barred x from to =
      ap (sited_by (rules_between p e x from to)) (fun_ext (λ (cell : ℕ). fun_ext (λ (code : ℕ). site cell code)))
    where
      site : (cell code : ℕ) → ((is_fifo x code && takes_register (marks_at p cell)) || site_of p e cell code) ≡ (((is_fifo x code && tap (marks_at p cell)) || sites_by tap p e cell code) && not (on_both p cell code))
      site cell code = rw (site-barred cell code) (by-clocks (leb 1 x.fifos) (eqb code register_code) (eqb code fifo_code) (tap (marks_at p cell)) (blocked (marks_at p cell)) (sites_by tap p e cell code))
