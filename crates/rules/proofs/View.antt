-- The view of a legal ending: the test `legal_from` as a derivation, one constructor for each kind of visit, with plain facts. All that follows matches on it.
use Prim.Native.Nat.{ℕ, suc, ◌≤◌, ◌<◌}
use mathlib.Core.Bool.{not}
use mathlib.Core.List.{[], ◌∷◌}
use mathlib.Core.Path.{◌≡◌, refl, subst, subst₂}
use mathlib.Core.Logic.{◌⊎◌, inl, inr}
use native.Mathlib.Omega.{arith}
use borrow.Author.Tests.{eq-eqb, ne_eqb}
use lib.Dec.{T, eqb, ltb, leb→le, le→leb, ltb→lt, lt→ltb, eqb→eq, T_not, not_T}
use Rattle.rules.specs.Rules.{Stage, Rules, no_gate, register_code, fifo_code, is_closing, side_after}
use Rattle.rules.specs.Legal.{Visit, Route, arrive, buffered, leave, closing, in_time, is_end, may_stand, is_last, cell_right, wire_right, code_right, load_right, period_right, visit_right, span_after, legal_from, first_right, legal}
use Rattle.plan.proofs.Truth.{both, parts, or_left, or_right, or_cases, is_true, is_false, decided, eq→eqb, equal}

-- The codes that close a span

pub closing-codes : (code : ℕ) → T (is_closing code) → (code ≡ register_code) ⊎ (code ≡ fifo_code)
unfolding is_closing
closing-codes code h = go (or_cases (eqb code register_code) _ h)
  where
    go : T (eqb code register_code) ⊎ T (eqb code fifo_code) → (code ≡ register_code) ⊎ (code ≡ fifo_code)
    go (inl q) = inl (eqb→eq _ _ q)
    go (inr q) = inr (eqb→eq _ _ q)

pub register-closing : (code : ℕ) → code ≡ register_code → T (is_closing code)
unfolding is_closing
register-closing code e = or_left (eqb code register_code) _ (eq→eqb _ _ e)

pub fifo-closing : (code : ℕ) → code ≡ fifo_code → T (is_closing code)
unfolding is_closing
fifo-closing code e = or_right (eqb code register_code) _ (eq→eqb _ _ e)

pub closing-some : (code : ℕ) → T (is_closing code) → code ≡ no_gate → ⊥
closing-some code h e = go (closing-codes code h)
  where
    go : (code ≡ register_code) ⊎ (code ≡ fifo_code) → ⊥
    go (inl q) = omega arith
    go (inr q) = omega arith

-- What a gate leaves, and the span and the side after it, by the gate's code

pub leave_none : (R : Rules) (s : Stage) (code : ℕ) → code ≡ no_gate → leave R s code ≡ s
unfolding leave
leave_none R s code e = simp (eq-eqb code no_gate e)

pub leave-buffer : (R : Rules) (s : Stage) (code : ℕ) → (code ≡ no_gate → ⊥) → T (not (is_closing code)) → leave R s code ≡ buffered R s code
unfolding leave
leave-buffer R s code f g = simp (ne_eqb code no_gate f, is_false (is_closing code) g)

pub leave-closing : (R : Rules) (s : Stage) (code : ℕ) → T (is_closing code) → leave R s code ≡ R.fresh code
unfolding leave
leave-closing R s code h = simp (ne_eqb code no_gate (closing-some code h), is_true (is_closing code) h)

pub none_open : (code : ℕ) → code ≡ no_gate → T (not (is_closing code))
unfolding is_closing
none_open code e = simp e tt

-- a code that is neither closes none
pub open_code : (code : ℕ) → (code ≡ register_code → ⊥) → (code ≡ fifo_code → ⊥) → T (not (is_closing code))
unfolding is_closing
open_code code f g = simp (ne_eqb code register_code f, ne_eqb code fifo_code g) tt

pub span-kept : (span : ℕ) (v : Visit) → T (not (is_closing v.code)) → span_after span v ≡ span
unfolding span_after
span-kept span v f = simp (is_false (is_closing v.code) f)

pub span-closed : (span : ℕ) (v : Visit) → T (is_closing v.code) → span_after span v ≡ suc span
unfolding span_after
span-closed span v h = simp (is_true (is_closing v.code) h)

pub side-fifo : (fifos code : ℕ) → code ≡ fifo_code → side_after fifos code ≡ suc fifos
unfolding side_after
side-fifo fifos code e = simp (eq-eqb code fifo_code e)

pub side_same : (fifos code : ℕ) → (code ≡ fifo_code → ⊥) → side_after fifos code ≡ fifos
unfolding side_after
side_same fifos code f = simp (ne_eqb code fifo_code f)

pub side-kept : (fifos code : ℕ) → T (not (is_closing code)) → side_after fifos code ≡ fifos
side-kept fifos code f = side_same fifos code (λ e. T_not (is_closing code) f (fifo-closing code e))

-- A visit to `cell`, reached from cell `from` that was left with stage `s`
pub record Reached (R : Rules) (from : ℕ) (s : Stage) (cell : ℕ) : Type 0 where
  pub in_plan : cell < R.cell_count
  pub wired : T (R.linked from cell)
  pub light : (arrive R from s cell).load ≤ R.limit

-- the last visit: the source closes the route
pub record LastVisit (R : Rules) (from span fifos : ℕ) (s : Stage) (v : Visit) : Type 0 where
  pub reached : Reached R from s v.cell
  pub at_source : v.cell ≡ R.source
  pub code : v.code ≡ register_code
  pub passed : fifos ≡ R.fifos
  pub closed : closing R (arrive R from s v.cell) v.cell v.code < R.bound span fifos

-- a visit in between without a gate
pub record PlainVisit (R : Rules) (from : ℕ) (s : Stage) (v : Visit) : Type 0 where
  pub reached : Reached R from s v.cell
  pub code : v.code ≡ no_gate
  pub stands : T (may_stand R v.cell v.code)

-- a visit in between with a buffer
pub record BufferVisit (R : Rules) (from : ℕ) (s : Stage) (v : Visit) : Type 0 where
  pub reached : Reached R from s v.cell
  pub some_gate : v.code ≡ no_gate → ⊥
  pub no_close : T (not (is_closing v.code))
  pub stands : T (may_stand R v.cell v.code)
  pub light_after : (buffered R (arrive R from s v.cell) v.code).load ≤ R.limit

-- a visit in between with a register or a FIFO, which closes the span
pub record ClosingVisit (R : Rules) (from span fifos : ℕ) (s : Stage) (v : Visit) : Type 0 where
  pub reached : Reached R from s v.cell
  pub code : T (is_closing v.code)
  pub stands : T (may_stand R v.cell v.code)
  pub light_after : (R.fresh v.code).load ≤ R.limit
  pub closed : closing R (arrive R from s v.cell) v.cell v.code < R.bound span fifos

-- A legal ending of a route from cell `from`, left with stage `s`, in span number `span`, with `fifos` FIFOs passed
pub data Ending (R : Rules) : ℕ → ℕ → ℕ → Stage → Route → Type 0 where
  ends : {from span fifos : ℕ} {s : Stage} {v : Visit} → LastVisit R from span fifos s v → Ending R from span fifos s (v ∷ [])
  passes : {from span fifos : ℕ} {s : Stage} {v : Visit} {vs : Route} → PlainVisit R from s v → Ending R v.cell span fifos (arrive R from s v.cell) vs → Ending R from span fifos s (v ∷ vs)
  buffers : {from span fifos : ℕ} {s : Stage} {v : Visit} {vs : Route} → BufferVisit R from s v → Ending R v.cell span fifos (buffered R (arrive R from s v.cell) v.code) vs → Ending R from span fifos s (v ∷ vs)
  closes : {from span fifos : ℕ} {s : Stage} {v : Visit} {vs : Route} → ClosingVisit R from span fifos s v → Ending R v.cell (suc span) (side_after fifos v.code) (R.fresh v.code) vs → Ending R from span fifos s (v ∷ vs)

-- A legal route: the sink, then an ending from there
pub record FirstVisit (R : Rules) (v : Visit) : Type 0 where
  pub at_sink : v.cell ≡ R.sink
  pub code : v.code ≡ register_code
  pub in_plan : R.sink < R.cell_count
  pub light : R.start.load ≤ R.limit

pub data LegalRoute (R : Rules) : Route → Type 0 where
  starts : {v : Visit} {vs : Route} → FirstVisit R v → Ending R R.sink 0 0 R.start vs → LegalRoute R (v ∷ vs)

-- Any visit in between, in the words of the test
record Between (R : Rules) (from span fifos : ℕ) (s : Stage) (v : Visit) : Type 0 where
  pub reached : Reached R from s v.cell
  pub stands : T (may_stand R v.cell v.code)
  pub light_after : (leave R (arrive R from s v.cell) v.code).load ≤ R.limit
  pub period : T (period_right R span fifos (arrive R from s v.cell) v)

module _ (R : Rules) (span fifos : ℕ) (s : Stage) (v : Visit) where
  period-closed : T (is_closing v.code) → T (period_right R span fifos s v) → closing R s v.cell v.code < R.bound span fifos
  unfolding period_right in_time
  period-closed c h = ltb→lt _ _ (simp (is_true (is_closing v.code) c) at h)

  period-closed-back : T (is_closing v.code) → closing R s v.cell v.code < R.bound span fifos → T (period_right R span fifos s v)
  unfolding period_right in_time
  period-closed-back c h = simp (is_true (is_closing v.code) c) (lt→ltb _ _ h)

  period-open : T (not (is_closing v.code)) → T (period_right R span fifos s v)
  unfolding period_right
  period-open f = simp (is_false (is_closing v.code) f) tt

module _ (R : Rules) (from span fifos : ℕ) (s : Stage) where
  last_view : (v : Visit) → T (legal_from R from span fifos s (v ∷ [])) → LastVisit R from span fifos s v
  unfolding legal_from visit_right cell_right wire_right code_right load_right is_last
  last_view v h =
      let e : v.code ≡ register_code = eqb→eq _ _ (search parts depth 8) in
      record {
        reached = record { in_plan = ltb→lt _ _ (search parts depth 8); wired = search parts depth 8; light = leb→le _ _ (search parts depth 8) };
        at_source = eqb→eq _ _ (search parts depth 8);
        code = e;
        passed = eqb→eq _ _ (search parts depth 8);
        closed = period-closed R span fifos (arrive R from s v.cell) v (register-closing v.code e) (search parts depth 8);
      }

  last-test : (v : Visit) → LastVisit R from span fifos s v → T (legal_from R from span fifos s (v ∷ []))
  unfolding legal_from visit_right cell_right wire_right code_right load_right is_last
  last-test v h =
      let in_plan = lt→ltb _ _ h.reached.in_plan in
      let light = le→leb _ _ h.reached.light in
      let at_source = eq→eqb _ _ h.at_source in
      let code = eq→eqb _ _ h.code in
      let passed = eq→eqb _ _ h.passed in
      let wired = h.reached.wired in
      let period = period-closed-back R span fifos (arrive R from s v.cell) v (register-closing v.code h.code) h.closed in
      search both depth 8

  between-view : (v w : Visit) (vs : Route) → T (legal_from R from span fifos s (v ∷ w ∷ vs)) → Between R from span fifos s v
  unfolding legal_from visit_right cell_right wire_right code_right load_right is_last
  between-view v w vs h =
      record {
        reached = record { in_plan = ltb→lt _ _ (search parts depth 8); wired = search parts depth 8; light = leb→le _ _ (search parts depth 8) };
        stands = search parts depth 8;
        light_after = leb→le _ _ (search parts depth 8);
        period = search parts depth 8;
      }

  rest-view : (v w : Visit) (vs : Route) → T (legal_from R from span fifos s (v ∷ w ∷ vs)) → T (legal_from R v.cell (span_after span v) (side_after fifos v.code) (leave R (arrive R from s v.cell) v.code) (w ∷ vs))
  unfolding legal_from is_last
  rest-view v w vs h = search parts

  between-test : (v : Visit) (vs : Route) → Between R from span fifos s v → T (legal_from R v.cell (span_after span v) (side_after fifos v.code) (leave R (arrive R from s v.cell) v.code) vs) → T (legal_from R from span fifos s (v ∷ vs))
  unfolding legal_from visit_right cell_right wire_right code_right load_right is_last
  between-test v [] h rest = absurd rest
  between-test v (w ∷ vs) h rest =
      let in_plan = lt→ltb _ _ h.reached.in_plan in
      let light = le→leb _ _ h.reached.light in
      let light_after = le→leb _ _ h.light_after in
      let wired = h.reached.wired in
      let stands = h.stands in
      let period = h.period in
      search both depth 8

-- A visit in between, by its gate. `a` is the stage before the gate.
module _ (R : Rules) (from span fifos : ℕ) (s : Stage) (v : Visit) (vs : Route) where
  abbrev a : Stage
  a = arrive R from s v.cell

  gate-view : Between R from span fifos s v → Ending R v.cell (span_after span v) (side_after fifos v.code) (leave R a v.code) vs → Ending R from span fifos s (v ∷ vs)
  gate-view h e = go (equal v.code no_gate) (decided (is_closing v.code))
    where
      to : {k f : ℕ} {t : Stage} → span_after span v ≡ k → side_after fifos v.code ≡ f → leave R a v.code ≡ t → Ending R v.cell k f t vs
      to {k} {f} {t} p q r = subst (λ (f : ℕ). Ending R v.cell k f t vs) q (subst₂ (λ (k : ℕ) (t : Stage). Ending R v.cell k (side_after fifos v.code) t vs) p r e)

      go : (v.code ≡ no_gate) ⊎ (v.code ≡ no_gate → ⊥) → T (is_closing v.code) ⊎ T (not (is_closing v.code)) → Ending R from span fifos s (v ∷ vs)
      go (inl none) d =
          let no_close = none_open v.code none in
          passes
          (record { reached = h.reached; code = none; stands = h.stands })
          (to (span-kept span v no_close) (side-kept fifos v.code no_close) (leave_none R a v.code none))
      go (inr some) (inl closed) =
          closes
          (record {
            reached = h.reached;
            code = closed;
            stands = h.stands;
            light_after = rw (leave-closing R a v.code closed) at h.light_after;
            closed = period-closed R span fifos a v closed h.period;
          })
          (to (span-closed span v closed) refl (leave-closing R a v.code closed))
      go (inr some) (inr no_close) =
          buffers
          (record {
            reached = h.reached;
            some_gate = some;
            no_close = no_close;
            stands = h.stands;
            light_after = rw (leave-buffer R a v.code some no_close) at h.light_after;
          })
          (to (span-kept span v no_close) (side-kept fifos v.code no_close) (leave-buffer R a v.code some no_close))

  gate-test : {k f : ℕ} {t : Stage} → span_after span v ≡ k → side_after fifos v.code ≡ f → leave R a v.code ≡ t → Reached R from s v.cell → T (may_stand R v.cell v.code) → t.load ≤ R.limit → T (period_right R span fifos a v) → T (legal_from R v.cell k f t vs) → T (legal_from R from span fifos s (v ∷ vs))
  gate-test p q r reached stands light period rest =
      between-test
      R
      from
      span
      fifos
      s
      v
      vs
      (record { reached = reached; stands = stands; light_after = rw r light; period = period })
      (rw (p, q, r) rest)

  passes-test : PlainVisit R from s v → T (legal_from R v.cell span fifos a vs) → T (legal_from R from span fifos s (v ∷ vs))
  passes-test h =
      let no_close = none_open v.code h.code in
      gate-test (span-kept span v no_close) (side-kept fifos v.code no_close) (leave_none R a v.code h.code) h.reached h.stands h.reached.light (period-open R span fifos a v no_close)

  buffers-test : BufferVisit R from s v → T (legal_from R v.cell span fifos (buffered R a v.code) vs) → T (legal_from R from span fifos s (v ∷ vs))
  buffers-test h = gate-test (span-kept span v h.no_close) (side-kept fifos v.code h.no_close) (leave-buffer R a v.code h.some_gate h.no_close) h.reached h.stands h.light_after (period-open R span fifos a v h.no_close)

  closes-test : ClosingVisit R from span fifos s v → T (legal_from R v.cell (suc span) (side_after fifos v.code) (R.fresh v.code) vs) → T (legal_from R from span fifos s (v ∷ vs))
  closes-test h = gate-test (span-closed span v h.code) refl (leave-closing R a v.code h.code) h.reached h.stands h.light_after (period-closed-back R span fifos a v h.code h.closed)

-- The view of the test, and back. A list of one visit is judged as the last visit; a longer one gives a visit in between, whose code decides the constructor, and a shorter list. Back, no ending is empty, so a visit with an ending after it is not the last.

pub ending-view : (R : Rules) (from span fifos : ℕ) (s : Stage) (vs : Route) → T (legal_from R from span fifos s vs) → Ending R from span fifos s vs
unfolding legal_from
ending-view R from span fifos s [] h = absurd h
ending-view R from span fifos s (v ∷ []) h = ends (last_view R from span fifos s v h)
ending-view R from span fifos s (v ∷ (w ∷ vs)) h =
    gate-view R from span fifos s v (w ∷ vs) (between-view R from span fifos s v w vs h) (ending-view R v.cell _ _ _ (w ∷ vs) (rest-view R from span fifos s v w vs h))

pub ending-test : {R : Rules} {from span fifos : ℕ} {s : Stage} {vs : Route} → Ending R from span fifos s vs → T (legal_from R from span fifos s vs)
ending-test {R} (ends {from = from} {span = span} {fifos = fifos} {s = s} {v = v} h) = last-test R from span fifos s v h
ending-test {R} (passes {from = from} {span = span} {fifos = fifos} {s = s} {v = v} {vs = vs} h e) = passes-test R from span fifos s v vs h (ending-test e)
ending-test {R} (buffers {from = from} {span = span} {fifos = fifos} {s = s} {v = v} {vs = vs} h e) = buffers-test R from span fifos s v vs h (ending-test e)
ending-test {R} (closes {from = from} {span = span} {fifos = fifos} {s = s} {v = v} {vs = vs} h e) = closes-test R from span fifos s v vs h (ending-test e)

pub route-view : (R : Rules) (r : Route) → T (legal R r) → LegalRoute R r
unfolding legal first_right
route-view R [] h = absurd h
route-view R (v ∷ vs) h =
    let e : v.cell ≡ R.sink = eqb→eq _ _ (search parts) in
    let k : v.cell < R.cell_count = ltb→lt _ _ (search parts) in
    let rest : T (legal_from R v.cell 0 0 R.start vs) = search parts in
    starts
    {v = v}
    (record { at_sink = e; code = eqb→eq _ _ (search parts); in_plan = rw e at k; light = leb→le _ _ (search parts) })
    (ending-view R R.sink 0 0 R.start vs (rw e at rest))

pub route-test : {R : Rules} {r : Route} → LegalRoute R r → T (legal R r)
unfolding legal first_right
route-test {R} (starts {v = v} {vs = vs} h e) =
    let at_sink = eq→eqb _ _ h.at_sink in
    let in_plan : T (ltb v.cell R.cell_count) = rw h.at_sink (lt→ltb _ _ h.in_plan) in
    let code = eq→eqb _ _ h.code in
    let light = le→leb _ _ h.light in
    let rest : T (legal_from R v.cell 0 0 R.start vs) = rw h.at_sink (ending-test e) in
    search both

-- Which gate may stand between the ends: on an end's cell none, elsewhere what the site allows

pub not_end : (R : Rules) (cell : ℕ) → (cell ≡ R.sink → ⊥) → (cell ≡ R.source → ⊥) → T (not (is_end R cell))
unfolding is_end
not_end R cell f g = simp (ne_eqb cell R.sink f, ne_eqb cell R.source g) tt

pub not-sink : (R : Rules) (cell : ℕ) → T (not (is_end R cell)) → cell ≡ R.sink → ⊥
unfolding is_end
not-sink R cell h e = simp (eq-eqb cell R.sink e) at h

pub not-source : (R : Rules) (cell : ℕ) → T (not (is_end R cell)) → cell ≡ R.source → ⊥
unfolding is_end
not-source R cell h e = T_not (is_end R cell) h (or_right (eqb cell R.sink) _ (eq→eqb cell R.source e))

pub may-stand : (R : Rules) (cell code : ℕ) → T (not (is_end R cell)) → T (R.site cell code) → T (may_stand R cell code)
unfolding may_stand
may-stand R cell code h k = rw (is_false (is_end R cell) h) k

pub may-pass-end : (R : Rules) (cell : ℕ) → T (is_end R cell) → T (may_stand R cell no_gate)
unfolding may_stand
may-pass-end R cell h = rw (is_true (is_end R cell) h) tt

pub stands-between : (R : Rules) (cell code : ℕ) → T (may_stand R cell code) → (code ≡ no_gate → ⊥) → T (not (is_end R cell))
unfolding may_stand
stands-between R cell code h f = not_T (is_end R cell) (λ t. f (eqb→eq _ _ (rw (is_true (is_end R cell) t) at h)))

pub stands-site : (R : Rules) (cell code : ℕ) → T (may_stand R cell code) → (code ≡ no_gate → ⊥) → T (R.site cell code)
unfolding may_stand
stands-site R cell code h f = let t = stands-between R cell code h f in rw (is_false (is_end R cell) t) at h
