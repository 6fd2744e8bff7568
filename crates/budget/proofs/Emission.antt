-- Emission: with the least figures to go, the visits that go on are those that begin an ending with these figures, and the first of them begins the first ending.
use Prim.Native.Nat.{ℕ, suc, ◌+◌, ◌≤◌, ◌<◌}
use mathlib.Core.Path.{◌≡◌, refl}
use mathlib.Core.Bool.{◌&&◌, not}
use mathlib.Core.List.{[], ◌∷◌}
use mathlib.Core.Logic.{◌⊎◌, inl, inr}
use native.Mathlib.Omega.{arith}
use borrow.Author.Tests.{eq-eqb, ne_eqb}
use lib.Dec.{T, T_not, leb, ltb, leb→le, le→leb, ltb→lt, lt→ltb}
use lib.ListN.{length}
use Rattle.rules.specs.Rules.{Rules, no_gate, fifo_code, is_closing, side_after}
use Rattle.rules.specs.Legal.{Visit, Route, may_stand, legal_from}
use Rattle.rules.specs.Ranking.{weigh, written, precedes}
use Rattle.plan.proofs.Truth.{both, snd, parts, equal, decided, is_true, is_false}
use Rattle.rules.proofs.Order.{Earlier, earlier-view}
use Rattle.rules.proofs.View.{ending-view, closing-some, register-closing, none_open, side-kept}
use Rattle.rules.proofs.Figures.{weigh-none, ending-weight}
use Rattle.budget.specs.Table.{Table, RepresentsRow, load_at, delay_at, buffer_cost, load_of, close_cost}
use Rattle.budget.specs.Done.{stage, NotAfter, Done, Least, After, Labels, Labelled, Lawful}
use Rattle.budget.specs.Emission.{exact_seed, Reaches, goes_on, after_load, after_delay, after_weight, visit, Viable, Before, FirstViable, Candidate, FirstEnding}
use Rattle.budget.proofs.Done.{light, not-after-refl, after_more, not-after-both}
use Rattle.budget.proofs.Search.{label-enough}
use Rattle.budget.proofs.Visit.{Gate, gate, shut_weight, weight-shut, weight-open, weigh-cons, within-cons, after_none, after-shut, after-buffer, after-weight, Arrives, InTime, Onward, Final, Way, way, last-ending, cons, done-cons}
use Rattle.budget.proofs.Reaches.{exact-view, reaches-done, NoLess, less-after, last-seed, shut-seed, done-reaches}

-- The test `goes_on` taken apart: a visit that closes no span leads into the table, or the span closes at an exact seed
data GoesOn (R : Rules) (m : ℕ → Labels) (f k u : ℕ) (A : Table) (c l d n code : ℕ) : Type 0 where
  through : T (not (is_closing code)) → Onward R f c l d n code → after_load R c n l code ≤ R.limit → after_delay R c n l d code < A n (after_load R c n l code) → GoesOn R m f k u A c l d n code
  closes : T (is_closing code) → Arrives R c l n → T (exact_seed m k u code n) → InTime R f c l d n code → GoesOn R m f k u A c l d n code

module _ (R : Rules) (m : ℕ → Labels) (f k u : ℕ) (A : Table) (c l d n code : ℕ) where
  goes-on-view : T (goes_on R m f k u A c l d n code) → GoesOn R m f k u A c l d n code
  unfolding goes_on
  goes-on-view h = go (gate code)
    where
      arrives : Arrives R c l n
      arrives = record { link = search parts; fits = leb→le _ _ (search parts) }

      go : Gate code → GoesOn R m f k u A c l d n code
      go (Gate.none q) =
          let a = after_none R c n l d code q in
          let no_close = none_open code q in
          let t : T (may_stand R n no_gate && ltb (delay_at R c n l d) (A n (load_at R c n l))) = simp (eq-eqb code no_gate q) at (snd (R.linked c n && leb (load_at R c n l) R.limit) _ h) in
          through no_close (record { arrives = arrives; stands = rw q (search parts); in_time = λ e. absurd (T_not (is_closing code) no_close e) })
          (rw a.0 arrives.fits) (rw (a.0, a.1) (ltb→lt _ _ (search parts)))
      go (Gate.shuts q) =
          let t : T (exact_seed m k u code n && ltb (delay_at R c n l d + close_cost R n code (load_at R c n l)) (R.bound 0 f)) = simp (ne_eqb code no_gate (closing-some code q), is_true (is_closing code) q) at (snd (R.linked c n && leb (load_at R c n l) R.limit) _ h) in
          closes q arrives (search parts) (ltb→lt _ _ (search parts))
      go (Gate.buffer g p) =
          let a = after-buffer R c n l d code g p in
          let t : T (may_stand R n code && leb (load_of R code) R.limit && ltb (delay_at R c n l d + buffer_cost R code (load_at R c n l)) (A n (load_of R code))) = simp (ne_eqb code no_gate g, is_false (is_closing code) p) at (snd (R.linked c n && leb (load_at R c n l) R.limit) _ h) in
          through p (record { arrives = arrives; stands = search parts; in_time = λ e. absurd (T_not (is_closing code) p e) })
          (rw a.0 (leb→le _ _ (search parts))) (rw (a.0, a.1) (ltb→lt _ _ (search parts)))

  -- a visit that closes the span is labelled
  pub closes-known : T (is_closing code) → T (goes_on R m f k u A c l d n code) → T ((m code).known n)
  closes-known shut t = go (goes-on-view t)
    where
      go : GoesOn R m f k u A c l d n code → T ((m code).known n)
      go (through p x fits early) = absurd (T_not (is_closing code) p shut)
      go (closes q arrives seed time) = (exact-view m k u code n seed).known

  goes-on-test : GoesOn R m f k u A c l d n code → T (goes_on R m f k u A c l d n code)
  unfolding goes_on
  goes-on-test x = go x (gate code)
    where
      start : Arrives R c l n → T (R.linked c n && leb (load_at R c n l) R.limit)
      start a = both (R.linked c n) _ a.link (le→leb _ _ a.fits)

      go : GoesOn R m f k u A c l d n code → Gate code → T (goes_on R m f k u A c l d n code)
      go (through p o light h) (Gate.none q) =
          let a = after_none R c n l d code q in
          let s = start o.arrives in
          let stands : T (may_stand R n no_gate) = rw q at o.stands in
          let below = lt→ltb _ _ (rw (a.0, a.1) at h) in
          simp (eq-eqb code no_gate q) (search both)
      go (through p o light h) (Gate.shuts q) = absurd (T_not (is_closing code) p q)
      go (through p o light h) (Gate.buffer g r) =
          let a = after-buffer R c n l d code g r in
          let s = start o.arrives in
          let stands = o.stands in
          let fits = le→leb _ _ (rw a.0 at light) in
          let below = lt→ltb _ _ (rw (a.0, a.1) at h) in
          simp (ne_eqb code no_gate g, is_false (is_closing code) r) (search both)
      go (closes q arrives seed time) g =
          let s = start arrives in
          let t = lt→ltb _ _ time in
          simp (ne_eqb code no_gate (closing-some code q), is_true (is_closing code) q) (search both)

-- an ending within the least figures has just these
pub least-exact : {R : Rules} {f w s c l d : ℕ} → Least R f w s c l d → (vs : Route) → T (legal_from R c 0 f (stage l d) vs) → NotAfter (weigh R f vs) (length vs) w s → (weigh R f vs ≡ w) × (length vs ≡ s)
least-exact least vs e q = not-after-both q (least.least _ _ (record { route = vs; ending = e; within = not-after-refl _ _ }))

least-less : {R : Rules} {f w s c l d : ℕ} → Least R f w s c l d → NoLess R f w c l d
least-less {w = w} {s = s} least p q x = go (least.least p q x)
  where
    go : NotAfter w s p q → w ≤ p
    go (inl h) = omega arith
    go (inr h) = omega arith

-- with the least figures to go, a visit that leads to enough is viable
viable-cons : (R : Rules) (law : Lawful R) (f w u c l d n code v : ℕ) → Least R f w (suc u) c l d → Onward R f c l d n code → w ≡ shut_weight R f code + v → Done R (side_after f code) v u n (after_load R c n l code) (after_delay R c n l d code) → Viable R f w (suc u) c l d n code
viable-cons R law f w u c l d n code v least o e x = record { rest = x.route; is_legal = legal; weighs = exact.0; steps = exact.1 }
  where
    legal : T (legal_from R c 0 f (stage l d) (visit n code ∷ x.route))
    legal = cons R law f c l d n code o x.route x.ending

    exact : (weigh R f (visit n code ∷ x.route) ≡ w) × (length (visit n code ∷ x.route) ≡ suc u)
    exact = least-exact least (visit n code ∷ x.route) legal (rw (weigh-cons R f (visit n code) x.route, e) (within-cons (shut_weight R f code) x.within))

viable-last : (R : Rules) (law : Lawful R) (f w u c l d n code : ℕ) → R.weight f ≤ w → Least R f w (suc u) c l d → Final R f c l d n code → Viable R f w (suc u) c l d n code
viable-last R law f w u c l d n code room least x = record { rest = []; is_legal = legal; weighs = exact.0; steps = exact.1 }
  where
    legal : T (legal_from R c 0 f (stage l d) (visit n code ∷ []))
    legal = last-ending R law f c l d n code x

    one : weigh R f (visit n code ∷ []) ≡ R.weight f
    one = omega (arith, weigh-cons R f (visit n code) [], weigh-none R (side_after f code), weight-shut R f code (register-closing code x.is_register))

    early : {a : ℕ} → a ≡ R.weight f → (R.weight f ≡ w) ⊎ (R.weight f ≡ w → ⊥) → NotAfter a 1 w (suc u)
    early e (inl q) = inr (omega arith, omega arith)
    early e (inr q) = inl (omega (arith, q))

    exact : (weigh R f (visit n code ∷ []) ≡ w) × (length (visit n code ∷ []) ≡ suc u)
    exact = least-exact least (visit n code ∷ []) legal (early one (equal (R.weight f) w))

-- What a viable visit is: the last one, or one in between. A wire leads there, and its code is one of the nine.
module _ (R : Rules) (law : Lawful R) {f w s c l d n code : ℕ} (v : Viable R f w s c l d n code) where
  way_of : (P : Type 0) → (Final R f c l d n code → weigh R f (visit n code ∷ []) ≡ w → length (visit n code ∷ []) ≡ s → P) → ((rest : Route) → Onward R f c l d n code → T (legal_from R n 0 (side_after f code) (stage (after_load R c n l code) (after_delay R c n l d code)) rest) → weigh R f (visit n code ∷ rest) ≡ w → length (visit n code ∷ rest) ≡ s → P) → P
  way_of P a b = go v.rest (way R law f c l d (visit n code ∷ v.rest) v.is_legal) v.weighs v.steps
    where
      go : (rest : Route) → Way R f c l d (visit n code ∷ rest) → weigh R f (visit n code ∷ rest) ≡ w → length (visit n code ∷ rest) ≡ s → P
      go rest (Way.last x) weighs steps = a x weighs steps
      go rest (Way.on o r) weighs steps = b rest o r weighs steps

  pub viable-linked : T (R.linked c n)
  viable-linked = way_of (T (R.linked c n)) (λ x p q. x.arrives.link) (λ rest o r p q. o.arrives.link)

  pub viable-code : code ≤ fifo_code
  viable-code = way_of (code ≤ fifo_code) (λ x p q. omega (arith, x.is_register)) (λ rest o r p q. law.codes n code o.stands)

-- With the least figures to go, the visits that go on are the viable ones. Only the rows of the cells near by are read.
module _ (R : Rules) (law : Lawful R) {f k₀ s₀ : ℕ} {m : ℕ → Labels} (labels : Labelled R f k₀ s₀ m) (k u : ℕ) (A : Table) (c l d : ℕ) (near : (i : ℕ) → T (R.linked c i) → RepresentsRow A (Reaches R m f k u) i) (least : Least R f (R.weight f + k) (suc u) c l d) (n code : ℕ) where
  pub goes-on-viable : T (goes_on R m f k u A c l d n code) → Viable R f (R.weight f + k) (suc u) c l d n code
  goes-on-viable t = go (goes-on-view R m f k u A c l d n code t)
    where
      close : T (is_closing code) → Arrives R c l n → InTime R f c l d n code → After R f code k u n → Viable R f (R.weight f + k) (suc u) c l d n code
      close q arrives time (After.at_source a b e) =
          viable-last R law f (R.weight f + k) u c l d n code (omega arith) least (record { arrives = arrives; at_source = e; is_register = a; passed = b; in_time = time })
      close q arrives time (After.at_gate a may x) =
          let b = after-shut R c n l d code q in
          viable-cons R law f (R.weight f + k) u c l d n code k least
          (record { arrives = arrives; stands = may; in_time = λ e. time })
          (omega (arith, weight-shut R f code q))
          (rw (b.0, b.1) x)

      go : GoesOn R m f k u A c l d n code → Viable R f (R.weight f + k) (suc u) c l d n code
      go (through p o light h) =
          viable-cons R law f (R.weight f + k) u c l d n code (R.weight f + k) least o (omega (arith, weight-open R f code p))
          (rw (side-kept f code p) (reaches-done R law labels k u n _ _ ((near n o.arrives.link).sound _ _ h)))
      go (closes q arrives seed time) =
          let x = exact-view m k u code n seed in
          close q arrives time (after_more k u (inr (x.same, x.early)) (label-enough R law f k₀ s₀ m labels code n q x.known))

  pub viable-goes-on : k ≤ k₀ → Viable R f (R.weight f + k) (suc u) c l d n code → T (goes_on R m f k u A c l d n code)
  viable-goes-on h v =
      goes-on-test R m f k u A c l d n code
      (way_of R law v (GoesOn R m f k u A c l d n code) (λ x weighs steps. closes (register-closing code x.is_register) x.arrives (last-seed R law labels k u h x weighs) x.in_time) go)
    where
      go : (rest : Route) → Onward R f c l d n code → T (legal_from R n 0 (side_after f code) (stage (after_load R c n l code) (after_delay R c n l d code)) rest) → weigh R f (visit n code ∷ rest) ≡ R.weight f + k → length (visit n code ∷ rest) ≡ suc u → GoesOn R m f k u A c l d n code
      go rest o r weighs steps = by (decided (is_closing code))
        where
          by : T (is_closing code) ⊎ T (not (is_closing code)) → GoesOn R m f k u A c l d n code
          by (inl q) = closes q o.arrives (shut-seed R law labels k u rest h o r q weighs (omega arith) (least-less least)) (o.in_time q)
          by (inr p) =
              let same : side_after f code ≡ f = side-kept f code p in
              let heavy : weigh R (side_after f code) rest ≡ R.weight f + k = omega (arith, weigh-cons R f (visit n code) rest, weight-open R f code p) in
              through p o (light (ending-view R n 0 _ _ rest r))
              ((near n o.arrives.link).complete _ _
              (done-reaches R law labels u k n _ _ rest h (rw same at r) (rw same at heavy) (omega arith)
              (rw same at (less-after R law f c l d n code (R.weight f + k) (R.weight f + k) o (omega (arith, weight-open R f code p)) (least-less least)))))

-- some visit is viable
pub least-goes-on : (R : Rules) (law : Lawful R) (f w u c l d : ℕ) → Least R f w (suc u) c l d → Candidate R f w (suc u) c l d
unfolding legal_from
least-goes-on R law f w u c l d least = go least.enough.route least.enough.ending least.enough.within
  where
    go : (vs : Route) → T (legal_from R c 0 f (stage l d) vs) → NotAfter (weigh R f vs) (length vs) w (suc u) → Candidate R f w (suc u) c l d
    go [] e q = absurd e
    go (v ∷ vs) e q =
        let exact = least-exact least (v ∷ vs) e q in
        let x : Viable R f w (suc u) c l d v.cell v.code = record { rest = vs; is_legal = e; weighs = exact.0; steps = exact.1 } in
        record { cell = v.cell; code = v.code; linked = viable-linked R law x; small = viable-code R law x; viable = x }

-- the first visit that goes on is the first viable one
pub first-goes-on : (R : Rules) (law : Lawful R) {f k₀ s₀ : ℕ} {m : ℕ → Labels} → Labelled R f k₀ s₀ m → (k u : ℕ) → k ≤ k₀ → (A : Table) (c l d : ℕ) → ((i : ℕ) → T (R.linked c i) → RepresentsRow A (Reaches R m f k u) i) → Least R f (R.weight f + k) (suc u) c l d → (n code : ℕ) → T (goes_on R m f k u A c l d n code) → ((p a : ℕ) → T (R.linked c p) → a ≤ fifo_code → Before p a n code → T (goes_on R m f k u A c l d p a) → ⊥) → FirstViable R f (R.weight f + k) (suc u) c l d n code
first-goes-on R law labels k u h A c l d near least n code t first =
    record {
      viable = goes-on-viable R law labels k u A c l d near least n code t;
      is_first = λ p a b v. first p a (viable-linked R law v) (viable-code R law v) b (viable-goes-on R law labels k u A c l d near least p a h v);
    }

-- an ending before one that starts with the first viable visit starts with it too
first_rest : {R : Rules} {f w s c l d n code : ℕ} → FirstViable R f w s c l d n code → (x : Visit) (ws vs : Route) → T (legal_from R c 0 f (stage l d) (x ∷ ws)) → weigh R f (x ∷ ws) ≡ w → length (x ∷ ws) ≡ s → T (precedes (written (x ∷ ws)) (written (visit n code ∷ vs))) → (x ≡ visit n code) × T (precedes (written ws) (written vs))
first_rest {n = n} {code = code} y x ws vs e weighs steps h = go (earlier-view x (visit n code) ws vs h)
  where
    go : Earlier x ws (visit n code) vs → (x ≡ visit n code) × T (precedes (written ws) (written vs))
    go (Earlier.by-cell b) = absurd (y.is_first x.cell x.code (inl b) (record { rest = ws; is_legal = e; weighs = weighs; steps = steps }))
    go (Earlier.by_code a b) = absurd (y.is_first x.cell x.code (inr (a, b)) (record { rest = ws; is_legal = e; weighs = weighs; steps = steps }))
    go (Earlier.by-rest a b) = (a, b)

nothing-before : (ws : Route) → T (precedes (written ws) (written [])) → ⊥
unfolding written precedes
nothing-before [] h = h
nothing-before (w ∷ ws) h = h

-- A close after which nothing is to go is the last visit.
pub first-last : (R : Rules) (law : Lawful R) (f k u c l d n code : ℕ) → FirstViable R f (R.weight f + k) (suc u) c l d n code → T (is_closing code) → k ≡ 0 → (u ≡ 0) × FirstEnding R f (R.weight f + k) (suc u) c l d (visit n code ∷ [])
first-last R law f k u c l d n code x shut none = go x.viable.rest (whole x.viable.rest x.viable.is_legal x.viable.weighs) x.viable.is_legal x.viable.weighs x.viable.steps
  where
    whole : (rest : Route) → T (legal_from R c 0 f (stage l d) (visit n code ∷ rest)) → weigh R f (visit n code ∷ rest) ≡ R.weight f + k → rest ≡ []
    whole rest e weighs = by (way R law f c l d (visit n code ∷ rest) e) weighs
      where
        by : {rest : Route} → Way R f c l d (visit n code ∷ rest) → weigh R f (visit n code ∷ rest) ≡ R.weight f + k → rest ≡ []
        by (Way.last y) q = refl
        by (Way.on {vs = vs} o r) q =
            absurd (omega (arith, weigh-cons R f (visit n code) vs, weight-shut R f code shut, ending-weight (ending-view R n 0 _ _ vs r), law.heavy (side_after f code)))

    go : (rest : Route) → rest ≡ [] → T (legal_from R c 0 f (stage l d) (visit n code ∷ rest)) → weigh R f (visit n code ∷ rest) ≡ R.weight f + k → length (visit n code ∷ rest) ≡ suc u → (u ≡ 0) × FirstEnding R f (R.weight f + k) (suc u) c l d (visit n code ∷ [])
    go (v ∷ vs) z e weighs steps = let q : ◌≡◌ {A = ℕ} 0 1 = cc in absurd (omega arith)
    go [] z e weighs steps =
        (omega arith, record { is_legal = e; weighs = weighs; steps = steps; is_first = first })
      where
        first : (ws : Route) → T (legal_from R c 0 f (stage l d) ws) → weigh R f ws ≡ R.weight f + k → length ws ≡ suc u → T (precedes (written ws) (written (visit n code ∷ []))) → ⊥
        first [] e p q h = omega arith
        first (y ∷ ws) e p q h = nothing-before ws (first_rest x y ws [] e p q h).1

-- A visit in between: what is to go after it, and how endings go on.
module _ (R : Rules) (law : Lawful R) (f k u c l d n code : ℕ) (some : T (is_closing code) → 0 < k) where
  abbrev g : ℕ
  g = side_after f code

  abbrev j : ℕ
  j = after_weight R f k code

  -- after a visit that begins a legal ending
  record Between (rest : Route) : Type 0 where
    pub onward : Onward R f c l d n code
    pub is_legal : T (legal_from R n 0 (side_after f code) (stage (after_load R c n l code) (after_delay R c n l d code)) rest)
    pub room : T (is_closing code) → R.weight (side_after f code) ≤ k
    pub weighs : weigh R (side_after f code) rest ≡ R.weight (side_after f code) + after_weight R f k code
    pub steps : length rest ≡ u

  between : (rest : Route) → T (legal_from R c 0 f (stage l d) (visit n code ∷ rest)) → weigh R f (visit n code ∷ rest) ≡ R.weight f + k → length (visit n code ∷ rest) ≡ suc u → Between rest
  between rest e weighs steps = go rest (way R law f c l d (visit n code ∷ rest) e) weighs steps
    where
      go : (rest : Route) → Way R f c l d (visit n code ∷ rest) → weigh R f (visit n code ∷ rest) ≡ R.weight f + k → length (visit n code ∷ rest) ≡ suc u → Between rest
      go rest (Way.last x) weighs steps =
          let shut = register-closing code x.is_register in
          absurd (omega (arith, some shut, weigh-cons R f (visit n code) [], weigh-none R (side_after f code), weight-shut R f code shut))
      go rest (Way.on o r) weighs steps = record { onward = o; is_legal = r; room = room; weighs = omega (arith, weigh-cons R f (visit n code) rest, after-weight R f k code room); steps = omega arith }
        where
          room : T (is_closing code) → R.weight (side_after f code) ≤ k
          room shut = omega (arith, weigh-cons R f (visit n code) rest, weight-shut R f code shut, ending-weight (ending-view R n 0 _ _ rest r))

  -- After a viable visit the figures to go are the least again.
  pub least-after : Least R f (R.weight f + k) (suc u) c l d → Viable R f (R.weight f + k) (suc u) c l d n code → Least R (side_after f code) (R.weight (side_after f code) + after_weight R f k code) u n (after_load R c n l code) (after_delay R c n l d code)
  least-after least v =
      record {
        enough = record { route = v.rest; ending = b.is_legal; within = inr (b.weighs, omega (arith, b.steps)) };
        least = λ p q x. go (least.least (shut_weight R f code + p) (suc q) (done-cons R law f c l d n code p q b.onward x));
      }
    where
      b : Between v.rest
      b = between v.rest v.is_legal v.weighs v.steps

      go : {p q : ℕ} → NotAfter (R.weight f + k) (suc u) (shut_weight R f code + p) (suc q) → NotAfter (R.weight g + j) u p q
      go (inl h) = inl (omega (arith, after-weight R f k code b.room))
      go (inr h) = inr (omega (arith, after-weight R f k code b.room), omega arith)

  -- and the first ending after the first viable visit makes the first ending
  pub first_more : FirstViable R f (R.weight f + k) (suc u) c l d n code → (vs : Route) → FirstEnding R (side_after f code) (R.weight (side_after f code) + after_weight R f k code) u n (after_load R c n l code) (after_delay R c n l d code) vs → FirstEnding R f (R.weight f + k) (suc u) c l d (visit n code ∷ vs)
  first_more x vs rest =
      record {
        is_legal = cons R law f c l d n code b.onward vs rest.is_legal;
        weighs = omega (arith, weigh-cons R f (visit n code) vs, after-weight R f k code b.room, rest.weighs);
        steps = omega (arith, rest.steps);
        is_first = first;
      }
    where
      b : Between x.viable.rest
      b = between x.viable.rest x.viable.is_legal x.viable.weighs x.viable.steps

      first : (ws : Route) → T (legal_from R c 0 f (stage l d) ws) → weigh R f ws ≡ R.weight f + k → length ws ≡ suc u → T (precedes (written ws) (written (visit n code ∷ vs))) → ⊥
      first [] e weighs steps h = omega arith
      first (w ∷ ws) e weighs steps h =
          let same = first_rest x w ws vs e weighs steps h in
          let b = between ws (rw same.0 at e) (rw same.0 at weighs) steps in
          rest.is_first ws b.is_legal b.weighs b.steps same.1
