-- A least ending is short. In a span it never comes to a cell twice with the same load: the rest after the second time would serve after the first, with fewer steps. And it never closes at a cell twice with the same gate on the same side. So a span has at most as many steps as there are cells and loads, and a side at most one span more than there are cells.
use Prim.Native.Nat.{ℕ, zero, suc, ◌+◌, ◌-◌, ◌*◌, ◌≤◌, ◌<◌}
use mathlib.Core.Path.{◌≡◌, refl, sym}
use mathlib.Core.Bool.{Bool, false, not, ◌||◌, ◌&&◌, cond}
use mathlib.Core.List.{[], ◌∷◌}
use mathlib.Core.Logic.{◌⊎◌, inl, inr}
use native.Mathlib.Omega.{arith}
use native.Mathlib.Nat.{mul-le-mul, mul-suc}
use borrow.Author.Tests.{eq-eqb}
use lib.Dec.{T, T_not, eqb, eqb→eq}
use lib.ListN.{length}
use Rattle.rules.specs.Rules.{Rules, register_code, fifo_code, is_closing, side_after}
use Rattle.rules.specs.Legal.{Route, legal_from}
use Rattle.rules.specs.Ranking.{weigh}
use Rattle.plan.proofs.Truth.{decided, or_left, or_right, or_cases, eq→eqb, split, is_true, fst, is_false, snd}
use Rattle.rules.proofs.Dominance.{dominance}
use Rattle.rules.proofs.View.{ending-view, closing-codes, register-closing, side_same, side-kept, side-fifo}
use Rattle.rules.proofs.Figures.{weigh-none, ending-weight}
use Rattle.budget.specs.Table.{Table, budget_sum, delay_at}
use Rattle.budget.specs.Done.{stage, NotAfter, Done, Least, Lawful}
use Rattle.budget.specs.Emission.{after_load, after_delay, after_weight, visit, Viable, Candidate}
use Rattle.budget.proofs.Done.{done-steps, done-light, done-weight, done-side}
use Rattle.budget.proofs.Visit.{Gate, gate, weight-shut, weigh-cons, weight-after-open, after_none, after-shut, after-buffer, after-weight, Way, way}
use Rattle.budget.proofs.Emission.{least-exact, least-goes-on, least-after}
use Rattle.budget.proofs.Sums.{total-grows, total-most, count, count_most, count-grows}

-- with no more delay as much can be done
done-sooner : (R : Rules) (f w s c l d e : ℕ) → e ≤ d → Done R f w s c l d → Done R f w s c l e
done-sooner R f w s c l d e h x =
    record { route = x.route; ending = dominance R c 0 f (stage l e) (stage l d) (record { load = refl; delay = h }) x.route x.ending; within = x.within }

-- the least figures of a state with no more delay are no later
least-sooner : (R : Rules) (f w s v t c l d e : ℕ) → e ≤ d → Least R f w s c l d → Least R f v t c l e → NotAfter v t w s
least-sooner R f w s v t c l d e h x y = y.least w s (done-sooner R f w s c l d e h x.enough)

-- a visit without a close lets the delay grow
delay-grows : (R : Rules) (c n l d code : ℕ) → T (not (is_closing code)) → d ≤ after_delay R c n l d code
unfolding delay_at
delay-grows R c n l d code p = go (gate code)
  where
    go : Gate code → d ≤ after_delay R c n l d code
    go (Gate.none q) = omega (arith, (after_none R c n l d code q).1)
    go (Gate.shuts q) = absurd (T_not (is_closing code) p q)
    go (Gate.buffer g q) = omega (arith, (after-buffer R c n l d code g q).1)

-- the cells and loads of a span, marked by 1
abbrev marked : Table → ℕ → ℕ → Table
marked U c l p q = cond (eqb p c && eqb q l) 1 (U p q)

module _ (U : Table) (c l : ℕ) where
  marked-least : (p q : ℕ) → U p q ≤ 1 → U p q ≤ marked U c l p q
  marked-least p q h = go (decided (eqb p c && eqb q l))
    where
      go : T (eqb p c && eqb q l) ⊎ T (not (eqb p c && eqb q l)) → U p q ≤ marked U c l p q
      go (inl t) = rw (is_true (eqb p c && eqb q l) t) h
      go (inr t) = rw (is_false (eqb p c && eqb q l) t) (omega arith)

  marked-most : (p q : ℕ) → U p q ≤ 1 → marked U c l p q ≤ 1
  marked-most p q h = go (decided (eqb p c && eqb q l))
    where
      go : T (eqb p c && eqb q l) ⊎ T (not (eqb p c && eqb q l)) → marked U c l p q ≤ 1
      go (inl t) = rw (is_true (eqb p c && eqb q l) t) (omega arith)
      go (inr t) = rw (is_false (eqb p c && eqb q l) t) h

  marked-now : marked U c l c l ≡ 1
  marked-now = simp (eq-eqb c c refl, eq-eqb l l refl)

  marked-cases : (p q : ℕ) → 0 < marked U c l p q → ((p ≡ c) × (q ≡ l)) ⊎ (0 < U p q)
  marked-cases p q h = go (decided (eqb p c && eqb q l))
    where
      go : T (eqb p c && eqb q l) ⊎ T (not (eqb p c && eqb q l)) → ((p ≡ c) × (q ≡ l)) ⊎ (0 < U p q)
      go (inl t) = inl (eqb→eq _ _ (fst (eqb p c) _ t), eqb→eq _ _ (snd (eqb p c) _ t))
      go (inr t) = inr (rw (is_false (eqb p c && eqb q l) t) at h)

-- after a close that is not the last visit, a span of the next side is to go
rest-heavy : (R : Rules) (law : Lawful R) (f k u c l d n code : ℕ) (rest : Route) → T (legal_from R c 0 f (stage l d) (visit n code ∷ rest)) → weigh R f (visit n code ∷ rest) ≡ R.weight f + k → T (is_closing code) → 0 < k → R.weight (side_after f code) ≤ k
rest-heavy R law f k u c l d n code rest e weighs q some = go (way R law f c l d (visit n code ∷ rest) e) weighs
  where
    go : {rest : Route} → Way R f c l d (visit n code ∷ rest) → weigh R f (visit n code ∷ rest) ≡ R.weight f + k → R.weight (side_after f code) ≤ k
    go (Way.last y) weighs = absurd (omega (arith, weigh-cons R f (visit n code) [], weigh-none R (side_after f code), weight-shut R f code q))
    go (Way.on {vs = vs} o r) weighs = omega (arith, weigh-cons R f (visit n code) vs, weight-shut R f code q, ending-weight (ending-view R n 0 _ _ vs r))

-- the least weight is at least a span's
least-heavy : (R : Rules) (f w s c l d : ℕ) → Least R f w s c l d → R.weight f ≤ w
least-heavy R f w s c l d least =
    omega (arith, done-weight least.enough, (least-exact least least.enough.route least.enough.ending least.enough.within).0)

-- what the current span ends in, with t steps after it: the source, or a gate with the rest on its side
data SpanEnd (R : Rules) (f w t : ℕ) : Type 0 where
  ended : t ≡ 0 → w ≡ R.weight f → SpanEnd R f w t
  goes : (n code v : ℕ) → T (is_closing code) → w ≡ R.weight f + v → Least R (side_after f code) v t n (R.fresh code).load (R.fresh code).delay → SpanEnd R f w t

-- the most steps of a span
abbrev span_most : Rules → ℕ
span_most R = R.cell_count * (suc R.limit * 1)

-- the most steps, and the most weight, from side f on, with `more` sides after it
unfoldable pub most_steps : Rules → ℕ → ℕ
most_steps R zero = span_most R * suc R.cell_count
most_steps R (suc more) = span_most R * suc R.cell_count + most_steps R more

unfoldable pub most_weight : Rules → ℕ → ℕ → ℕ
most_weight R f zero = R.weight f * suc R.cell_count
most_weight R f (suc more) = R.weight f * suc R.cell_count + most_weight R (suc f) more

module _ (R : Rules) (law : Lawful R) (from : (c n : ℕ) → T (R.linked c n) → c < R.cell_count) where
  record SpanOf (f w s used : ℕ) : Type 0 where
    pub left : ℕ
    pub fewer : left < s
    pub short : s + used ≤ span_most R + left
    pub end : SpanEnd R f w left

  -- a marked state came before, with no more delay and more steps to go
  record Seen (f w s c l d : ℕ) : Type 0 where
    pub delay : ℕ
    pub steps : ℕ
    pub sooner : delay ≤ d
    pub more : s < steps
    pub least : Least R f w steps c l delay

  span-end : (s f k c l d : ℕ) (U : Table) → ((p q : ℕ) → U p q ≤ 1) → ((p q : ℕ) → 0 < U p q → Seen f (R.weight f + k) s p q d) → Least R f (R.weight f + k) s c l d → SpanOf f (R.weight f + k) s (budget_sum R U)
  span-end zero f k c l d U small seen least =
      absurd (omega (arith, done-steps least.enough, (least-exact least least.enough.route least.enough.ending least.enough.within).1))
  span-end (suc u) f k c l d U small seen least =
      go (least-goes-on R law f (R.weight f + k) u c l d least) (λ n a b. span-end u f k n a b (marked U c l) (λ p q. marked-most U c l p q (small p q)))
    where
      fresh : U c l ≡ 0
      fresh = by (split (U c l) 0)
        where
          late : {t : ℕ} → suc u < t → NotAfter (R.weight f + k) t (R.weight f + k) (suc u) → ⊥
          late h (inl q) = omega arith
          late h (inr q) = omega arith

          by : (U c l ≤ 0) ⊎ (0 < U c l) → U c l ≡ 0
          by (inl h) = omega arith
          by (inr h) =
              let x = seen c l h in
              absurd (late x.more (least-sooner R f (R.weight f + k) (suc u) (R.weight f + k) x.steps c l d x.delay x.sooner least x.least))

      go : Candidate R f (R.weight f + k) (suc u) c l d → ((n a b : ℕ) → ((p q : ℕ) → 0 < marked U c l p q → Seen f (R.weight f + k) u p q b) → Least R f (R.weight f + k) u n a b → SpanOf f (R.weight f + k) u (budget_sum R (marked U c l))) → SpanOf f (R.weight f + k) (suc u) (budget_sum R U)
      go x rest = by (way R law f c l d (visit n code ∷ v.rest) v.is_legal) v.weighs v.steps
        where
          n : ℕ
          n = x.cell

          code : ℕ
          code = x.code

          v : Viable R f (R.weight f + k) (suc u) c l d n code
          v = x.viable

          grows : budget_sum R U < budget_sum R (marked U c l)
          grows =
              total-grows R U (marked U c l) (λ p q. marked-least U c l p q (small p q)) c l (from c n x.linked) (done-light least.enough)
              (omega (arith, fresh, marked-now U c l))

          full : budget_sum R (marked U c l) ≤ span_most R
          full = total-most R (marked U c l) 1 (λ p q. marked-most U c l p q (small p q))

          -- the first visit is in between, and closes the span or does not
          between : (T (is_closing code) → 0 < k) → SpanOf f (R.weight f + k) (suc u) (budget_sum R U)
          between some = pick (decided (is_closing code))
            where
              next : Least R (side_after f code) (R.weight (side_after f code) + after_weight R f k code) u n (after_load R c n l code) (after_delay R c n l d code)
              next = least-after R law f k u c l d n code some least v

              pick : T (is_closing code) ⊎ T (not (is_closing code)) → SpanOf f (R.weight f + k) (suc u) (budget_sum R U)
              pick (inl q) =
                  let a = after-shut R c n l d code q in
                  let y : Least R (side_after f code) (R.weight (side_after f code) + after_weight R f k code) u n (R.fresh code).load (R.fresh code).delay = rw (a.0, a.1) at next in
                  let w : R.weight (side_after f code) ≤ k = heavy q in
                  record {
                    left = u;
                    fewer = omega arith;
                    short = omega (arith, grows, full);
                    end = SpanEnd.goes n code (R.weight (side_after f code) + after_weight R f k code) q (omega (arith, after-weight R f k code (λ z. w), weight-shut R f code q)) y;
                  }
                where
                  heavy : T (is_closing code) → R.weight (side_after f code) ≤ k
                  heavy q = rest-heavy R law f k u c l d n code v.rest v.is_legal v.weighs q (some q)
              pick (inr open') =
                  let same : side_after f code ≡ f = side-kept f code open' in
                  let stay : R.weight (side_after f code) + after_weight R f k code ≡ R.weight f + k = rw same (omega (arith, weight-after-open R f k code open')) in
                  let y : Least R f (R.weight f + k) u n (after_load R c n l code) (after_delay R c n l d code) = rw (stay, same) at next in
                  let z = rest n _ _ before y in
                  record { left = z.left; fewer = omega (arith, z.fewer); short = omega (arith, grows, z.short); end = z.end }
                where
                  before : (p q : ℕ) → 0 < marked U c l p q → Seen f (R.weight f + k) u p q (after_delay R c n l d code)
                  before p q h = old (marked-cases U c l p q h)
                    where
                      old : ((p ≡ c) × (q ≡ l)) ⊎ (0 < U p q) → Seen f (R.weight f + k) u p q (after_delay R c n l d code)
                      old (inl e) = record { delay = d; steps = suc u; sooner = delay-grows R c n l d code open'; more = omega arith; least = rw (e.0, e.1) least }
                      old (inr h) =
                          let y = seen p q h in
                          record { delay = y.delay; steps = y.steps; sooner = omega (arith, y.sooner, delay-grows R c n l d code open'); more = omega (arith, y.more); least = y.least }

          by : {rest : Route} → Way R f c l d (visit n code ∷ rest) → weigh R f (visit n code ∷ rest) ≡ R.weight f + k → length (visit n code ∷ rest) ≡ suc u → SpanOf f (R.weight f + k) (suc u) (budget_sum R U)
          by (Way.last y) weighs steps =
              let shut = register-closing code y.is_register in
              record {
                left = 0;
                fewer = omega arith;
                short = omega (arith, grows, full);
                end = SpanEnd.ended refl (omega (arith, weighs, weigh-cons R f (visit n code) [], weigh-none R (side_after f code), weight-shut R f code shut));
              }
          by (Way.on {vs = vs} o r) weighs steps = between (λ q. omega (arith, weighs, weigh-cons R f (visit n code) vs, weight-shut R f code q, ending-weight (ending-view R n 0 _ _ vs r), law.heavy (side_after f code)))

  -- the cells with a register on side f that the ending has passed
  record Passed (f s n : ℕ) : Type 0 where
    pub weight : ℕ
    pub steps : ℕ
    pub more : s ≤ steps
    pub in_plan : n < R.cell_count
    pub least : Least R f weight steps n (R.fresh register_code).load (R.fresh register_code).delay

  record Short (f more w s used : ℕ) : Type 0 where
    pub steps : s + span_most R * used ≤ most_steps R more
    pub weight : w + R.weight f * used ≤ most_weight R f more

  -- one cell more
  joined : (ℕ → Bool) → ℕ → ℕ → Bool
  joined used n c = eqb c n || used c

  least-once : (f w s v t n l d : ℕ) → Least R f w s n l d → Least R f v t n l d → s ≡ t
  least-once f w s v t n l d x y = go (x.least v t y.enough) (y.least w s x.enough)
    where
      go : NotAfter w s v t → NotAfter v t w s → s ≡ t
      go (inl a) (inl b) = absurd (omega arith)
      go (inl a) (inr b) = absurd (omega arith)
      go (inr a) (inl b) = absurd (omega arith)
      go (inr a) (inr b) = omega arith

  pub done-in-plan : (f w s c l d : ℕ) → Done R f w s c l d → c < R.cell_count
  done-in-plan f w s c l d x = go (way R law f c l d x.route x.ending)
    where
      go : {vs : Route} → Way R f c l d vs → c < R.cell_count
      go (Way.last {v = v} y) = from c v.cell y.arrives.link
      go (Way.on {v = v} o r) = from c v.cell o.arrives.link

  -- all that a side has, less what is used
  room : (x a b : ℕ) → a ≤ R.cell_count → b ≤ x → b + x * a ≤ x * suc R.cell_count
  room x a b h k =
      let same : x ≤ x = omega arith in
      omega (arith, mul-suc x R.cell_count, mul-le-mul {n₂ = x} {m₂ = R.cell_count} same h)

  -- one more is used
  shift : (x a b y z : ℕ) → a < b → y + x * b ≤ z → x + y + x * a ≤ z
  shift x a b y z h k =
      let same : x ≤ x = omega arith in
      let more : suc a ≤ b = omega arith in
      omega (arith, mul-suc x a, mul-le-mul {n₂ = x} {m₂ = b} same more)

  -- Proof, by induction on the steps: the span ends at the source, at a register on a cell that is not used yet, or at the FIFO; then a span of the same side, or of the next, is to go. Qed.
  side-short : (fuel s f more k c l d : ℕ) → s < fuel → f + more ≡ R.fifos → (used : ℕ → Bool) → ((n : ℕ) → T (used n) → Passed f s n) → Least R f (R.weight f + k) s c l d → Short f more (R.weight f + k) s (count R.cell_count used)
  unfolding most_steps most_weight joined
  side-short zero s f more k c l d h sides used passed least = absurd (omega arith)
  side-short (suc fuel) s f more k c l d h sides used passed least =
      go x.end x.fewer x.short (λ g more k n l d. side-short fuel x.left g more k n l d)
    where
      x : SpanOf f (R.weight f + k) s (budget_sum R (λ p q. 0))
      x = span-end s f k c l d (λ p q. 0) (λ p q. omega arith) (λ p q z. absurd (omega arith)) least

      few : count R.cell_count used ≤ R.cell_count
      few = count_most R.cell_count used

      go : {t : ℕ} → SpanEnd R f (R.weight f + k) t → t < s → s + budget_sum R (λ p q. 0) ≤ span_most R + t → ((g more k n l d : ℕ) → t < fuel → g + more ≡ R.fifos → (used : ℕ → Bool) → ((n : ℕ) → T (used n) → Passed g t n) → Least R g (R.weight g + k) t n l d → Short g more (R.weight g + k) t (count R.cell_count used)) → Short f more (R.weight f + k) s (count R.cell_count used)
      go {t} (SpanEnd.ended z w) fewer short rest = last more
        where
          last : (more : ℕ) → Short f more (R.weight f + k) s (count R.cell_count used)
          last zero =
              record { steps = room (span_most R) _ s few (omega arith); weight = room (R.weight f) _ (R.weight f + k) few (omega arith) }
          last (suc more) =
              record {
                steps = omega (arith, room (span_most R) (count R.cell_count used) s few (omega arith));
                weight = omega (arith, room (R.weight f) (count R.cell_count used) (R.weight f + k) few (omega arith));
              }
      go {t} (SpanEnd.goes n code v shut w y) fewer short rest = by (closing-codes code shut)
        where
          heavy : {g : ℕ} → side_after f code ≡ g → R.weight g ≤ v
          heavy e = rw e at (least-heavy R (side_after f code) v t n _ _ y)

          by : (code ≡ register_code) ⊎ (code ≡ fifo_code) → Short f more (R.weight f + k) s (count R.cell_count used)
          by (inl q) =
              let same : side_after f code ≡ f = side_same f code (λ z. omega arith) in
              let at : Least R f v t n (R.fresh register_code).load (R.fresh register_code).delay = rw (same, q) at y in
              let split-up : R.weight f + (v - R.weight f) ≡ v = omega (arith, heavy same) in
              let more-used : count R.cell_count used < count R.cell_count (joined used n) = count-grows R.cell_count used (joined used n) (λ c. or_right (eqb c n) (used c)) n (done-in-plan f v t n _ _ at.enough) (λ z. new at z) (or_left (eqb n n) (used n) (eq→eqb n n refl)) in
              let again : Least R f (R.weight f + (v - R.weight f)) t n (R.fresh register_code).load (R.fresh register_code).delay = rw split-up at in
              let z = rest f more (v - R.weight f) n _ _ (omega arith) sides (joined used n) (λ c u. old at c (or_cases (eqb c n) (used c) u)) again in
              record {
                steps = omega (arith, shift (span_most R) _ _ t _ more-used z.steps);
                weight = omega (arith, shift (R.weight f) _ _ (R.weight f + (v - R.weight f)) _ more-used z.weight);
              }
            where
              new : Least R f v t n (R.fresh register_code).load (R.fresh register_code).delay → T (used n) → ⊥
              new at u = let a = passed n u in omega (arith, a.more, least-once f a.weight a.steps v t n _ _ a.least at)

              old : Least R f v t n (R.fresh register_code).load (R.fresh register_code).delay → (c : ℕ) → T (eqb c n) ⊎ T (used c) → Passed f t c
              old at c (inl e) =
                  let same : n ≡ c = sym (eqb→eq c n e) in
                  record { weight = v; steps = t; more = omega arith; in_plan = rw same at (done-in-plan f v t n _ _ at.enough); least = rw same at at }
              old at c (inr u) = let a = passed c u in record { weight = a.weight; steps = a.steps; more = omega (arith, a.more); in_plan = a.in_plan; least = a.least }
          by (inr q) = across more sides
            where
              next : side_after f code ≡ suc f
              next = side-fifo f code q

              across : (more : ℕ) → f + more ≡ R.fifos → Short f more (R.weight f + k) s (count R.cell_count used)
              across zero e =
                  absurd (omega (arith, next, done-side y.enough))
              across (suc more) e =
                  let split-up : R.weight (suc f) + (v - R.weight (suc f)) ≡ v = omega (arith, heavy next) in
                  let at : Least R (suc f) (R.weight (suc f) + (v - R.weight (suc f))) t n (R.fresh code).load (R.fresh code).delay = rw split-up (rw next at y) in
                  let z = rest (suc f) more (v - R.weight (suc f)) n _ _ (omega arith) (omega arith) (λ c. false) (λ c u. absurd u) at in
                  let a : s + span_most R * count R.cell_count used ≤ span_most R * suc R.cell_count + t = omega (arith, room (span_most R) (count R.cell_count used) (span_most R) few (omega arith)) in
                  let b : R.weight f + R.weight f * count R.cell_count used ≤ R.weight f * suc R.cell_count = room (R.weight f) (count R.cell_count used) (R.weight f) few (omega arith) in
                  record { steps = omega (arith, z.steps); weight = omega (arith, z.weight) }

  -- from the sink
  -- on a side with `more` sides after it
  pub side-least-short : (f more : ℕ) → f + more ≡ R.fifos → (k s c l d : ℕ) → Least R f (R.weight f + k) s c l d → (s ≤ most_steps R more) × (R.weight f + k ≤ most_weight R f more)
  side-least-short f more sides k s c l d least =
      let z = side-short (suc s) s f more k c l d (omega arith) sides (λ c. false) (λ n u. absurd u) least in
      (omega (arith, z.steps), omega (arith, z.weight))

  pub least-short : (k s c l d : ℕ) → Least R 0 (R.weight 0 + k) s c l d → (s ≤ most_steps R R.fifos) × (R.weight 0 + k ≤ most_weight R 0 R.fifos)
  least-short = side-least-short 0 R.fifos (omega arith)
