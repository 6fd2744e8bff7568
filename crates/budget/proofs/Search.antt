-- The search of one side: labels give the seeds; a layer goes from (k, s) to (k, s + 1); after a layer that changes nothing the table stays right up to the next label, and without one for good.
use Prim.Native.Nat.{ℕ, zero, suc, ◌+◌, ◌≤◌, ◌<◌}
use mathlib.Core.Path.{◌≡◌, refl, sym, ◌∙◌, subst}
use mathlib.Core.Bool.{not, ◌&&◌, ◌||◌}
use mathlib.Core.Logic.{◌⊎◌, inl, inr}
use native.Mathlib.Omega.{arith}
use lib.Dec.{T, eqb, leb, ltb, leb→le, le→leb, ltb→lt, lt→ltb, eqb→eq, T_not}
use lib.ListN.{length}
use Rattle.rules.specs.Rules.{Stage, Rules, register_code, fifo_code, is_closing, side_after}
use Rattle.rules.specs.Legal.{Visit, Route, arrive, buffered, closing}
use Rattle.rules.specs.Ranking.{weigh}
use Rattle.plan.proofs.Truth.{both, fst, snd, or_left, or_right, or_cases, eq→eqb, split, three-way, decided}
use Rattle.rules.proofs.View.{ClosingVisit, Ending, ending-test, closing-codes, register-closing, side_same, none_open}
use Rattle.rules.proofs.Figures.{weigh-closed, weigh-kept}
use Rattle.budget.specs.Table.{Table, Represents, Step, load_at, delay_at, buffer_cost, load_of, close_cost}
use Rattle.budget.specs.Done.{NotAfter, Open, After, Labels, Covers, Labelled, Lawful, seed_at}
use Rattle.budget.specs.Search.{Next, Relabelled}
use Rattle.budget.proofs.Layer.{layer-represents}
use Rattle.budget.proofs.Codes.{open-buffer}
use Rattle.budget.proofs.Done.{after_more, layer-done, any-span, not-after-trans, not-after-refl}

-- what a seed by the labels is

pub record Arrived (m : Labels) (k s n : ℕ) : Type 0 where
  pub known : T (m.known n)
  pub early : NotAfter (m.weight n) (m.steps n) k s

pub seed-view : (m : ℕ → Labels) (k s code n : ℕ) → T (seed_at m k s code n) → Arrived (m code) k s n
unfolding seed_at
seed-view m k s code n t =
    record { known = fst ((m code).known n) _ t; early = go (or_cases (ltb ((m code).weight n) k) _ (snd ((m code).known n) _ t)) }
  where
    go : T (ltb ((m code).weight n) k) ⊎ T (eqb ((m code).weight n) k && leb ((m code).steps n) s) → NotAfter ((m code).weight n) ((m code).steps n) k s
    go (inl q) = inl (ltb→lt _ _ q)
    go (inr q) = inr (eqb→eq _ _ (fst (eqb ((m code).weight n) k) _ q), leb→le _ _ (snd (eqb ((m code).weight n) k) _ q))

pub seed-test : (m : ℕ → Labels) (k s code n : ℕ) → Arrived (m code) k s n → T (seed_at m k s code n)
unfolding seed_at
seed-test m k s code n a = both ((m code).known n) _ a.known (go a.early)
  where
    go : NotAfter ((m code).weight n) ((m code).steps n) k s → T (ltb ((m code).weight n) k || (eqb ((m code).weight n) k && leb ((m code).steps n) s))
    go (inl h) = or_left (ltb ((m code).weight n) k) _ (lt→ltb _ _ h)
    go (inr h) = or_right (ltb ((m code).weight n) k) _ (both (eqb ((m code).weight n) k) _ (eq→eqb _ _ h.0) (le→leb _ _ h.1))

-- two tables equal at each point represent the same
pub same-table : {A B : Table} (X : ℕ → ℕ → ℕ → Type 0) → ((c l : ℕ) → B c l ≡ A c l) → Represents A X → Represents B X
same-table {A} {B} X e rep =
    record {
      sound = λ c l d h. rep.sound c l d (omega (arith, e c l));
      complete = λ c l d x. omega (arith, e c l, rep.complete c l d x);
    }

-- what is not within (w, s) but within (w, s + 1) is not before (w, s + 1)
pub not-before : {w s k t : ℕ} → (NotAfter k t w s → ⊥) → NotAfter w (suc s) k t
not-before {w} {s} {k} {t} f = go (three-way w k) (split (suc s) t)
  where
    go : (w ≡ k) ⊎ ((w < k) ⊎ (k < w)) → (suc s ≤ t) ⊎ (t < suc s) → NotAfter w (suc s) k t
    go (inl e) (inl h) = inr (e, h)
    go (inl e) (inr h) = absurd (f (inr (sym e, omega arith)))
    go (inr (inl h)) z = inl h
    go (inr (inr h)) z = absurd (f (inl h))

-- Labels of any kind: Q holds within more, if it holds.
module _ (Q : ℕ → ℕ → ℕ → Type 0) (more : (w s n p q : ℕ) → NotAfter w s p q → Q w s n → Q p q n) where
  -- after a step, with labels at the cells that have come in
  pub covers-next : {w s : ℕ} {m n : Labels} → Covers Q w s m → Relabelled Q w (suc s) m n → Covers Q w (suc s) n
  covers-next {w} {s} {m} {n} old re =
      record {
        enough = λ c h. enough c h (decided (m.known c));
        least = λ c h k t x. least c h k t x (decided (m.known c));
        complete = re.every;
      }
    where
      enough : (c : ℕ) → T (n.known c) → T (m.known c) ⊎ T (not (m.known c)) → Q (n.weight c) (n.steps c) c
      enough c h (inl t) = let e = (re.kept c t).1 in rw (e.0, e.1) (old.enough c t)
      enough c h (inr f) = let a = re.added c h (T_not (m.known c) f) in rw (a.1.0, a.1.1) a.0

      least : (c : ℕ) → T (n.known c) → (k t : ℕ) → Q k t c → T (m.known c) ⊎ T (not (m.known c)) → NotAfter (n.weight c) (n.steps c) k t
      least c h k t x (inl u) = let e = (re.kept c u).1 in rw (e.0, e.1) (old.least c u k t x)
      least c h k t x (inr f) =
          let a = re.added c h (T_not (m.known c) f) in
          rw (a.1.0, a.1.1) (not-before (λ early. T_not (m.known c) f (old.complete c (more k t c w s early x))))

  -- at another place within which Q holds for no other cell
  pub covers-later : {w s : ℕ} {m : Labels} (p q : ℕ) → Covers Q w s m → ((c : ℕ) → Q p q c → Q w s c) → Covers Q p q m
  covers-later p q old back = record { enough = old.enough; least = old.least; complete = λ c x. old.complete c (back c x) }

module _ (R : Rules) (law : Lawful R) (f k s : ℕ) (m : ℕ → Labels) (labels : Labelled R f k s m) where
  -- the labels of one code
  pub label-enough : (code n : ℕ) → T (is_closing code) → T ((m code).known n) → After R f code ((m code).weight n) ((m code).steps n) n
  label-enough code n shut h = go (closing-codes code shut)
    where
      go : (code ≡ register_code) ⊎ (code ≡ fifo_code) → After R f code ((m code).weight n) ((m code).steps n) n
      go (inl e) = rw e (labels.registers.enough n (rw e at h))
      go (inr e) = rw e ((labels.fifos 0 0).enough n (rw e at h))

  pub label-least : (code n : ℕ) → T (is_closing code) → T ((m code).known n) → (w t : ℕ) → After R f code w t n → NotAfter ((m code).weight n) ((m code).steps n) w t
  label-least code n shut h w t x = go (closing-codes code shut)
    where
      go : (code ≡ register_code) ⊎ (code ≡ fifo_code) → NotAfter ((m code).weight n) ((m code).steps n) w t
      go (inl e) = rw e (labels.registers.least n (rw e at h) w t (rw e at x))
      go (inr e) = rw e ((labels.fifos 0 0).least n (rw e at h) w t (rw e at x))

  after-closing : (code w t n : ℕ) → After R f code w t n → T (is_closing code)
  after-closing code w t n (After.at_source e a b) = register-closing code e
  after-closing code w t n (After.at_gate shut may x) = shut

  -- the seeds by the labels are where a span may close
  seed-right : (code n : ℕ) → T (is_closing code) → T (seed_at m k s code n) → After R f code k s n
  seed-right code n shut t = let a = seed-view m k s code n t in after_more k s a.early (label-enough code n shut a.known)

  -- a label that is known is a seed where its least is early enough
  seed-known : (code n w t : ℕ) → T ((m code).known n) → After R f code w t n → NotAfter w t k s → T (seed_at m k s code n)
  seed-known code n w t h x early =
      seed-test m k s code n (record { known = h; early = not-after-trans (label-least code n (after-closing code w t n x) h w t x) early })

  seed-left : (code n : ℕ) → After R f code k s n → T (seed_at m k s code n)
  seed-left code n x = go (closing-codes code (after-closing code k s n x))
    where
      go : (code ≡ register_code) ⊎ (code ≡ fifo_code) → T (seed_at m k s code n)
      go (inl e) = seed-known code n k s (rw e (labels.registers.complete n (after_more _ s (inl (omega (arith, law.heavy f))) (rw e at x)))) x (not-after-refl k s)
      go (inr e) = seed-known code n k s (rw e ((labels.fifos k s).complete n (rw e at x))) x (not-after-refl k s)

  -- A layer.
  pub next-table : (A B : Table) → Represents A (Open R f k s) → Next R f m k s A B → Represents B (Open R f k (suc s))
  next-table A B rep next = same-table (Open R f k (suc s)) next (layer-done R law f k s (seed_at m k s) seed-right seed-left A rep)

  -- After a layer that changes nothing: every ending that only closes at seeds is in the table.
  -- B says of an ending's weight and steps what is asked; it holds of the rest of an ending, and then each label that it needs is a seed.
  -- Proof, by induction on the ending: its first visit leads to a state that is in the table, or closes the span at a seed; so the layer has it; and the layer is the table. Qed.
  module _ (A : Table) (rep : Represents A (Open R f k s)) (quiet : Next R f m k s A A) (B : ℕ → ℕ → Type 0) (shorter : (w t : ℕ) → B w (suc t) → B w t) (lighter : (w t : ℕ) → B (R.weight f + w) (suc t) → B w t) (seeds : (code n w t : ℕ) → T ((m code).known n) → B (R.weight f + w) (suc t) → NotAfter ((m code).weight n) ((m code).steps n) w t → NotAfter ((m code).weight n) ((m code).steps n) k s) where
    stay : {c l d : ℕ} → Step R (seed_at m k s) (R.bound 0 f) (Open R f k s) c l d → Open R f k s c l d
    stay {c} {l} {d} x =
        rep.sound c l d (omega (arith, quiet c l, (layer-represents R (seed_at m k s) (R.bound 0 f) A (Open R f k s) law.in_plan rep).complete c l d x))

    -- a visit that closes the span; after a register the rest is on the same side
    close : {c i : ℕ} {st : Stage} (v : Visit) (vs : Route) → ClosingVisit R c i f st v → Ending R v.cell (suc i) (side_after f v.code) (R.fresh v.code) vs → B (R.weight f + weigh R (side_after f v.code) vs) (suc (length vs)) → (v.code ≡ register_code → Open R f k s v.cell (R.fresh v.code).load (R.fresh v.code).delay) → Open R f k s c st.load st.delay
    unfolding arrive closing load_at delay_at close_cost
    close {c} {i} {st} v vs h e room again = go (closing-codes v.code h.code)
      where
        w : ℕ
        w = weigh R (side_after f v.code) vs

        rest : After R f v.code w (length vs) v.cell
        rest = After.at_gate h.code h.stands (record { route = vs; ending = ending-test (any-span R law 0 e); within = not-after-refl _ _ })

        seed : T ((m v.code).known v.cell) → Open R f k s c st.load st.delay
        seed known =
            stay
            (Step.closes {d = st.delay} v.cell v.code h.code h.reached.wired
            (seed-test m k s v.code v.cell (record { known = known; early = seeds v.code v.cell w (length vs) known room (label-least v.code v.cell h.code known w (length vs) rest) }))
            h.reached.light (omega (arith, h.closed, law.steady i f)))

        go : (v.code ≡ register_code) ⊎ (v.code ≡ fifo_code) → Open R f k s c st.load st.delay
        go (inl q) =
            seed (rw q (labels.registers.complete v.cell (After.at_gate (register-closing register_code refl) (rw q at h.stands) (rw (side_same f register_code (λ z. omega arith)) (rw q at (again q))))))
        go (inr q) = seed (rw q ((labels.fifos _ _).complete v.cell (rw q at rest)))

    -- g is f: a register does not change the side
    settled_at : {c i g : ℕ} {st : Stage} {vs : Route} → Ending R c i g st vs → g ≡ f → B (weigh R g vs) (length vs) → Open R f k s c st.load st.delay
    unfolding arrive buffered closing load_at delay_at load_of buffer_cost close_cost
    settled_at {c} {i} {g} {st} (Ending.ends {v = v} h) same b =
        stay
        (Step.closes {d = st.delay} v.cell v.code (register-closing v.code h.code) h.reached.wired
        (seed-left v.code v.cell (After.at_source h.code (rw same at h.passed) h.at_source)) h.reached.light (omega (arith, rw same at h.closed, law.steady i f)))
    settled_at {c} {i} {g} {st} (Ending.passes {v = v} {vs = vs} h e) same b =
        stay
        (Step.passes v.cell h.reached.wired (rw h.code at h.stands) h.reached.light
        (settled_at e same (shorter _ _ (rw (weigh-kept R g v vs (none_open v.code h.code)) at b))))
    settled_at {c} {i} {g} {st} (Ending.buffers {v = v} {vs = vs} h e) same b =
        go v.code refl (settled_at e same (shorter _ _ (rw (weigh-kept R g v vs h.no_close) at b)))
      where
        go : (code : ℕ) → v.code ≡ code → Open R f k s v.cell (load_of R v.code) (delay_at R c v.cell st.load st.delay + buffer_cost R v.code (load_at R c v.cell st.load)) → Open R f k s c st.load st.delay
        go zero q x = absurd (h.some_gate q)
        go (suc n) q x =
            let six : n < 6 = open-buffer n (law.codes v.cell (suc n) (rw q at h.stands)) (rw q at h.no_close) in
            stay (Step.drives v.cell n six h.reached.wired (rw q at h.stands) h.reached.light (rw q at h.light_after) (rw q at x))
    settled_at {c} {i} {g} {st} (Ending.closes {v = v} {vs = vs} h e) same b =
        let room : B (R.weight f + weigh R (side_after g v.code) vs) (suc (length vs)) = subst (λ (x : ℕ). B (R.weight x + weigh R (side_after g v.code) vs) (suc (length vs))) same (rw (weigh-closed R g v vs h.code) at b) in
        close v vs (rw same at h) (rw same at e) (rw same at room) (λ q. settled_at e (side_same g v.code (λ z. omega arith) ∙ same) (lighter _ _ room))

    pub settled : {c i : ℕ} {st : Stage} {vs : Route} → Ending R c i f st vs → B (weigh R f vs) (length vs) → Open R f k s c st.load st.delay
    settled e b = settled_at e refl b
