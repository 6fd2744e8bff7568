-- Laws of the labels in the scratch words and of their order.
use Rattle.std.proofs.Common.{ℕ, ◌+◌, ◌*◌, ◌≤◌, ◌<◌, ◌≡◌, refl, sym, ap, ◌∙◌, Bool, true, false, ◌&&◌, not, cond, ◌⊎◌, inl, inr, List, arith, eq-eqb, ne_eqb, lt-ltb, le-ltb, T, eqb, ltb, length, get_or}
use lib.Dec.{not_T}
use Rattle.rules.specs.Rules.{Rules, register_code, fifo_code}
use Rattle.plan.proofs.Truth.{both, fst, snd, tests, split, equal, decided, is_true, is_false}
use Rattle.budget.specs.Done.{NotAfter, Labels, Covers, After, Labelled}
use Rattle.budget.specs.Search.{renewed}
use Rattle.layout.specs.Layout.{labels_at, exits_at, aside_at, weight_high, steps_low, steps_high, order_in, label_words, trail_at}
use Rattle.lists.specs.Lists.{ListedAt}
use Rattle.lists.proofs.Sums.{sum_same, sum_bound, sum-none, sum_more, sum-short}
use Rattle.labels.specs.Labels.{known_of, weight_word, weight_of, steps_of, labels_of, no_labels, labels_for, order_of, LabelBy, SetIn, Apart, one, Ordered, SameLabel, LabelAdded}

-- the word of a label

module _ (n set : ℕ) (words : List ℕ) (c : ℕ) where
  pub known-below : T (known_of n set words c) → c < n
  unfolding known_of
  known-below h = omega (arith, tests, fst (ltb c n) (not (eqb (weight_word n set words c) 0)) h)

  pub known-word : T (known_of n set words c) → 0 < weight_word n set words c
  unfolding known_of
  known-word h = omega (arith, tests, snd (ltb c n) (not (eqb (weight_word n set words c) 0)) h)

  pub word-known : c < n → 0 < weight_word n set words c → T (known_of n set words c)
  unfolding known_of
  word-known h k = both (ltb c n) (not (eqb (weight_word n set words c) 0)) (omega (arith, tests)) (omega (arith, tests))

  pub word-unknown : weight_word n set words c ≡ 0 → known_of n set words c ≡ false
  word-unknown e = go (decided (known_of n set words c))
    where
      go : T (known_of n set words c) ⊎ T (not (known_of n set words c)) → known_of n set words c ≡ false
      go (inl h) = absurd (omega (arith, known-word h))
      go (inr h) = is_false (known_of n set words c) h

pub unknown-not : {b : Bool} → b ≡ false → T b → ⊥
unknown-not {b} e h = let z : ◌≡◌ {A = ℕ} 0 1 = ap one (sym e ∙ is_true b h) in omega arith

one_bit : (b : Bool) → one b ≤ 1
one_bit true = omega arith
one_bit false = omega arith

-- labels that stay

pub same-label : (n set : ℕ) (old new : List ℕ) (c : ℕ) → weight_word n set new c ≡ weight_word n set old c → steps_of n set new c ≡ steps_of n set old c → SameLabel n set old new c
unfolding known_of
same-label n set old new c w s = record { known = rw w; weight = rw w; steps = s }

-- the words of the labels have moved from one set to another
module _ (n set set' : ℕ) (old new : List ℕ) (moved : (i : ℕ) → i < n * order_in → get_or new (set' + i) 0 ≡ get_or old (set + i) 0) where
  moved_at : (a b i : ℕ) → a ≡ set' + i → b ≡ set + i → i < n * order_in → get_or new a 0 ≡ get_or old b 0
  moved_at a b i e d h = rw (e, d) (moved i h)

  word_moved : (c : ℕ) → c < n → weight_word n set' new c ≡ weight_word n set old c
  word_moved c h =
      rw (moved_at (set' + c) (set + c) c (omega arith) (omega arith) (omega arith), moved_at (set' + n * weight_high + c) (set + n * weight_high + c) (n * weight_high + c) (omega arith) (omega arith) (omega arith))

  steps-moved : (c : ℕ) → c < n → steps_of n set' new c ≡ steps_of n set old c
  steps-moved c h =
      rw (moved_at (set' + n * steps_low + c) (set + n * steps_low + c) (n * steps_low + c) (omega arith) (omega arith) (omega arith), moved_at (set' + n * steps_high + c) (set + n * steps_high + c) (n * steps_high + c) (omega arith) (omega arith) (omega arith))

  known-moved : (c : ℕ) → known_of n set' new c ≡ known_of n set old c
  unfolding known_of
  known-moved c = go (split n c)
    where
      out : (set : ℕ) (words : List ℕ) → n ≤ c → T (not (known_of n set words c))
      out set words h = not_T (known_of n set words c) (λ t. omega (arith, known-below n set words c t))

      go : (n ≤ c) ⊎ (c < n) → known_of n set' new c ≡ known_of n set old c
      go (inl h) = is_false (known_of n set' new c) (out set' new h) ∙ sym (is_false (known_of n set old c) (out set old h))
      go (inr h) = rw (word_moved c h)

  -- what the labels cover stays covered
  pub covers-moved : (Q : ℕ → ℕ → ℕ → Type 0) (w s : ℕ) → Covers Q w s (labels_of n set old) → Covers Q w s (labels_of n set' new)
  covers-moved Q w s l =
      record {
        enough = λ c t. let h : c < n = known-below n set' new c t in rw (word_moved c h, steps-moved c h) (l.enough c (was c t));
        least = λ c t. let h : c < n = known-below n set' new c t in rw (word_moved c h, steps-moved c h) (l.least c (was c t));
        complete = λ c q. rw (known-moved c) (l.complete c q);
      }
    where
      was : (c : ℕ) → T (known_of n set' new c) → T (known_of n set old c)
      was c t = rw (known-moved c) at t

-- the words of the labels are as they were
module _ (n set : ℕ) (old new : List ℕ) (kept : (k : ℕ) → set ≤ k → k < set + n * order_in → get_or new k 0 ≡ get_or old k 0) where
  pub label_kept : (c : ℕ) → c < n → SameLabel n set old new c
  label_kept c h =
      same-label n set old new c
      (rw (kept (set + c) (omega arith) (omega arith), kept (set + n * weight_high + c) (omega arith) (omega arith)))
      (rw (kept (set + n * steps_low + c) (omega arith) (omega arith), kept (set + n * steps_high + c) (omega arith) (omega arith)))

  pub known_kept : (c : ℕ) → known_of n set new c ≡ known_of n set old c
  known_kept c = go (split n c)
    where
      out : (words : List ℕ) → n ≤ c → T (not (known_of n set words c))
      out words h = not_T (known_of n set words c) (λ t. omega (arith, known-below n set words c t))

      go : (n ≤ c) ⊎ (c < n) → known_of n set new c ≡ known_of n set old c
      go (inl h) = is_false (known_of n set new c) (out new h) ∙ sym (is_false (known_of n set old c) (out old h))
      go (inr h) = (label_kept c h).known

  pub covers_kept : (Q : ℕ → ℕ → ℕ → Type 0) (w s : ℕ) → Covers Q w s (labels_of n set old) → Covers Q w s (labels_of n set new)
  covers_kept = covers-moved n set set old new (λ i h. kept (set + i) (omega arith) (omega arith))

  -- no label becomes later
  pub by-kept : (k s : ℕ) → ((c : ℕ) → T (known_of n set old c) → LabelBy n set old k s c) → (c : ℕ) → T (known_of n set new c) → LabelBy n set new k s c
  by-kept k s by c t =
      let e : SameLabel n set old new c = label_kept c (known-below n set new c t) in
      rw (e.weight, e.steps) (by c (rw (known_kept c) at t))

-- the labels by code

module _ (n exits : ℕ) (words : List ℕ) where
  pub labels-register : labels_for n exits words register_code ≡ labels_of n (n * labels_at) words
  unfolding labels_for
  labels-register = refl

  pub labels-fifo : 0 < exits → labels_for n exits words fifo_code ≡ labels_of n (n * exits_at) words
  unfolding labels_for
  labels-fifo h = simp (lt-ltb 0 exits h)

  pub labels-no-fifo : exits ≡ 0 → labels_for n exits words fifo_code ≡ no_labels
  unfolding labels_for
  labels-no-fifo h = simp (le-ltb 0 exits (omega arith))

  -- only gates that close a span have labels
  pub label-code : (code c : ℕ) → T ((labels_for n exits words code).known c) → (code ≡ register_code) ⊎ ((code ≡ fifo_code) × (0 < exits))
  unfolding labels_for
  label-code code c t = go (equal code register_code) (equal code fifo_code) (split 1 exits)
    where
      go : (code ≡ register_code) ⊎ (code ≡ register_code → ⊥) → (code ≡ fifo_code) ⊎ (code ≡ fifo_code → ⊥) → (1 ≤ exits) ⊎ (exits < 1) → (code ≡ register_code) ⊎ ((code ≡ fifo_code) × (0 < exits))
      go (inl e) b d = inl e
      go (inr f) (inl e) (inl h) = inr (e, omega arith)
      go (inr f) (inl e) (inr h) = absurd (simp (ne_eqb code register_code f, eq-eqb code fifo_code e, le-ltb 0 exits (omega arith)) at t)
      go (inr f) (inr g) d = absurd (simp (ne_eqb code register_code f, ne_eqb code fifo_code g) at t)

-- the words of both sets, but for the orders, are as they were
pub record LabelsKept (n exits : ℕ) (old new : List ℕ) : Type 0 where
  pub registers : (k : ℕ) → n * labels_at ≤ k → k < n * labels_at + n * order_in → get_or new k 0 ≡ get_or old k 0
  pub fifos : 0 < exits → (k : ℕ) → n * exits_at ≤ k → k < n * exits_at + n * order_in → get_or new k 0 ≡ get_or old k 0

pub fifos-kept : (n exits : ℕ) (old new : List ℕ) → (0 < exits → (k : ℕ) → n * exits_at ≤ k → k < n * exits_at + n * order_in → get_or new k 0 ≡ get_or old k 0) → (Q : ℕ → ℕ → ℕ → Type 0) (w t : ℕ) → Covers Q w t (labels_for n exits old fifo_code) → Covers Q w t (labels_for n exits new fifo_code)
fifos-kept n exits old new kept Q w t l = go (split 1 exits)
  where
    go : (1 ≤ exits) ⊎ (exits < 1) → Covers Q w t (labels_for n exits new fifo_code)
    go (inl h) = rw (labels-fifo n exits new h) (covers_kept n (n * exits_at) old new (kept h) Q w t (rw (labels-fifo n exits old h) at l))
    go (inr h) = rw (labels-no-fifo n exits new (omega arith)) (rw (labels-no-fifo n exits old (omega arith)) at l)

pub labelled-kept : (n exits : ℕ) (old new : List ℕ) → LabelsKept n exits old new → (R : Rules) (f k s : ℕ) → Labelled R f k s (labels_for n exits old) → Labelled R f k s (labels_for n exits new)
labelled-kept n exits old new kept R f k s l =
    record {
      registers =
          rw (labels-register n exits new)
          (covers_kept n (n * labels_at) old new kept.registers (After R f register_code) (R.weight f + k) s (rw (labels-register n exits old) at l.registers));
      fifos = λ w t. fifos-kept n exits old new kept.fifos (After R f fifo_code) w t (l.fifos w t);
    }

-- new labels of registers, where those of FIFOs stay
pub labels-renewed : (n exits : ℕ) (old new : List ℕ) → (0 < exits → labels_of n (n * exits_at) new ≡ labels_of n (n * exits_at) old) → renewed (labels_for n exits old) (labels_of n (n * labels_at) new) ≡ labels_for n exits new
unfolding renewed labels_for
labels-renewed n exits old new same = λ i code. go code (eqb code register_code) (eqb code fifo_code) (split 1 exits) i
  where
    go : (code : ℕ) (b d : Bool) → (1 ≤ exits) ⊎ (exits < 1) → cond {A = Labels} b (labels_of n (n * labels_at) new) (cond {A = Labels} b (labels_of n (n * labels_at) old) (cond {A = Labels} (d && ltb 0 exits) (labels_of n (n * exits_at) old) no_labels)) ≡ cond {A = Labels} b (labels_of n (n * labels_at) new) (cond {A = Labels} (d && ltb 0 exits) (labels_of n (n * exits_at) new) no_labels)
    go code true d h = refl
    go code false true (inl h) = simp (lt-ltb 0 exits h) (sym (same h))
    go code false true (inr h) = simp (le-ltb 0 exits (omega arith))
    go code false false h = refl

later_same : {n set : ℕ} {old new : List ℕ} {a b : ℕ} → SameLabel n set old new a → SameLabel n set old new b → NotAfter (weight_of n set old a) (steps_of n set old a) (weight_of n set old b) (steps_of n set old b) → NotAfter (weight_of n set new a) (steps_of n set new a) (weight_of n set new b) (steps_of n set new b)
later_same p q (inl h) = inl (omega arith)
later_same p q (inr h) = inr (omega arith, omega arith)

-- the registers' set lies in the words, and apart from the lists

pub set-in : (n : ℕ) (words : List ℕ) → n ≤ 1024 → n * trail_at ≤ length words → SetIn n (n * labels_at) words
set-in n words few room = record { small = few; low = omega arith; room = omega arith }

pub set_apart : (n : ℕ) → Apart n (n * labels_at)
set_apart n = record { past = omega arith; beside = inl (omega arith) }

-- and so the FIFOs'

pub exits-in : (n : ℕ) (words : List ℕ) → n ≤ 1024 → n * aside_at ≤ length words → SetIn n (n * exits_at) words
exits-in n words few room = record { small = few; low = omega arith; room = omega arith }

pub exits-apart : (n : ℕ) → Apart n (n * exits_at)
exits-apart n = record { past = omega arith; beside = inr (omega arith) }

-- the order

module _ {n set : ℕ} {words : List ℕ} {count : ℕ} (o : Ordered n set words count) where
  pub ordered-count : count ≤ n
  ordered-count = omega (arith, sum_bound n 1 (λ c. one (known_of n set words c)) (λ c h. one_bit (known_of n set words c)))

  -- a cell with no label leaves room for it
  pub ordered-room : (c : ℕ) → c < n → known_of n set words c ≡ false → count < n
  ordered-room c h e =
      omega (arith, sum-short n (λ c. one (known_of n set words c)) c (λ c h. one_bit (known_of n set words c)) h (ap one e))

pub ordered-none : (n set : ℕ) (words : List ℕ) → ((c : ℕ) → c < n → weight_word n set words c ≡ 0) → Ordered n set words 0
ordered-none n set words z =
    record {
      cells = λ i h. absurd (omega arith);
      known = λ i h. absurd (omega arith);
      covered = λ c t. absurd (unknown-not (word-unknown n set words c (z c (known-below n set words c t))) t);
      counted = omega (arith, sum-none n (λ c. one (known_of n set words c)) (λ c h. ap one (word-unknown n set words c (z c h))));
      ascending = λ i j h k. absurd (omega arith);
    }

-- the whole set moves, with its order
pub ordered-moved : {n set : ℕ} {old : List ℕ} {count : ℕ} → Ordered n set old count → (set' : ℕ) (new : List ℕ) → ((i : ℕ) → i < n * label_words → get_or new (set' + i) 0 ≡ get_or old (set + i) 0) → Ordered n set' new count
ordered-moved {n} {set} {old} {count} o set' new moved =
    record {
      cells = λ i h. omega (arith, place i h, o.cells i h);
      known = λ i h. rw (place i h, known _) (o.known i h);
      covered = λ c t. at c (o.covered c (rw (known c) at t));
      counted = o.counted ∙ sum_same n (λ c. one (known_of n set old c)) (λ c. one (known_of n set' new c)) (λ c h. ap one (sym (known c)));
      ascending = λ i j h k. rw (place i (omega arith), place j k, word i (omega arith), word j k, steps i (omega arith), steps j k) (o.ascending i j h k);
    }
  where
    labels : (i : ℕ) → i < n * order_in → get_or new (set' + i) 0 ≡ get_or old (set + i) 0
    labels i h = moved i (omega arith)

    known : (c : ℕ) → known_of n set' new c ≡ known_of n set old c
    known = known-moved n set set' old new labels

    place : (i : ℕ) → i < count → order_of n set' new i ≡ order_of n set old i
    place i h =
        let a : set' + n * order_in + i ≡ set' + (n * order_in + i) = omega arith in
        let b : set + n * order_in + i ≡ set + (n * order_in + i) = omega arith in
        rw (a, b) (moved (n * order_in + i) (omega (arith, ordered-count o)))

    word : (i : ℕ) → i < count → weight_word n set' new (order_of n set old i) ≡ weight_word n set old (order_of n set old i)
    word i h = word_moved n set set' old new labels (order_of n set old i) (o.cells i h)

    steps : (i : ℕ) → i < count → steps_of n set' new (order_of n set old i) ≡ steps_of n set old (order_of n set old i)
    steps i h = steps-moved n set set' old new labels (order_of n set old i) (o.cells i h)

    at : (c : ℕ) → ListedAt n old (set + n * order_in) count c → ListedAt n new (set' + n * order_in) count c
    at c p = record { at = p.at; below = p.below; holds = place p.at p.below ∙ p.holds }

pub ordered-kept : {n set : ℕ} {old : List ℕ} {count : ℕ} → Ordered n set old count → (new : List ℕ) → ((k : ℕ) → set ≤ k → k < set + n * label_words → get_or new k 0 ≡ get_or old k 0) → Ordered n set new count
ordered-kept {n} {set} o new w = ordered-moved o set new (λ i h. w (set + i) (omega arith) (omega arith))

-- one label more, not before the others
module _ {n set : ℕ} {old : List ℕ} {count : ℕ} (o : Ordered n set old count) (new : List ℕ) (cell : ℕ) (h : cell < n) (unlabelled : known_of n set old cell ≡ false) (known : T (known_of n set new cell))
    (others : (c : ℕ) → c < n → (c ≡ cell → ⊥) → SameLabel n set old new c)
    (last : (c : ℕ) → T (known_of n set old c) → NotAfter (weight_of n set old c) (steps_of n set old c) (weight_of n set new cell) (steps_of n set new cell))
    (earlier : (i : ℕ) → i < count → order_of n set new i ≡ order_of n set old i)
    (at-end : order_of n set new count ≡ cell) where
  other : (i : ℕ) → i < count → SameLabel n set old new (order_of n set old i)
  other i k = others (order_of n set old i) (o.cells i k) (λ e. unknown-not (ap (known_of n set old) e ∙ unlabelled) (o.known i k))

  in-plan : (i : ℕ) → i < count + 1 → (i ≡ count) ⊎ (i ≡ count → ⊥) → order_of n set new i < n
  in-plan i k (inl e) = rw (e, at-end) h
  in-plan i k (inr e) = omega (arith, earlier i (omega arith), o.cells i (omega arith))

  labelled : (i : ℕ) → i < count + 1 → (i ≡ count) ⊎ (i ≡ count → ⊥) → T (known_of n set new (order_of n set new i))
  labelled i k (inl e) = rw (e, at-end) known
  labelled i k (inr e) = let j : i < count = omega arith in rw (earlier i j, (other i j).known) (o.known i j)

  more : (c : ℕ) → ListedAt n old (set + n * order_in) count c → ListedAt n new (set + n * order_in) (count + 1) c
  more c p = record { at = p.at; below = omega arith; holds = earlier p.at p.below ∙ p.holds }

  place : (c : ℕ) → T (known_of n set new c) → (c ≡ cell) ⊎ (c ≡ cell → ⊥) → ListedAt n new (set + n * order_in) (count + 1) c
  place c t (inl e) = record { at = count; below = omega arith; holds = at-end ∙ sym e }
  place c t (inr e) = more c (o.covered c (rw (others c (known-below n set new c t) e).known at t))

  after-all : (i : ℕ) → i < count → NotAfter (weight_of n set old (order_of n set old i)) (steps_of n set old (order_of n set old i)) (weight_of n set new cell) (steps_of n set new cell) → NotAfter (weight_of n set new (order_of n set old i)) (steps_of n set new (order_of n set old i)) (weight_of n set new cell) (steps_of n set new cell)
  after-all i k (inl q) = inl (omega (arith, (other i k).weight))
  after-all i k (inr q) = inr (omega (arith, (other i k).weight), omega (arith, (other i k).steps))

  above : (i j : ℕ) → i ≤ j → j < count + 1 → (i ≡ count) ⊎ (i ≡ count → ⊥) → (j ≡ count) ⊎ (j ≡ count → ⊥) → NotAfter (weight_of n set new (order_of n set new i)) (steps_of n set new (order_of n set new i)) (weight_of n set new (order_of n set new j)) (steps_of n set new (order_of n set new j))
  above i j l k (inl e) q = let d : i ≡ j = omega arith in rw d (inr (refl, omega arith))
  above i j l k (inr e) (inl q) =
      let b : i < count = omega arith in
      rw (q, at-end, earlier i b) (after-all i b (last (order_of n set old i) (o.known i b)))
  above i j l k (inr e) (inr q) =
      let b : j < count = omega arith in
      let a : i < count = omega arith in
      rw (earlier i a, earlier j b) (later_same (other i a) (other j b) (o.ascending i j l b))

  pub ordered-more : Ordered n set new (count + 1)
  ordered-more =
      record {
        cells = λ i k. in-plan i k (equal i count);
        known = λ i k. labelled i k (equal i count);
        covered = λ c t. place c t (equal c cell);
        counted =
            omega (arith, o.counted, sum_more n (λ c. one (known_of n set old c)) (λ c. one (known_of n set new c)) cell h (ap one unlabelled) (ap one (is_true (known_of n set new cell) known)) (λ c k e. ap one (others c k e).known));
        ascending = λ i j l k. above i j l k (equal i count) (equal j count);
      }

-- after `label`: the cells that have a label, and the latest of them
module _ {n set cell weight steps count : ℕ} {old new : List ℕ} (a : LabelAdded n set cell weight steps count old new) where
  pub added-stays : (c : ℕ) → T (known_of n set old c) → T (known_of n set new c)
  added-stays c t = go (equal c cell)
    where
      go : (c ≡ cell) ⊎ (c ≡ cell → ⊥) → T (known_of n set new c)
      go (inl e) = rw e a.known
      go (inr e) = rw (a.others c (known-below n set old c t) e).known t

  pub added-known : (c : ℕ) → T (known_of n set new c) → (c ≡ cell → ⊥) → T (known_of n set old c)
  added-known c t e = rw (a.others c (known-below n set new c t) e).known at t
