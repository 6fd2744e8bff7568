-- The queue of a set of labels: its seeds are the labels that have come; from turn to turn.
use Prim.Native.Nat.{ℕ, suc, ◌+◌, ◌*◌, ◌≤◌, ◌<◌}
use mathlib.Core.Path.{◌≡◌, refl, sym, subst, ◌∙◌}
use mathlib.Core.Logic.{◌⊎◌, inl, inr}
use mathlib.Core.List.{List}
use native.Mathlib.Omega.{arith}
use lib.Dec.{T}
use Rattle.rules.specs.Rules.{Rules}
use Rattle.plan.proofs.Truth.{split}
use Rattle.budget.specs.Done.{NotAfter, Labels, seed_at}
use Rattle.budget.proofs.Search.{Arrived as Come, seed-view, seed-test}
use Rattle.budget.proofs.Done.{not-after-refl, not-after-trans, not-after-both, after-before, not-both}
use Rattle.layout.specs.Layout.{order_in, label_words}
use Rattle.lists.specs.Lists.{ListedAt}
use Rattle.rows.specs.Words.{Kept}
use Rattle.table.specs.Problem.{seed_of}
use Rattle.labels.specs.Labels.{known_of, weight_of, steps_of, labels_of, order_of, LabelBy, LabelAfter, Ordered}
use Rattle.labels.specs.Both.{Comes}
use Rattle.labels.specs.Additions.{LabelsAddedAmong}
use Rattle.labels.proofs.Labels.{ordered-kept}
use Rattle.search.specs.Front.{Queued}
use Rattle.labels.proofs.Arriving.{Found, find}
use Rattle.labels.proofs.Seeds.{bool_same, order_same, order-weight, order-steps}

-- a labelled cell is a seed whose label has come, or its label is not before the first that waits
pub data Placed (n set code : ℕ) (words : List ℕ) (k s at count c : ℕ) : Type 0 where
  come : T (seed_of n words code c) → LabelBy n set words k s c → Placed n set code words k s at count c
  waits : at < count → NotAfter (weight_of n set words (order_of n set words at)) (steps_of n set words (order_of n set words at)) (weight_of n set words c) (steps_of n set words c) → Placed n set code words k s at count c

module _ {n set code : ℕ} {words : List ℕ} {k s at count : ℕ} (q : Queued n set code words k s at count) where
  pub queue-place : (c : ℕ) → T (known_of n set words c) → Placed n set code words k s at count c
  queue-place c t = go (q.ordered.covered c t)
    where
      go : ListedAt n words (set + n * order_in) count c → Placed n set code words k s at count c
      go p = pick (split at p.at)
        where
          pick : (at ≤ p.at) ⊎ (p.at < at) → Placed n set code words k s at count c
          pick (inl h) = Placed.waits (omega (arith, p.below)) (rw p.holds at (q.ordered.ascending at p.at h p.below))
          pick (inr h) = Placed.come (rw p.holds at (q.order_seed p.at h)) (rw p.holds at (q.past p.at h))

  -- a seed has a label that has come
  pub queue-label : (c : ℕ) → c < n → T (seed_of n words code c) → T (known_of n set words c) × LabelBy n set words k s c
  queue-label c h t = go (q.seeds c h t)
    where
      go : ListedAt n words (set + n * order_in) at c → T (known_of n set words c) × LabelBy n set words k s c
      go p = (rw p.holds at (q.ordered.known p.at (omega (arith, p.below, q.at_count))), rw p.holds at (q.past p.at p.below))

  -- and a label that has come is a seed, where those that wait are after it
  pub queue-seed : (at < count → LabelAfter n set words k s (order_of n set words at)) → (c : ℕ) → T (known_of n set words c) → LabelBy n set words k s c → T (seed_of n words code c)
  queue-seed late c t early = go (queue-place c t)
    where
      go : Placed n set code words k s at count c → T (seed_of n words code c)
      go (Placed.come h g) = h
      go (Placed.waits h g) = absurd (not-both (not-after-trans (late h) g) early)

  -- on to the next label
  pub queue-jump : (k' s' : ℕ) → NotAfter k s k' s' → (at < count → NotAfter k' s' (weight_of n set words (order_of n set words at)) (steps_of n set words (order_of n set words at))) → Queued n set code words k' s' at count
  queue-jump k' s' later soon =
      record {
        ordered = q.ordered;
        at_count = q.at_count;
        order_seed = q.order_seed;
        seeds = q.seeds;
        past = λ i h. not-after-trans (q.past i h) later;
        soon = soon;
      }

  -- In other words, up to `next` labels, the order, the labels and the seeds stay; (k', s') is not before (k, s).
  module _ (new : List ℕ) (next : ℕ) (more : count ≤ next) (order : (i : ℕ) → i < count → order_of n set new i ≡ order_of n set words i) (weight : (i : ℕ) → i < count → weight_of n set new (order_of n set new i) ≡ weight_of n set words (order_of n set words i)) (steps : (i : ℕ) → i < count → steps_of n set new (order_of n set new i) ≡ steps_of n set words (order_of n set words i)) where
    queue-stays : (k' s' : ℕ) → NotAfter k s k' s' → Ordered n set new next → ((c : ℕ) → c < n → seed_of n new code c ≡ seed_of n words code c) → (at < next → NotAfter k' s' (weight_of n set new (order_of n set new at)) (steps_of n set new (order_of n set new at))) → Queued n set code new k' s' at next
    queue-stays k' s' later ordered seeds soon =
        record {
          ordered = ordered;
          at_count = omega (arith, q.at_count);
          order_seed = λ i h.
              let b : i < count = omega (arith, q.at_count) in
              rw (order i b, seeds (order_of n set words i) (q.ordered.cells i b)) (q.order_seed i h);
          seeds = λ c h t. old c (q.seeds c h (rw (seeds c h) at t));
          past = λ i h. let b : i < count = omega (arith, q.at_count) in rw (weight i b, steps i b) (not-after-trans (q.past i h) later);
          soon = soon;
        }
      where
        old : (c : ℕ) → ListedAt n words (set + n * order_in) at c → ListedAt n new (set + n * order_in) at c
        old c p = record { at = p.at; below = p.below; holds = order p.at (omega (arith, p.below, q.at_count)) ∙ p.holds }

  -- the words of the set stay
  module _ (new : List ℕ) (kept : Kept set (set + n * label_words) words new) where
    pub late-kept : (i : ℕ) → i < count → LabelAfter n set words k s (order_of n set words i) → LabelAfter n set new k s (order_of n set new i)
    late-kept i h late = rw (order-weight n set words new count q.ordered kept i h, order-steps n set words new count q.ordered kept i h) late

    pub queue-kept : ((c : ℕ) → c < n → seed_of n new code c ≡ seed_of n words code c) → Queued n set code new k s at count
    queue-kept seeds =
        queue-stays new count (omega arith) (order_same n set words new count q.ordered kept) (order-weight n set words new count q.ordered kept) (order-steps n set words new count q.ordered kept)
        k s (not-after-refl k s) (ordered-kept q.ordered new kept) seeds
        (λ h. rw (order-weight n set words new count q.ordered kept at h, order-steps n set words new count q.ordered kept at h) (q.soon h))

  -- labels are added at the end, of more weight
  pub queue-added : {R : Rules} {tried : ℕ → Type 0} {weight next : ℕ} (new : List ℕ) → (at < count → LabelAfter n set words k s (order_of n set words at)) → k < weight → LabelsAddedAmong R n code set tried weight (suc s) words new count next → ((c : ℕ) → c < n → seed_of n new code c ≡ seed_of n words code c) → Queued n set code new k (suc s) at next
  queue-added {next = next} new late heavier a seeds =
      queue-stays new next a.more a.earlier weight-same steps-same k (suc s) (inr (refl, omega arith)) a.ordered seeds (λ h. go h (split count at))
    where
      weight-same : (i : ℕ) → i < count → weight_of n set new (order_of n set new i) ≡ weight_of n set words (order_of n set words i)
      weight-same i h = rw (a.earlier i h) (a.kept (order_of n set words i) (q.ordered.known i h)).1.0

      steps-same : (i : ℕ) → i < count → steps_of n set new (order_of n set new i) ≡ steps_of n set words (order_of n set words i)
      steps-same i h = rw (a.earlier i h) (a.kept (order_of n set words i) (q.ordered.known i h)).1.1

      go : at < next → (count ≤ at) ⊎ (at < count) → NotAfter k (suc s) (weight_of n set new (order_of n set new at)) (steps_of n set new (order_of n set new at))
      go h (inl g) = inl (omega (arith, a.fresh at g h))
      go h (inr g) = rw (weight-same at g, steps-same at g) (late g)

-- the labels that have come become seeds
module _ {n set code : ℕ} {words : List ℕ} {k s at count : ℕ} (q : Queued n set code words k s at count) (new : List ℕ) (kept : Kept set (set + n * label_words) words new) {to : ℕ} (a : Comes n set code at count k s words new to) where
  pub late-arrived : to < count → LabelAfter n set new k s (order_of n set new to)
  late-arrived h = late-kept q new kept to h (a.late h)

  pub queue-arrived : Queued n set code new k s to count
  queue-arrived =
      record {
        ordered = ordered-kept q.ordered new kept;
        at_count = a.within;
        order_seed = λ i h. rw (order_same n set words new count q.ordered kept i (before i h)) (seed i h (split at i));
        seeds = λ c h t. seeds c h t (find n set words c at to);
        past = λ i h. rw (order-weight n set words new count q.ordered kept i (before i h), order-steps n set words new count q.ordered kept i (before i h)) (past i h (split at i));
        soon = λ h. after-before (late-arrived h);
      }
    where
      before : (i : ℕ) → i < to → i < count
      before i h = omega (arith, a.within)

      at_place : (c i : ℕ) → i < to → order_of n set words i ≡ c → ListedAt n new (set + n * order_in) to c
      at_place c i h e = record { at = i; below = h; holds = order_same n set words new count q.ordered kept i (before i h) ∙ e }

      seed : (i : ℕ) → i < to → (at ≤ i) ⊎ (i < at) → T (seed_of n new code (order_of n set words i))
      seed i h (inl g) = a.seeds i g h
      seed i h (inr g) = a.seeds_stay (order_of n set words i) (q.ordered.cells i (before i h)) (q.order_seed i g)

      seeds : (c : ℕ) → c < n → T (seed_of n new code c) → Found n set words c at to → ListedAt n new (set + n * order_in) to c
      seeds c h t (inl p) = at_place c p.0 p.2 p.3
      seeds c h t (inr f) = old (q.seeds c h (rw (a.other_seeds c h f) at t))
        where
          old : ListedAt n words (set + n * order_in) at c → ListedAt n new (set + n * order_in) to c
          old p = at_place c p.at (omega (arith, p.below, a.forth)) p.holds

      past : (i : ℕ) → i < to → (at ≤ i) ⊎ (i < at) → LabelBy n set words k s (order_of n set words i)
      past i h (inl g) = a.in_time i g h
      past i h (inr g) = q.past i g

  -- a label that arrives has just this weight and these steps: it is not before them, and not after
  pub arrives-now : (i : ℕ) → at ≤ i → i < to → steps_of n set words (order_of n set words i) ≡ s
  arrives-now i lo hi =
      (not-after-both (a.in_time i lo hi) (not-after-trans (q.soon (omega (arith, a.within))) (q.ordered.ascending at i lo (omega (arith, a.within))))).1

-- the seed marks of a code are the seeds by its labels
pub queue-seeds : {n set code : ℕ} {words : List ℕ} {k s at count : ℕ} → Queued n set code words k s at count → (at < count → LabelAfter n set words k s (order_of n set words at)) → (m : ℕ → Labels) → m code ≡ labels_of n set words → (c : ℕ) → c < n → seed_of n words code c ≡ seed_at m k s code c
queue-seeds {n} {set} {code} {words} {k} {s} q late m e c h =
    bool_same (seed_of n words code c) (seed_at m k s code c)
    (λ t. let b = queue-label q c h t in seed-test m k s code c (subst (λ (x : Labels). Come x k s c) (sym e) (record { known = b.0; early = b.1 })))
    (λ t. let b = subst (λ (x : Labels). Come x k s c) e (seed-view m k s code c t) in queue-seed q late c b.known b.early)
