-- A layer of the search on the scratch words: the sink's least figures, the next label after a quiet layer, or the end.
use Prim.Native.Nat.{ℕ, suc, ◌+◌, ◌*◌, ◌≤◌, ◌<◌}
use mathlib.Core.Path.{◌≡◌, refl, sym, subst, ◌∙◌}
use mathlib.Core.Logic.{◌⊎◌, inl, inr}
use mathlib.Core.List.{List}
use native.Mathlib.Omega.{arith}
use lib.Dec.{T, not_T}
use lib.ListN.{get_or}
use Rattle.rules.specs.Rules.{Rules, register_code, fifo_code, is_closing}
use Rattle.rules.proofs.View.{closing-codes, register-closing, fifo-closing}
use Rattle.plan.proofs.Truth.{split, is_false}
use Rattle.budget.specs.Done.{NotAfter, Done, Open, Least, After, Labels, Covers, Labelled, Lawful, seed_at}
use Rattle.budget.specs.Search.{Searching, Next, IdleUntil, AllSeeds}
use Rattle.budget.proofs.Done.{not-after-trans}
use Rattle.budget.proofs.Active as pushes
use Rattle.budget.proofs.Search.{same-table}
use Rattle.budget.proofs.Turns.{layer-least, jump-turn, all-turn, all-labels}
use Rattle.budget.proofs.HandOver.{Watched, watch-later, watch-all}
use Rattle.layout.specs.Layout.{labels_at, exits_at, label_words, active_at}
use Rattle.lists.proofs.Lists.{empty-flags}
use Rattle.rows.specs.Words.{Kept}
use Rattle.table.specs.Problem.{budget_of, seed_of}
use Rattle.trail.specs.Trail.{no_trail}
use Rattle.table.specs.declared.pushes.Grown.{Grown}
use Rattle.table.specs.Layer.{Grew, Layered}
use Rattle.table.proofs.Views.{budget-outside, seeds-kept}
use Rattle.table.proofs.Colours.{coloured-none}
use Rattle.labels.specs.Labels.{known_of, weight_of, steps_of, labels_of, labels_for, order_of, LabelBy, LabelAfter}
use Rattle.labels.proofs.Labels.{by-kept, covers_kept, ordered-kept, labelled-kept, labels-register, labels-fifo, labels-no-fifo, label-code}
use Rattle.labels.proofs.Seeds.{layer-seeds}
use Rattle.search.specs.Front.{total, HeadFrom, Queued, Exits, Watching, Standing, Waiting, Front}
use Rattle.search.specs.Turn.{Reaching, Ended}
use Rattle.search.proofs.Total.{total-least, total-grows}
use Rattle.search.proofs.Queue.{Placed, queue-place, queue-jump, queue-kept, late-kept, queue-seeds}

-- the labels of FIFOs that lead to a side stay with their words
pub watch-kept : {R : Rules} {n g : ℕ} {old : List ℕ} {k s watched : ℕ} → Watching R n g old k s watched → (new : List ℕ) → Kept (n * exits_at) (n * exits_at + n * label_words) old new → Watching R n g new k s watched
watch-kept {R} {n} {g} {old} {k} {s} w new kept =
    record {
      covers = covers_kept n (n * exits_at) old new (λ i lo hi. kept i lo (omega arith)) (After R g fifo_code) (R.weight (suc g) + k) s w.covers;
      ordered = ordered-kept w.ordered new kept;
      last = by-kept n (n * exits_at) old new (λ i lo hi. kept i lo (omega arith)) (R.weight (suc g) + k) s w.last;
    }

-- a later weight with the span's own
pub heavier : (w : ℕ) {a b c d : ℕ} → NotAfter a b c d → NotAfter (w + a) b (w + c) d
heavier w (inl h) = inl (omega arith)
heavier w (inr h) = inr (omega arith, h.1)

module _ {R : Rules} (law : Lawful R) {n f exits : ℕ} (cells : R.cell_count ≡ n) {words : List ℕ} {k s active at count exit watched : ℕ} (front : Front R n f exits words k s active at count exit watched) {new : List ℕ} {next : Grown} (l : Layered R n (R.bound 0 f) no_trail words new next) where
  abbrev set : ℕ
  set = n * labels_at

  abbrev out : ℕ
  out = n * exits_at

  w : Standing R n f exits words k s active at count exit
  w = front.waiting.standing

  -- labels, orders and seeds stay
  layer-kept : Kept set (set + n * label_words) words new
  layer-kept i lo hi = l.labels i lo (omega arith)

  exits-kept : Kept out (out + n * label_words) words new
  exits-kept i lo hi = l.beyond i (omega arith)

  same-seeds : (code : ℕ) → T (is_closing code) → (c : ℕ) → c < n → seed_of n new code c ≡ seed_of n words code c
  same-seeds code shut c h = seeds-kept n words new l.seeds c h code shut

  pub layer-near : Queued n set register_code new k s at count
  layer-near = queue-kept w.near new layer-kept (same-seeds register_code (register-closing register_code refl))

  pub layer-far : Exits n new k s exit exits
  layer-far =
      record {
        within = w.far.within;
        queue = λ h. queue-kept (w.far.queue h) new exits-kept (same-seeds fifo_code (fifo-closing fifo_code refl));
        none = λ z c h t. w.far.none z c h (rw (same-seeds fifo_code (fifo-closing fifo_code refl) c h) at t);
      }

  pub layer-late : at < count → LabelAfter n set new k s (order_of n set new at)
  layer-late h = late-kept w.near new layer-kept at h (front.late h)

  pub layer-late-exit : exit < exits → LabelAfter n out new k s (order_of n out new exit)
  layer-late-exit h = late-kept (w.far.queue (omega arith)) new exits-kept exit h (front.late_exit h)

  pub layer-found : (c : ℕ) → T (known_of n set new c) → LabelBy n set new (R.weight f + k) s c
  layer-found = by-kept n set words new (λ i lo hi. layer-kept i lo (omega arith)) (R.weight f + k) s w.found

  pub layer-labels : Labelled R f k s (labels_for n exits new)
  layer-labels =
      labelled-kept n exits words new (record { registers = λ i lo hi. layer-kept i lo (omega arith); fifos = λ h i lo hi. exits-kept i lo (omega arith) }) R f k s w.searching.labels

  pub layer-watch : (g : ℕ) → f ≡ suc g → Watching R n g new k s watched
  layer-watch g e = watch-kept (front.waiting.watch g e) new exits-kept

  -- the layer on the words is the layer of the search
  pub layer-from : Searching R f k s (budget_of n words) (labels_for n exits new)
  layer-from = record { table = w.searching.table; labels = layer-labels }

  -- the seed marks are the seeds by the labels
  marks : (code : ℕ) → T (is_closing code) → (c : ℕ) → c < n → seed_of n new code c ≡ seed_at (labels_for n exits new) k s code c
  unfolding seed_at
  marks code shut c h = go (closing-codes code shut) (split 1 exits)
    where
      nothing : exits < 1 → seed_of n new fifo_code c ≡ seed_at (labels_for n exits new) k s fifo_code c
      nothing z =
          is_false (seed_of n new fifo_code c) (not_T (seed_of n new fifo_code c) (layer-far.none (omega arith) c h)) ∙ simp (labels-no-fifo n exits new (omega arith))

      go : (code ≡ register_code) ⊎ (code ≡ fifo_code) → (1 ≤ exits) ⊎ (exits < 1) → seed_of n new code c ≡ seed_at (labels_for n exits new) k s code c
      go (inl e) z = rw e (queue-seeds layer-near layer-late (labels_for n exits new) (labels-register n exits new) c h)
      go (inr e) (inl z) = rw e (queue-seeds (layer-far.queue z) layer-late-exit (labels_for n exits new) (labels-fifo n exits new z) c h)
      go (inr e) (inr z) = rw e (nothing z)

  pub layer-next : Next R f (labels_for n exits new) k s (budget_of n words) (budget_of n new)
  layer-next c d =
      l.table w.list c (λ x t. tt) d
      ∙ layer-seeds R (seed_of n words) (seed_at (labels_for n exits new) k s) (R.bound 0 f) (budget_of n words)
      (λ code x shut h. let b : x < n = omega arith in sym (same-seeds code shut x b) ∙ marks code shut x b) c d

  more : (c d : ℕ) → budget_of n words c d ≤ budget_of n new c d
  more c d = omega (arith, l.table w.list c (λ x t. tt) d, pushes.layer-least R (seed_of n words) (R.bound 0 f) (budget_of n words) c d)

  -- a layer that lists a cell has raised the table
  module _ (some : 0 < next.count) where
    pub grown : Grew n words new (get_or new (n * active_at + 0) 0)
    grown = l.grew (get_or new (n * active_at + 0) 0) (l.listed.cells 0 some) (l.listed.flagged 0 some)

    pub layer-grows : total n words < total n new
    layer-grows = total-grows n words new more (get_or new (n * active_at + 0) 0) grown

    -- a state has come in, and these are its least figures
    pub layer-came : Least R f (R.weight f + k) (suc s) (get_or new (n * active_at + 0) 0) grown.load (budget_of n words (get_or new (n * active_at + 0) 0) grown.load)
    layer-came = layer-least R law f layer-from layer-next _ _ _ (omega arith) grown.more

  pub layer-sink : f ≡ 0 → R.start.delay < budget_of n new R.sink R.start.load → Reaching R n exits new k (suc s) count
  layer-sink e h =
      record {
        least =
            subst (λ (i : ℕ). Least R i (R.weight i + k) (suc s) R.sink R.start.load R.start.delay) e
            (layer-least R law f layer-from layer-next R.sink R.start.load R.start.delay (w.unreached e) h);
        before = s;
        labels = subst (λ (i : ℕ). Labelled R i k s (labels_for n exits new)) e layer-labels;
        ordered = layer-near.ordered;
        exits_ordered = λ z. (layer-far.queue z).ordered;
      }

  -- a layer that lists no cell changed nothing
  module _ (none : next.count ≡ 0) where
    still : (c d : ℕ) → budget_of n new c d ≡ budget_of n words c d
    still c d = go (split n c)
      where
        go : (n ≤ c) ⊎ (c < n) → budget_of n new c d ≡ budget_of n words c d
        go (inl h) = budget-outside n new c d (λ a b. omega arith) ∙ sym (budget-outside n words c d (λ a b. omega arith))
        go (inr h) = l.quiet c h (empty-flags l.listed none c h) d

    pub quiet-total : total n new ≡ total n words
    quiet-total = omega (arith, total-least n words new (λ c d. omega (arith, still c d)), total-least n new words (λ c d. omega (arith, still c d)))

    quiet : Next R f (labels_for n exits new) k s (budget_of n words) (budget_of n words)
    quiet c d = sym (still c d) ∙ layer-next c d

    -- what holds of figures that have come, and of those not before a first label that waits, holds of every label
    placed : (P : ℕ → ℕ → Type 0) → ((a b : ℕ) → NotAfter a b k s → P a b) → (at < count → (a b : ℕ) → NotAfter (weight_of n set new (order_of n set new at)) (steps_of n set new (order_of n set new at)) a b → P a b) → (exit < exits → (a b : ℕ) → NotAfter (weight_of n out new (order_of n out new exit)) (steps_of n out new (order_of n out new exit)) a b → P a b) → (code c : ℕ) → T ((labels_for n exits new code).known c) → P ((labels_for n exits new code).weight c) ((labels_for n exits new code).steps c)
    placed P come near far code c t = go (label-code n exits new code c t)
      where
        first : Placed n set register_code new k s at count c → P (weight_of n set new c) (steps_of n set new c)
        first (Placed.come p q) = come _ _ q
        first (Placed.waits p q) = near p _ _ q

        second : Placed n out fifo_code new k s exit exits c → P (weight_of n out new c) (steps_of n out new c)
        second (Placed.come p q) = come _ _ q
        second (Placed.waits p q) = far p _ _ q

        by : (L : Labels) → labels_for n exits new code ≡ L → (T (L.known c) → P (L.weight c) (L.steps c)) → P ((labels_for n exits new code).weight c) ((labels_for n exits new code).steps c)
        by L e h = subst (λ (x : Labels). T (x.known c) → P (x.weight c) (x.steps c)) (sym e) h t

        go : (code ≡ register_code) ⊎ ((code ≡ fifo_code) × (0 < exits)) → P ((labels_for n exits new code).weight c) ((labels_for n exits new code).steps c)
        go (inl e) = by (labels_of n set new) (rw e (labels-register n exits new)) (λ u. first (queue-place layer-near c u))
        go (inr e) = by (labels_of n out new) (rw e.0 (labels-fifo n exits new e.1)) (λ u. second (queue-place (layer-far.queue e.1) c u))

    -- on to (k', s'), which is not before (k, s) and not after a label that waits
    module _ (k' s' : ℕ) (later : NotAfter k s k' s') (nearFrom : at < count → HeadFrom n set new at k' s') (farFrom : exit < exits → HeadFrom n out new exit k' s') where
      idle : IdleUntil (labels_for n exits new) k s k' s'
      idle =
          placed (λ a b. NotAfter a b k s ⊎ NotAfter k' s' a b) (λ a b q. inl q) (λ h a b q. inr (not-after-trans (nearFrom h) q)) (λ h a b q. inr (not-after-trans (farFrom h) q))

      jumped : Searching R f k' s' (budget_of n words) (labels_for n exits new)
      jumped = jump-turn R law f layer-from quiet k' s' later idle

      back : (c d e : ℕ) → Open R f k' s' c d e → Open R f k s c d e
      back c d e x = w.searching.table.sound c d e (jumped.table.complete c d e x)

      jump-watch : (g : ℕ) → f ≡ suc g → Watching R n g new k' s' watched
      unfolding Watched
      jump-watch g e =
          let v = layer-watch g e in
          let b : (c d e : ℕ) → Open R (suc g) k' s' c d e → Open R (suc g) k s c d e = subst (λ (i : ℕ). (c d e : ℕ) → Open R i k' s' c d e → Open R i k s c d e) e back in
          record {
            covers = watch-later R law g k s k' s' (labels_of n out new) v.covers b;
            ordered = v.ordered;
            last = λ c t. not-after-trans (v.last c t) (heavier (R.weight (suc g)) later);
          }

      pub quiet-jump : Waiting R n f exits new k' s' 0 at count exit watched
      quiet-jump =
          record {
            standing =
                record {
                  searching = record { table = same-table (Open R f k' s') still jumped.table; labels = jumped.labels };
                  list = rw none at (l.active w.list);
                  near = queue-jump layer-near k' s' later nearFrom;
                  far =
                      record {
                        within = layer-far.within;
                        queue = λ h. queue-jump (layer-far.queue h) k' s' later farFrom;
                        none = layer-far.none;
                      };
                  alone = w.alone;
                  found = λ c t. not-after-trans (layer-found c t) (heavier (R.weight f) later);
                  coloured = coloured-none R s' l.listed none;
                  unreached = λ e. omega (arith, still R.sink R.start.load, w.unreached e);
                };
            watch = jump-watch;
          }

    -- no label waits: the table has all that can be done
    pub quiet-end : at ≡ count → exit ≡ exits → Ended R n f exits new count watched
    unfolding Watched
    quiet-end last lastExit =
        record {
          none = λ e v t x.
              omega (arith, w.unreached e, w.searching.table.complete _ _ _ (all-turn R law f layer-from quiet all v t _ _ _ (subst (λ (i : ℕ). Done R i v t R.sink R.start.load R.start.delay) (sym e) x)));
          labels = all-labels R law f layer-from quiet all;
          ordered = layer-near.ordered;
          covers = λ g e. complete g e;
          exits_ordered = λ g e. (layer-watch g e).ordered;
        }
      where
        all : AllSeeds (labels_for n exits new) k s
        all = placed (λ a b. NotAfter a b k s) (λ a b q. q) (λ h. absurd (omega arith)) (λ h. absurd (omega arith))

        complete : (g : ℕ) → f ≡ suc g → (v t : ℕ) → Covers (After R g fifo_code) v t (labels_of n out new)
        complete g e v t =
            watch-all R law g (subst (λ (i : ℕ). Searching R i k s (budget_of n words) (labels_for n exits new)) e layer-from)
            (subst (λ (i : ℕ). Next R i (labels_for n exits new) k s (budget_of n words) (budget_of n words)) e quiet) all (labels_of n out new) (layer-watch g e).covers v t
