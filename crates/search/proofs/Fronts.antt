-- From front to front: the start, a layer that grew with its new labels, arrivals.
use Prim.Native.Nat.{ℕ, suc, ◌+◌, ◌*◌, ◌≤◌, ◌<◌}
use mathlib.Core.Path.{◌≡◌, refl, sym, subst, ◌∙◌}
use mathlib.Core.Logic.{◌⊎◌, inl, inr}
use mathlib.Core.List.{List}
use native.Mathlib.Omega.{arith}
use lib.Dec.{T}
use lib.ListN.{length, get_or}
use Rattle.rules.specs.Rules.{Rules, register_code, fifo_code, is_closing, side_after}
use Rattle.rules.specs.Legal.{may_stand}
use Rattle.plan.proofs.Truth.{split}
use Rattle.rules.proofs.View.{register-closing, fifo-closing, side_same, side-fifo}
use Rattle.budget.specs.Table.{Represents}
use Rattle.budget.specs.Done.{Open, After, Labels, Covers, Lawful}
use Rattle.budget.specs.Search.{Searching, Relabelled}
use Rattle.budget.specs.Colours.{InStep}
use Rattle.budget.proofs.Done.{none_before, not-after-trans}
use Rattle.budget.proofs.Search.{same-table, next-table}
use Rattle.budget.proofs.Turns.{search-start, layer-turn}
use Rattle.budget.proofs.HandOver.{Watched, watch-start, watch-layer}
use Rattle.budget.proofs.Colours.{label-in-step}
use Rattle.layout.specs.Layout.{arrival_at, labels_at, exits_at, aside_at, weight_high, label_words, active_at, listed_at, seeds_at, trail_at}
use Rattle.lists.specs.Lists.{flag_of}
use Rattle.lists.proofs.Lists.{listed_kept, listed-count}
use Rattle.rows.specs.Words.{Kept, KeptFrom}
use Rattle.table.specs.Problem.{budget_of, seed_of}
use Rattle.trail.specs.Trail.{no_trail}
use Rattle.table.specs.declared.pushes.Grown.{Grown}
use Rattle.table.specs.Layer.{Active, Layered}
use Rattle.table.proofs.Views.{budget-kept, seeds-kept}
use Rattle.table.proofs.Colours.{coloured-none, coloured-kept, coloured-layer}
use Rattle.labels.specs.Labels.{known_of, weight_of, steps_of, weight_word, labels_of, labels_for, order_of, LabelBy, Ordered}
use Rattle.labels.specs.Additions.{LabelsAdded}
use Rattle.labels.specs.declared.both.Idle.{Idle}
use Rattle.labels.specs.Idle.{IdleRight}
use Rattle.labels.specs.Both.{BothAsk, ArrivedBoth}
use Rattle.labels.proofs.Labels.{known-below, by-kept, ordered-none, ordered-count, ordered-kept, word-unknown, unknown-not, labels-register, labels-fifo, labels-renewed, labelled-kept, fifos-kept}
use Rattle.labels.proofs.Additions.{labels-relabelled, labels-last}
use Rattle.labels.proofs.Arriving.{coloured-arrived, active-kept, active-arrived, cleared-table, cleared-seed, cleared-active}
use Rattle.search.specs.Front.{Queued, Watching, Standing, Waiting, Front}
use Rattle.search.specs.Search.{Blank, SideAsks, Sourced}
use Rattle.search.specs.Ask.{WatchDone}
use Rattle.search.proofs.Queue.{queue-jump, queue-kept, late-kept, queue-added, queue-arrived, late-arrived, arrives-now}
use Rattle.search.proofs.Layers.{watch-kept, layer-near, layer-far, layer-late, layer-late-exit, layer-found, layer-labels, layer-watch, layer-from, layer-next}

-- labels whose words stay, all from the set's first on, are the same
labels-stay : (n set : ℕ) (old new : List ℕ) → KeptFrom set old new → labels_of n set new ≡ labels_of n set old
unfolding known_of
labels-stay n set old new kept = λ i. record {
  known = λ c. known c i;
  weight = λ c. weight c i;
  steps = λ c. steps c i;
}
  where
    word : (c : ℕ) → weight_word n set new c ≡ weight_word n set old c
    word c = rw (kept (set + c) (omega arith), kept (set + n * weight_high + c) (omega arith))

    known : (c : ℕ) → known_of n set new c ≡ known_of n set old c
    known c = rw (word c)

    weight : (c : ℕ) → weight_of n set new c ≡ weight_of n set old c
    weight c = rw (word c)

    steps : (c : ℕ) → steps_of n set new c ≡ steps_of n set old c
    steps c = rw (kept (set + n * 2 + c) (omega arith), kept (set + n * 3 + c) (omega arith))

-- All stands where only words past the FIFOs' first label change, and these only where there is no FIFO to come.
pub standing-kept : {R : Rules} {n f exits : ℕ} {old : List ℕ} {k s active at count exit : ℕ} → Standing R n f exits old k s active at count exit → (new : List ℕ) → ((i : ℕ) → i < n * exits_at → get_or new i 0 ≡ get_or old i 0) → (0 < exits → (i : ℕ) → get_or new i 0 ≡ get_or old i 0) → Standing R n f exits new k s active at count exit
standing-kept {R} {n} {f} {exits} {old} {k} {s} w new low all =
    record {
      searching =
          record {
            table = same-table (Open R f k s) table w.searching.table;
            labels = labelled-kept n exits old new (record { registers = λ i lo hi. low i (omega arith); fifos = λ h i lo hi. all h i }) R f k s w.searching.labels;
          };
      list =
          active-kept R n (R.bound 0 f) old new w.list
          (listed_kept w.list.listed new (λ c h. low (n * listed_at + c) (omega arith)) (λ i h. low (n * active_at + i) (omega (arith, listed-count w.list.listed))))
          (λ i q. low i (omega arith))
          (λ c h t z. (t, (sym (low (n * listed_at + c) (omega arith)) ∙ z, λ code shut. seeds code shut c h)));
      near = queue-kept w.near new (λ i lo hi. low i (omega arith)) (seeds register_code (register-closing register_code refl));
      far =
          record {
            within = w.far.within;
            queue = λ h. queue-kept (w.far.queue h) new (λ i lo hi. all h i) (seeds fifo_code (fifo-closing fifo_code refl));
            none = λ z c h t. w.far.none z c h (rw (seeds fifo_code (fifo-closing fifo_code refl) c h) at t);
          };
      alone = w.alone;
      found = by-kept n (n * labels_at) old new (λ i lo hi. low i (omega arith)) (R.weight f + k) s w.found;
      coloured = coloured-kept w.coloured new (λ c h o. omega (arith, low (n * listed_at + c) (omega arith)));
      unreached = λ e. omega (arith, table R.sink R.start.load, w.unreached e);
    }
  where
    table : (c d : ℕ) → budget_of n new c d ≡ budget_of n old c d
    table = budget-kept n old new (λ i lo hi. low i (omega arith))

    seeds : (code : ℕ) → T (is_closing code) → (c : ℕ) → c < n → seed_of n new code c ≡ seed_of n old code c
    seeds code shut c h = seeds-kept n old new (λ i lo hi. low i (omega arith)) c h code shut

-- a layer, and its new labels
module _ {R : Rules} (law : Lawful R) {n f exits : ℕ} (cells : R.cell_count ≡ n) {words : List ℕ} {k s active at count exit watched : ℕ} (front : Front R n f exits words k s active at count exit watched) {new : List ℕ} {next : Grown} (l : Layered R n (R.bound 0 f) no_trail words new next) where
  abbrev set : ℕ
  set = n * labels_at

  abbrev out : ℕ
  out = n * exits_at

  table : Represents (budget_of n new) (Open R f k (suc s))
  table =
      next-table R law f k s (labels_for n exits new) (layer-labels law cells front l) (budget_of n words) (budget_of n new) front.waiting.standing.searching.table (layer-next law cells front l)

  -- a cell that is not listed has its label already: its row is as before. The gates of this code come from side g.
  quiet-label : (g code : ℕ) (x : Labels) → T (is_closing code) → side_after g code ≡ f → Covers (After R g code) (R.weight f + k) s x → (c : ℕ) → c < n → flag_of n new c ≡ 0 → T (may_stand R c code) → (R.fresh code).delay < budget_of n new c (R.fresh code).load → T (x.known c)
  quiet-label g code x shut leads covers c h z may t =
      covers.complete c
      (After.at_gate shut may
      (rw leads (front.waiting.standing.searching.table.sound c (R.fresh code).load (R.fresh code).delay (omega (arith, l.quiet c h z (R.fresh code).load)))))

  own : side_after f register_code ≡ f
  own = side_same f register_code (λ z. omega arith)

  registers : Covers (After R f register_code) (R.weight f + k) s (labels_of n set new)
  registers = rw (labels-register n exits new) at (layer-labels law cells front l).registers

  -- no label is after the new ones
  pub labels-before : (c : ℕ) → T (known_of n set new c) → LabelBy n set new (R.weight f + k) (suc s) c
  labels-before c t =
      not-after-trans (layer-found law cells front l c t) (inr (refl, omega arith))

  pub watch-before : (g : ℕ) → f ≡ suc g → (c : ℕ) → T (known_of n out new c) → LabelBy n out new (R.weight f + k) (suc s) c
  watch-before g e c t =
      not-after-trans (subst (λ (i : ℕ). LabelBy n out new (R.weight i + k) s c) (sym e) ((layer-watch law cells front l g e).last c t)) (inr (refl, omega arith))

  module _ {mid : List ℕ} {count' : ℕ} (added : LabelsAdded R n register_code set (R.weight f + k) (suc s) new mid count count') where
    relabelled : Relabelled (After R f register_code) (R.weight f + k) (suc s) (labels_of n set new) (labels_of n set mid)
    relabelled =
        labels-relabelled f f k (register-closing register_code refl) own l.listed added table
        (quiet-label f register_code (labels_of n set new) (register-closing register_code refl) own registers)
        (λ q e. registers.complete R.source (After.at_source refl e refl))

    mid-table : (c d : ℕ) → budget_of n mid c d ≡ budget_of n new c d
    mid-table = budget-kept n new mid (λ i lo hi. added.low i (omega arith))

    mid-exits : KeptFrom out new mid
    mid-exits i h = added.high i (omega arith)

    mid-seeds : (code : ℕ) → T (is_closing code) → (c : ℕ) → c < n → seed_of n mid code c ≡ seed_of n new code c
    mid-seeds code shut c h = seeds-kept n new mid (λ i lo hi. added.high i (omega arith)) c h code shut

    searching : Searching R f k (suc s) (budget_of n new) (labels_for n exits mid)
    searching =
        subst (λ (m : ℕ → Labels). Searching R f k (suc s) (budget_of n new) m) (labels-renewed n exits new mid (λ h. labels-stay n out new mid mid-exits))
        (layer-turn R law f (layer-from law cells front l) (layer-next law cells front l) (subst (λ (x : Labels). Relabelled (After R f register_code) (R.weight f + k) (suc s) x (labels_of n set mid)) (sym (labels-register n exits new)) relabelled))

    list : Active R n (R.bound 0 f) mid next.count
    list =
        active-kept R n (R.bound 0 f) new mid (l.active front.waiting.standing.list)
        (listed_kept l.listed mid (λ c h. added.high (n * listed_at + c) (omega arith)) (λ i h. added.high (n * active_at + i) (omega arith)))
        (λ i q. added.low i (omega arith))
        (λ c h t z. (t, (sym (added.high (n * listed_at + c) (omega arith)) ∙ z, λ code shut. mid-seeds code shut c h)))

    pub grown-standing : (f ≡ 0 → budget_of n new R.sink R.start.load ≤ R.start.delay) → Standing R n f exits mid k (suc s) next.count at count' exit
    grown-standing not_yet =
        record {
          searching = record { table = same-table (Open R f k (suc s)) mid-table searching.table; labels = searching.labels };
          list = list;
          near =
              queue-added (layer-near law cells front l) mid (layer-late law cells front l) (omega (arith, law.heavy f)) added
              (mid-seeds register_code (register-closing register_code refl));
          far =
              record {
                within = (layer-far law cells front l).within;
                queue = λ h. queue-jump (queue-kept ((layer-far law cells front l).queue h) mid (λ i lo hi. mid-exits i lo) (mid-seeds fifo_code (fifo-closing fifo_code refl))) k (suc s) (inr (refl, omega arith)) (λ g. late-kept ((layer-far law cells front l).queue h) mid (λ i lo hi. mid-exits i lo) exit g (layer-late-exit law cells front l g));
                none = λ z c h t. (layer-far law cells front l).none z c h (rw (mid-seeds fifo_code (fifo-closing fifo_code refl) c h) at t);
              };
          alone = front.waiting.standing.alone;
          found = labels-last added labels-before;
          coloured = coloured-kept (coloured-layer l front.waiting.standing.coloured) mid (λ c h o. omega (arith, added.high (n * listed_at + c) (omega arith)));
          unreached = λ e. omega (arith, mid-table R.sink R.start.load, not_yet e);
        }

    -- the FIFOs that lead here, at the registers' new labels
    pub mid-watch : (g : ℕ) → f ≡ suc g → Watching R n g mid k s watched
    mid-watch g e = watch-kept (layer-watch law cells front l g e) mid (λ i lo hi. mid-exits i lo)

    module _ {last : List ℕ} {watched' : ℕ} (done : WatchDone R n f (R.weight f + k) (suc s) mid last watched watched') where
      some : (g : ℕ) → f ≡ suc g → 0 < f
      some g e = omega arith

      grown-watch : (g : ℕ) → f ≡ suc g → Watching R n g last k (suc s) watched'
      unfolding Watched
      grown-watch g e =
          let v = mid-watch g e in
          let a = done.added (some g e) in
          let lead : side_after g fifo_code ≡ f = side-fifo g fifo_code refl ∙ sym e in
          let here : Covers (After R g fifo_code) (R.weight f + k) s (labels_of n out mid) = subst (λ (i : ℕ). Covers (After R g fifo_code) (R.weight i + k) s (labels_of n out mid)) (sym e) v.covers in
          let was : Covers (After R g fifo_code) (R.weight f + k) s (labels_of n out new) = subst (λ (i : ℕ). Covers (After R g fifo_code) (R.weight i + k) s (labels_of n out new)) (sym e) (layer-watch law cells front l g e).covers in
          let re : Relabelled (After R g fifo_code) (R.weight f + k) (suc s) (labels_of n out mid) (labels_of n out last) =
          labels-relabelled f g k (fifo-closing fifo_code refl) lead list.listed a (same-table (Open R f k (suc s)) mid-table table)
          (λ c h z may t. quiet-mid g lead here c h z may t) (λ q. absurd (omega arith)) in
          record {
            covers = watch-layer R law g k s (labels_of n out mid) (labels_of n out last) v.covers (subst (λ (i : ℕ). Relabelled (After R g fifo_code) (R.weight i + k) (suc s) (labels_of n out mid) (labels_of n out last)) e re);
            ordered = a.ordered;
            last = subst (λ (i : ℕ). (c : ℕ) → T (known_of n out last c) → LabelBy n out last (R.weight i + k) (suc s) c) e (labels-last a (λ c t. not-after-trans (subst (λ (i : ℕ). LabelBy n out mid (R.weight i + k) s c) (sym e) (v.last c t)) (inr (refl, omega arith))));
          }
        where
          quiet-mid : (g : ℕ) → side_after g fifo_code ≡ f → Covers (After R g fifo_code) (R.weight f + k) s (labels_of n out mid) → (c : ℕ) → c < n → flag_of n mid c ≡ 0 → T (may_stand R c fifo_code) → (R.fresh fifo_code).delay < budget_of n mid c (R.fresh fifo_code).load → T (known_of n out mid c)
          quiet-mid g lead here c h z may t =
              quiet-label g fifo_code (labels_of n out mid) (fifo-closing fifo_code refl) lead here c h (sym (added.high (n * listed_at + c) (omega arith)) ∙ z) may (omega (arith, mid-table c (R.fresh fifo_code).load))

      pub grown-waiting : (f ≡ 0 → budget_of n new R.sink R.start.load ≤ R.start.delay) → Waiting R n f exits last k (suc s) next.count at count' exit watched'
      grown-waiting not_yet =
          record {
            standing = standing-kept (grown-standing not_yet) last done.low (λ h. done.none (no-side h (split 1 f)));
            watch = grown-watch;
          }
        where
          no-side : 0 < exits → (1 ≤ f) ⊎ (f < 1) → f ≡ 0
          no-side h (inl q) = absurd (omega (arith, front.waiting.standing.alone q))
          no-side h (inr q) = omega arith

-- labels that have come become seeds
pub arrive-front : {R : Rules} → Lawful R → {n f exits : ℕ} {words : List ℕ} {k s active at count exit watched : ℕ} → Waiting R n f exits words k s active at count exit watched → {new : List ℕ} {idle : Idle} {to out active' : ℕ} → IdleRight R idle → ArrivedBoth n idle at count exit exits k s words new to out active' → Front R n f exits new k s active' to count out watched
arrive-front {R} law {n} {f} {exits} {words} {k} {s} {active} {at} {count} {exit} v {new} {idle} {to} {out} {active'} right a =
    record {
      waiting =
          record {
            standing =
                record {
                  searching =
                      record {
                        table = same-table (Open R f k s) same w.searching.table;
                        labels = labelled-kept n exits words new (record { registers = λ i lo hi. a.low i (omega arith); fifos = λ h i lo hi. a.high i (omega arith) }) R f k s w.searching.labels;
                      };
                  list = active-arrived R n (R.bound 0 f) words new right at count exit exits k s to out active' a w.list;
                  near = queue-arrived w.near new near-kept a.near;
                  far =
                      record {
                        within = a.far.within;
                        queue = λ h. queue-arrived (w.far.queue h) new far-kept a.far;
                        none = λ z c h t. w.far.none z c h (rw (a.far.other_seeds c h (λ i lo hi. absurd (omega (arith, a.far.within)))) at t);
                      };
                  alone = w.alone;
                  found = by-kept n (n * labels_at) words new (λ i lo hi. a.low i (omega arith)) (R.weight f + k) s w.found;
                  coloured = coloured-arrived w.coloured near_step far-step a;
                  unreached = λ e. omega (arith, same R.sink R.start.load, w.unreached e);
                };
            watch = λ g e. watch-kept (v.watch g e) new far-kept;
          };
      late = late-arrived w.near new near-kept a.near;
      late_exit = λ h. late-arrived (w.far.queue (omega arith)) new far-kept a.far h;
    }
  where
    w : Standing R n f exits words k s active at count exit
    w = v.standing

    near-kept : Kept (n * labels_at) (n * labels_at + n * label_words) words new
    near-kept i lo hi = a.low i (omega arith)

    far-kept : Kept (n * exits_at) (n * exits_at + n * label_words) words new
    far-kept i lo hi = a.high i (omega arith)

    same : (c l : ℕ) → budget_of n new c l ≡ budget_of n words c l
    same = budget-kept n words new (λ i lo hi. a.low i (omega arith))

    step : (code : ℕ) (set c t : ℕ) → T (is_closing code) → labels_for n exits words code ≡ labels_of n set words → T (known_of n set words c) → steps_of n set words c ≡ t → InStep R t c
    step code set c t shut e known z =
        rw z at (subst (λ (x : Labels). T (x.known c) → InStep R (x.steps c) c) e (label-in-step law w.searching.labels code c shut) known)

    near_step : (i : ℕ) → at ≤ i → i < to → InStep R s (order_of n (n * labels_at) words i)
    near_step i lo hi =
        step register_code (n * labels_at) _ s (register-closing register_code refl) (labels-register n exits words) (w.near.ordered.known i (omega (arith, a.near.within))) (arrives-now w.near new near-kept a.near i lo hi)

    far-step : (i : ℕ) → exit ≤ i → i < out → InStep R s (order_of n (n * exits_at) words i)
    far-step i lo hi =
        let h : 0 < exits = omega (arith, a.far.within) in
        step fifo_code (n * exits_at) _ s (fifo-closing fifo_code refl) (labels-fifo n exits words h) ((w.far.queue h).ordered.known i (omega (arith, a.far.within))) (arrives-now (w.far.queue h) new far-kept a.far i lo hi)

-- what `arrive_both` asks
pub waiting-asks : {R : Rules} {n f exits : ℕ} {words : List ℕ} {k s active at count exit watched : ℕ} → Waiting R n f exits words k s active at count exit watched → n ≤ 1024 → n * trail_at ≤ length words → (0 < exits → n * aside_at ≤ length words) → BothAsk n at count exit exits active words
waiting-asks {exits = exits} {exit = exit} v few room exits_in =
    record {
      few = few;
      room = room;
      listed = v.standing.list.listed;
      near = record { start = v.standing.near.at_count; short = ordered-count v.standing.near.ordered; known = v.standing.near.ordered.known };
      within = v.standing.far.within;
      exits_in = λ h. exits_in (omega arith);
      far = λ h.
          let q = v.standing.far.queue (omega arith) in
          record { start = q.at_count; short = ordered-count q.ordered; known = q.ordered.known };
    }

-- The start: words of zeros, with the source's label on its own side
module _ {R : Rules} (law : Lawful R) {n f exits : ℕ} {words : List ℕ} (blank : Blank n words) (asks : SideAsks R n f exits words) {new : List ℕ} {count : ℕ} (a : Sourced n f R.fifos R.source words new count) where
  rows : (i : ℕ) → i < n * arrival_at → get_or new i 0 ≡ 0
  rows i h = a.low i (omega arith) ∙ blank.table i h

  flags : (i : ℕ) → n * listed_at ≤ i → i < n * trail_at → get_or new i 0 ≡ 0
  flags i lo hi = a.high i (omega arith) ∙ blank.labels i (omega arith) hi

  beyond : (i : ℕ) → n * trail_at ≤ i → get_or new i 0 ≡ get_or words i 0
  beyond i h = a.high i (omega arith)

  start-list : Active R n (R.bound 0 f) new 0
  start-list = cleared-active R n (R.bound 0 f) new rows flags

  no-seed : (code : ℕ) → T (is_closing code) → (c : ℕ) → c < n → T (seed_of n new code c) → ⊥
  no-seed code shut c h t = unknown-not (cleared-seed n new c (flags (n * seeds_at + c) (omega arith) (omega arith)) code shut) t

  start-queue : (set code count : ℕ) → T (is_closing code) → Ordered n set new count → Queued n set code new 0 0 0 count
  start-queue set code count shut o =
      record {
        ordered = o;
        at_count = omega arith;
        order_seed = λ i h. absurd (omega arith);
        seeds = λ c h t. absurd (no-seed code shut c h t);
        past = λ i h. absurd (omega arith);
        soon = λ h. none_before _ _;
      }

  -- after a FIFO: no label yet of those that lead here
  unwatched : (c : ℕ) → 0 < f → c < n → weight_word n (n * exits_at) new c ≡ 0
  unwatched c s h =
      rw (beyond (n * exits_at + c) (omega arith) ∙ asks.unwatched s (n * exits_at + c) (omega arith) (omega arith), beyond (n * exits_at + n * weight_high + c) (omega arith) ∙ asks.unwatched s (n * exits_at + n * weight_high + c) (omega arith) (omega arith)) refl

  none-watched : (c : ℕ) → 0 < f → T (known_of n (n * exits_at) new c) → ⊥
  none-watched c s t = unknown-not (word-unknown n (n * exits_at) new c (unwatched c s (known-below n (n * exits_at) new c t))) t

  start-watch : (g : ℕ) → f ≡ suc g → Watching R n g new 0 0 0
  unfolding Watched
  start-watch g e =
      let s : 0 < f = omega arith in
      record {
        covers = watch-start R law g (labels_of n (n * exits_at) new) (λ c t. none-watched c s t);
        ordered = ordered-none n (n * exits_at) new (λ c h. unwatched c s h);
        last = λ c t. absurd (none-watched c s t);
      }

  only : (c : ℕ) → T ((labels_for n exits new register_code).known c) → (f ≡ R.fifos) × ((c ≡ R.source) × (((labels_for n exits new register_code).weight c ≡ 0) × ((labels_for n exits new register_code).steps c ≡ 0)))
  only c t = subst (λ (x : Labels). T (x.known c) → (f ≡ R.fifos) × ((c ≡ R.source) × ((x.weight c ≡ 0) × (x.steps c ≡ 0)))) (sym (labels-register n exits new)) (a.only c) t

  has : f ≡ R.fifos → (c : ℕ) → c ≡ R.source → T ((labels_for n exits new register_code).known c)
  has e c z = rw (z, labels-register n exits new) (a.has e)

  pub start-front : Waiting R n f exits new 0 0 0 0 count 0 0
  start-front =
      record {
        standing =
            record {
              searching =
                  search-start R law f (budget_of n new) (labels_for n exits new) (cleared-table n new rows)
                  (λ w t. fifos-kept n exits words new (λ h i lo hi. beyond i (omega arith)) (After R f fifo_code) w t (asks.covers w t))
                  only has;
              list = start-list;
              near = start-queue (n * labels_at) register_code count (register-closing register_code refl) a.ordered;
              far =
                  record {
                    within = omega arith;
                    queue = λ h. start-queue (n * exits_at) fifo_code exits (fifo-closing fifo_code refl) (ordered-kept (asks.ordered h) new (λ i lo hi. beyond i (omega arith)));
                    none = λ z. no-seed fifo_code (fifo-closing fifo_code refl);
                  };
              alone = asks.alone;
              found = λ c t. let o = a.only c t in inl (omega (arith, law.heavy f));
              coloured = coloured-none R 0 start-list.listed refl;
              unreached = λ e. omega (arith, cleared-table n new rows R.sink R.start.load);
            };
        watch = start-watch;
      }
