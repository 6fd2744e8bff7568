-- The search of one side as computed is right: each turn is one of the theory's, and adds to the sum of the budgets or to the number of seeds; so the fuel is enough.
use Prim.Native.Nat.{ℕ, zero, suc, ◌+◌, ◌≤◌, ◌<◌}
use mathlib.Core.Path.{◌≡◌, refl, sym, ◌∙◌, fun_ext, subst}
use mathlib.Core.Bool.{Bool, true, false, not, ◌&&◌, cond}
use mathlib.Core.List.{List, []}
use mathlib.Core.Logic.{◌⊎◌, inl, inr}
use native.Mathlib.Omega.{arith}
use borrow.Author.Tests.{ltb-true, ltb-false}
use lib.Dec.{T, eqb, ltb, T_not, eqb→eq, ltb→lt, lt→ltb}
use Rattle.rules.specs.Rules.{Rules, register_code, fifo_code, is_closing}
use Rattle.plan.proofs.Truth.{both, fst, snd, of-true, of-false, eq→eqb, decided, split}
use Rattle.rules.proofs.View.{register-closing, fifo-closing, side_same}
use Rattle.budget.specs.Table.{Table, Represents, budget_sum, layer}
use Rattle.budget.specs.Done.{NotAfter, Done, Open, Least, After, Labels, Covers, Labelled, Lawful, seed_at}
use Rattle.budget.specs.Search.{Searching, Next, Relabelled, IdleUntil, AllSeeds, renewed}
use Rattle.budget.proofs.Active.{layer-least}
use Rattle.budget.proofs.Done.{not-after-trans}
use Rattle.budget.proofs.Search.{Arrived, seed-view, seed-test, not-before, label-enough, next-table}
use Rattle.budget.proofs.Sums.{total-same}
use Rattle.budget.proofs.Turns.{search-start, layer-turn, jump-turn, all-turn, all-labels}
use Rattle.budget.proofs.Turns.{layer-least as least-figures}
use Rattle.best.specs.Rows.{Rows, table_of, layer_rows, Bounded}
use Rattle.best.specs.Labels.{Label, labels_listed, by_code, places, next_label}
use Rattle.best.specs.Search.{Labelling, Found, figures, nothing, Turn, ends, goes_on, at_sink, relabelled, layer_turn, quiet_turn, turn, search_from, most_turns, start_labels, search_side}
use Rattle.best.proofs.Rows.{Inside, empty-zero, layer-inside, layer-rows, layer-rows-inside}
use Rattle.best.proofs.Labels.{after-placed, relabel-right}
use Rattle.best.proofs.Start.{start-known, start-source}
use Rattle.best.proofs.Next.{FirstPlace, at, empty, WaitsBelow, next-first}
use Rattle.best.proofs.Bounds.{budgets-most, seeds, seeds-most, seeds-more, seeds-grow}
use Rattle.best.proofs.Watch.{Watching, HandsOver, watching-start, watching-layer, watching-later, watching-all}

-- What the search of side f answers is right: from the sink, the least figures, with the labels up to them; or all labels, those of the FIFOs before it too, and no ending from the sink.
pub data Right (R : Rules) (f : ℕ) (exits : List Label) : Found → Type 0 where
  least : {k s q : ℕ} {m : Labelling} → f ≡ 0 → Labelled R f k q (by_code m.registers exits) → Least R f (R.weight f + k) s R.sink R.start.load R.start.delay → Right R f exits (figures k s m)
  never : {m : Labelling} → (f ≡ 0 → (w t : ℕ) → Done R f w t R.sink R.start.load R.start.delay → ⊥) → ((w t : ℕ) → Labelled R f w t (by_code m.registers exits)) → HandsOver R f m.watched → Right R f exits (nothing m)

-- between two turns
record Ready (R : Rules) (law : Lawful R) (f : ℕ) (exits : List Label) (k s : ℕ) (rows : Rows) (m : Labelling) : Type 0 where
  pub now : Searching R f k s (table_of rows) (by_code m.registers exits)
  pub inside : Inside R (table_of rows)
  pub early : f ≡ 0 → table_of rows R.sink R.start.load ≤ R.start.delay
  pub watch : Watching R law f k s m.watched

-- what a turn adds to
abbrev work : Rules → List Label → ℕ → ℕ → Rows → Labelling → ℕ
work R exits k s rows m = budget_sum R (table_of rows) + seeds (places R) (by_code m.registers exits) k s

data Turned (R : Rules) (law : Lawful R) (f : ℕ) (exits : List Label) (before : ℕ) : Turn → Type 0 where
  ended : {x : Found} → Right R f exits x → Turned R law f exits before (ends x)
  moved : {k s : ℕ} {rows : Rows} {m : Labelling} → Ready R law f exits k s rows m → before < work R exits k s rows m → Turned R law f exits before (goes_on k s rows m)

-- a code has the labels of a code that closes a span
record Shut (registers exits : List Label) (code : ℕ) : Type 0 where
  pub other : ℕ
  pub shut : T (is_closing other)
  pub same : by_code registers exits code ≡ by_code registers exits other

shut-code : (registers exits : List Label) (code : ℕ) → Shut registers exits code
unfolding by_code
shut-code registers exits code = go (eqb code register_code) refl
  where
    go : (b : Bool) → eqb code register_code ≡ b → Shut registers exits code
    go true e = record { other = register_code; shut = register-closing register_code refl; same = rw e refl }
    go false e = record { other = fifo_code; shut = fifo-closing fifo_code refl; same = rw e refl }

module _ (R : Rules) (law : Lawful R) (bounded : Bounded R) (f : ℕ) (exits : List Label) (k s : ℕ) (rows : Rows) (m : Labelling) (ready : Ready R law f exits k s rows m) where
  abbrev A : Table
  A = table_of rows

  abbrev by : ℕ → Labels
  by = by_code m.registers exits

  abbrev next : Rows
  next = layer_rows R (seed_at by k s) f rows

  abbrev before : ℕ
  before = work R exits k s rows m

  label-placed : (code c : ℕ) → T (is_closing code) → T ((by code).known c) → c < places R
  label-placed code c shut h = after-placed R law bounded (label-enough R law f k s by ready.now.labels code c shut h)

  is-next : Next R f by k s A (table_of next)
  is-next = layer-rows R bounded (seed_at by k s) f rows ready.inside

  above : (c l : ℕ) → A c l ≤ table_of next c l
  above c l = omega (arith, is-next c l, layer-least R (seed_at by k s) (R.bound 0 f) A c l)

  -- a layer that adds to the table
  module _ (grows : budget_sum R A < budget_sum R (table_of next)) where
    abbrev new : Labelling
    new = relabelled R f (R.weight f + k) (suc s) next m

    table : Represents (table_of next) (Open R f k (suc s))
    table = next-table R law f k s by ready.now.labels A (table_of next) ready.now.table is-next

    again : Relabelled (After R f register_code) (R.weight f + k) (suc s) (labels_listed m.registers) (labels_listed new.registers)
    unfolding by_code relabelled
    again =
        relabel-right R law bounded f register_code (R.weight f + k) (suc s) (register-closing register_code refl) (table_of next)
        (rw (side_same f register_code (λ z. omega arith)) table) m.registers (λ c. label-placed register_code c (register-closing register_code refl))
        (λ n e p q. ready.now.labels.registers.complete n (After.at_source e p q))

    renewed-by : renewed by (labels_listed new.registers) ≡ by_code new.registers exits
    unfolding renewed by_code
    renewed-by = fun_ext (λ code. go (eqb code register_code))
      where
        go : (b : Bool) → cond b (labels_listed new.registers) (cond b (labels_listed m.registers) (labels_listed exits)) ≡ cond b (labels_listed new.registers) (labels_listed exits)
        go true = refl
        go false = refl

    not-reached : (f ≡ 0 → table_of next R.sink R.start.load ≤ R.start.delay) → Ready R law f exits k (suc s) next new
    unfolding by_code relabelled
    not-reached early =
        record {
          now = subst (λ (n : ℕ → Labels). Searching R f k (suc s) (table_of next) n) renewed-by (layer-turn R law f ready.now is-next again);
          inside = layer-rows-inside R bounded (seed_at by k s) f rows;
          early = early;
          watch = watching-layer R law bounded f k s (table_of next) m.watched table ready.watch;
        }

    stay : (code c : ℕ) → T (seed_at by k s code c) → T (seed_at (by_code new.registers exits) k (suc s) code c)
    unfolding by_code
    stay code c h = seed-test (by_code new.registers exits) k (suc s) code c (go (eqb code register_code) (seed-view by k s code c h))
      where
        later : {a b : ℕ} → NotAfter a b k s → NotAfter a b k (suc s)
        later x = not-after-trans x (inr (refl, omega arith))

        go : (b : Bool) → Arrived (cond b (labels_listed m.registers) (labels_listed exits)) k s c → Arrived (cond b (labels_listed new.registers) (labels_listed exits)) k (suc s) c
        go true a =
            let q = again.kept c a.known in
            record { known = q.0; early = rw (q.1.0, q.1.1) (later a.early) }
        go false a = record { known = a.known; early = later a.early }

    layer-turned : Turned R law f exits before (layer_turn R f k s next m)
    unfolding layer_turn at_sink
    layer-turned = go (at_sink R f next) refl
      where
        go : (b : Bool) → at_sink R f next ≡ b → Turned R law f exits before (cond b (ends (figures k (suc s) m)) (goes_on k (suc s) next new))
        go true e =
            let h : T (eqb f 0 && ltb R.start.delay (table_of next R.sink R.start.load)) = of-true (at_sink R f next) e in
            let z : f ≡ 0 = eqb→eq f 0 (fst (eqb f 0) _ h) in
            ended (least z ready.now.labels (least-figures R law f ready.now is-next R.sink R.start.load R.start.delay (ready.early z) (ltb→lt _ _ (snd (eqb f 0) _ h))))
        go false e = moved (not-reached (λ z. early z (split (table_of next R.sink R.start.load) R.start.delay))) (omega (arith, seeds-more (places R) by (by_code new.registers exits) k s k (suc s) stay))
          where
            early : f ≡ 0 → (table_of next R.sink R.start.load ≤ R.start.delay) ⊎ (R.start.delay < table_of next R.sink R.start.load) → table_of next R.sink R.start.load ≤ R.start.delay
            early z (inl h) = h
            early z (inr h) = absurd (T_not (at_sink R f next) (of-false (at_sink R f next) e) (both (eqb f 0) _ (eq→eqb f 0 z) (lt→ltb _ _ h)))

  -- a layer that adds nothing
  module _ (quiet : budget_sum R (table_of next) ≤ budget_sum R A) where
    same : Next R f by k s A A
    same c l = go (split R.cell_count c) (split (suc R.limit) l)
      where
        out : (c < R.cell_count → l ≤ R.limit → ⊥) → A c l ≡ layer R (seed_at by k s) (R.bound 0 f) A c l
        out h = ready.inside c l h ∙ sym (layer-inside R bounded (seed_at by k s) (R.bound 0 f) A ready.inside c l h)

        go : (R.cell_count ≤ c) ⊎ (c < R.cell_count) → (suc R.limit ≤ l) ⊎ (l < suc R.limit) → A c l ≡ layer R (seed_at by k s) (R.bound 0 f) A c l
        go (inl h) i = out (λ a b. omega arith)
        go (inr h) (inl i) = out (λ a b. omega arith)
        go (inr h) (inr i) = total-same R A (table_of next) above quiet c l h (omega arith) ∙ is-next c l

    -- a label is a seed, or waits
    seed-or-waits : (code c : ℕ) → T ((by code).known c) → NotAfter ((by code).weight c) ((by code).steps c) k s ⊎ WaitsBelow by k s (places R) ((by code).weight c) ((by code).steps c)
    seed-or-waits code c h = rw x.same (go (decided (seed_at by k s x.other c)))
      where
        x : Shut m.registers exits code
        x = shut-code m.registers exits code

        known : T ((by x.other).known c)
        known = rw x.same at h

        go : T (seed_at by k s x.other c) ⊎ T (not (seed_at by k s x.other c)) → NotAfter ((by x.other).weight c) ((by x.other).steps c) k s ⊎ WaitsBelow by k s (places R) ((by x.other).weight c) ((by x.other).steps c)
        go (inl t) = inl (seed-view by k s x.other c t).early
        go (inr t) = inr (record { code = x.other; cell = c; shut = x.shut; below = label-placed x.other c x.shut known; waits = record { is_known = known; weight = refl; steps = refl; late = t } })

    -- the next label
    module _ (w t : ℕ) (x : WaitsBelow by k s (places R) w t) (first : (v r : ℕ) → WaitsBelow by k s (places R) v r → NotAfter w t v r) where
      late : T (seed_at by k s x.code x.cell) → ⊥
      late = T_not (seed_at by k s x.code x.cell) x.waits.late

      after : NotAfter k s w t
      after =
          not-after-trans (inr (refl, omega arith))
          (not-before {w = k} {s = s} (λ h. late (seed-test by k s x.code x.cell (record { known = x.waits.is_known; early = rw (x.waits.weight, x.waits.steps) h }))))

      idle : IdleUntil by k s w t
      idle code c h = go (seed-or-waits code c h)
        where
          go : {a b : ℕ} → NotAfter a b k s ⊎ WaitsBelow by k s (places R) a b → NotAfter a b k s ⊎ NotAfter w t a b
          go (inl q) = inl q
          go (inr q) = inr (first _ _ q)

      jump : Searching R f w t A by
      jump = jump-turn R law f ready.now same w t after idle

      stays : (code c : ℕ) → T (seed_at by k s code c) → T (seed_at by w t code c)
      stays code c h =
          let a = seed-view by k s code c h in
          seed-test by w t code c (record { known = a.known; early = not-after-trans a.early after })

      jump-turned : Turned R law f exits before (goes_on w t rows m)
      jump-turned =
          moved
          (record {
            now = jump;
            inside = ready.inside;
            early = ready.early;
            watch = watching-later R law f k s w t m.watched (λ c l d y. ready.now.table.sound c l d (jump.table.complete c l d y)) ready.watch;
          })
          (omega (arith, seeds-grow (places R) by by k s w t stays x.code x.cell x.shut x.below late arrived))
        where
          arrived : T (seed_at by w t x.code x.cell)
          arrived = seed-test by w t x.code x.cell (record { known = x.waits.is_known; early = inr (x.waits.weight, omega (arith, x.waits.steps)) })

    -- every label is a seed
    none-turned : ((v r : ℕ) → WaitsBelow by k s (places R) v r → ⊥) → Turned R law f exits before (ends (nothing m))
    none-turned lone = ended (never nowhere (all-labels R law f ready.now same all) (watching-all R law f ready.now same all m.watched ready.watch))
      where
        all : AllSeeds by k s
        all code c h = go (seed-or-waits code c h)
          where
            go : {a b : ℕ} → NotAfter a b k s ⊎ WaitsBelow by k s (places R) a b → NotAfter a b k s
            go (inl q) = q
            go (inr q) = absurd (lone _ _ q)

        nowhere : f ≡ 0 → (w t : ℕ) → Done R f w t R.sink R.start.load R.start.delay → ⊥
        nowhere z w t x =
            omega (arith, ready.early z, ready.now.table.complete R.sink R.start.load R.start.delay (all-turn R law f ready.now same all w t R.sink R.start.load R.start.delay x))

    quiet-turned : Turned R law f exits before (quiet_turn rows m (next_label (places R) by k s))
    unfolding quiet_turn
    quiet-turned = go (next-first by k s (places R))
      where
        go : {x : Label} → FirstPlace (WaitsBelow by k s (places R)) x → Turned R law f exits before (quiet_turn rows m x)
        go (at {w = w} {t = t} x first) = jump-turned w t x first
        go (empty lone) = none-turned lone

  turned : Turned R law f exits before (turn R exits f k s rows m)
  unfolding turn
  turned = go (ltb (budget_sum R A) (budget_sum R (table_of next))) refl
    where
      go : (b : Bool) → ltb (budget_sum R A) (budget_sum R (table_of next)) ≡ b → Turned R law f exits before (cond b (layer_turn R f k s next m) (quiet_turn rows m (next_label (places R) by k s)))
      go true e = layer-turned (ltb-true _ _ e)
      go false e = quiet-turned (ltb-false _ _ e)

-- all turns
search-from : (R : Rules) (law : Lawful R) (bounded : Bounded R) (f : ℕ) (exits : List Label) (fuel k s : ℕ) (rows : Rows) (m : Labelling) → Ready R law f exits k s rows m → most_turns R f < fuel + work R exits k s rows m → Right R f exits (search_from R exits f fuel k s rows m)
unfolding search_from most_turns
search-from R law bounded f exits zero k s rows m ready enough =
    absurd (omega (arith, budgets-most R law f ready.now.table, seeds-most (places R) (by_code m.registers exits) k s))
search-from R law bounded f exits (suc fuel) k s rows m ready enough =
    go (turned R law bounded f exits k s rows m ready) (search-from R law bounded f exits fuel)
  where
    go : {x : Turn} → Turned R law f exits (work R exits k s rows m) x → ((k s : ℕ) (rows : Rows) (m : Labelling) → Ready R law f exits k s rows m → most_turns R f < fuel + work R exits k s rows m → Right R f exits (search_from R exits f fuel k s rows m)) → Right R f exits (elim x [ ends y ↦ y | goes_on j t next more ↦ search_from R exits f fuel j t next more ])
    go (ended h) rest = h
    go (moved {k = j} {s = t} {rows = next} {m = more} h grows) rest = rest j t next more h (omega arith)

-- The exits are the labels of side f's FIFOs for good.
pub search-right : (R : Rules) (law : Lawful R) (bounded : Bounded R) (f : ℕ) (exits : List Label) → ((w t : ℕ) → Covers (After R f fifo_code) w t (labels_listed exits)) → Right R f exits (search_side R exits f)
unfolding search_side by_code start_labels
search-right R law bounded f exits complete = search-from R law bounded f exits _ 0 0 [] (start_labels R f) start (omega arith)
  where
    start : Ready R law f exits 0 0 [] (start_labels R f)
    start =
        record {
          now = search-start R law f (table_of []) (by_code (start_labels R f).registers exits) empty-zero complete (start-known R f) (λ e n. start-source R f n e);
          inside = λ c l h. empty-zero c l;
          early = λ z. omega (arith, empty-zero R.sink R.start.load);
          watch = watching-start R law f;
        }
