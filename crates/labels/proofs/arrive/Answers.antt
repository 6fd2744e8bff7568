use Rattle.std.proofs.Common.{ℕ, ◌+◌, ◌*◌, ◌<◌, ◌≤◌, ◌≡◌, sym, ◌∙◌, Bool, ◌⊎◌, inl, inr, List, arith, T, get_or}
use Rattle.plan.proofs.Truth.{equal}
use Rattle.rules.specs.Rules.{is_closing}
use Rattle.layout.specs.Layout.{order_in, label_words, active_at, trail_at}
use Rattle.lists.specs.Lists.{flag_of}
use Rattle.table.specs.Problem.{seed_of}
use Rattle.labels.specs.Labels.{known_of, order_of, other_code, ListedOr, LabelBy, Apart, SameLabel, Planted, Arrived}
use Rattle.labels.proofs.Codes.{other-closes, other_differs}
use Rattle.labels.proofs.Labels.{known-below, label_kept}
use Rattle.labels.proofs.arrive.Goals as goal
use Rattle.labels.proofs.arrive.Goals.{In-loop-i}

-- the words of the set stay
module _ {n set code : ℕ} {idle : Bool} {from to k s : ℕ} {old new : List ℕ} {active : ℕ} (apart : Apart n set) (a : Arrived n set code idle from to k s old new active) where
  set-stays : (i : ℕ) → set ≤ i → i < set + n * label_words → get_or new i 0 ≡ get_or old i 0
  set-stays i lo hi = go apart.beside
    where
      go : (set + n * label_words ≤ n * active_at) ⊎ (n * trail_at ≤ set) → get_or new i 0 ≡ get_or old i 0
      go (inl h) = a.low i (omega arith)
      go (inr h) = a.high i (omega arith)

  order-stays : (i : ℕ) → i < n → order_of n set new i ≡ order_of n set old i
  order-stays i h = set-stays (set + n * order_in + i) (omega arith) (omega arith)

  label-stays : (c : ℕ) → c < n → SameLabel n set old new c
  label-stays = label_kept n set old new (λ i lo hi. set-stays i lo (omega arith))

-- one cell more
module _ {n set code : ℕ} {idle : Bool} {from to k s : ℕ} {old mid new : List ℕ} {active next cell : ℕ} (closes : T (is_closing code)) (a : Arrived n set code idle from to k s old mid active) (e : cell ≡ order_of n set old to) (h : cell < n) (p : Planted n cell code idle mid new next) where
  seed-stays : (c : ℕ) → c < n → T (seed_of n mid code c) → (c ≡ cell) ⊎ (c ≡ cell → ⊥) → T (seed_of n new code c)
  seed-stays c k o (inl q) = rw q p.now_seed
  seed-stays c k o (inr q) = rw (p.other_seeds c k q code) o

  flag-stays : (c : ℕ) → c < n → flag_of n mid c ≡ 1 → (c ≡ cell) ⊎ (c ≡ cell → ⊥) → flag_of n new c ≡ 1
  flag-stays c k o (inl q) = rw q (p.flag_stays (rw (← q) o))
  flag-stays c k o (inr q) = p.others c k q ∙ o

  module _ (cells : (i : ℕ) → i < to → order_of n set old i < n) where
    seed : (i : ℕ) → from ≤ i → i < to + 1 → (i ≡ to) ⊎ (i ≡ to → ⊥) → T (seed_of n new code (order_of n set old i))
    seed i k j (inl q) = rw (q, ← e) p.now_seed
    seed i k j (inr q) = seed-stays _ (cells i (omega arith)) (a.seeds i k (omega arith)) (equal (order_of n set old i) cell)

    listed : (i : ℕ) → from ≤ i → i < to + 1 → (i ≡ to) ⊎ (i ≡ to → ⊥) → ListedOr n idle new old (other_code code) (order_of n set old i)
    listed i k j (inl q) = rw (q, ← e) (now p.now_listed)
      where
        now : ListedOr n idle new mid (other_code code) cell → ListedOr n idle new old (other_code code) cell
        now (inl f) = inl f
        now (inr f) = inr (f.0, rw (← a.other_codes (other_code code) (other-closes code closes) (other_differs code closes) cell h) f.1)
    listed i k j (inr q) = stay (a.now_listed i k (omega arith))
      where
        stay : ListedOr n idle mid old (other_code code) (order_of n set old i) → ListedOr n idle new old (other_code code) (order_of n set old i)
        stay (inl f) = inl (flag-stays _ (cells i (omega arith)) f (equal (order_of n set old i) cell))
        stay (inr f) = inr f

    arrived-more : LabelBy n set old k s (order_of n set old to) → Arrived n set code idle from (to + 1) k s old new next
    arrived-more early =
        record {
          same = p.same ∙ a.same;
          forth = omega (arith, a.forth);
          in_time = λ i k j. time i k j (equal i to);
          listed = p.listed;
          seeds = λ i k j. seed i k j (equal i to);
          seeds_stay = λ c k o. seed-stays c k (a.seeds_stay c k o) (equal c cell);
          other_seeds =
              λ c k o. p.other_seeds c k (λ q. o to a.forth (omega arith) (sym (q ∙ e))) code ∙ a.other_seeds c k (λ i l j. o i l (omega arith));
          other_codes = λ b z f c k. p.other_codes b z f c k ∙ a.other_codes b z f c k;
          now_listed = λ i k j. listed i k j (equal i to);
          flags_stay = λ c k o. flag-stays c k (a.flags_stay c k o) (equal c cell);
          other_flags =
              λ c k o. p.others c k (λ q. o to a.forth (omega arith) (sym (q ∙ e))) ∙ a.other_flags c k (λ i l j. o i l (omega arith));
          low = λ k j. p.low k j ∙ a.low k j;
          middle = λ k i j. p.middle k i j ∙ a.middle k i j;
          high = λ k j. p.high k j ∙ a.high k j;
        }
      where
        time : (i : ℕ) → from ≤ i → i < to + 1 → (i ≡ to) ⊎ (i ≡ to → ⊥) → LabelBy n set old k s (order_of n set old i)
        time i k j (inl q) = rw q early
        time i k j (inr q) = a.in_time i k (omega arith)

-- the cell of the turn
module _ (c : In-loop-i) where
  few : c.args.count ≤ c.args.n
  few = c.requires.short

  cell_same : order_of c.args.n c.args.set c.loop-i.scratch c.loop-i.i ≡ order_of c.args.n c.args.set c.args.scratch.now c.loop-i.i
  cell_same = order-stays c.requires.apart c.loop-i.invariant c.loop-i.i (omega (arith, few))

  cell-known : T (known_of c.args.n c.args.set c.args.scratch.now (order_of c.args.n c.args.set c.loop-i.scratch c.loop-i.i))
  cell-known = rw cell_same (c.requires.known c.loop-i.i (omega arith))

  cell_below : order_of c.args.n c.args.set c.loop-i.scratch c.loop-i.i < c.args.n
  cell_below = known-below _ _ _ _ cell-known

  label_same : SameLabel c.args.n c.args.set c.args.scratch.now c.loop-i.scratch (order_of c.args.n c.args.set c.loop-i.scratch c.loop-i.i)
  label_same = label-stays c.requires.apart c.loop-i.invariant _ cell_below

pub is_after-requires : goal.is_after-requires
is_after-requires c =
    let w = (goal.at.is_after-requires c).In-loop-i in
    let a = w.requires.set_in in
    (record { small = a.small; low = a.low; room = omega (arith, a.room, w.loop-i.invariant.same) }, rw (label_same w).known (cell-known w))

pub returns-then-is_after : goal.returns-then-is_after
returns-then-is_after c =
    let w = (goal.at.returns-then-is_after c).In-loop-i in
    record {
      within = omega arith;
      late = λ h. rw (← cell_same w) (rw (← (label_same w).weight, ← (label_same w).steps) (c.is_after.ensures.after c.if-is_after.true));
      arrived = w.loop-i.invariant;
    }

pub plant-listed-requires : goal.plant-listed-requires
plant-listed-requires c =
    let w = (goal.at.plant-listed-requires c).In-loop-i in
    let a = w.requires in
    (a.closes, (w.loop-i.invariant.listed, (cell_below w, (a.set_in.small, omega (arith, a.room, w.loop-i.invariant.same)))))

pub loop-i-preserved : goal.loop-i-preserved
loop-i-preserved c =
    let w = (goal.at.loop-i-preserved c).In-loop-i in
    arrived-more w.requires.closes w.loop-i.invariant (cell_same w) (cell_below w) c.plant-listed.ensures
    (λ j h. known-below _ _ _ _ (w.requires.known j (omega arith)))
    (rw (← cell_same w) (rw (← (label_same w).weight, ← (label_same w).steps) (c.is_after.ensures.by c.if-is_after.false)))
