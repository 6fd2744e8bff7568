-- New seeds are listed, or give nothing more, so the active list stays right.
use Rattle.std.proofs.Common.{ℕ, zero, suc, ◌+◌, ◌*◌, ◌≤◌, ◌<◌, ◌≡◌, refl, ◌∙◌, Bool, false, ◌⊎◌, inl, inr, List, arith, T, get_or}
use Rattle.rules.specs.Rules.{Rules, register_code, fifo_code, is_closing}
use Rattle.rules.proofs.View.{closing-codes, register-closing, fifo-closing}
use Rattle.plan.proofs.Truth.{split, equal}
use Rattle.budget.specs.Table.{load_at}
use Rattle.budget.specs.Colours.{InStep}
use Rattle.budget.proofs.Active.{arrival-row, arrival-none, given-row, given-none}
use Rattle.layout.specs.Layout.{arrival_at, labels_at, exits_at, active_at, listed_at, seeds_at, trail_at}
use Rattle.lists.specs.Lists.{flag_of, Listed}
use Rattle.lists.proofs.Lists.{bit-cases, listed-none}
use Rattle.costs.specs.Costs.{row_words}
use Rattle.table.specs.Problem.{budget_of, seed_word, marks_seed, seed_of}
use Rattle.table.specs.Layer.{arrivals, Settled, ActiveIn}
use Rattle.table.specs.Colours.{Coloured}
use Rattle.table.proofs.Views.{inside, budget-at, budget-outside, budget-kept}
use Rattle.labels.specs.Labels.{order_of, ListedOr}
use Rattle.labels.specs.declared.both.Idle.{Idle}
use Rattle.labels.specs.Both.{ArrivedBoth}
use Rattle.labels.specs.Idle.{IdleRight}
use Rattle.labels.proofs.IdleGates.{Instead, arrival-less, given-less}

-- a place in the order, or none
abbrev pub Found : ℕ → ℕ → List ℕ → ℕ → ℕ → ℕ → Type 0
Found n set words c at end =
    ((i : ℕ) × (at ≤ i) × (i < end) × (order_of n set words i ≡ c)) ⊎ ((i : ℕ) → at ≤ i → i < end → order_of n set words i ≡ c → ⊥)

pub find : (n set : ℕ) (words : List ℕ) (c at end : ℕ) → Found n set words c at end
find n set words c at zero = inr (λ i lo hi e. omega arith)
find n set words c at (suc end) = go (find n set words c at end) (equal (order_of n set words end) c) (split at end)
  where
    go : Found n set words c at end → (order_of n set words end ≡ c) ⊎ (order_of n set words end ≡ c → ⊥) → (at ≤ end) ⊎ (end < at) → Found n set words c at (suc end)
    go (inl p) q z = inl (p.0, p.1, omega arith, p.3)
    go (inr f) (inl e) (inl h) = inl (end, h, omega arith, e)
    go (inr f) (inl e) (inr h) = inr (λ i lo hi q. omega arith)
    go (inr f) (inr g) z = inr (λ i lo hi q. pick i lo hi q (equal i end))
      where
        pick : (i : ℕ) → at ≤ i → i < suc end → order_of n set words i ≡ c → (i ≡ end) ⊎ (i ≡ end → ⊥) → ⊥
        pick i lo hi q (inl e) = g (rw e at q)
        pick i lo hi q (inr e) = f i lo (omega arith) q

-- the active cells stay of one colour when cells of it join them
pub coloured-arrived : {R : Rules} {n s : ℕ} {old new : List ℕ} → Coloured R n s old → {idle : Idle} {at count exit exits k t to out active : ℕ} → ((i : ℕ) → at ≤ i → i < to → InStep R s (order_of n (n * labels_at) old i)) → ((i : ℕ) → exit ≤ i → i < out → InStep R s (order_of n (n * exits_at) old i)) → ArrivedBoth n idle at count exit exits k t old new to out active → Coloured R n s new
coloured-arrived {R} {n} {s} {old} {new} was {idle} {at} {count} {exit} {exits} {k} {t} {to} {out} near far a =
    record { in_step = λ c h f. go c h f (find n (n * labels_at) old c at to) (find n (n * exits_at) old c exit out) }
  where
    go : (c : ℕ) → c < n → flag_of n new c ≡ 1 → Found n (n * labels_at) old c at to → Found n (n * exits_at) old c exit out → InStep R s c
    go c h f (inl p) q = rw p.3 at (near p.0 p.1 p.2)
    go c h f (inr none) (inl p) = rw p.3 at (far p.0 p.1 p.2)
    go c h f (inr none) (inr neither) = was.in_step c h (omega (arith, a.other_flags c h none neither))

-- a cell's seeds are as they were
abbrev pub SameSeeds : ℕ → List ℕ → List ℕ → ℕ → Type 0
SameSeeds n old new c = (code : ℕ) → T (is_closing code) → seed_of n new code c ≡ seed_of n old code c

module _ (R : Rules) (n top : ℕ) (old new : List ℕ) where
  -- a cell with the same row and seeds stays settled in the same table
  settled-kept : (c : ℕ) → ((k : ℕ) → k < n * arrival_at → get_or new k 0 ≡ get_or old k 0) → SameSeeds n old new c → Settled R n top old c → Settled R n top new c
  settled-kept c kept seed settled m l =
      let same = budget-kept n old new (λ k lo hi. kept k hi) in
      omega (
        arith,
        given-row R (arrivals R n top old) (arrivals R n top new) c (arrival-row R (seed_of n old) (seed_of n new) top (budget_of n old) (budget_of n new) c (same c) seed) m l,
        settled m l,
        same m l,
      )

  -- with the same table the list stays right in Q, if each cell of Q that is not listed was settled and has its seeds as before
  pub active-kept : {P Q : ℕ → Bool} {before after : ℕ} → ActiveIn R n top P old before → Listed n new (n * active_at) after → ((k : ℕ) → k < n * arrival_at → get_or new k 0 ≡ get_or old k 0) → ((c : ℕ) → c < n → T (Q c) → flag_of n new c ≡ 0 → T (P c) × ((flag_of n old c ≡ 0) × SameSeeds n old new c)) → ActiveIn R n top Q new after
  active-kept a listed kept was =
      record {
        listed = listed;
        settled = λ c h t z. let w = was c h t z in settled-kept c kept w.1.1 (a.settled c h w.0 w.1.0);
      }

  module _ {idle : Idle} (right : IdleRight R idle) (at count exit exits k s to out after : ℕ) (r : ArrivedBoth n idle at count exit exits k s old new to out after) where
    rows-kept : (c l : ℕ) → budget_of n new c l ≡ budget_of n old c l
    rows-kept = budget-kept n old new (λ i lo hi. r.low i (omega arith))

    -- a seed of an unlisted cell was one, or came where one of the other code was that closes as quickly
    module _ (c : ℕ) (h : c < n) (z : flag_of n new c ≡ 0) where
      unflagged : (flag_of n old c ≡ 0) ⊎ (flag_of n old c ≡ 1) → flag_of n old c ≡ 0
      unflagged (inl e) = e
      unflagged (inr e) = absurd (omega (arith, r.flags_stay c h e))

      register-was : T (seed_of n new register_code c) → Found n (n * labels_at) old c at to → T (seed_of n old register_code c) ⊎ (T idle.registers × T (seed_of n old fifo_code c))
      register-was t (inr none) = inl (rw (← r.near.other_seeds c h none) t)
      register-was t (inl p) = inr (go (r.near_listed p.0 p.1 p.2))
        where
          go : ListedOr n idle.registers new old fifo_code (order_of n (n * labels_at) old p.0) → T idle.registers × T (seed_of n old fifo_code c)
          go (inl f) = let w : flag_of n new c ≡ 1 = rw p.3 at f in absurd (omega arith)
          go (inr f) = rw p.3 at f

      fifo-was : T (seed_of n new fifo_code c) → Found n (n * exits_at) old c exit out → T (seed_of n old fifo_code c) ⊎ (T idle.fifos × T (seed_of n old register_code c))
      fifo-was t (inr none) = inl (rw (← r.far.other_seeds c h none) t)
      fifo-was t (inl p) = go (r.far_listed p.0 p.1 p.2)
        where
          both : T idle.fifos → T (seed_of n old register_code c) ⊎ (T idle.registers × T (seed_of n old fifo_code c)) → T (seed_of n old fifo_code c) ⊎ (T idle.fifos × T (seed_of n old register_code c))
          both i (inl s) = inr (i, s)
          both i (inr s) = inl s.1

          go : ListedOr n idle.fifos new new register_code (order_of n (n * exits_at) old p.0) → T (seed_of n old fifo_code c) ⊎ (T idle.fifos × T (seed_of n old register_code c))
          go (inl f) = let w : flag_of n new c ≡ 1 = rw p.3 at f in absurd (omega arith)
          go (inr f) = let w : T (seed_of n new register_code c) = rw p.3 at f.1 in both f.0 (register-was w (find n (n * labels_at) old c at to))

      instead : (m l : ℕ) → T (R.linked m c) → (code : ℕ) → T (is_closing code) → T (seed_of n new code c) → load_at R m c l ≤ R.limit → Instead R (seed_of n old) c code (load_at R m c l)
      instead m l linked code shut t fits = go (closing-codes code shut)
        where
          same : (code : ℕ) → T (is_closing code) → T (seed_of n old code c) → Instead R (seed_of n old) c code (load_at R m c l)
          same code shut t = record { by = code; closes = shut; seeded = t; quick = omega arith }

          register : T (seed_of n old register_code c) ⊎ (T idle.registers × T (seed_of n old fifo_code c)) → Instead R (seed_of n old) c register_code (load_at R m c l)
          register (inl s) = same register_code (register-closing register_code refl) s
          register (inr s) = record { by = fifo_code; closes = fifo-closing fifo_code refl; seeded = s.1; quick = right.registers s.0 c m l linked fits }

          fifo : T (seed_of n old fifo_code c) ⊎ (T idle.fifos × T (seed_of n old register_code c)) → Instead R (seed_of n old) c fifo_code (load_at R m c l)
          fifo (inl s) = same fifo_code (fifo-closing fifo_code refl) s
          fifo (inr s) = record { by = register_code; closes = register-closing register_code refl; seeded = s.1; quick = right.fifos s.0 c m l linked fits }

          go : (code ≡ register_code) ⊎ (code ≡ fifo_code) → Instead R (seed_of n old) c code (load_at R m c l)
          go (inl e) = rw e (register (register-was (rw e at t) (find n (n * labels_at) old c at to)))
          go (inr e) = rw e (fifo (fifo-was (rw e at t) (find n (n * exits_at) old c exit out)))

      settled-still : Settled R n top old c → Settled R n top new c
      settled-still was m l =
          omega (
            arith,
            given-less R (arrivals R n top old) (arrivals R n top new) c m l (λ t. arrival-less R (seed_of n old) (seed_of n new) top (budget_of n old) (budget_of n new) c (load_at R m c l) (rows-kept c) (instead m l t)),
            was m l,
            rows-kept m l,
          )

    pub active-arrived : {P : ℕ → Bool} {before : ℕ} → ActiveIn R n top P old before → ActiveIn R n top P new after
    active-arrived a =
        record {
          listed = r.listed;
          settled = λ c h t z. settled-still c h z (a.settled c h t (unflagged c h z (bit-cases (flag_of n old c) (a.listed.bits c h))));
        }

-- rows of zeros are a table of zeros
pub cleared-table : (n : ℕ) (words : List ℕ) → ((i : ℕ) → i < n * arrival_at → get_or words i 0 ≡ 0) → (c l : ℕ) → budget_of n words c l ≡ 0
cleared-table n words rows c l = go (inside n c l)
  where
    go : ((c < n) × (l < row_words)) ⊎ (c < n → l < row_words → ⊥) → budget_of n words c l ≡ 0
    go (inl h) = budget-at n words c l h.0 h.1 ∙ rows (c * row_words + l) (omega arith)
    go (inr f) = budget-outside n words c l f

pub cleared-seed : (n : ℕ) (words : List ℕ) (c : ℕ) → seed_word n words c ≡ 0 → (code : ℕ) → T (is_closing code) → seed_of n words code c ≡ false
unfolding seed_of marks_seed
cleared-seed n words c e code shut = go (closing-codes code shut)
  where
    go : (code ≡ register_code) ⊎ (code ≡ fifo_code) → seed_of n words code c ≡ false
    go (inl q) = rw (e, q) refl
    go (inr q) = rw (e, q) refl

-- with no flag and no seed either, no cell gives anything
pub cleared-active : (R : Rules) (n top : ℕ) {P : ℕ → Bool} (words : List ℕ) → ((i : ℕ) → i < n * arrival_at → get_or words i 0 ≡ 0) → ((i : ℕ) → n * listed_at ≤ i → i < n * trail_at → get_or words i 0 ≡ 0) → ActiveIn R n top P words 0
cleared-active R n top words rows flags =
    record {
      listed = listed-none n words (n * active_at) (λ c h. flags (n * listed_at + c) (omega arith) (omega arith));
      settled = λ c h t z m l. omega (arith, given-none R (arrivals R n top words) c (arrival-none R (seed_of n words) top (budget_of n words) c (cleared-table n words rows c) (cleared-seed n words c (flags (n * seeds_at + c) (omega arith) (omega arith)))) m l);
    }
