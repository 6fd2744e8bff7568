-- The flags of the active list, cleared one after another; and what the pushes ask, from that.
use Rattle.std.proofs.Common.{ℕ, ◌+◌, ◌*◌, ◌≤◌, ◌<◌, ◌≡◌, refl, sym, ◌∙◌, ◌⊎◌, inl, inr, List, arith, length, get_or, set, length-set, get_or-set_same, get_or-set_other}
use Rattle.plan.proofs.Truth.{split, equal}
use Rattle.layout.specs.Layout.{active_at, listed_at, seeds_at, cell_words, trail_at}
use Rattle.rows.specs.Words.{Kept, KeptFrom}
use Rattle.costs.specs.Costs.{CostsOf}
use Rattle.lists.specs.Lists.{flag_of, Listed}
use Rattle.lists.proofs.Lists.{listed-count}
use Rattle.trail.specs.declared.Trail.{Trail}
use Rattle.trail.specs.Trail.{Sound}
use Rattle.trail.proofs.History.{sound-kept}
use Rattle.problem.specs.declared.net.Net.{Net}
use Rattle.problem.specs.Net.{fifo_of}
use Rattle.table.specs.Problem.{net_rules, NetReady}
use Rattle.table.specs.Colours.{Unlinked}
use Rattle.table.specs.Layer.{FlagsCleared, SpreadAllAsks}

-- the flags of the first i cells of the list are cleared
pub record Clearing (n i : ℕ) (old now : List ℕ) : Type 0 where
  pub same : length now ≡ length old
  pub cleared : (j : ℕ) → j < i → flag_of n now (get_or old (n * active_at + j) 0) ≡ 0
  pub flags : (c : ℕ) → c < n → (flag_of n now c ≡ 0) ⊎ (flag_of n now c ≡ flag_of n old c)
  pub low : Kept 0 (n * listed_at) old now
  pub rest : KeptFrom (n * seeds_at) old now

pub clear_none : (n : ℕ) (old : List ℕ) → Clearing n 0 old old
clear_none n old =
    record {
      same = refl;
      cleared = λ j h. absurd (omega arith);
      flags = λ c h. inr refl;
      low = λ k lo hi. refl;
      rest = λ k lo. refl;
    }

-- one more
module _ (n active i : ℕ) (old now : List ℕ) (listed : Listed n old (n * active_at) active) (room : n * trail_at ≤ length old) (short : i < active) (before : Clearing n i old now) where
  same-cell : get_or now (n * active_at + i) 0 ≡ get_or old (n * active_at + i) 0
  same-cell = before.low (n * active_at + i) (omega arith) (omega (arith, listed-count listed))

  pub cell_in : get_or now (n * active_at + i) 0 < n
  cell_in = omega (arith, same-cell, listed.cells i short)

  abbrev cell : ℕ
  cell = get_or now (n * active_at + i) 0

  abbrev last : List ℕ
  last = set now (n * listed_at + cell) 0

  other : (k : ℕ) → (k ≡ n * listed_at + cell → ⊥) → get_or last k 0 ≡ get_or now k 0
  other k f = get_or-set_other now (n * listed_at + cell) k 0 0 f

  clear-now : flag_of n last cell ≡ 0
  clear-now = get_or-set_same now (n * listed_at + cell) 0 0 (omega (arith, cell_in, before.same))

  flag-other : (c : ℕ) → (c ≡ cell → ⊥) → flag_of n last c ≡ flag_of n now c
  flag-other c e = other (n * listed_at + c) (λ z. e (omega arith))

  pub clear-more : Clearing n (i + 1) old last
  clear-more =
      record {
        same = length-set now (n * listed_at + cell) 0 ∙ before.same;
        cleared = λ j h. cleared j h (equal (get_or old (n * active_at + j) 0) cell);
        flags = λ c h. flags c (equal c cell) (before.flags c h);
        low = λ k lo hi. other k (λ e. omega arith) ∙ before.low k lo hi;
        rest = λ k lo. other k (λ e. omega (arith, cell_in)) ∙ before.rest k lo;
      }
    where
      cleared : (j : ℕ) → j < i + 1 → (get_or old (n * active_at + j) 0 ≡ cell) ⊎ (get_or old (n * active_at + j) 0 ≡ cell → ⊥) → flag_of n last (get_or old (n * active_at + j) 0) ≡ 0
      cleared j h (inl e) = rw e clear-now
      cleared j h (inr e) = out (split i j)
        where
          out : (i ≤ j) ⊎ (j < i) → flag_of n last (get_or old (n * active_at + j) 0) ≡ 0
          out (inl g) = absurd (e (let z : j ≡ i = omega arith in rw z (sym same-cell)))
          out (inr g) = flag-other _ e ∙ before.cleared j g

      flags : (c : ℕ) → (c ≡ cell) ⊎ (c ≡ cell → ⊥) → (flag_of n now c ≡ 0) ⊎ (flag_of n now c ≡ flag_of n old c) → (flag_of n last c ≡ 0) ⊎ (flag_of n last c ≡ flag_of n old c)
      flags c (inl e) x = inl (rw e clear-now)
      flags c (inr e) (inl z) = inl (flag-other c e ∙ z)
      flags c (inr e) (inr z) = inr (flag-other c e ∙ z)

-- the pushes may begin
pub cleared-asks : (net : Net) (marks costs : List ℕ) (active : ℕ) (t : Trail) (old mid : List ℕ) → NetReady net marks → length marks * cell_words ≤ length old → Sound (length marks) old t → Listed (length marks) old (length marks * active_at) active → Unlinked (net_rules net marks) (length marks) old → CostsOf net.problem.elements (fifo_of net) costs → FlagsCleared (length marks) old mid → SpreadAllAsks net marks costs active t mid
cleared-asks net marks costs active t old mid ready room sound listed unlinked costed f =
    record {
      ready = ready;
      costed = costed;
      room = omega (arith, f.same);
      sound = sound-kept (length marks) old t mid sound (record { near = λ k lo hi. f.low k (omega arith) (omega arith); far = λ k lo hi. f.rest k (omega arith) });
      unflagged = f.cleared;
      short = listed-count listed;
      cells = λ i h. omega (arith, same i h, listed.cells i h);
      unlinked = λ i j h k. rw (same i h, same j k) (unlinked _ _ (listed.cells i h) (listed.cells j k) (listed.flagged i h) (listed.flagged j k));
    }
  where
    same : (i : ℕ) → i < active → get_or mid (length marks * active_at + i) 0 ≡ get_or old (length marks * active_at + i) 0
    same i h = f.low (length marks * active_at + i) (omega arith) (omega (arith, listed-count listed))
