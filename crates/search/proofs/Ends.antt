-- How the search's loop ends or goes on, from what a turn left.
use Prim.Native.Nat.{ℕ, ◌+◌, ◌*◌, ◌≤◌, ◌<◌}
use mathlib.Core.Path.{◌≡◌, ◌∙◌}
use mathlib.Core.Logic.{◌⊎◌, inl, inr}
use mathlib.Core.List.{List}
use native.Mathlib.Omega.{arith}
use lib.ListN.{length, get_or}
use Rattle.std.proofs.Common.{Continue, Break}
use Rattle.rules.specs.Rules.{Rules, fifo_code}
use Rattle.budget.specs.Done.{After}
use Rattle.plan.proofs.Truth.{split}
use Rattle.layout.specs.Layout.{trail_at}
use Rattle.labels.specs.Labels.{order_of, LabelBy}
use Rattle.labels.specs.declared.both.Idle.{Idle}
use Rattle.labels.specs.Both.{Comes, ArrivedBoth}
use Rattle.search.specs.declared.turns.Progress.{Progress}
use Rattle.search.specs.declared.turns.Reached.{Reached}
use Rattle.search.specs.Front.{total}
use Rattle.search.specs.Turn.{WaitingOf, Advance, Beyond, SearchDone, TurnDone}
use Rattle.search.specs.Search.{SideAsks}
use Rattle.labels.proofs.Labels.{ordered-kept, fifos-kept}
use Rattle.search.proofs.Total.{total_kept}
use Rattle.budget.proofs.Done.{not-both}

module _ {R : Rules} {n side exits : ℕ} {old : List ℕ} {f : Progress} {new : List ℕ} where
  pub ends-with : {r : Reached} → TurnDone R n side exits old f new (Break r) → SearchDone R n side exits new r
  ends-with (TurnDone.ends r d) = d

  pub goes_on : {g : Progress} → TurnDone R n side exits old f new (Continue g) → WaitingOf R n side exits new g × Advance n exits old new f g
  goes_on (TurnDone.on g w a) = (w, a)

-- a label that has come does not wait on
goes_in : {n set code from count k s : ℕ} {old new : List ℕ} {to : ℕ} → Comes n set code from count k s old new to → from < count → LabelBy n set old k s (order_of n set old from) → from < to
goes_in {from = from} {to = to} a h by = go (split to from)
  where
    go : (to ≤ from) ⊎ (from < to) → from < to
    go (inl q) =
        let z : to ≡ from = omega (arith, a.forth) in
        absurd (not-both (rw z at (a.late (omega arith))) by)
    go (inr q) = q

-- the sum of the table plus the places in the orders grows
pub advances : {n exits : ℕ} {old new last : List ℕ} {f g : Progress} {idle : Idle} {to out active : ℕ} → Advance n exits old new f g → ArrivedBoth n idle g.at g.count g.exit exits g.weight g.steps new last to out active → total n old + f.at + f.exit < total n last + to + out
advances {n} {exits} {old} {new} {last} {f} {g} {idle} {to} {out} v a = go v
  where
    same : total n last ≡ total n new
    same = total_kept n new last (λ i lo hi. a.low i (omega arith))

    go : Advance n exits old new f g → total n old + f.at + f.exit < total n last + to + out
    go (Advance.grew h e d) = omega (arith, a.near.forth, a.far.forth, same)
    go (Advance.comes h e d (inl b)) = omega (arith, same, goes_in a.near b.0 b.1, a.far.forth)
    go (Advance.comes h e d (inr b)) = omega (arith, same, goes_in a.far b.0 b.1, a.near.forth)

-- what stays past the lists and flags, step by step

pub beyond-then : {n side : ℕ} {old mid new : List ℕ} → Beyond n side old mid → Beyond n side mid new → Beyond n side old new
beyond-then a b =
    record {
      trail = λ i lo hi. b.trail i lo hi ∙ a.trail i lo hi;
      exits = λ e i lo hi. b.exits e i lo hi ∙ a.exits e i lo hi;
      rest = λ i h. b.rest i h ∙ a.rest i h;
    }

pub beyond-kept : {n side : ℕ} {old new : List ℕ} → ((i : ℕ) → n * trail_at ≤ i → get_or new i 0 ≡ get_or old i 0) → Beyond n side old new
beyond-kept kept = record { trail = λ i lo hi. kept i lo; exits = λ e i lo hi. kept i (omega arith); rest = λ i h. kept i (omega arith) }

-- what is asked of a side stays with those words
pub asks-kept : {R : Rules} {n f exits : ℕ} {old : List ℕ} → SideAsks R n f exits old → (new : List ℕ) → length new ≡ length old → ((i : ℕ) → n * trail_at ≤ i → get_or new i 0 ≡ get_or old i 0) → SideAsks R n f exits new
asks-kept {R} {n} {f} {exits} {old} a new same kept =
    record {
      within = a.within;
      covers = λ w t. fifos-kept n exits old new (λ h i lo hi. kept i (omega arith)) (After R f fifo_code) w t (a.covers w t);
      ordered = λ h. ordered-kept (a.ordered h) new (λ i lo hi. kept i (omega arith));
      exits_in = λ h. omega (arith, a.exits_in h);
      alone = a.alone;
      watch_in = λ h. omega (arith, a.watch_in h);
      unwatched = λ h i lo hi. kept i (omega arith) ∙ a.unwatched h i lo hi;
    }
