-- `reach::cone::drop_outside`: the flags are cleared, and the cells in the cone are listed again.
use Prim.Native.Nat.{ℕ, ◌+◌, ◌*◌, ◌<◌}
use mathlib.Core.Path.{◌≡◌, sym, ◌∙◌}
use mathlib.Core.Bool.{Bool}
use mathlib.Core.Logic.{◌⊎◌, inl, inr}
use mathlib.Core.List.{List}
use native.Mathlib.Omega.{arith}
use lib.Dec.{T}
use lib.ListN.{get_or}
use Rattle.layout.specs.Layout.{active_at, listed_at}
use Rattle.table.specs.Layer.{FlagsCleared}
use Rattle.lists.specs.Lists.{flag_of, ListedAt, Listed, Taken}
use Rattle.lists.proofs.Lists.{bit-cases, listed-count}
use Rattle.problem.specs.declared.Problem.{Problem}
use Rattle.reach.specs.Cone.{ListAsks, ListedInside, DropAsks, Dropped}
use Rattle.reach.proofs.cone.drop_outside.Goals as goal

asks : (p : Problem) (n active : ℕ) (old mid : List ℕ) → DropAsks p n active old → FlagsCleared n old mid → ListAsks n active p.width mid
asks p n active old mid d f =
    record {
      unflagged = f.cleared;
      short = listed-count d.listed;
      cells = λ i h. omega (arith, f.low (n * active_at + i) (omega arith) (omega (arith, listed-count d.listed)), d.listed.cells i h);
      wide = d.wide;
      few = d.few;
      room = omega (arith, d.room, f.same);
    }

module _ (n active : ℕ) (P : ℕ → Bool) (old : List ℕ) (a : Listed n old (n * active_at) active) (mid : List ℕ) (f : FlagsCleared n old mid) (inner : List ℕ) (count : ℕ) (i : ListedInside n active P mid inner count) (new : List ℕ) (t : Taken n count inner new) where
  list_same : (j : ℕ) → j < active → get_or mid (n * active_at + j) 0 ≡ get_or old (n * active_at + j) 0
  list_same j h = f.low (n * active_at + j) (omega arith) (omega (arith, listed-count a))

  flag_same : (c : ℕ) → flag_of n new c ≡ flag_of n inner c
  flag_same c = t.high (n * listed_at + c) (omega arith)

  was : (c : ℕ) → c < n → flag_of n new c ≡ 1 → flag_of n old c ≡ 1
  was c h e =
      let p : ListedAt n mid (n * active_at) active c = i.fewer c h (sym (flag_same c) ∙ e) in
      rw (sym (list_same p.at p.below) ∙ p.holds) at (a.flagged p.at p.below)

  stays : (c : ℕ) → c < n → T (P c) → (flag_of n old c ≡ 0) ⊎ (flag_of n old c ≡ 1) → (flag_of n new c ≡ 0) ⊎ (flag_of n new c ≡ 1) → flag_of n new c ≡ flag_of n old c
  stays c h q (inl e) (inl g) = g ∙ sym e
  stays c h q (inl e) (inr g) = absurd (omega (arith, was c h g))
  stays c h q (inr e) g =
      let p : ListedAt n old (n * active_at) active c = a.covered c h e in
      let at : get_or mid (n * active_at + p.at) 0 ≡ c = list_same p.at p.below ∙ p.holds in
      flag_same c ∙ (rw at at (i.inside p.at p.below (rw at q)) ∙ sym e)

  dropped : Dropped n P old new count
  dropped =
      record {
        same = t.same ∙ (i.same ∙ f.same);
        listed = t.listed;
        fewer = was;
        inside = λ c h q. stays c h q (bit-cases _ (a.bits c h)) (bit-cases _ (t.listed.bits c h));
        low = λ k h. t.low k h ∙ (i.low k (omega arith) ∙ f.low k (omega arith) (omega arith));
        high = λ k h. t.high k (omega arith) ∙ (i.high k h ∙ f.rest k (omega arith));
      }

pub list_inside-count-requires : goal.list_inside-count-requires
list_inside-count-requires c =
    asks _ _ _ _ _ c.requires c.clear_flags.ensures

pub returns : goal.returns
returns c =
    dropped _ _ _ _ c.requires.listed _ c.clear_flags.ensures _ _ c.list_inside-count.ensures _ c.take_list.ensures
