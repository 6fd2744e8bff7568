use Rattle.std.proofs.Common.{ℕ, ◌+◌, ◌*◌, ◌<◌, ◌≡◌, refl, sym, ◌∙◌, Bool, ◌⊎◌, inl, inr, List, arith, T, get_or}
use Rattle.plan.proofs.Truth.{equal}
use Rattle.layout.specs.Layout.{active_at, next_at}
use Rattle.lists.specs.Lists.{flag_of, ListedAt, Enlisted}
use Rattle.lists.proofs.Lists.{listed-none, enlisted-stays}
use Rattle.labels.proofs.Labels.{unknown-not}
use Rattle.reach.specs.Cone.{ListAsks, ListedInside}
use Rattle.reach.proofs.cone.list_inside.Goals as goal
use Rattle.reach.proofs.cone.list_inside.Goals.{In-loop-i, then-in_cone, else-in_cone}

module _ (n : ℕ) (P : ℕ → Bool) (old : List ℕ) where
  none_yet : {active width : ℕ} → ListAsks n active width old → ListedInside n 0 P old old 0
  none_yet a =
      record {
        same = refl;
        listed = listed-none n old (n * next_at) a.unflagged;
        fewer = λ c h e. absurd (omega (arith, a.unflagged c h));
        inside = λ i h t. absurd (omega arith);
        low = λ k h. refl;
        high = λ k h. refl;
      }

  -- one cell more
  module _ (i count : ℕ) (mid : List ℕ) (f : ListedInside n i P old mid count) where
    place-more : {c : ℕ} → ListedAt n old (n * active_at) i c → ListedAt n old (n * active_at) (i + 1) c
    place-more p = record { at = p.at; below = omega arith; holds = p.holds }

    not-inside : (T (P (get_or old (n * active_at + i) 0)) → ⊥) → ListedInside n (i + 1) P old mid count
    not-inside out =
        record {
          same = f.same;
          listed = f.listed;
          fewer = λ c h e. place-more (f.fewer c h e);
          inside = λ j h t. go j h t (equal j i);
          low = f.low;
          high = f.high;
        }
      where
        go : (j : ℕ) → j < i + 1 → T (P (get_or old (n * active_at + j) 0)) → (j ≡ i) ⊎ (j ≡ i → ⊥) → flag_of n mid (get_or old (n * active_at + j) 0) ≡ 1
        go j h t (inl e) = absurd (out (rw e at t))
        go j h t (inr e) = f.inside j (omega arith) t

    now-inside : (new : List ℕ) (cell next : ℕ) → cell ≡ get_or old (n * active_at + i) 0 → ((j : ℕ) → j < i → get_or old (n * active_at + j) 0 < n) → Enlisted n (n * next_at) count cell mid new next → ListedInside n (i + 1) P old new next
    now-inside new cell next is cells p =
        record {
          same = p.same ∙ f.same;
          listed = p.listed;
          fewer = λ c h e. was c h e (equal c cell);
          inside = λ j h t. go j h t (equal j i);
          low = λ k h. p.low k (omega arith) ∙ f.low k h;
          high = λ k h. p.high k h ∙ f.high k h;
        }
      where
        was : (c : ℕ) → c < n → flag_of n new c ≡ 1 → (c ≡ cell) ⊎ (c ≡ cell → ⊥) → ListedAt n old (n * active_at) (i + 1) c
        was c h e (inl q) = record { at = i; below = omega arith; holds = sym (q ∙ is) }
        was c h e (inr q) = place-more (f.fewer c h (sym (p.others c h q) ∙ e))

        go : (j : ℕ) → j < i + 1 → T (P (get_or old (n * active_at + j) 0)) → (j ≡ i) ⊎ (j ≡ i → ⊥) → flag_of n new (get_or old (n * active_at + j) 0) ≡ 1
        go j h t (inl e) = rw (e, ← is) p.now-flagged
        go j h t (inr e) = enlisted-stays p _ (cells j (omega arith)) (f.inside j (omega arith) t)

-- the cell of the turn
cell_same : (c : In-loop-i) → get_or c.loop-i.scratch (c.args.n * active_at + c.loop-i.i) 0 ≡ get_or c.args.scratch.now (c.args.n * active_at + c.loop-i.i) 0
cell_same c = c.loop-i.invariant.low _ (omega arith)

cell_below : (c : In-loop-i) → get_or c.loop-i.scratch (c.args.n * active_at + c.loop-i.i) 0 < c.args.n
cell_below c = omega (arith, cell_same c, c.requires.cells c.loop-i.i (omega arith))

pub loop-i-init : goal.loop-i-init
loop-i-init c = none_yet _ _ _ c.requires

pub overflow_cast-cell : goal.overflow_cast-cell
overflow_cast-cell c = omega (arith, cell_below (goal.at.overflow_cast-cell c).In-loop-i)

pub enlist-count-requires : goal.enlist-count-requires
enlist-count-requires c =
    (c.loop-i.invariant.listed, (cell_below (goal.at.enlist-count-requires c).In-loop-i, (omega arith, (omega arith, omega arith))))

pub loop-i-preserved : goal.loop-i-preserved
loop-i-preserved c =
    let f = c.loop-i.invariant in
    elim c.if-in_cone.branch [
      | then-in_cone x ↦ rw (x.scratch-is, x.count-is) (now-inside _ _ _ _ _ _ f _ _ _ (cell_same (goal.at.loop-i-preserved c).In-loop-i) (λ j h. c.requires.cells j (omega arith)) x.enlist-count.ensures)
      | else-in_cone x ↦ rw (x.scratch-is, x.count-is) (not-inside _ _ _ _ _ _ f (λ t. unknown-not (sym c.in_cone.ensures ∙ x.if-in_cone.false) (rw (cell_same (goal.at.loop-i-preserved c).In-loop-i) t)))
    ]
