-- `lists::enlist`: a listed cell changes nothing; any other takes the place after the list, for which there is room.
use Rattle.std.proofs.Common.{ℕ, ◌+◌, ◌*◌, ◌<◌, ◌≤◌, ◌≡◌, refl, ◌∙◌, List, arith, length, get_or, set, length-set, get_or-set_same, get_or-set_other}
use Rattle.layout.specs.Layout.{listed_at, seeds_at}
use Rattle.lists.specs.Lists.{flag_of, Listed, Enlisted}
use Rattle.lists.proofs.Lists.{listed-room, listed_more}
use Rattle.lists.proofs.enlist.Goals as goal
use Rattle.lists.proofs.enlist.Goals.{Else-scratch-flag-eq1}

-- the words after the first store, and after both
abbrev flag-set : List ℕ → ℕ → ℕ → List ℕ
flag-set old n cell = set old (n * listed_at + cell) 1

abbrev both-set : List ℕ → ℕ → ℕ → ℕ → ℕ → List ℕ
both-set old n base count cell = set (flag-set old n cell) (base + count) cell

module _ (n : ℕ) (old : List ℕ) (base count cell : ℕ) (l : Listed n old base count) (h : cell < n) (z : flag_of n old cell ≡ 0) (b : base + n ≤ n * listed_at) (r : n * seeds_at ≤ length old) where
  abbrev new : List ℕ
  new = both-set old n base count cell

  kept : (k : ℕ) → (k ≡ base + count → ⊥) → (k ≡ n * listed_at + cell → ⊥) → get_or new k 0 ≡ get_or old k 0
  kept k p q = get_or-set_other (flag-set old n cell) (base + count) k cell 0 p ∙ get_or-set_other old (n * listed_at + cell) k 1 0 q

  flag : flag_of n new cell ≡ 1
  flag =
      get_or-set_other (flag-set old n cell) (base + count) (n * listed_at + cell) cell 0 (λ e. omega (arith, listed-room l cell h z))
      ∙ get_or-set_same old (n * listed_at + cell) 1 0 (omega arith)

  others : (c : ℕ) → c < n → (c ≡ cell → ⊥) → flag_of n new c ≡ flag_of n old c
  others c k q = kept (n * listed_at + c) (λ e. omega (arith, listed-room l cell h z)) (λ e. omega arith)

  low : (k : ℕ) → k < base + count → get_or new k 0 ≡ get_or old k 0
  low k q = kept k (λ e. omega arith) (λ e. omega (arith, listed-room l cell h z))

  enlisted : Enlisted n base count cell old new (count + 1)
  enlisted =
      record {
        same = simp length-set;
        listed =
            listed_more l new cell h z flag others (λ i k. low (base + i) (omega arith))
            (get_or-set_same (flag-set old n cell) (base + count) cell 0 (simp length-set (omega (arith, listed-room l cell h z))));
        now-flagged = flag;
        others = others;
        low = low;
        middle = λ k p q. kept k (λ e. omega (arith, listed-room l cell h z)) (λ e. omega arith);
        high = λ k p. kept k (λ e. omega (arith, listed-room l cell h z)) (λ e. omega arith);
      }

unflagged : (c : Else-scratch-flag-eq1) → flag_of c.args.n c.args.scratch.now c.args.cell ≡ 0
unflagged c = omega (arith, c.requires.0.bits c.args.cell (omega arith), c.if-scratch-flag-eq1.false)

room : (c : Else-scratch-flag-eq1) → c.args.count < c.args.n
room c = listed-room c.requires.0 _ (omega arith) (unflagged c)

pub returns-then-scratch-flag-eq1 : goal.returns-then-scratch-flag-eq1
returns-then-scratch-flag-eq1 c =
    record {
      same = refl;
      listed = c.requires.0;
      now-flagged = c.if-scratch-flag-eq1.true;
      others = λ x h e. refl;
      low = λ k h. refl;
      middle = λ k h j. refl;
      high = λ k h. refl;
    }

pub overflow_add-scratch : goal.overflow_add-scratch
overflow_add-scratch c = omega (arith, room c)

pub offset_bounds-scratch-list : goal.offset_bounds-scratch-list
offset_bounds-scratch-list c = omega (arith, room c)

pub bounds-scratch-list : goal.bounds-scratch-list
bounds-scratch-list c = simp length-set (omega (arith, room c))

pub overflow_add-result : goal.overflow_add-result
overflow_add-result c = omega (arith, room c)

pub returns : goal.returns
returns c = enlisted _ _ _ _ _ c.requires.0 (omega arith) (unflagged c) (omega arith) (omega arith)
