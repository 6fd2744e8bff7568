-- `labels::label`: the words are written where nothing else is kept, and the cell takes the last place of the order.
use Rattle.std.proofs.Common.{ℕ, ◌+◌, ◌*◌, ◌<◌, ◌≡◌, ◌∙◌, List, arith, T, get_or, set, length-set, get_or-set_same, get_or-set_other}
use Rattle.layout.specs.Layout.{weight_high, steps_low, steps_high, order_in}
use Rattle.labels.specs.Labels.{known_of, weight_word, weight_of, steps_of, order_of, LabelBy, PairSet, SameLabel, Labelable, LabelAdded}
use Rattle.labels.proofs.Labels.{word-known, same-label, ordered-room, ordered-more}
use Rattle.labels.proofs.label.Goals as goal
use Rattle.labels.proofs.label.Goals.{Start}

room : (c : Start) → c.args.count < c.args.n
room c = ordered-room c.requires.ordered c.args.cell c.requires.in_plan c.requires.unlabelled

module _ (n base cell weight steps count : ℕ) (old mid last : List ℕ) (pre : Labelable n base cell weight steps count old) (one : PairSet (base + cell) (base + n * weight_high + cell) (weight + 1) old mid) (two : PairSet (base + n * steps_low + cell) (base + n * steps_high + cell) steps mid last) where
  abbrev new : List ℕ
  new = set last (base + n * order_in + count) cell

  free : count < n
  free = ordered-room pre.ordered cell pre.in_plan pre.unlabelled

  ordered-else : (k : ℕ) → (k ≡ base + n * order_in + count → ⊥) → get_or new k 0 ≡ get_or last k 0
  ordered-else k q = get_or-set_other last (base + n * order_in + count) k cell 0 q

  kept : (k : ℕ) → (k ≡ base + n * order_in + count → ⊥) → (k ≡ base + cell → ⊥) → (k ≡ base + n * weight_high + cell → ⊥) → (k ≡ base + n * steps_low + cell → ⊥) → (k ≡ base + n * steps_high + cell → ⊥) → get_or new k 0 ≡ get_or old k 0
  kept k p q r t u = ordered-else k p ∙ two.others k t u ∙ one.others k q r

  word : weight_word n base new cell ≡ weight + 1
  word =
      rw (
        ordered-else (base + cell) (λ e. omega (arith, pre.in_plan)),
        ordered-else (base + n * weight_high + cell) (λ e. omega (arith, pre.in_plan)),
        two.others (base + cell) (λ e. omega (arith, pre.in_plan)) (λ e. omega (arith, pre.in_plan)),
        two.others (base + n * weight_high + cell) (λ e. omega (arith, pre.in_plan)) (λ e. omega (arith, pre.in_plan)),
      )
      one.holds

  weight-set : weight_of n base new cell ≡ weight
  weight-set = omega (arith, word)

  steps-set : steps_of n base new cell ≡ steps
  steps-set =
      rw (ordered-else (base + n * steps_low + cell) (λ e. omega (arith, pre.in_plan)), ordered-else (base + n * steps_high + cell) (λ e. omega (arith, pre.in_plan))) two.holds

  at-end : order_of n base new count ≡ cell
  at-end = get_or-set_same last (base + n * order_in + count) cell 0 (omega (arith, free, one.same, two.same, pre.set_in.room))

  known : T (known_of n base new cell)
  known = word-known n base new cell pre.in_plan (omega (arith, word))

  others : (c : ℕ) → c < n → (c ≡ cell → ⊥) → SameLabel n base old new c
  others c h q =
      same-label n base old new c
      (rw (kept (base + c) (λ e. omega (arith, free, pre.in_plan)) (λ e. omega (arith, pre.in_plan)) (λ e. omega (arith, pre.in_plan)) (λ e. omega (arith, pre.in_plan)) (λ e. omega (arith, pre.in_plan)), kept (base + n * weight_high + c) (λ e. omega (arith, free, pre.in_plan)) (λ e. omega (arith, pre.in_plan)) (λ e. omega (arith, pre.in_plan)) (λ e. omega (arith, pre.in_plan)) (λ e. omega (arith, pre.in_plan))))
      (rw (kept (base + n * steps_low + c) (λ e. omega (arith, free, pre.in_plan)) (λ e. omega (arith, pre.in_plan)) (λ e. omega (arith, pre.in_plan)) (λ e. omega (arith, pre.in_plan)) (λ e. omega (arith, pre.in_plan)), kept (base + n * steps_high + c) (λ e. omega (arith, free, pre.in_plan)) (λ e. omega (arith, pre.in_plan)) (λ e. omega (arith, pre.in_plan)) (λ e. omega (arith, pre.in_plan)) (λ e. omega (arith, pre.in_plan))))

  earlier : (i : ℕ) → i < count → order_of n base new i ≡ order_of n base old i
  earlier i h = kept (base + n * order_in + i) (λ e. omega (arith, free)) (λ e. omega (arith, free, pre.in_plan)) (λ e. omega (arith, free, pre.in_plan)) (λ e. omega (arith, free, pre.in_plan)) (λ e. omega (arith, free, pre.in_plan))

  not_after : (c : ℕ) → T (known_of n base old c) → LabelBy n base old (weight_of n base new cell) (steps_of n base new cell) c
  not_after c t = rw (weight-set, steps-set) (pre.last c t)

  added : LabelAdded n base cell weight steps count old new
  added =
      record {
        same = simp length-set (two.same ∙ one.same);
        ordered = ordered-more pre.ordered new cell pre.in_plan pre.unlabelled known others not_after earlier at-end;
        earlier = earlier;
        last = at-end;
        known = known;
        weight_set = weight-set;
        steps_set = steps-set;
        others = others;
        low = λ k h. kept k (λ e. omega arith) (λ e. omega arith) (λ e. omega arith) (λ e. omega arith) (λ e. omega arith);
        high = λ k h. kept k (λ e. omega (arith, free)) (λ e. omega (arith, pre.in_plan)) (λ e. omega (arith, pre.in_plan)) (λ e. omega (arith, pre.in_plan)) (λ e. omega (arith, pre.in_plan));
      }

pub overflow_add-scratch-2 : goal.overflow_add-scratch-2
overflow_add-scratch-2 c = omega (arith, room (goal.at.overflow_add-scratch-2 c).Start)

pub offset_bounds-scratch-set : goal.offset_bounds-scratch-set
offset_bounds-scratch-set c = omega (arith, room (goal.at.offset_bounds-scratch-set c).Start)

pub bounds-scratch-set : goal.bounds-scratch-set
bounds-scratch-set c = omega (arith, room (goal.at.bounds-scratch-set c).Start)

pub returns : goal.returns
returns c =
    added _ _ _ _ _ _ _ _ _ c.requires c.put_pair.ensures c.put_pair-2.ensures
