-- Laws of adding labels: none, one, one part after another, and what the search needs of the whole.
use Rattle.std.proofs.Common.{ℕ, ◌+◌, ◌*◌, ◌≤◌, ◌<◌, ◌≡◌, refl, sym, ap, ◌∙◌, false, not, ◌⊎◌, inl, inr, List, arith, T, T_not, get_or}
use Rattle.rules.specs.Rules.{Rules, register_code, is_closing, side_after}
use Rattle.rules.specs.Legal.{may_stand}
use Rattle.plan.proofs.Truth.{split, equal, decided}
use Rattle.budget.specs.Done.{Open, After}
use Rattle.budget.specs.Table.{Represents}
use Rattle.budget.specs.Search.{Relabelled}
use Rattle.costs.specs.Costs.{row_words}
use Rattle.layout.specs.Layout.{active_at}
use Rattle.lists.specs.Lists.{flag_of, ListedAt, Listed}
use Rattle.lists.proofs.Lists.{bit-cases}
use Rattle.table.specs.Problem.{budget_of}
use Rattle.table.proofs.Views.{inside, budget-outside, budget-kept}
use Rattle.labels.specs.Labels.{known_of, weight_of, steps_of, labels_of, order_of, LabelBy, Ordered, SameLabel, LabelAdded}
use Rattle.labels.specs.Additions.{LabelsAddedAmong, LabelsAdded}
use Rattle.labels.proofs.Labels.{known-below, unknown-not, added-stays, added-known}

-- after `label`: the other labels stay, and no other cell has a new one
module _ {n set cell weight steps count : ℕ} {old new : List ℕ} (unlabelled : known_of n set old cell ≡ false) (a : LabelAdded n set cell weight steps count old new) where
  other : (c : ℕ) → T (known_of n set old c) → SameLabel n set old new c
  other c t = a.others c (known-below n set old c t) (λ e. unknown-not (ap (known_of n set old) e ∙ unlabelled) t)

  which : (c : ℕ) → T (known_of n set new c) → (T (known_of n set old c) → ⊥) → c ≡ cell
  which c t f = go (equal c cell)
    where
      go : (c ≡ cell) ⊎ (c ≡ cell → ⊥) → c ≡ cell
      go (inl e) = e
      go (inr e) = absurd (f (added-known a c t e))

module _ {R : Rules} {n code set weight steps : ℕ} where
  -- no label, where each tried cell has one or may have none
  pub labels-none : (tried : ℕ → Type 0) (words : List ℕ) (count : ℕ) → Ordered n set words count → ((c : ℕ) → tried c → T (may_stand R c code) → (R.fresh code).delay < budget_of n words c (R.fresh code).load → T (known_of n set words c)) → LabelsAddedAmong R n code set tried weight steps words words count count
  labels-none tried words count o every =
      record {
        same = refl;
        low = λ k h. refl;
        high = λ k h. refl;
        ordered = o;
        more = omega arith;
        earlier = λ i h. refl;
        fresh = λ i h k. absurd (omega arith);
        kept = λ c t. (t, (refl, refl));
        added = λ c t f. absurd (f t);
        every = λ c h. every c;
      }

  -- one label
  pub labels-one : {cell count : ℕ} {old new : List ℕ} → known_of n set old cell ≡ false → T (may_stand R cell code) → (R.fresh code).delay < budget_of n old cell (R.fresh code).load → LabelAdded n set cell weight steps count old new → LabelsAddedAmong R n code set (λ c. c ≡ cell) weight steps old new count (count + 1)
  labels-one {cell} {count} {old} {new} u stands in_table a =
      record {
        same = a.same;
        low = a.low;
        high = a.high;
        ordered = a.ordered;
        more = omega arith;
        earlier = a.earlier;
        fresh =
            λ i h k.
            let q : i ≡ count = omega arith in
            let e : order_of n set new i ≡ cell = rw q a.last in
            rw e (a.weight_set, a.steps_set);
        kept = λ c t. (added-stays a c t, ((other u a c t).weight, (other u a c t).steps));
        added = λ c t f. rw (which u a c t f) (stands, (in_table, (a.weight_set, a.steps_set)));
        every = λ c h e s b. rw e a.known;
      }

  -- more labels after labels
  module _ {A B : ℕ → Type 0} {old mid new : List ℕ} {count middle next : ℕ} (a : LabelsAddedAmong R n code set A weight steps old mid count middle) (b : LabelsAddedAmong R n code set B weight steps mid new middle next) (past : n * row_words ≤ set) where
    same-budget : (c l : ℕ) → budget_of n mid c l ≡ budget_of n old c l
    same-budget = budget-kept n old mid (λ k h j. a.low k (omega arith))

    both-added : (c : ℕ) → T (known_of n set new c) → (T (known_of n set old c) → ⊥) → T (known_of n set mid c) ⊎ T (not (known_of n set mid c)) → T (may_stand R c code) × (((R.fresh code).delay < budget_of n old c (R.fresh code).load) × ((weight_of n set new c ≡ weight) × (steps_of n set new c ≡ steps)))
    both-added c t f (inl k) =
        let d = a.added c k f in
        let e = b.kept c k in
        (d.0, (d.1.0, (e.1.0 ∙ d.1.1.0, e.1.1 ∙ d.1.1.1)))
    both-added c t f (inr k) =
        let d = b.added c t (T_not (known_of n set mid c) k) in
        (d.0, (omega (arith, same-budget c (R.fresh code).load, d.1.0), d.1.1))

    both-fresh : (i : ℕ) → count ≤ i → i < next → (middle ≤ i) ⊎ (i < middle) → (weight_of n set new (order_of n set new i) ≡ weight) × (steps_of n set new (order_of n set new i) ≡ steps)
    both-fresh i h k (inl q) = b.fresh i q k
    both-fresh i h k (inr q) =
        let d = a.fresh i h q in
        let e = b.kept (order_of n set mid i) (a.ordered.known i q) in
        rw (b.earlier i q) (e.1.0 ∙ d.0, e.1.1 ∙ d.1)

    pub labels_join : (C : ℕ → Type 0) → ((c : ℕ) → C c → A c ⊎ B c) → LabelsAddedAmong R n code set C weight steps old new count next
    labels_join C cases =
        record {
          same = b.same ∙ a.same;
          low = λ k h. b.low k h ∙ a.low k h;
          high = λ k h. b.high k h ∙ a.high k h;
          ordered = b.ordered;
          more = omega (arith, a.more, b.more);
          earlier = λ i h. b.earlier i (omega (arith, a.more)) ∙ a.earlier i h;
          fresh = λ i h k. both-fresh i h k (split middle i);
          kept =
              λ c t.
              let d = a.kept c t in
              let e = b.kept c d.0 in
              (e.0, (e.1.0 ∙ d.1.0, e.1.1 ∙ d.1.1));
          added = λ c t f. both-added c t f (decided (known_of n set mid c));
          every = λ c h t s f. some c h s f (cases c t);
        }
      where
        some : (c : ℕ) → c < n → T (may_stand R c code) → (R.fresh code).delay < budget_of n old c (R.fresh code).load → A c ⊎ B c → T (known_of n set new c)
        some c h s f (inl t) = (b.kept c (a.every c h t s f)).0
        some c h s f (inr t) = b.every c h t s (omega (arith, same-budget c (R.fresh code).load))

  module _ {A : ℕ → Type 0} {old new : List ℕ} {count next : ℕ} (a : LabelsAddedAmong R n code set A weight steps old new count next) where
    pub labels-among : (B : ℕ → Type 0) → ((c : ℕ) → c < n → B c → A c) → LabelsAddedAmong R n code set B weight steps old new count next
    labels-among B f =
        record {
          same = a.same;
          low = a.low;
          high = a.high;
          ordered = a.ordered;
          more = a.more;
          earlier = a.earlier;
          fresh = a.fresh;
          kept = a.kept;
          added = a.added;
          every = λ c h t. a.every c h (f c h t);
        }

    -- no label is after the new ones
    pub labels-last : ((c : ℕ) → T (known_of n set old c) → LabelBy n set old weight steps c) → (c : ℕ) → T (known_of n set new c) → LabelBy n set new weight steps c
    labels-last l c t = go (decided (known_of n set old c))
      where
        go : T (known_of n set old c) ⊎ T (not (known_of n set old c)) → LabelBy n set new weight steps c
        go (inl k) = let e = a.kept c k in rw (e.1.0, e.1.1) (l c k)
        go (inr k) = let d = a.added c t (T_not (known_of n set old c) k) in rw (d.1.1.0, d.1.1.1) (inr (refl, omega arith))

-- the loop: after the first i cells of the list, one more
module _ {R : Rules} {n code set weight steps : ℕ} {old mid new : List ℕ} {i count middle next cell : ℕ} where
  pub labels-more : n * row_words ≤ set → get_or mid (n * active_at + i) 0 ≡ get_or old (n * active_at + i) 0 → LabelsAddedAmong R n code set (ListedAt n old (n * active_at) i) weight steps old mid count middle → get_or mid (n * active_at + i) 0 ≡ cell → LabelsAddedAmong R n code set (λ c. c ≡ cell) weight steps mid new middle next → LabelsAddedAmong R n code set (ListedAt n old (n * active_at) (i + 1)) weight steps old new count next
  labels-more past same a e b = labels_join a b past (ListedAt n old (n * active_at) (i + 1)) (λ c p. go c p (equal p.at i))
    where
      go : (c : ℕ) → (p : ListedAt n old (n * active_at) (i + 1) c) → (p.at ≡ i) ⊎ (p.at ≡ i → ⊥) → ListedAt n old (n * active_at) i c ⊎ (c ≡ cell)
      go c p (inl q) = inr (sym p.holds ∙ ap (λ (j : ℕ). get_or old (n * active_at + j) 0) q ∙ sym same ∙ e)
      go c p (inr q) = inl (record { at = p.at; below = omega (arith, p.below); holds = p.holds })

-- The search's view, where a cell that is not listed has its label already: the table has what is done on side f within weight k after the span and these steps. The gates of this code that lead to that side come from side g: registers from the same, FIFOs from the one before.
module _ {R : Rules} (f g k : ℕ) {n code set steps active : ℕ} {old new : List ℕ} {count next : ℕ} (closes : T (is_closing code)) (leads : side_after g code ≡ f) (list : Listed n old (n * active_at) active) (a : LabelsAdded R n code set (R.weight f + k) steps old new count next) (table : Represents (budget_of n old) (Open R f k steps)) where
  abbrev fresh_in : ℕ → Type 0
  fresh_in c = (R.fresh code).delay < budget_of n old c (R.fresh code).load

  pub labels-relabelled : ((c : ℕ) → c < n → flag_of n old c ≡ 0 → T (may_stand R c code) → fresh_in c → T (known_of n set old c)) → (code ≡ register_code → g ≡ R.fifos → T (known_of n set old R.source)) → Relabelled (After R g code) (R.weight f + k) steps (labels_of n set old) (labels_of n set new)
  labels-relabelled quiet source =
      record {
        kept = a.kept;
        added =
            λ c t u.
            let d = a.added c t u in
            (After.at_gate closes d.0 (rw leads (table.sound c _ _ d.1.0)), d.1.1);
        every = λ c q. go c q;
      }
    where
      listed : (c : ℕ) → c < n → T (may_stand R c code) → fresh_in c → (flag_of n old c ≡ 0) ⊎ (flag_of n old c ≡ 1) → T (known_of n set new c)
      listed c h s t (inl z) = (a.kept c (quiet c h z s t)).0
      listed c h s t (inr o) = a.every c h o s t

      in_plan : (c : ℕ) → T (may_stand R c code) → fresh_in c → ((c < n) × ((R.fresh code).load < row_words)) ⊎ (c < n → (R.fresh code).load < row_words → ⊥) → T (known_of n set new c)
      in_plan c s t (inl h) = listed c h.0 s t (bit-cases (flag_of n old c) (list.bits c h.0))
      in_plan c s t (inr h) = absurd (omega (arith, budget-outside n old c (R.fresh code).load h))

      go : (c : ℕ) → After R g code (R.weight f + k) steps c → T (known_of n set new c)
      go c (After.at_source q r z) = rw z (a.kept R.source (source q r)).0
      go c (After.at_gate shut may x) = in_plan c may (table.complete c _ _ (rw leads at x)) (inside n c (R.fresh code).load)
