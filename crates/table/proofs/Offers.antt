-- One push, as a table.
use Rattle.std.proofs.Common.{ℕ, ◌+◌, ◌*◌, ◌≤◌, ◌<◌, max, ◌≡◌, refl, sym, ap, ◌∙◌, ◌&&◌, ◌⊎◌, inl, inr, List, arith, eqb, ltb, ltb→lt, lt→ltb, eqb→eq, get_or}
use Rattle.plan.proofs.Truth.{both, fst, snd, split, equal, eq→eqb}
use Rattle.budget.specs.Table.{only}
use Rattle.budget.specs.Sides.{is_side}
use Rattle.budget.proofs.Max.{only-true, only-false, only-bound}
use Rattle.costs.specs.Costs.{row_words}
use Rattle.layout.specs.Layout.{arrival_at, labels_at, next_at, listed_at, trail_at}
use Rattle.rows.specs.Words.{Filled, Kept, KeptFrom}
use Rattle.rows.specs.Rows.{pushed, RowGrows}
use Rattle.rows.proofs.Words.{filled_none, filled-longer}
use Rattle.rows.proofs.Rows.{row-elsewhere}
use Rattle.lists.specs.Lists.{flag_of, Listed, Enlisted}
use Rattle.lists.proofs.Lists.{listed_kept, listed-count}
use Rattle.trail.specs.declared.Trail.{Trail}
use Rattle.trail.proofs.History.{SameView}
use Rattle.table.specs.declared.pushes.Grown.{Grown}
use Rattle.table.specs.Problem.{budget_of}
use Rattle.table.specs.Layer.{arrival_of, via_step, Grew, SameRow, Raised, NotedRow, Offered, OfferAsks}
use Rattle.table.proofs.Views.{budget-at, budget-outside, budget-kept, arrival-outside, arrival-kept, inside}
use Rattle.table.proofs.Follows.{follows_same, follows-grew}
use Rattle.table.proofs.WholeLayer.{raised-more}

-- no side
pub no-side : (n to c : ℕ) (x : ℕ) → (to < n → c ≡ to → ⊥) → only (is_side n to c) x ≡ 0
unfolding is_side
no-side n to c x f = only-false (ltb to n && eqb c to) x (λ t. f (ltb→lt to n (fst (ltb to n) _ t)) (eqb→eq c to (snd (ltb to n) _ t)))

pub one_side : (n to c : ℕ) (x : ℕ) → to < n → c ≡ to → only (is_side n to c) x ≡ x
unfolding is_side
one_side n to c x h e = only-true (ltb to n && eqb c to) x (both (ltb to n) (eqb c to) (lt→ltb to n h) (eq→eqb c to e))

module _ (n to : ℕ) (costs : List ℕ) (base step : ℕ) (next : Grown) (old : List ℕ) (asks : OfferAsks n to costs base step next old) where
  -- past the last load nothing is left
  via-step-none : (l : ℕ) → row_words ≤ l → via_step n old costs base step l ≡ 0
  via-step-none l h = omega (arith, arrival-outside n old (l + step) (omega arith))

  -- nothing changes: what the cell gives is in the table already
  offer-same : ((c l : ℕ) → budget_of n old c l ≡ max (budget_of n old c l) (only (is_side n to c) (via_step n old costs base step l))) → Offered n to costs base step next.trail old old next
  offer-same e =
      record {
        raised = record { same = refl; listed = asks.listed; flags = λ c h. inl refl; quiet = λ c h z l. refl; kept = λ k lo hi. refl; seeds = λ k lo hi. refl };
        follows = follows_same asks.sound;
        table = e;
        arrival = λ l. refl;
      }

  -- no neighbour
  pub offer-none : to ≡ n → Offered n to costs base step next.trail old old next
  offer-none e = offer-same (λ c l. omega (arith, no-side n to c (via_step n old costs base step l) (λ h q. omega arith)))

  -- the row of `to` in the words is the push, which is what the step leaves
  pushed-via-step : (l : ℕ) → pushed old (n * arrival_at) (to * row_words) costs base step l ≡ max (get_or old (to * row_words + l) 0) (via_step n old costs base step l)
  unfolding pushed
  pushed-via-step l = refl

  module _ (new : List ℕ) (in_plan : to < n) (push : Filled (pushed old (n * arrival_at) (to * row_words) costs base step) (to * row_words) row_words old new) where
    push-table : (c l : ℕ) → budget_of n new c l ≡ max (budget_of n old c l) (only (is_side n to c) (via_step n old costs base step l))
    push-table c l = go (inside n c l) (equal c to)
      where
        nothing : (c < n → l < row_words → ⊥) → only (is_side n to c) (via_step n old costs base step l) ≡ 0
        nothing f = pick (split n c) (split row_words l)
          where
            pick : (n ≤ c) ⊎ (c < n) → (row_words ≤ l) ⊎ (l < row_words) → only (is_side n to c) (via_step n old costs base step l) ≡ 0
            pick (inl g) z = no-side n to c _ (λ h q. omega arith)
            pick (inr g) (inl z) = omega (arith, only-bound (is_side n to c) (via_step n old costs base step l) 0 (λ t. omega (arith, via-step-none l z)))
            pick (inr g) (inr z) = absurd (f g z)

        go : ((c < n) × (l < row_words)) ⊎ (c < n → l < row_words → ⊥) → (c ≡ to) ⊎ (c ≡ to → ⊥) → budget_of n new c l ≡ max (budget_of n old c l) (only (is_side n to c) (via_step n old costs base step l))
        go (inr f) q = omega (arith, budget-outside n new c l f, budget-outside n old c l f, nothing f)
        go (inl h) (inl e) =
            let a : get_or new (c * row_words + l) 0 ≡ max (get_or old (c * row_words + l) 0) (via_step n old costs base step l) = rw e (push.done l h.1 ∙ pushed-via-step l) in
            omega (arith, budget-at n new c l h.0 h.1, budget-at n old c l h.0 h.1, one_side n to c (via_step n old costs base step l) in_plan e)
        go (inl h) (inr f) =
            omega (arith, budget-at n new c l h.0 h.1, budget-at n old c l h.0 h.1, row-elsewhere push c l h.1 f, no-side n to c (via_step n old costs base step l) (λ g q. f q))

    push-flag : (c : ℕ) → flag_of n new c ≡ flag_of n old c
    push-flag c = push.high (n * listed_at + c) (omega arith)

    push-row-same : (c : ℕ) → (c ≡ to → ⊥) → SameRow n old new c
    push-row-same c f l = omega (arith, push-table c l, no-side n to c (via_step n old costs base step l) (λ g q. f q))

    -- the row is pushed, since it grows, and `to` is listed
    module _ (last : List ℕ) (count : ℕ) (list : Enlisted n (n * next_at) next.count to new last count) where
      same-table : (c l : ℕ) → budget_of n last c l ≡ budget_of n new c l
      same-table = budget-kept n new last (λ k lo hi. list.low k (omega arith))

      pub listed-table : (c l : ℕ) → budget_of n last c l ≡ max (budget_of n old c l) (only (is_side n to c) (via_step n old costs base step l))
      listed-table c l = same-table c l ∙ push-table c l

      pub listed-flag : (c : ℕ) → c < n → (c ≡ to → ⊥) → flag_of n last c ≡ flag_of n old c
      listed-flag c h f = list.others c h f ∙ push-flag c

      pub listed-row : (c : ℕ) → c < n → (c ≡ to → ⊥) → SameView old last c
      listed-row c h f l k = list.low (c * row_words + l) (omega arith) ∙ row-elsewhere push c l k f

      pub listed-high : KeptFrom (n * trail_at) old last
      listed-high k h = list.high k (omega arith) ∙ push.high k (omega arith)

      pub listed-near : Kept (n * arrival_at + row_words) (n * labels_at) old last
      listed-near k lo hi = list.low k (omega arith) ∙ push.high k (omega arith)

      pub listed-arrival : (l : ℕ) → arrival_of n last l ≡ arrival_of n old l
      listed-arrival = arrival-kept n old last (λ k lo hi. list.low k (omega arith) ∙ push.high k (omega arith))

      pub listed-raised : RowGrows (n * arrival_at) (to * row_words) costs base step old → Raised n old last count
      listed-raised g =
          record {
            same = list.same ∙ push.same;
            listed = list.listed;
            flags = λ c h. flags c h (equal c to);
            quiet = λ c h z. quiet c h z (equal c to);
            kept = λ k lo hi. list.low k (omega arith) ∙ push.high k (omega arith);
            seeds = λ k lo hi. list.high k lo ∙ push.high k (omega arith);
          }
        where
          grown : Grew n old last to
          grown =
              record {
                load = g.load;
                more = omega (arith, g.more, push.done g.load g.in_row, same-table to g.load, budget-at n new to g.load in_plan g.in_row, budget-at n old to g.load in_plan g.in_row);
              }

          flags : (c : ℕ) → c < n → (c ≡ to) ⊎ (c ≡ to → ⊥) → (flag_of n last c ≡ flag_of n old c) ⊎ ((flag_of n last c ≡ 1) × Grew n old last c)
          flags c h (inl q) = inr (rw q list.now-flagged, rw q grown)
          flags c h (inr f) = inl (list.others c h f ∙ push-flag c)

          quiet : (c : ℕ) → c < n → flag_of n last c ≡ 0 → (c ≡ to) ⊎ (c ≡ to → ⊥) → SameRow n old last c
          quiet c h z (inl q) l = absurd (let w : flag_of n last c ≡ 1 = rw q list.now-flagged in omega arith)
          quiet c h z (inr f) l = same-table c l ∙ push-row-same c f l

  -- the row does not grow
  pub offer-quiet : to < n → ((l : ℕ) → l < row_words → pushed old (n * arrival_at) (to * row_words) costs base step l ≡ get_or old (to * row_words + l) 0) → Offered n to costs base step next.trail old old next
  offer-quiet h e = offer-same (push-table old h (filled-longer (filled_none _ _ _) row_words (omega arith) (λ k lo hi. sym (e k hi))))

-- what is asked of the words after the row is saved
module _ (n to : ℕ) (costs : List ℕ) (base step : ℕ) (next : Grown) (old : List ℕ) (asks : OfferAsks n to costs base step next old) (mid : List ℕ) (r : Trail) (note : NotedRow n to old next.trail mid r) where
  pub noted-listed-kept : Listed n mid (n * next_at) next.count
  noted-listed-kept =
      listed_kept asks.listed mid (λ c h. note.labels (n * listed_at + c) (omega arith) (omega arith)) (λ i h. note.labels (n * next_at + i) (omega arith) (omega (arith, listed-count asks.listed)))

  noted-asks : OfferAsks n to costs base step (record { count = next.count; trail = r }) mid
  noted-asks =
      record {
        to_in = asks.to_in;
        few = asks.few;
        costed = asks.costed;
        room = omega (arith, asks.room, note.same);
        listed = noted-listed-kept;
        sound = note.follows.sound;
      }

  noted-table : (c l : ℕ) → budget_of n mid c l ≡ budget_of n old c l
  noted-table = budget-kept n old mid (λ k lo hi. note.low k lo (omega arith))

  noted-raised : Raised n old mid next.count
  noted-raised =
      record {
        same = note.same;
        listed = noted-listed-kept;
        flags = λ c h. inl (note.labels (n * listed_at + c) (omega arith) (omega arith));
        quiet = λ c h z. noted-table c;
        kept = λ k lo hi. note.labels k lo (omega arith);
        seeds = λ k lo hi. note.labels k (omega arith) hi;
      }

  noted-arrival : (l : ℕ) → arrival_of n mid l ≡ arrival_of n old l
  noted-arrival = arrival-kept n old mid (λ k lo hi. note.low k (omega arith) hi)

  via-step-same : (l : ℕ) → via_step n mid costs base step l ≡ via_step n old costs base step l
  via-step-same l = rw (noted-arrival (l + step))

  pushed-same : to < n → (l : ℕ) → l < row_words → pushed mid (n * arrival_at) (to * row_words) costs base step l ≡ pushed old (n * arrival_at) (to * row_words) costs base step l
  pushed-same in_plan l h =
      omega (arith, pushed-via-step n to costs base step _ mid noted-asks l, pushed-via-step n to costs base step next old asks l, via-step-same l, note.low (to * row_words + l) (omega arith) (omega arith))

  -- the row grows: it is saved and pushed, and `to` is listed
  pub offer-grew : (new : List ℕ) → to < n → Filled (pushed mid (n * arrival_at) (to * row_words) costs base step) (to * row_words) row_words mid new → (last : List ℕ) (count : ℕ) → RowGrows (n * arrival_at) (to * row_words) costs base step old → Enlisted n (n * next_at) next.count to new last count → Offered n to costs base step next.trail old last (record { count = count; trail = r })
  offer-grew new in_plan push last count grows list =
      record {
        raised =
            raised-more n old mid last next.count count (λ c l. omega (arith, noted-table c l)) (λ c l. omega (arith, table c l)) noted-raised
            (listed-raised n to costs base step _ mid noted-asks new in_plan push last count list grows-still);
        follows =
            follows-grew n to old next.trail mid r note last (listed-near n to costs base step _ mid noted-asks new in_plan push last count list) (listed-high n to costs base step _ mid noted-asks new in_plan push last count list)
            (listed-row n to costs base step _ mid noted-asks new in_plan push last count list) (listed-flag n to costs base step _ mid noted-asks new in_plan push last count list);
        table =
            λ c l.
            omega (
              arith,
              table c l,
              noted-table c l,
              ap (only (is_side n to c)) (via-step-same l),
            );
        arrival = λ l. listed-arrival n to costs base step _ mid noted-asks new in_plan push last count list l ∙ noted-arrival l;
      }
    where
      table : (c l : ℕ) → budget_of n last c l ≡ max (budget_of n mid c l) (only (is_side n to c) (via_step n mid costs base step l))
      table = listed-table n to costs base step _ mid noted-asks new in_plan push last count list

      grows-still : RowGrows (n * arrival_at) (to * row_words) costs base step mid
      grows-still =
          record {
            load = grows.load;
            in_row = grows.in_row;
            more = omega (arith, grows.more, note.low (to * row_words + grows.load) (omega arith) (omega (arith, grows.in_row)), pushed-same in_plan grows.load grows.in_row);
          }
