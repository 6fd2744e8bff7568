-- The four pushes of a cell are what the rules give its neighbours; the pushes of the active list together.
use Rattle.std.proofs.Common.{ℕ, ◌+◌, ◌-◌, ◌*◌, ◌≤◌, ◌<◌, max, ◌≡◌, refl, sym, ◌∙◌, ◌⊎◌, inl, inr, List, arith, leb, leb→le, length, get_or}
use borrow.Author.Tests.{lt-leb}
use Rattle.plan.specs.Plan.{Plan, cells}
use Rattle.plan.specs.Joined.{neighbours_of}
use Rattle.timing.specs.declared.elements.Wire.{Wire}
use Rattle.timing.specs.Elements.{WireInRange}
use Rattle.timing.specs.Formulas.{wire_delay, wire_load}
use Rattle.plan.proofs.Truth.{split}
use Rattle.rules.specs.Rules.{Rules}
use Rattle.budget.specs.Table.{Table, only, given}
use Rattle.budget.specs.Sides.{via_wire, is_side}
use Rattle.budget.proofs.Sides.{four-sides}
use Rattle.budget.proofs.Max.{only-false}
use Rattle.budget.proofs.Active.{arrival-row, arrival-past, given-row}
use Rattle.layout.specs.Layout.{arrival_at, labels_at, active_at, next_at, listed_at}
use Rattle.rows.specs.Words.{Filled, KeptFrom}
use Rattle.lists.specs.Lists.{Listed}
use Rattle.lists.proofs.Lists.{listed-none, listed_kept}
use Rattle.trail.specs.declared.Trail.{Trail}
use Rattle.trail.specs.Trail.{Sound}
use Rattle.problem.specs.declared.Problem.{Problem}
use Rattle.problem.specs.declared.net.Net.{Net}
use Rattle.table.specs.declared.pushes.Grown.{Grown}
use Rattle.costs.specs.Costs.{row_words, cost_words, step_cost, horizontal_at, vertical_at, RowAt}
use Rattle.rows.specs.Rows.{StepRow}
use Rattle.rows.proofs.Leaves.{step-leaves}
use Rattle.problem.proofs.Sizes.{cells_are, few-cells}
use Rattle.table.specs.Problem.{plan_for, net_rules, budget_of, seed_of}
use Rattle.table.specs.Layer.{arrival_of, via_step, arrivals, Raised, Follows, Offered, OfferAsks, Spread, SpreadAsks, SpreadAll, SpreadAllAsks}
use Rattle.table.proofs.Views.{budget-kept, seeds-kept, arrival-at, arrival-outside, limit-named}
use Rattle.table.proofs.Follows.{follows_same, follows-kept, follows-more}
use Rattle.table.proofs.WholeLayer.{raised-more}

-- an offer only adds
pub offered-least : {n to : ℕ} {costs : List ℕ} {base step : ℕ} {t : Trail} {old new : List ℕ} {next : Grown} → Offered n to costs base step t old new next → (c l : ℕ) → budget_of n old c l ≤ budget_of n new c l
offered-least o c l = omega (arith, o.table c l)

module _ (net : Net) (marks costs : List ℕ) (cell : ℕ) (next : Grown) (words : List ℕ) (asks : SpreadAsks net marks costs cell next words) where
  abbrev p : Problem
  p = net.problem

  abbrev n : ℕ
  n = length marks

  abbrev P : Plan
  P = plan_for p marks

  inside : cell < cells P
  inside = omega (arith, asks.cell_in, cells_are p marks asks.ready.ready)

  -- a step past the row costs all, since the limit is within the row
  pub step_row : (wire : Wire) (base : ℕ) → base + row_words ≤ cost_words → WireInRange wire → RowAt (step_cost wire p.elements.limit.0) base costs → StepRow costs base (wire_load wire)
  unfolding step_cost wire_load
  step_row wire base h w row =
      record {
        inside = h;
        short = omega (arith, w.load);
        past = λ l k m. row l k ∙ simp (lt-leb (l + wire_load wire) p.elements.limit.0 (omega (arith, asks.ready.ready.valid.limit)));
      }

  -- what each offer asks
  pub offer-asks : (to base step : ℕ) (now : List ℕ) (from : Grown) → StepRow costs base step → to ≤ cells P → length now ≡ length words → Listed n now (n * next_at) from.count → Sound n now from.trail → OfferAsks n to costs base step from now
  offer-asks to base step now from row h same listed sound =
      record {
        to_in = omega (arith, cells_are p marks asks.ready.ready);
        few = few-cells p marks asks.ready.ready;
        costed = row;
        room = omega (arith, asks.room);
        listed = listed;
        sound = sound;
      }

  sides : (B : Table) → ((l : ℕ) → p.elements.limit.0 < l → B cell l ≡ 0) → (c l x : ℕ) → max (max (max (max x (only (is_side n (neighbours_of P cell).up c) (via_wire p.elements.vertical p.elements.limit.0 B cell l))) (only (is_side n (neighbours_of P cell).left c) (via_wire p.elements.horizontal p.elements.limit.0 B cell l))) (only (is_side n (neighbours_of P cell).right c) (via_wire p.elements.horizontal p.elements.limit.0 B cell l))) (only (is_side n (neighbours_of P cell).down c) (via_wire p.elements.vertical p.elements.limit.0 B cell l)) ≡ max x (given (net_rules net marks) B cell c l)
  unfolding net_rules
  sides B past c l x =
      rw (cells_are p marks asks.ready.ready)
      (four-sides P asks.ready.ready.sized p.elements net.clocks p.source p.sink cell inside p.elements.limit.0 B past c l x)

  abbrev R : Rules
  R = net_rules net marks

  -- first the arrival row is made
  module _ (top : ℕ) (w₀ : List ℕ) (fill : Filled (arrivals R n top words cell) (n * arrival_at) row_words words w₀) where
    high : KeptFrom (n * labels_at) words w₀
    high k h = fill.high k (omega (arith, asks.cell_in))

    filled-budget : (c l : ℕ) → budget_of n w₀ c l ≡ budget_of n words c l
    filled-budget = budget-kept n words w₀ (λ k lo hi. fill.low k hi)

    filled_row : (l : ℕ) → arrival_of n w₀ l ≡ arrivals R n top words cell l
    filled_row l = go (split row_words l)
      where
        go : (row_words ≤ l) ⊎ (l < row_words) → arrival_of n w₀ l ≡ arrivals R n top words cell l
        go (inl h) =
            arrival-outside n w₀ l h
            ∙ sym (arrival-past R (seed_of n words) top (budget_of n words) cell l (omega (arith, limit-named net marks, asks.ready.ready.valid.limit)))
        go (inr h) = arrival-at n w₀ l h ∙ fill.done l h

    pub filled-listed : Listed n w₀ (n * next_at) next.count
    filled-listed =
        listed_kept asks.listed w₀ (λ c h. high (n * listed_at + c) (omega arith)) (λ i h. high (n * next_at + i) (omega arith))

    pub filled-follows : Follows n next.trail words next.trail w₀
    filled-follows = follows-kept (omega (arith, asks.cell_in)) asks.sound (λ k lo hi. fill.low k hi) fill.high

    filled-raised : Raised n words w₀ next.count
    filled-raised =
        record {
          same = fill.same;
          listed = filled-listed;
          flags = λ c h. inl (high (n * listed_at + c) (omega arith));
          quiet = λ c h z. filled-budget c;
          kept = λ k lo hi. high k lo;
          seeds = λ k lo hi. high k (omega arith);
        }

    -- then the four offers
    module _ (w₁ w₂ w₃ w₄ : List ℕ) (k₁ k₂ k₃ k₄ : Grown) (up : Offered n (neighbours_of P cell).up costs vertical_at (wire_load p.elements.vertical) next.trail w₀ w₁ k₁) (left : Offered n (neighbours_of P cell).left costs horizontal_at (wire_load p.elements.horizontal) k₁.trail w₁ w₂ k₂) (right : Offered n (neighbours_of P cell).right costs horizontal_at (wire_load p.elements.horizontal) k₂.trail w₂ w₃ k₃) (down : Offered n (neighbours_of P cell).down costs vertical_at (wire_load p.elements.vertical) k₃.trail w₃ w₄ k₄) where
      row₁ : (l : ℕ) → arrival_of n w₁ l ≡ arrivals R n top words cell l
      row₁ l = up.arrival l ∙ filled_row l

      row₂ : (l : ℕ) → arrival_of n w₂ l ≡ arrivals R n top words cell l
      row₂ l = left.arrival l ∙ row₁ l

      row₃ : (l : ℕ) → arrival_of n w₃ l ≡ arrivals R n top words cell l
      row₃ l = right.arrival l ∙ row₂ l

      -- nothing arrives past the limit
      past : (l : ℕ) → p.elements.limit.0 < l → arrivals R n top words cell l ≡ 0
      past l h = arrival-past R (seed_of n words) top (budget_of n words) cell l (omega (arith, limit-named net marks))

      -- what one wire leaves of the cell's arrival row
      via-wire-row : (wire : Wire) (base : ℕ) → RowAt (step_cost wire p.elements.limit.0) base costs → (old : List ℕ) → ((l : ℕ) → arrival_of n old l ≡ arrivals R n top words cell l) → (l : ℕ) → via_step n old costs base (wire_load wire) l ≡ via_wire wire p.elements.limit.0 (arrivals R n top words) cell l
      unfolding via_wire
      via-wire-row wire base row old e l = go (split (l + wire_load wire) p.elements.limit.0)
        where
          go : (l + wire_load wire ≤ p.elements.limit.0) ⊎ (p.elements.limit.0 < l + wire_load wire) → arrival_of n old (l + wire_load wire) - get_or costs (base + l) 0 ≡ only (leb (l + wire_load wire) p.elements.limit.0) (arrivals R n top words cell (l + wire_load wire) - wire_delay wire l)
          go (inl h) =
              rw (e (l + wire_load wire), row l (omega (arith, asks.ready.ready.valid.limit)))
              (step-leaves wire p.elements.limit.0 l (arrivals R n top words cell (l + wire_load wire)) (λ k. absurd (omega arith)))
          go (inr h) =
              omega (arith, e (l + wire_load wire), past (l + wire_load wire) h, only-false (leb (l + wire_load wire) p.elements.limit.0) (arrivals R n top words cell (l + wire_load wire) - wire_delay wire l) (λ t. omega (arith, leb→le (l + wire_load wire) p.elements.limit.0 t)))

      -- and one offer
      at-start : (to : ℕ) (wire : Wire) (base : ℕ) → RowAt (step_cost wire p.elements.limit.0) base costs → (t : Trail) (old new : List ℕ) (k : Grown) → Offered n to costs base (wire_load wire) t old new k → ((l : ℕ) → arrival_of n old l ≡ arrivals R n top words cell l) → (c l : ℕ) → budget_of n new c l ≡ max (budget_of n old c l) (only (is_side n to c) (via_wire wire p.elements.limit.0 (arrivals R n top words) cell l))
      at-start to wire base row t old new k o e c l = o.table c l ∙ rw (via-wire-row wire base row old e l)

      spread-table : (c l : ℕ) → budget_of n w₄ c l ≡ max (budget_of n words c l) (given R (arrivals R n top words) cell c l)
      spread-table c l =
          cc (
            filled-budget c l,
            at-start (neighbours_of P cell).up p.elements.vertical vertical_at asks.costed.vertical next.trail w₀ w₁ k₁ up filled_row c l,
            at-start (neighbours_of P cell).left p.elements.horizontal horizontal_at asks.costed.horizontal k₁.trail w₁ w₂ k₂ left row₁ c l,
            at-start (neighbours_of P cell).right p.elements.horizontal horizontal_at asks.costed.horizontal k₂.trail w₂ w₃ k₃ right row₂ c l,
            at-start (neighbours_of P cell).down p.elements.vertical vertical_at asks.costed.vertical k₃.trail w₃ w₄ k₄ down row₃ c l,
            sides (arrivals R n top words) past c l (budget_of n words c l),
          )

      least₁ : (c l : ℕ) → budget_of n words c l ≤ budget_of n w₁ c l
      least₁ c l = omega (arith, filled-budget c l, offered-least up c l)

      least₂ : (c l : ℕ) → budget_of n words c l ≤ budget_of n w₂ c l
      least₂ c l = omega (arith, least₁ c l, offered-least left c l)

      pub spread-whole : Spread R n top cell next.trail words w₄ k₄
      spread-whole =
          record {
            raised =
                raised-more n words w₃ w₄ k₃.count k₄.count (λ c l. omega (arith, least₂ c l, offered-least right c l)) (offered-least down)
                (raised-more n words w₂ w₃ k₂.count k₃.count least₂ (offered-least right)
                (raised-more n words w₁ w₂ k₁.count k₂.count least₁ (offered-least left)
                (raised-more n words w₀ w₁ next.count k₁.count (λ c l. omega (arith, filled-budget c l)) (offered-least up) filled-raised up.raised)
                left.raised)
                right.raised)
                down.raised;
            follows = follows-more filled-follows (follows-more up.follows (follows-more left.follows (follows-more right.follows down.follows)));
            table = spread-table;
          }

-- The active list, one cell after another.
module _ (net : Net) (marks costs : List ℕ) (active : ℕ) (t : Trail) (words : List ℕ) (asks : SpreadAllAsks net marks costs active t words) (top : ℕ) where
  abbrev m : ℕ
  m = length marks

  abbrev Q : Rules
  Q = net_rules net marks

  -- the cell at place i of the list
  abbrev active_cell : ℕ → ℕ
  active_cell i = get_or words (m * active_at + i) 0

  pub spread_none : SpreadAll Q m top 0 t words words (record { count = 0; trail = t })
  spread_none =
      record {
        raised =
            record {
              same = refl;
              listed = listed-none m words (m * next_at) asks.unflagged;
              flags = λ c h. inl refl;
              quiet = λ c h z l. refl;
              kept = λ k lo hi. refl;
              seeds = λ k lo hi. refl;
            };
        follows = follows_same asks.sound;
        least = λ c l. omega arith;
        most = λ x c l h f. h;
        gave = λ i h. absurd (omega arith);
      }

  -- no cell of the list gives to another
  gives_none : (B : Table) (i j l : ℕ) → i < active → j < active → given Q B (active_cell j) (active_cell i) l ≡ 0
  unfolding given
  gives_none B i j l h k = only-false (Q.linked (active_cell i) (active_cell j)) _ (asks.unlinked i j h k)

  module _ (now : List ℕ) (i : ℕ) (next : Grown) (short : i < active) (before : SpreadAll Q m top i t words now next) where
    same-cell : get_or now (m * active_at + i) 0 ≡ active_cell i
    same-cell = before.raised.kept (m * active_at + i) (omega arith) (omega (arith, asks.short))

    -- so its row is as it was
    same_row : (l : ℕ) → budget_of m now (active_cell i) l ≡ budget_of m words (active_cell i) l
    same_row l =
        omega (
          arith,
          before.least (active_cell i) l,
          before.most (budget_of m words (active_cell i) l) (active_cell i) l (omega arith) (λ j h. omega (arith, gives_none (arrivals Q m top words) i j l short (omega arith))),
        )

    pub spread-next-asks : SpreadAsks net marks costs (get_or now (m * active_at + i) 0) next now
    spread-next-asks =
        record {
          ready = asks.ready;
          costed = asks.costed;
          cell_in = omega (arith, same-cell, asks.cells i short);
          room = omega (arith, before.raised.same, asks.room);
          listed = before.raised.listed;
          sound = before.follows.sound;
        }

    pub spread-more : (last : List ℕ) (count : Grown) → Spread Q m top (get_or now (m * active_at + i) 0) next.trail now last count → SpreadAll Q m top (i + 1) t words last count
    spread-more last count s =
        record {
          raised = raised-more m words now last next.count count.count before.least grows before.raised s.raised;
          follows = follows-more before.follows s.follows;
          least = λ c l. omega (arith, before.least c l, grows c l);
          most = λ x c l h f. omega (arith, s.table c l, given-now c l, before.most x c l h (λ j k. f j (omega arith)), f i (omega arith));
          gave = λ j h c l. go j h c l (split i j);
        }
      where
        grows : (c l : ℕ) → budget_of m now c l ≤ budget_of m last c l
        grows c l = omega (arith, s.table c l)

        given-now : (c l : ℕ) → given Q (arrivals Q m top now) (get_or now (m * active_at + i) 0) c l ≡ given Q (arrivals Q m top words) (active_cell i) c l
        given-now c l =
            rw same-cell
            (given-row Q (arrivals Q m top words) (arrivals Q m top now) (active_cell i)
            (arrival-row Q (seed_of m words) (seed_of m now) top (budget_of m words) (budget_of m now) (active_cell i) same_row (seeds-kept m words now before.raised.seeds (active_cell i) (asks.cells i short)))
            c l)

        go : (j : ℕ) → j < i + 1 → (c l : ℕ) → (i ≤ j) ⊎ (j < i) → given Q (arrivals Q m top words) (active_cell j) c l ≤ budget_of m last c l
        go j h c l (inr k) = omega (arith, before.gave j k c l, grows c l)
        go j h c l (inl k) =
            let e : i ≡ j = omega arith in
            rw (← e) (omega (arith, s.table c l, given-now c l))
