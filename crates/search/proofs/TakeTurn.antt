-- One turn: a quiet layer, a layer that reaches the sink, a layer that grew.
use Prim.Native.Nat.{ℕ, zero, suc, ◌+◌, ◌*◌, ◌≤◌, ◌<◌}
use mathlib.Core.Path.{◌≡◌, refl, sym, subst, ◌∙◌}
use mathlib.Core.Logic.{◌⊎◌, inl, inr}
use mathlib.Core.List.{List}
use native.Mathlib.Omega.{arith}
use native.Mathlib.Numerals.{add-one}
use lib.Dec.{T}
use Rattle.rules.specs.Rules.{Rules, register_code}
use Rattle.budget.specs.Done.{Lawful}
use Rattle.budget.proofs.Done.{not-after-refl, not-after-trans, after-before}
use Rattle.layout.specs.Layout.{labels_at, exits_at, trail_at}
use Rattle.rows.specs.Words.{KeptFrom}
use Rattle.table.specs.Problem.{budget_of}
use Rattle.trail.specs.Trail.{no_trail}
use Rattle.table.specs.declared.pushes.Grown.{Grown}
use Rattle.table.specs.Layer.{Layered}
use Rattle.labels.specs.Labels.{known_of, order_of, LabelBy, Ordered}
use Rattle.labels.specs.Additions.{LabelsAdded}
use Rattle.search.specs.declared.turns.Progress.{Progress}
use Rattle.search.specs.declared.turns.Reached.{Reached}
use Rattle.std.proofs.Common.{ControlFlow, Continue, Break}
use Rattle.search.specs.Turn.{FrontOf, WaitingOf, moved_to, Quieted, Advance, SearchDone, TurnDone, Beyond, TurnEffect}
use Rattle.search.specs.Ask.{WatchDone}
use Rattle.search.proofs.Total.{total_kept}
use Rattle.search.proofs.Layers.{layer-grows, layer-sink, layer-late, layer-late-exit, quiet-total, quiet-jump, quiet-end}
use Rattle.search.proofs.Fronts.{labels-before, mid-watch, grown-waiting}

module _ {R : Rules} (law : Lawful R) {n side exits : ℕ} (cells : R.cell_count ≡ n) {words : List ℕ} {f : Progress} (front : FrontOf R n side exits words f) {new : List ℕ} {next : Grown} (l : Layered R n (R.bound 0 side) no_trail words new next) where
  abbrev k : ℕ
  k = f.weight

  abbrev s : ℕ
  s = f.steps

  rest : KeptFrom (n * trail_at) words new
  rest i h = l.beyond i (omega arith)

  beyond : Beyond n side words new
  beyond = record { trail = λ i lo hi. rest i lo; exits = λ e i lo hi. rest i (omega arith); rest = λ i h. rest i (omega arith) }

  pub turn-quiet : next.count ≡ 0 → (t : ControlFlow Reached Progress) → Quieted n exits new f t → TurnEffect R n side exits words f new t
  unfolding moved_to
  turn-quiet none t q = record { same = l.same; beyond = beyond; done = go q }
    where
      still : {g : Progress} → g.at ≡ f.at → g.exit ≡ f.exit → ((g.at < g.count) × LabelBy n (n * labels_at) new g.weight g.steps (order_of n (n * labels_at) new g.at)) ⊎ ((g.exit < exits) × LabelBy n (n * exits_at) new g.weight g.steps (order_of n (n * exits_at) new g.exit)) → Advance n exits words new f g
      still = Advance.comes (quiet-total law cells front l none)

      go : {t : ControlFlow Reached Progress} → Quieted n exits new f t → TurnDone R n side exits words f new t
      go (Quieted.nothing a b) = TurnDone.ends _ (SearchDone.nothing _ _ (quiet-end law cells front l none a b))
      go (Quieted.register h far) =
          TurnDone.on _ (quiet-jump law cells front l none _ _ (after-before (layer-late law cells front l h)) (λ g. not-after-refl _ _) far)
          (still refl refl (inl (h, not-after-refl _ _)))
      go (Quieted.fifo h near) =
          TurnDone.on _ (quiet-jump law cells front l none _ _ (after-before (layer-late-exit law cells front l h)) near (λ g. not-after-refl _ _))
          (still refl refl (inr (h, not-after-refl _ _)))

  pub turn-sink : side ≡ 0 → R.start.delay < budget_of n new R.sink R.start.load → TurnEffect R n side exits words f new (Break (Reached.Sink k (s + 1) f.count))
  turn-sink e h =
      record {
        same = l.same;
        beyond = beyond;
        done = TurnDone.ends _ (SearchDone.sink k (s + 1) f.count e (rw (add-one s) (layer-sink law cells front l e h)));
      }

  -- no label is after the new ones

  pub turn-before : (weight : ℕ) → weight ≡ R.weight side + k → (c : ℕ) → T (known_of n (n * labels_at) new c) → LabelBy n (n * labels_at) new weight (s + 1) c
  turn-before weight e c t = rw (e, add-one s) (labels-before law cells front l c t)

  pub turn-watch : (weight : ℕ) → weight ≡ R.weight side + k → {mid : List ℕ} {count : ℕ} → LabelsAdded R n register_code (n * labels_at) weight (s + 1) new mid f.count count → 0 < side → Ordered n (n * exits_at) mid f.watched × ((c : ℕ) → T (known_of n (n * exits_at) mid c) → LabelBy n (n * exits_at) mid weight (s + 1) c)
  turn-watch weight e {mid} added h = go side refl
    where
      go : (i : ℕ) → side ≡ i → Ordered n (n * exits_at) mid f.watched × ((c : ℕ) → T (known_of n (n * exits_at) mid c) → LabelBy n (n * exits_at) mid weight (s + 1) c)
      go zero z = absurd (omega arith)
      go (suc g) z =
          let v = mid-watch law cells front l (rw (e, add-one s) at added) g z in (
            v.ordered,
            λ c t. rw (e, add-one s) (not-after-trans (subst (λ (i : ℕ). LabelBy n (n * exits_at) mid (R.weight i + k) s c) (sym z) (v.last c t)) (inr (refl, omega arith))),
          )

  module _ (weight : ℕ) (weighs : weight ≡ R.weight side + k) (some : 0 < next.count) (not_yet : side ≡ 0 → budget_of n new R.sink R.start.load ≤ R.start.delay) {mid : List ℕ} {count : ℕ} (added : LabelsAdded R n register_code (n * labels_at) weight (s + 1) new mid f.count count) {last : List ℕ} {watched : ℕ} (watch : WatchDone R n side weight (s + 1) mid last f.watched watched) where
    abbrev g : Progress
    g = record { weight = k; steps = s + 1; active = next.count; at = f.at; count = count; exit = f.exit; watched = watched }

    waits : WaitingOf R n side exits last g
    waits = rw (add-one s) (grown-waiting law cells front l (rw (weighs, add-one s) at added) (rw (weighs, add-one s) at watch) not_yet)

    pub turn-grown : TurnEffect R n side exits words f last (Continue g)
    turn-grown =
        record {
          same = watch.same ∙ (added.same ∙ l.same);
          beyond =
              record {
                trail = λ i lo hi. watch.low i hi ∙ (added.high i (omega arith) ∙ rest i lo);
                exits = λ e i lo hi. watch.none e i ∙ (added.high i (omega arith) ∙ rest i (omega arith));
                rest = λ i h. watch.high i h ∙ (added.high i (omega arith) ∙ rest i (omega arith));
              };
          done =
              TurnDone.on g waits
              (Advance.grew
              (omega (arith, layer-grows law cells front l some, total_kept n new last (λ i lo hi. watch.low i (omega arith) ∙ added.low i (omega arith))))
              refl refl);
        }
