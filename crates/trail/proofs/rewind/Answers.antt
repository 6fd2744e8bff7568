use Rattle.std.proofs.Common.{ℕ, ◌+◌, ◌-◌, ◌≤◌, ◌<◌, ◌≡◌, ap, ◌∙◌, List, arith}
use Rattle.trail.specs.declared.Trail.{Trail}
use Rattle.trail.specs.Trail.{stamp_of, stamp_at, Rewound}
use Rattle.trail.proofs.Slots.{place-in}
use Rattle.trail.proofs.History.{history-now}
use Rattle.trail.proofs.rewind.Invariants.{Rewinding}
use Rattle.trail.proofs.rewind.Goals as goal
use Rattle.trail.proofs.rewind.Goals.{After-stamp_of, Else-stamp_of-layer}

rewound : (n layer : ℕ) (old : List ℕ) (t : Trail) (new : List ℕ) (r : Trail) → Rewinding n layer old t new r → ((i : ℕ) → i < r.count → stamp_at n new r i ≤ layer) → Rewound n layer old t new r
rewound n layer old t new r x none =
    record {
      same = x.same;
      kept = x.kept;
      sound = x.sound;
      lowest = x.lowest;
      history = x.history;
      table = λ u Z low h past. history-now n new r layer Z none (omega (arith, x.lowest)) (x.history u Z h past);
    }

pub stamp_of-requires : goal.stamp_of-requires
stamp_of-requires c =
    let x = c.loop-left.invariant in
    let inside = place-in x.sound (c.loop-left.left.count - 1) (omega (arith, x.sound.fits)) in
    (omega (arith, c.place-at.ensures, inside, c.requires.few), omega (arith, c.place-at.ensures, inside, c.requires.room, x.same))

-- the layer of the newest entry
newest : (c : After-stamp_of) → c.stamp_of.result ≡ stamp_at c.args.n c.loop-left.scratch c.loop-left.left (c.loop-left.left.count - 1)
newest c =
    c.stamp_of.ensures ∙ ap (stamp_of c.loop-left.scratch) c.place-at.ensures

pub returns-then-stamp_of-layer : goal.returns-then-stamp_of-layer
returns-then-stamp_of-layer c =
    let x = c.loop-left.invariant in
    rewound _ _ _ _ _ _ x (λ i h. omega (arith, newest (goal.at.returns-then-stamp_of-layer c).After-stamp_of, c.if-stamp_of-layer.true, x.sound.sorted i (c.loop-left.left.count - 1) (omega arith) (omega arith)))

pub loop-left-preserved : goal.loop-left-preserved
loop-left-preserved c =
    let x = c.loop-left.invariant in
    let y = c.restore-left.ensures in
    record {
      same = y.same ∙ x.same;
      kept = λ k h. y.kept k h ∙ x.kept k h;
      sound = y.sound;
      lowest = y.lowest ∙ x.lowest;
      history = λ u Z le past. y.history _ Z (top (goal.at.loop-left-preserved c).Else-stamp_of-layer _ y.fewer) (x.history u Z le past);
    }
  where
    top : (e : Else-stamp_of-layer) (k : ℕ) → e.loop-left.left.count ≡ k + 1 → e.args.layer < stamp_at e.args.n e.loop-left.scratch e.loop-left.left k
    top e k f =
        let z : e.loop-left.left.count - 1 ≡ k = omega arith in
        omega (arith, newest (goal.at.Else-stamp_of-layer e).After-stamp_of, e.if-stamp_of-layer.false, ap (stamp_at e.args.n e.loop-left.scratch e.loop-left.left) z)

pub returns : goal.returns
returns c = rewound _ _ _ _ _ _ c.loop-left.invariant (λ i h. absurd (omega arith))
