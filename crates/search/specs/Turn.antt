-- What one turn of the search leaves.
use Rattle.std.specs.Prelude.{ℕ, suc, ◌+◌, ◌*◌, ◌<◌, ◌≡◌, ◌⊎◌, List, length}
use Rattle.std.specs.declared.ops.ControlFlow.{ControlFlow}
use Rattle.std.specs.declared.ops.ControlFlow.TheVariants.{Continue, Break}
use Rattle.rules.specs.Rules.{Rules, fifo_code}
use Rattle.budget.specs.Done.{Least, After, Covers, Labelled}
use Rattle.budget.specs.Search.{FromSink}
use Rattle.layout.specs.Layout.{labels_at, exits_at, aside_at, trail_at}
use Rattle.rows.specs.Words.{Kept, KeptFrom}
use Rattle.labels.specs.Labels.{weight_of, steps_of, labels_of, labels_for, order_of, LabelBy, Ordered}
use Rattle.search.specs.Front.{total, HeadFrom, Waiting, Front}
use Rattle.search.specs.declared.turns.Progress.{Progress}
use Rattle.search.specs.declared.turns.Reached.{Reached}

abbrev pub FrontOf : Rules → ℕ → ℕ → ℕ → List ℕ → Progress → Type 0
FrontOf R n side exits words f =
    Front R n side exits words f.weight f.steps f.active f.at f.count f.exit f.watched

abbrev pub WaitingOf : Rules → ℕ → ℕ → ℕ → List ℕ → Progress → Type 0
WaitingOf R n side exits words f =
    Waiting R n side exits words f.weight f.steps f.active f.at f.count f.exit f.watched

-- on to the label at this place of a set's order
unfoldable pub moved_to : ℕ → ℕ → List ℕ → ℕ → Progress → Progress
moved_to n set words i f =
    record {
      weight = weight_of n set words (order_of n set words i);
      steps = steps_of n set words (order_of n set words i);
      active = 0;
      at = f.at;
      count = f.count;
      exit = f.exit;
      watched = f.watched;
    }

-- After a layer that changed nothing: the earlier of the first labels that wait, or nothing
pub data Quieted (n exits : ℕ) (words : List ℕ) (f : Progress) : ControlFlow Reached Progress → Type 0 where
  nothing : f.at ≡ f.count → f.exit ≡ exits → Quieted n exits words f (Break (Reached.Nothing f.count f.watched))
  register : f.at < f.count → (f.exit < exits → HeadFrom n (n * exits_at) words f.exit (moved_to n (n * labels_at) words f.at f).weight (moved_to n (n * labels_at) words f.at f).steps) → Quieted n exits words f (Continue (moved_to n (n * labels_at) words f.at f))
  fifo : f.exit < exits → (f.at < f.count → HeadFrom n (n * labels_at) words f.at (moved_to n (n * exits_at) words f.exit f).weight (moved_to n (n * exits_at) words f.exit f).steps) → Quieted n exits words f (Continue (moved_to n (n * exits_at) words f.exit f))

-- the table grew, or a label waits that has come
pub data Advance (n exits : ℕ) (old new : List ℕ) (f g : Progress) : Type 0 where
  grew : total n old < total n new → g.at ≡ f.at → g.exit ≡ f.exit → Advance n exits old new f g
  comes : total n new ≡ total n old → g.at ≡ f.at → g.exit ≡ f.exit → ((g.at < g.count) × LabelBy n (n * labels_at) new g.weight g.steps (order_of n (n * labels_at) new g.at)) ⊎ ((g.exit < exits) × LabelBy n (n * exits_at) new g.weight g.steps (order_of n (n * exits_at) new g.exit)) → Advance n exits old new f g

-- The least figures from the sink: weight k after the first span, which is the registers where every span has weight 1, and s steps; with labels that are complete for a route of them.
pub record Reaching (R : Rules) (n exits : ℕ) (words : List ℕ) (k s count : ℕ) : Type 0 where
  pub least : Least R 0 (R.weight 0 + k) s R.sink R.start.load R.start.delay
  pub before : ℕ
  pub labels : Labelled R 0 k before (labels_for n exits words)
  pub ordered : Ordered n (n * labels_at) words count
  pub exits_ordered : 0 < exits → Ordered n (n * exits_at) words exits

-- Nothing is left to do on side f: its labels are complete, and so are those of the FIFOs that lead here. On the sink's side there is no route.
pub record Ended (R : Rules) (n f exits : ℕ) (words : List ℕ) (count watched : ℕ) : Type 0 where
  pub none : f ≡ 0 → (w t : ℕ) → FromSink R w t → ⊥
  pub labels : (w t : ℕ) → Labelled R f w t (labels_for n exits words)
  pub ordered : Ordered n (n * labels_at) words count
  pub covers : (g : ℕ) → f ≡ suc g → (w t : ℕ) → Covers (After R g fifo_code) w t (labels_of n (n * exits_at) words)
  pub exits_ordered : (g : ℕ) → f ≡ suc g → Ordered n (n * exits_at) words watched

-- how the search of a side ends: at the sink, or with nothing left to do
pub data SearchDone (R : Rules) (n side exits : ℕ) (new : List ℕ) : Reached → Type 0 where
  sink : (k s count : ℕ) → side ≡ 0 → Reaching R n exits new k s count → SearchDone R n side exits new (Reached.Sink k s count)
  nothing : (count watched : ℕ) → Ended R n side exits new count watched → SearchDone R n side exits new (Reached.Nothing count watched)

-- a turn goes on, or it ends the search
pub data TurnDone (R : Rules) (n side exits : ℕ) (old : List ℕ) (f : Progress) (new : List ℕ) : ControlFlow Reached Progress → Type 0 where
  on : (g : Progress) → WaitingOf R n side exits new g → Advance n exits old new f g → TurnDone R n side exits old f new (Continue g)
  ends : (r : Reached) → SearchDone R n side exits new r → TurnDone R n side exits old f new (Break r)

-- The words past the lists and flags stay; but on a side after a FIFO the FIFOs' labels are written.
pub record Beyond (n side : ℕ) (old new : List ℕ) : Type 0 where
  pub trail : Kept (n * trail_at) (n * exits_at) old new
  pub exits : side ≡ 0 → Kept (n * exits_at) (n * aside_at) old new
  pub rest : KeptFrom (n * aside_at) old new

pub record TurnEffect (R : Rules) (n side exits : ℕ) (old : List ℕ) (f : Progress) (new : List ℕ) (t : ControlFlow Reached Progress) : Type 0 where
  pub same : length new ≡ length old
  pub beyond : Beyond n side old new
  pub done : TurnDone R n side exits old f new t
