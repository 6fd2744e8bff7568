-- What the code of the verdict keeps of a place, and what it does at a visit's gate.
use Rattle.std.specs.Prelude.{ℕ, ◌≤◌, min, Bool, true, false, ◌||◌, ◌⊎◌, ◌≡◌, leb, ℤ, Result, Ok, Err}
use Rattle.plan.specs.Plan.{Plan}
use Rattle.timing.specs.declared.elements.Elements.{Elements}
use Rattle.timing.specs.Formulas.{register_load}
use Rattle.timing.specs.Valid.{Valid}
use Rattle.answers.specs.declared.verdicts.VisitFault.TheVariants.{Load, Period}
use Rattle.rules.specs.Rules.{Stage, Rules, rules_of, register_code}
use Rattle.rules.specs.Legal.{Visit, arrive, load_right, period_right}
use Rattle.rules.specs.Beginning.{Place, next_place}
use Rattle.rules.specs.Slack.{slack_at, slack_after}
use Rattle.verdict.specs.Verdict.{VisitCheck, right, wrong, or_wrong}
pub use Rattle.verdict.specs.Cap.{delay_cap}
use Rattle.verdict.specs.declared.gates.point.Point.{Point}
use Rattle.answers.specs.declared.verdicts.VisitFault.{VisitFault}

-- a point has a stage's load, and its delay up to the cap
pub record Carries (b : Point) (s : Stage) : Type 0 where
  pub load : b.load.0 ≡ s.load
  pub delay : b.delay.0 ≡ min s.delay delay_cap

-- a point is where a place is; with one clock no FIFO has been passed
pub record At (b : Point) (a : Place) : Type 0 where
  pub cell : b.cell ≡ a.cell
  pub fifos : a.fifos ≡ 0
  pub carries : Carries b a.stage

-- a step on to a place: after a right visit the point stands there, and its figure is the smallest so far
pub record StepOn (limit : ℕ) (last : Bool) (check : VisitCheck) (to : Place) (least : ℤ) (b : Point) : Type 0 where
  pub is_right : check ≡ right
  pub here : At b to
  pub slack : b.slack ≡ least
  pub light : last ≡ false → b.load.0 ≤ limit

-- a fault is that of the check
abbrev pub StepIs : ℕ → Bool → VisitCheck → Place → ℤ → Result Point VisitFault → Type 0
StepIs limit last check to least (Ok b) = StepOn limit last check to least b
StepIs limit last check to least (Err f) = check ≡ wrong f

-- the last two tests of a visit
unfoldable pub gate_check : Rules → Place → Bool → Visit → VisitCheck
gate_check R a last v =
    or_wrong (load_right R last (arrive R a.cell a.stage v.cell) v) Load
    (or_wrong (period_right R a.span a.fifos (arrive R a.cell a.stage v.cell) v) (Period (slack_at R a v)) right)

-- The gate with this code at the point `at`, which has come over the wire from a place before any FIFO, under document 01's rules for any plan and ends.
abbrev pub GateIs : Elements → Point → Bool → ℕ → Result Point VisitFault → Type 0
GateIs e at last code r =
    (P : Plan) (from to : ℕ) (a : Place) → a.fifos ≡ 0 → Carries at (arrive (rules_of P e from to) a.cell a.stage at.cell) → StepIs e.limit.0 last (gate_check (rules_of P e from to) a last (record { cell = at.cell; code = code })) (next_place (rules_of P e from to) a (record { cell = at.cell; code = code })) (slack_after (rules_of P e from to) a at.slack (record { cell = at.cell; code = code })) r

-- The same for a register or the source, where its own load is within the limit or need not be.
abbrev pub ClosedIs : Elements → Point → Result Point VisitFault → Type 0
ClosedIs e at r =
    (last : Bool) → (last || leb (register_load e.register) e.limit.0) ≡ true → GateIs e at last register_code r

-- a point whose load is within the limit
pub record CloseAsks (e : Elements) (at : Point) : Type 0 where
  pub valid : Valid e
  pub light : at.load.0 ≤ e.limit.0

-- a code that is right at the visit: the last has 7, one in between no gate, a listed buffer or 7
pub record GateAsks (e : Elements) (at : Point) (last : Bool) (code : ℕ) : Type 0 where
  pub valid : Valid e
  pub codes : (code ≡ register_code) ⊎ ((last ≡ false) × (code ≤ e.count))
