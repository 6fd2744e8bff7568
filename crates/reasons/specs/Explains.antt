-- What each answer means, in the words of document 02, C-13, with no search. That the call gives just this, and nothing else is true: proofs/Explained.antt.
use Rattle.std.specs.Prelude.{ℕ, ◌≤◌, ◌<◌, T}
use Rattle.plan.specs.Plan.{plan_of}
use Rattle.timing.specs.Ranges.{period_max}
use Rattle.timing.specs.Relaxed.{at_period}
use Rattle.rules.specs.Rules.{Rules, rules_of}
use Rattle.rules.specs.Legal.{Route, legal}
use Rattle.rules.specs.Relaxed.{fits, Chain}
use Rattle.answers.specs.Tables.{elements_of}
use Rattle.answers.specs.declared.refusal.Refusal.{Refusal}
use Rattle.answers.specs.declared.explained.Reason.{Reason}
use Rattle.answers.specs.Numbers.{Explained}
use Rattle.question.specs.Question.{Question, rules_asked}
use Rattle.std.specs.Prelude.{Ok, Err}

abbrev pub NoRoute : Rules → Type 0
NoRoute R = (r : Route) → T (legal R r) → ⊥

-- the question's rules with another period
unfoldable pub rules_at : Question → ℕ → Rules
rules_at q t =
    rules_of (plan_of q.width q.height q.marks) (at_period t (elements_of q.tables q.buffers)) q.source q.sink

-- of a question that the checks pass
pub data Explains (q : Question) : Explained → Type 0 where
  -- 19: "when a route exists"
  has_route : (r : Route) → T (legal (rules_asked q) r) → Explains q (Err Refusal.RouteExists)
  -- "no chain of uncut wires joins the ends"
  walled_off : NoRoute (rules_asked q) → (Chain (rules_asked q) → ⊥) → Explains q (Ok Reason.WalledOff)
  -- "a chain exists, but with the period test left out no legal route does"
  load : NoRoute (rules_asked q) → Chain (rules_asked q) → ((r : Route) → T (fits (rules_asked q) r) → ⊥) → Explains q (Ok Reason.Load)
  -- "otherwise, with the smallest period up to 30,000 at which a route exists"; it is above the question's own
  period : (t : ℕ) → NoRoute (rules_asked q) → (r : Route) → T (fits (rules_asked q) r) → q.tables.period < t → t ≤ period_max → T (legal (rules_at q t) r) → ((u : ℕ) → u < t → NoRoute (rules_at q u)) → Explains q (Ok (Reason.Period t))
  -- "or the statement that even 30,000 is too short"
  too_short : (r : Route) → T (fits (rules_asked q) r) → ((u : ℕ) → u ≤ period_max → NoRoute (rules_at q u)) → Explains q (Ok Reason.TooShort)
