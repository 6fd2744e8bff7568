-- Document 02, C-13: the reasons of R4 and R7, and beside them one example of each other answer and one with skew.
use Rattle.std.specs.Prelude.{ℕ, ◌≡◌, [], ◌∷◌}
use Rattle.plan.specs.Plan.{plan_of}
use Rattle.timing.specs.declared.elements.Elements.{Elements}
use Rattle.timing.specs.Elements.{wire_of, register_of}
use Rattle.answers.specs.declared.refusal.Refusal.{Refusal}
use Rattle.answers.specs.declared.explained.Reason.{Reason}
use Rattle.answers.specs.Numbers.{Explained}
use Rattle.cases.specs.Cases.{Case, no_route, tables, strip, tapped, case1, case4, case7, case11, case12, skewed3}
use Rattle.reasons.specs.Reasons.{explained_for}
use Rattle.std.specs.Prelude.{Ok, Err}

abbrev pub Gives : Case → Explained → Type 0
Gives c x = explained_for c.plan c.elements c.source c.sink ≡ x

-- R1's strip with the wire from cell 0 cut
unfoldable pub cut_case : Case
cut_case = strip (4 ∷ 2 ∷ 0 ∷ []) 26 63 [] no_route

-- the tables with the strip's register, but this setup
unfoldable pub with_setup : ℕ → Elements → Elements
with_setup setup e =
    record {
      period = e.period;
      skew = e.skew;
      limit = e.limit;
      horizontal = e.horizontal;
      vertical = e.vertical;
      register = register_of 1 2 1 setup;
      count = e.count;
      buffers = e.buffers;
    }

-- R1's strip with a setup as long as the longest period
unfoldable pub setup_case : Case
setup_case =
    record {
      plan = plan_of 3 1 tapped;
      elements = with_setup 30000 (tables 26 63 (wire_of 2 3) []);
      source = 0;
      sink = 2;
      expected = no_route;
    }

pub record WorkedReasons : Type 0 where
  -- "R4 gives period 12"
  pub fourth : Gives case4 (Ok (Reason.Period 12))
  -- "R7 gives load"
  pub seventh : Gives case7 (Ok Reason.Load)
  -- R1 has a route
  pub first : Gives case1 (Err Refusal.RouteExists)
  -- no register may stand at R11's cell 1, so it needs R1's period
  pub eleventh : Gives case11 (Ok (Reason.Period 26))
  -- nor at R12's (document 02, C-17)
  pub twelfth : Gives case12 (Ok (Reason.Period 26))
  -- R3 with skew 1 (document 02, C-16)
  pub third : Gives skewed3 (Ok (Reason.Period 13))
  pub cut : Gives cut_case (Ok Reason.WalledOff)
  pub setup : Gives setup_case (Ok Reason.TooShort)
