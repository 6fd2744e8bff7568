-- The worked reasons of document 02, C-13, out of the tests.
use Prim.Native.Nat.{ℕ, ◌+◌, ◌≤◌}
use mathlib.Core.Bool.{true, false}
use mathlib.Core.Path.{◌≡◌, refl}
use native.Mathlib.Omega.{arith}
use Rattle.timing.specs.Ranges.{period_min, period_max}
use Rattle.timing.specs.Relaxed.{at_period, with_skew}
use Rattle.timing.specs.Valid.{Valid}
use Rattle.answers.specs.declared.explained.Reason.{Reason}
use Rattle.answers.specs.Numbers.{Explained}
use Rattle.cases.specs.Cases.{Case, tables, strip, case3, case4, case11, case12, skewed_case, skewed3}
use Rattle.reasons.specs.Reasons.{routed_at, smallest_period}
use Rattle.reasons.proofs.Order.{timed-routed, light-routed}
use Rattle.reasons.proofs.Periods.{smallest-is, no-smallest}
use Rattle.reasons.proofs.Values.{explained-exists, explained-because, reason-walled, reason-load, reason-short, reason-period}
use Rattle.reason_cases.specs.Reasons.{Gives, setup_case, WorkedReasons}
use Rattle.reason_cases.proofs.Tests.{has, has_at, has_relaxed, tests}
use Rattle.cases.proofs.Tables.{valid12}
use Rattle.reason_cases.proofs.Tables.{valid4, valid11, valid-skewed3, valid-setup}
use Rattle.std.specs.Prelude.{Ok, Err}

module _ (c : Case) (valid : Valid c.elements) (none : has c ≡ false) where
  own : has_at c c.elements.period ≡ false
  unfolding routed_at at_period
  own = none

  -- none at some period, one at the next: that is the smallest
  first-period : (u t : ℕ) → c.elements.period ≤ u → t ≡ u + 1 → t ≤ period_max → has_at c u ≡ false → has_at c t ≡ true → Gives c (Ok (Reason.Period t))
  first-period u t later next most unrouted is = explained-because _ _ _ _ none (reason-period _ _ _ _ chain light t smallest most)
    where
      low : period_min ≤ u
      low = omega (arith, valid.least)

      light : has_relaxed c true ≡ true
      light = timed-routed _ _ _ _ valid t (omega arith) most is

      chain : has_relaxed c false ≡ true
      chain = light-routed _ _ _ _ valid light

      smallest : t ≡ smallest_period c.plan c.elements c.source c.sink
      smallest = smallest-is _ _ _ _ valid u t low next most unrouted is

  next-period : (t : ℕ) → t ≡ c.elements.period + 1 → t ≤ period_max → has_at c t ≡ true → Gives c (Ok (Reason.Period t))
  next-period t next most is = first-period c.elements.period t (omega arith) next most own is

  too_short : has_relaxed c true ≡ true → has_at c period_max ≡ false → Gives c (Ok Reason.TooShort)
  too_short light longest =
      explained-because _ _ _ _ none (reason-short _ _ _ _ (light-routed _ _ _ _ valid light) light (no-smallest _ _ _ _ valid longest))

-- R4 gives period 12; R7 gives load.
pub worked-reasons : WorkedReasons
unfolding tables strip case3 case4 case11 case12 with_skew skewed_case skewed3
worked-reasons =
    record {
      fourth = next-period case4 valid4 tests.own4 _ refl (omega arith) tests.next4;
      seventh = explained-because _ _ _ _ tests.own7 (reason-load _ _ _ _ tests.chain7 tests.heavy7);
      first = explained-exists _ _ _ _ tests.own1;
      eleventh = next-period case11 valid11 tests.own11 _ refl (omega arith) tests.next11;
      twelfth = first-period case12 valid12 tests.own12 25 26 (omega arith) refl (omega arith) tests.late12 tests.next12;
      third = next-period skewed3 valid-skewed3 tests.own-skewed _ refl (omega arith) tests.next-skewed;
      cut = explained-because _ _ _ _ tests.own-cut (reason-walled _ _ _ _ tests.wall-cut);
      setup = too_short setup_case valid-setup tests.own-setup tests.light-setup tests.longest-setup;
    }
