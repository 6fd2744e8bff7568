-- Both numbers are below 2 ^ 31, so their difference is exact; a miss above the largest that is told is cut off.
use Prim.Native.Nat.{ℕ, suc, ◌+◌, ◌-◌, ◌*◌, ◌<◌, ◌^◌, min}
use mathlib.Core.Path.{◌≡◌, sym, ◌∙◌}
use native.Mathlib.Omega.{arith}
use borrow.Author.Tests.{lt-ltb}
use lib.IntN.{negsuc, sub_ℕ}
use mir.Syntax.{w32}
use mir.ValLaws.{to_z-of_z}
use Rattle.timing.specs.Slack.{miss_most, slack_of}
use Rattle.timing.proofs.Signed.{read-natural, difference-is, difference-fits}
use Rattle.timing.proofs.units.HalfTicks.slack.Goals as goal
use Rattle.timing.proofs.units.HalfTicks.slack.Goals.{Else-allowed-self, Start}

allowed-low : (c : Start) → 2 * c.args.period < 2 ^ 31
allowed-low c = omega arith

used_low : (c : Else-allowed-self) → c.args.self.0 < 2 ^ 31
used_low c = omega (arith, c.if-allowed-self.false)

pub returns-then-allowed-self : goal.returns-then-allowed-self
unfolding slack_of
returns-then-allowed-self c =
    let a = c.args in
    let e : min a.self.0 (2 * a.period + miss_most) ≡ 2 * a.period + miss_most = omega (arith, c.if-allowed-self.true) in
    rw e (sym (difference-is (2 * a.period) (2 * a.period + miss_most) ∙ miss (2 * a.period)))
  where
    miss : (n : ℕ) → sub_ℕ n (n + miss_most) ≡ negsuc 999999999
    miss n = let e : n + miss_most - suc n ≡ 999999999 = omega arith in simp (lt-ltb n (n + miss_most) (omega arith), e)

pub overflow_sub-result : goal.overflow_sub-result
overflow_sub-result c =
    rw (read-natural _ (allowed-low (goal.at.overflow_sub-result c).Start), read-natural _ (used_low (goal.at.overflow_sub-result c).Else-allowed-self)) (difference-fits _ _ (allowed-low (goal.at.overflow_sub-result c).Start) (used_low (goal.at.overflow_sub-result c).Else-allowed-self))

pub returns : goal.returns
unfolding slack_of
returns c =
    let a = c.args in
    let e : min a.self.0 (2 * a.period + miss_most) ≡ a.self.0 = omega (arith, c.if-allowed-self.false) in
    rw (read-natural _ (allowed-low (goal.at.returns c).Start), read-natural _ (used_low (goal.at.returns c).Else-allowed-self), e) (to_z-of_z w32 _ (difference-fits _ _ (allowed-low (goal.at.returns c).Start) (used_low (goal.at.returns c).Else-allowed-self)))
