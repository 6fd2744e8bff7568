-- The call's effect once its checks are known.
use Rattle.std.proofs.Common.{◌≡◌, ℕ, ◌*◌, ◌≤◌, ◌<◌, List, length, Ok, refl, sym, ◌∙◌, subst, arith}
use borrow.Author.Tests.{le-ltb, lt-ltb}
use Rattle.timing.specs.Elements.{RegisterInRange}
use Rattle.timing.specs.Valid.{Valid}
use Rattle.rules.specs.Rules.{fifo_code}
use Rattle.rules.proofs.Clocks.{gate-fifo}
use Rattle.costs.specs.Costs.{CostsOf}
use Rattle.answers.specs.Tables.{elements_of}
use Rattle.answers.specs.Crossing.{clocks_of}
use Rattle.answers.specs.declared.refusal.Refusal.{Refusal}
use Rattle.answers.specs.Numbers.{CrossingAnswer}
use Rattle.problem.specs.declared.net.Net.{Net}
use Rattle.problem.specs.Problem.{plan_for}
use Rattle.problem.specs.Net.{fifo_of, net_rules, NetReady}
use Rattle.question.specs.Checked.{problem_asked}
use Rattle.question.specs.Crossing.{net_asked, crossing_checked}
use Rattle.question.proofs.Crossing.{crossing-first-five, crossing-five-fail, crossing-ready, crossing-clocks, crossing-cells, crossing-told-passes}
use Rattle.crossing_router.specs.Route.{CrossingQuestion, rules_crossed, crossing_words, Check, passes, fails, crossing_checks, checks, answer_after, crossing_answer_of, scratch_after, crossing_scratch_of, visits_after, crossing_visits_of, Crossed}
use Rattle.crossing_router.specs.Sides.{TwoAsks, CrossingDone}
use Rattle.answers.specs.declared.answer.RouteAnswer.{RouteAnswer}

-- the net asked about is ready, whatever follows the first five checks
pub net-ready : (c : CrossingQuestion) (rest : Check) → crossing_checks c rest ≡ passes → NetReady (net_asked c) c.question.marks
net-ready c rest e = record { ready = crossing-ready c rest e; clocks = crossing-clocks c rest e }

module _ (c : CrossingQuestion) (scratch visits : List ℕ) where
  -- a refusal leaves everything as it is
  pub refused : (r : Refusal) → checks c (length scratch) ≡ fails r → Crossed c scratch scratch visits visits (RouteAnswer.Refused r)
  unfolding crossing_answer_of crossing_scratch_of crossing_visits_of answer_after scratch_after visits_after
  refused r e = record { answer = rw e; scratch_left = rw e; visits_left = rw e }

  pub refused-five : (r : Refusal) → crossing_checks c passes ≡ fails r → checks c (length scratch) ≡ fails r
  unfolding checks
  refused-five r e = crossing-five-fail c r _ e

  module _ (five : crossing_checks c passes ≡ passes) where
    pub refused-scratch : length scratch < length c.question.marks * crossing_words → checks c (length scratch) ≡ fails Refusal.Scratch
    unfolding checks
    refused-scratch h =
        crossing-first-five c _ five ∙ rw (lt-ltb (length scratch) _ (rw (crossing-cells c passes five) at h))

    module _ (room : length c.question.marks * crossing_words ≤ length scratch) where
      pub all-passed : checks c (length scratch) ≡ passes
      unfolding checks
      all-passed =
          crossing-first-five c _ five ∙ rw (le-ltb (length scratch) _ (rw (crossing-cells c passes five) at room))

      -- the checks have passed, and the net is routed
      pub routed : (scratch' visits' : List ℕ) (r : CrossingAnswer) → CrossingDone (net_asked c) c.question.marks scratch scratch' visits visits' r → Crossed c scratch scratch' visits visits' r
      unfolding crossing_answer_of crossing_scratch_of crossing_visits_of answer_after scratch_after visits_after net_rules plan_for rules_crossed elements_of problem_asked clocks_of
      routed scratch' visits' r d =
          record { answer = rw (all-passed, answer_after) d.answer; scratch_left = rw (all-passed, scratch_after) (rw (crossing-cells c passes five) at d.zero-words); visits_left = rw (all-passed, visits_after) d.filled }

-- what the checks have handed on: that net
module _ (c : CrossingQuestion) {net : Net} (handed : crossing_checked c ≡ Ok net) where
  -- the checks pass
  pub handed-five : crossing_checks c passes ≡ passes
  handed-five = (crossing-told-passes c handed).0

  net-is : net ≡ net_asked c
  net-is = (crossing-told-passes c handed).1

  pub handed-valid : Valid net.problem.elements × RegisterInRange net.clocks.fifo
  handed-valid =
      rw net-is ((crossing-ready c passes handed-five).valid, (crossing-clocks c passes handed-five).fifo)

  pub two-asks : (costs words : List ℕ) → length c.question.marks * crossing_words ≤ length words → CostsOf net.problem.elements net.clocks.fifo costs → TwoAsks net c.question.marks costs words
  unfolding clocks_of fifo_of
  two-asks costs words room h =
      subst (λ (n : Net). TwoAsks n c.question.marks costs words) (sym net-is)
      (record {
        ready = net-ready c passes handed-five;
        two = refl;
        room = room;
        costed = rw (gate-fifo (problem_asked c.question).elements (clocks_of c.crossing) fifo_code (omega arith) refl) (rw net-is at h);
      })

  pub handed-routed : (scratch visits : List ℕ) → length c.question.marks * crossing_words ≤ length scratch → (scratch' visits' : List ℕ) (r : CrossingAnswer) → CrossingDone net c.question.marks scratch scratch' visits visits' r → Crossed c scratch scratch' visits visits' r
  handed-routed scratch visits room scratch' visits' r d =
      routed c scratch visits handed-five room scratch' visits' r (subst (λ (n : Net). CrossingDone n c.question.marks scratch scratch' visits visits' r) net-is d)
