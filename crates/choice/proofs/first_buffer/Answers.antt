-- The closure tells of each buffer whether it drives, and `find` takes the first that does.
use Rattle.std.proofs.Common.{Option, Some, None, MatchOption, ◌≡◌, ℕ, ◌≤◌, ◌<◌, Bool, true, false, List, arith, rules, T_not}
use Rattle.std.proofs.lemmas.Iterator.{first_from_Range}
use Rattle.timing.specs.declared.elements.Elements.{Elements}
use Rattle.plan.proofs.Truth.{of-true, of-false}
use Rattle.choice.specs.declared.State.{State}
use Rattle.choice.specs.Codes.{drives, FirstBuffer}
use Rattle.choice.proofs.first_buffer.Goals as goal

first : (words : List ℕ) (e : Elements) (at : State) (r : Option ℕ) → MatchOption r ((k : ℕ) → 0 ≤ k → k < e.count → drives words e at k ≡ false) (λ i. (0 ≤ i) × (i < e.count) × (drives words e at i ≡ true) × ((k : ℕ) → 0 ≤ k → k < i → drives words e at k ≡ false)) → FirstBuffer words e at r
first words e at None h = λ k l t. T_not (drives words e at k) (of-false (drives words e at k) (h k (omega arith) l)) t
first words e at (Some i) h =
    record {
      within = h.1;
      found = of-true (drives words e at i) h.2;
      is_first = λ k l t. T_not (drives words e at k) (of-false (drives words e at k) (h.3 k (omega arith) l)) t;
    }

pub returns : goal.returns
returns c =
    first c.args.scratch.now c.args.elements c.args.at c.find.result
    (first_from_Range _ _ _ c.find.result (λ i. drives c.args.scratch.now c.args.elements c.args.at i ≡ true) (λ i. drives c.args.scratch.now c.args.elements c.args.at i ≡ false) c.find.ensures.ran (λ x q k. search rules) (λ x q k. search rules))
