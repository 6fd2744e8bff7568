-- At each load the two costs are compared, and `all` tells whether one is less.
use Rattle.std.specs.Prelude.{MatchBool}
use Rattle.std.specs.List.{range_with_len, AllWithin, HoldsAt}
use Rattle.std.proofs.Common.{◌≡◌, ℕ, ◌+◌, ◌-◌, ◌≤◌, ◌<◌, Bool, true, false, List, length, get_or, refl, rules, arith}
use Rattle.std.proofs.lemmas.Iterator.{cases_from_all, YieldsList-from_range}
use Rattle.std.proofs.lemmas.List.FromFn.{length-range_with_len, get_or-range_with_len}
use borrow.Author.Tests.{tests}
use Rattle.costs.specs.Costs.{row_words}
use Rattle.search.specs.Idle.{NoLess}
use Rattle.search.proofs.idle.no_less.Goals as goal

module _ (costs : List ℕ) (a b from : ℕ) where
  -- the row at `a` costs no less at this load, or less
  abbrev Not : ℕ → Type 0
  Not l = get_or costs (b + l) 0 ≤ get_or costs (a + l) 0

  abbrev Less : ℕ → Type 0
  Less l = get_or costs (a + l) 0 < get_or costs (b + l) 0

  abbrev loads : List ℕ
  loads = range_with_len from (row_words - from)

  load-at : (k : ℕ) → k < row_words - from → get_or loads k 0 ≡ from + k
  load-at k h = get_or-range_with_len from (row_words - from) k 0 h

  told : (r : Bool) → MatchBool r (AllWithin Not loads 0 (length loads)) ((k : ℕ) × (k < length loads) × HoldsAt Less loads k) → NoLess costs a b from r
  told true h =
      record {
        yes = λ e l lo hi.
            let k : l - from < row_words - from = omega arith in
            let is : from + (l - from) ≡ l = omega arith in
            rw (load-at (l - from) k, is) at (h (l - from) 0 (omega arith) (omega (arith, length-range_with_len from (row_words - from))));
        no = λ e. absurd (let z : ◌≡◌ {A = ℕ} 0 1 = cc in omega arith);
      }
  told false h =
      record {
        yes = λ e. absurd (let z : ◌≡◌ {A = ℕ} 0 1 = cc in omega arith);
        no = λ e.
            let k : h.0 < row_words - from = omega (arith, h.1, length-range_with_len from (row_words - from)) in
            record { load = from + h.0; above = omega arith; within = omega arith; less = rw (load-at h.0 k) at (h.2 0) };
      }

pub returns : goal.returns
returns c =
    let a = c.args in
    told a.costs.now a.a a.b a.from c.all.result
    (cases_from_all _ _ c.all.result (Not a.costs.now a.a a.b a.from) (Less a.costs.now a.a a.b a.from) c.all.ensures.ran (YieldsList-from_range a.from row_words (row_words - a.from) refl refl) (λ x q k. search (rules, tests)) (λ x q k. search (rules, tests)))
