-- A stretch of words that are filled with one number, and rows that are cut to a delay.
use Rattle.std.proofs.Common.{ℕ, ◌+◌, ◌-◌, ◌≤◌, ◌<◌, ◌≡◌, List, length, get_or, set, take, drop, replicate, length-drop, length-take-le, refl, ap, ◌∙◌, ◌++◌, rules, arith}
use Rattle.std.proofs.lemmas.List.{get_or_append_left, get_or-append_right, get_or-replicate, length-replicate, places}
use Rattle.std.proofs.lemmas.Grind.{common_steps}
use borrow.Rule.Slice.PartMut.{put_mid}
use Rattle.rows.specs.Words.{Filled}
use Rattle.rows.proofs.Words.{filled_none, filled_more, filled_at}
use Rattle.delays.specs.Delays.{Cut}

-- the words from `at` up to `i` are x
abbrev pub Stretch : ℕ → ℕ → ℕ → List ℕ → List ℕ → Type 0
Stretch x at i old new = (at ≤ i) × Filled (λ k. x) at (i - at) old new

pub stretch-none : (x at : ℕ) (words : List ℕ) → Stretch x at at words words
stretch-none x at words =
    let e : at - at ≡ 0 = omega arith in
    (omega arith, rw e (filled_none (λ k. x) at words))

pub stretch-more : {x at i : ℕ} {old new : List ℕ} → Stretch x at i old new → i < length old → Stretch x at (i + 1) old (set new i x)
stretch-more {x} {at} {i} s h =
    let here : at + (i - at) ≡ i = omega arith in
    let more : i + 1 - at ≡ i - at + 1 = omega arith in
    (omega arith, rw more (rw here at (filled_more s.1 x (omega arith) refl)))

-- a part of the words that is filled at once
pub filled-part : (x at end : ℕ) (old new : List ℕ) → new ≡ replicate (length (take (end - at) (drop at old))) x → at ≤ end → end ≤ length old → Filled (λ k. x) at (end - at) old (put_mid at (end - at) old new)
filled-part x at end old new e h k =
    let size : length (take (end - at) (drop at old)) ≡ end - at = length-take-le (end - at) (drop at old) (omega (arith, length-drop at old)) in
    let zeros : new ≡ replicate (end - at) x = rw size at e in
    let many : length new ≡ end - at = ap length zeros ∙ length-replicate (end - at) x in
    record {
      same = grind (arith, common_steps);
      done = λ i h.
          let here : get_or (new ++ drop (end - at) (drop at old)) (at + i - at) 0 ≡ get_or new i 0 =
          let back : at + i - at ≡ i = omega arith in rw back (get_or_append_left new _ 0 i (omega arith)) in
          get_or-append_right (take at old) _ at (at + i) 0 (length-take-le at old (omega arith)) (omega arith)
          ∙ (here ∙ (ap (λ (l : List ℕ). get_or l i 0) zeros ∙ get_or-replicate (end - at) i x 0 h));
      low = λ i h. search (rules, places);
      high = λ i h. search (rules, places);
    }

pub cut_at : {at delay stop : ℕ} {old new : List ℕ} → Stretch delay at stop old new → (end : ℕ) → stop ≤ end → ((k : ℕ) → at ≤ k → k < stop → delay < get_or old k 0) → (stop < end → get_or old stop 0 ≤ delay) → Cut at end delay old new
cut_at {stop = stop} s end h later last =
    record {
      same = s.1.same;
      stop = stop;
      from = s.0;
      within = h;
      cut = λ k a b. (later k a b, filled_at s.1 k a (omega arith));
      low = s.1.low;
      high = λ k a. s.1.high k (omega arith);
      last = last;
    }
