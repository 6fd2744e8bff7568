-- The buffers looked at one by one: what the loop of the check keeps, and the first buffer out of range.
use Rattle.std.proofs.Common.{◌≡◌, ℕ, zero, suc, ◌+◌, ◌-◌, ◌<◌, ◌≤◌, Bool, true, false, List, ltb, length, get_or, set, get_or-set_same, get_or-set_other, Some, None, refl, sym, ◌∙◌, arith}
use lib.ListN.{length-set}
use lib.Seq.{ext_get_or}
use borrow.Author.Count.{below_more}
use borrow.Author.Tests.{ltb-true, ltb-false}
use Rattle.timing.specs.Ranges.{buffers_max}
use Rattle.timing.specs.Elements.{buffer_of}
use Rattle.timing.specs.declared.elements.Buffer.{Buffer}
use Rattle.answers.specs.declared.records.BufferList.{BufferList}
use Rattle.answers.specs.declared.refusal.Fault.{Fault}
use Rattle.answers.specs.Lists.{no_buffer}
use Rattle.answers.specs.Tables.{buffer_ok, buffer_fault, buffers_fault, buffer_from, listed_buffer, six_places}

-- six places, read one by one
pub six-at : (f : ℕ → Buffer) (i : ℕ) → i < buffers_max → get_or (six_places f) i (buffer_of 0 0 0) ≡ f i
unfolding six_places
six-at f zero h = refl
six-at f (suc zero) h = refl
six-at f (suc (suc zero)) h = refl
six-at f (suc (suc (suc zero))) h = refl
six-at f (suc (suc (suc (suc zero)))) h = refl
six-at f (suc (suc (suc (suc (suc zero))))) h = refl
six-at f (suc (suc (suc (suc (suc (suc i)))))) h = absurd (omega arith)

pub six-length : (f : ℕ → Buffer) → length (six_places f) ≡ buffers_max
unfolding six_places
six-length f = refl

-- the places below i hold the buffers of the list, none of them out of range; the others hold zeros
pub record Scanned (list : BufferList) (i : ℕ) (buffers : List Buffer) : Type 0 where
  pub six : length buffers ≡ buffers_max
  pub rest : buffers_fault list ≡ buffer_fault list.items i (list.n - i)
  pub done : (k : ℕ) → k < i → get_or buffers k (buffer_of 0 0 0) ≡ buffer_from (get_or list.items k no_buffer)
  pub free : (k : ℕ) → i ≤ k → k < buffers_max → get_or buffers k (buffer_of 0 0 0) ≡ buffer_of 0 0 0

pub scanned-none : (list : BufferList) → Scanned list 0 (six_places (λ i. buffer_of 0 0 0))
unfolding buffers_fault
scanned-none list =
    record {
      six = six-length (λ i. buffer_of 0 0 0);
      rest = let e : list.n - 0 ≡ list.n = omega arith in rw e;
      done = λ k h. absurd (omega arith);
      free = λ k h g. six-at (λ i. buffer_of 0 0 0) k g;
    }

-- one place more to look at
one_more : (n i : ℕ) → i < n → n - i ≡ suc (n - (i + 1))
one_more n i h = omega arith

pub scanned-more : (list : BufferList) (i : ℕ) (buffers : List Buffer) → Scanned list i buffers → i < list.n → list.n ≤ buffers_max → buffer_ok (get_or list.items i no_buffer) ≡ true → Scanned list (i + 1) (set buffers i (buffer_from (get_or list.items i no_buffer)))
unfolding buffer_fault
scanned-more list i buffers s h m ok =
    record {
      six = simp length-set s.six;
      rest = s.rest ∙ simp (one_more list.n i h, ok);
      done =
          below_more _ _ (λ k g. get_or-set_other buffers i k _ _ (omega arith) ∙ s.done k g)
          (get_or-set_same buffers i _ (buffer_of 0 0 0) (omega (arith, s.six)));
      free = λ k g u. get_or-set_other buffers i k _ _ (omega arith) ∙ s.free k (omega arith) u;
    }

-- a buffer out of range at i is the first
pub scanned-bad : (list : BufferList) (i : ℕ) (buffers : List Buffer) → Scanned list i buffers → i < list.n → buffer_ok (get_or list.items i no_buffer) ≡ false → buffers_fault list ≡ Some (Fault.Buffer (i + 1))
unfolding buffer_fault
scanned-bad list i buffers s h bad = s.rest ∙ simp (one_more list.n i h, bad)

-- all looked at: no fault, and the six places
pub scanned-clean : (list : BufferList) (i : ℕ) (buffers : List Buffer) → Scanned list i buffers → list.n ≤ i → buffers_fault list ≡ None
unfolding buffer_fault
scanned-clean list i buffers s h = let e : list.n - i ≡ 0 = omega arith in s.rest ∙ simp e

pub scanned-all : (list : BufferList) (i : ℕ) (buffers : List Buffer) → Scanned list i buffers → list.n ≡ i → buffers ≡ six_places (listed_buffer list)
unfolding listed_buffer
scanned-all list i buffers s e =
    ext_get_or (buffer_of 0 0 0) buffers (six_places (listed_buffer list)) (s.six ∙ sym (six-length (listed_buffer list))) (λ k h.
    let g : k < buffers_max = omega (arith, s.six) in
    at k g ∙ sym (six-at (listed_buffer list) k g))
  where
    at : (k : ℕ) → k < buffers_max → get_or buffers k (buffer_of 0 0 0) ≡ listed_buffer list k
    at k g = go (ltb k i) refl where
      go : (b : Bool) → ltb k i ≡ b → get_or buffers k (buffer_of 0 0 0) ≡ listed_buffer list k
      go true q = s.done k (ltb-true _ _ q) ∙ simp (e, q)
      go false q = s.free k (ltb-false _ _ q) g ∙ simp (e, q)
