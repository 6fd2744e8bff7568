-- Refusal 4 exactly in its case: each answer of `tables_fault` is given where the tests before it pass and its own fails, and nothing is at fault exactly where the elements are valid.
use Rattle.std.proofs.Common.{◌≡◌, ℕ, zero, suc, ◌+◌, ◌<◌, ◌≤◌, Bool, true, false, ◌&&◌, cond, List, leb, ltb, get_or, Option, Some, None, refl, arith}
use mathlib.Core.Logic.{⊎_elim}
use native.Mathlib.Nat.{eq-or-lt_of_le}
use borrow.Author.Tests.{leb-true, le-leb, lt-ltb, ltb-true}
use Rattle.timing.specs.Ranges.{period_min, period_max, skew_max, load_max, buffers_max}
use Rattle.timing.specs.Elements.{BufferInRange, buffer_of, buffer_in_range}
use Rattle.timing.specs.Valid.{Valid}
use Rattle.timing.proofs.Checked.{wire-in, in-wire, buffer-in, in_buffer, register-in, in-register}
use Rattle.answers.specs.declared.records.BufferRecord.{BufferRecord}
use Rattle.answers.specs.declared.records.BufferList.{BufferList}
use Rattle.answers.specs.declared.records.Tables.{Tables}
use Rattle.answers.specs.declared.refusal.Fault.{Fault}
use Rattle.answers.specs.Lists.{no_buffer}
use Rattle.answers.specs.Tables.{require, period_in_range, wire_ok, register_ok, buffer_ok, buffer_fault, buffers_fault, elements_fault, tables_fault, wire_from, register_from, buffer_from, listed_buffer, elements_of, list_fault}
use Rattle.answers.proofs.Scan.{six-at, six-length}

-- the first buffer out of range among `left` from index i on
pub data FirstBuffer (items : List BufferRecord) (i left : ℕ) : Option Fault → Type 0 where
  clean : ((k : ℕ) → i ≤ k → k < i + left → buffer_ok (get_or items k no_buffer) ≡ true) → FirstBuffer items i left None
  bad : (k : ℕ) → i ≤ k → k < i + left → ((j : ℕ) → i ≤ j → j < k → buffer_ok (get_or items j no_buffer) ≡ true) → buffer_ok (get_or items k no_buffer) ≡ false → FirstBuffer items i left (Some (Fault.Buffer (k + 1)))

-- the tests that pass before each place of the order from the skew on
abbrev pub UpToSkew : Tables → Type 0
UpToSkew t = leb t.skew skew_max ≡ true

abbrev pub UpToLimit : Tables → Type 0
UpToLimit t = UpToSkew t × (leb t.limit load_max ≡ true)

abbrev pub UpToHorizontal : Tables → Type 0
UpToHorizontal t = UpToLimit t × (wire_ok t.horizontal ≡ true)

abbrev pub UpToVertical : Tables → Type 0
UpToVertical t = UpToHorizontal t × (wire_ok t.vertical ≡ true)

abbrev pub UpToRegister : Tables → Type 0
UpToRegister t = UpToVertical t × (register_ok t.register ≡ true)

abbrev pub UpToFifo : Bool → Tables → Type 0
UpToFifo fifoOk t = UpToRegister t × (fifoOk ≡ true)

abbrev pub UpToCount : Bool → Tables → BufferList → Type 0
UpToCount fifoOk t list = UpToFifo fifoOk t × (leb list.n buffers_max ≡ true)

-- the first fault from the skew on, by cases in their order
pub data FirstElement (fifoOk : Bool) (t : Tables) (list : BufferList) : Option Fault → Type 0 where
  skew : leb t.skew skew_max ≡ false → FirstElement fifoOk t list (Some Fault.Skew)
  limit : UpToSkew t → leb t.limit load_max ≡ false → FirstElement fifoOk t list (Some Fault.Limit)
  horizontal : UpToLimit t → wire_ok t.horizontal ≡ false → FirstElement fifoOk t list (Some Fault.Horizontal)
  vertical : UpToHorizontal t → wire_ok t.vertical ≡ false → FirstElement fifoOk t list (Some Fault.Vertical)
  register : UpToVertical t → register_ok t.register ≡ false → FirstElement fifoOk t list (Some Fault.Register)
  fifo : UpToRegister t → fifoOk ≡ false → FirstElement fifoOk t list (Some Fault.Fifo)
  count : UpToFifo fifoOk t → leb list.n buffers_max ≡ false → FirstElement fifoOk t list (Some Fault.Count)
  buffers : {f : Option Fault} → UpToCount fifoOk t list → FirstBuffer list.items 0 list.n f → FirstElement fifoOk t list f

-- the first fault with one clock: T, then the skew and what follows it
pub data FirstFault (t : Tables) (list : BufferList) : Option Fault → Type 0 where
  period : period_in_range t.period ≡ false → FirstFault t list (Some Fault.Period)
  elements : {f : Option Fault} → period_in_range t.period ≡ true → FirstElement true t list f → FirstFault t list f

from_next : (items : List BufferRecord) (i stop : ℕ) → buffer_ok (get_or items i no_buffer) ≡ true → ((k : ℕ) → i + 1 ≤ k → k < stop → buffer_ok (get_or items k no_buffer) ≡ true) → (k : ℕ) → i ≤ k → k < stop → buffer_ok (get_or items k no_buffer) ≡ true
from_next items i stop ok all k g h = ⊎_elim (λ (e : i ≡ k). rw (← e) ok) (λ (l : i < k). all k (omega arith) h) (eq-or-lt_of_le g)

-- Proof: by the number of buffers left. The first of them is at fault, or the first fault is that of the others.
pub first-buffer : (items : List BufferRecord) (i left : ℕ) → FirstBuffer items i left (buffer_fault items i left)
unfolding buffer_fault
first-buffer items i zero = clean (λ k g h. absurd (omega arith))
first-buffer items i (suc left) = go (buffer_ok (get_or items i no_buffer)) refl (first-buffer items (i + 1) left) where
  more : {f : Option Fault} → buffer_ok (get_or items i no_buffer) ≡ true → FirstBuffer items (i + 1) left f → FirstBuffer items i (suc left) f
  more ok (clean all) = clean (from_next items i (i + suc left) ok (λ k g h. all k g (omega arith)))
  more ok (bad k g h all out) = bad k (omega arith) (omega arith) (from_next items i k ok all) out

  go : (b : Bool) → buffer_ok (get_or items i no_buffer) ≡ b → FirstBuffer items (i + 1) left (buffer_fault items (i + 1) left) → FirstBuffer items i (suc left) (require b (Fault.Buffer (i + 1)) (buffer_fault items (i + 1) left))
  go true e v = more e v
  go false e v = bad i (omega arith) (omega arith) (λ j g h. absurd (omega arith)) e

pub buffer-is : (items : List BufferRecord) (i left : ℕ) {f : Option Fault} → FirstBuffer items i left f → buffer_fault items i left ≡ f
unfolding buffer_fault
buffer-is items i zero (clean all) = refl
buffer-is items i zero (bad k g h all out) = absurd (omega arith)
buffer-is items i (suc left) (clean all) =
    simp (all i (omega arith) (omega arith)) (buffer-is items (i + 1) left (clean (λ k g h. all k (omega arith) (omega arith))))
buffer-is items i (suc left) (bad k g h all out) =
    ⊎_elim (λ (e : i ≡ k). rw (e, out)) (λ (l : i < k). simp (all i (omega arith) l) (buffer-is items (i + 1) left (bad k (omega arith) (omega arith) (λ j u v. all j (omega arith) v) out))) (eq-or-lt_of_le g)

-- The fault from the skew on is the first one, and the only one.
pub first-element : (fifoOk : Bool) (t : Tables) (list : BufferList) → FirstElement fifoOk t list (elements_fault fifoOk t list)
unfolding list_fault buffers_fault
first-element fifoOk t list = go _ _ _ _ _ _ _ refl refl refl refl refl refl refl where
  go : (k l h v r x n : Bool) → leb t.skew skew_max ≡ k → leb t.limit load_max ≡ l → wire_ok t.horizontal ≡ h → wire_ok t.vertical ≡ v → register_ok t.register ≡ r → fifoOk ≡ x → leb list.n buffers_max ≡ n → FirstElement fifoOk t list (require k Fault.Skew (require l Fault.Limit (require h Fault.Horizontal (require v Fault.Vertical (require r Fault.Register (require x Fault.Fifo (require n Fault.Count (buffer_fault list.items 0 list.n))))))))
  go false l h v r x n k' l' h' v' r' x' n' = skew k'
  go true false h v r x n k' l' h' v' r' x' n' = limit k' l'
  go true true false v r x n k' l' h' v' r' x' n' = horizontal (k', l') h'
  go true true true false r x n k' l' h' v' r' x' n' = vertical ((k', l'), h') v'
  go true true true true false x n k' l' h' v' r' x' n' = register (((k', l'), h'), v') r'
  go true true true true true false n k' l' h' v' r' x' n' = fifo ((((k', l'), h'), v'), r') x'
  go true true true true true true false k' l' h' v' r' x' n' = count (((((k', l'), h'), v'), r'), x') n'
  go true true true true true true true k' l' h' v' r' x' n' = buffers ((((((k', l'), h'), v'), r'), x'), n') (first-buffer list.items 0 list.n)

pub element-is : (fifoOk : Bool) (t : Tables) (list : BufferList) {f : Option Fault} → FirstElement fifoOk t list f → elements_fault fifoOk t list ≡ f
unfolding list_fault buffers_fault
element-is fifoOk t list (skew k) = simp k
element-is fifoOk t list (limit k l) = simp (k, l)
element-is fifoOk t list (horizontal (k, l) h) = simp (k, l, h)
element-is fifoOk t list (vertical ((k, l), h) v) = simp (k, l, h, v)
element-is fifoOk t list (register (((k, l), h), v) r) = simp (k, l, h, v, r)
element-is fifoOk t list (fifo ((((k, l), h), v), r) x) = simp (k, l, h, v, r, x)
element-is fifoOk t list (count (((((k, l), h), v), r), x) n) = simp (k, l, h, v, r, x, n)
element-is fifoOk t list (buffers ((((((k, l), h), v), r), x), n) f) = simp (k, l, h, v, r, x, n) (buffer-is list.items 0 list.n f)

-- The answer is the first fault, and the only one.
pub first-fault : (t : Tables) (list : BufferList) → FirstFault t list (tables_fault t list)
unfolding tables_fault
first-fault t list = go (period_in_range t.period) refl where
  go : (p : Bool) → period_in_range t.period ≡ p → FirstFault t list (require p Fault.Period (elements_fault true t list))
  go false e = period e
  go true e = elements e (first-element true t list)

pub fault-is : (t : Tables) (list : BufferList) {f : Option Fault} → FirstFault t list f → tables_fault t list ≡ f
unfolding tables_fault
fault-is t list (period p) = simp p
fault-is t list (elements p e) = rw p (element-is true t list e)

both : (a b : Bool) → (a && b) ≡ true → (a ≡ true) × (b ≡ true)
both true b h = (refl, h)
both false b h = absurd cc

-- a buffer of zeros is in range
zero_in : BufferInRange (buffer_of 0 0 0)
unfolding buffer_in_range
zero_in = buffer-in 0 0 0 refl

buffer-at : (list : BufferList) (k : ℕ) → k < list.n → listed_buffer list k ≡ buffer_from (get_or list.items k no_buffer)
unfolding listed_buffer
buffer-at list k h = simp (lt-ltb _ _ h)

at_in : (list : BufferList) (k : ℕ) → (k < list.n → BufferInRange (buffer_from (get_or list.items k no_buffer))) → BufferInRange (listed_buffer list k)
unfolding listed_buffer
at_in list k h = go (ltb k list.n) refl where
  go : (b : Bool) → ltb k list.n ≡ b → BufferInRange (cond b (buffer_from (get_or list.items k no_buffer)) (buffer_of 0 0 0))
  go true e = h (ltb-true _ _ e)
  go false e = zero_in

-- nothing is at fault: every test passes
all_pass : (fifoOk : Bool) (t : Tables) (list : BufferList) → FirstElement fifoOk t list None → UpToCount fifoOk t list × ((k : ℕ) → k < list.n → buffer_ok (get_or list.items k no_buffer) ≡ true)
all_pass fifoOk t list (buffers pass (clean all)) = (pass, λ k h. all k (omega arith) (omega arith))

-- a test that is passed, and what follows it
pub require-passed : (ok : Bool) (f : Fault) (rest : Option Fault) → require ok f rest ≡ None → (ok ≡ true) × (rest ≡ None)
require-passed true f rest e = (refl, e)
require-passed false f rest e = absurd cc

pub period-in : (p : ℕ) → period_in_range p ≡ true → (period_min ≤ p) × (p ≤ period_max)
unfolding period_in_range
period-in p e = let h = both (leb period_min p) (leb p period_max) e in (leb-true _ _ h.0, leb-true _ _ h.1)

pub in-period : (p : ℕ) → period_min ≤ p → p ≤ period_max → period_in_range p ≡ true
unfolding period_in_range
in-period p l m = simp (le-leb _ _ l, le-leb _ _ m)

-- No fault from the skew on exactly where, with a period in range, the elements are valid and the FIFO is in range.
pub elements-valid : (fifoOk : Bool) (t : Tables) (list : BufferList) → period_in_range t.period ≡ true → elements_fault fifoOk t list ≡ None → Valid (elements_of t list) × (fifoOk ≡ true)
unfolding elements_of wire_ok register_ok buffer_ok wire_from register_from buffer_from
elements-valid fifoOk t list p e =
    let a = all_pass fifoOk t list (rw e at (first-element fifoOk t list)) in
    let m : list.n ≤ buffers_max = leb-true _ _ a.0.1 in (
      record {
        least = (period-in _ p).0;
        most = (period-in _ p).1;
        skew = leb-true _ _ a.0.0.0.0.0.0.0;
        limit = leb-true _ _ a.0.0.0.0.0.0.1;
        horizontal = wire-in _ _ a.0.0.0.0.0.1;
        vertical = wire-in _ _ a.0.0.0.0.1;
        register = register-in _ _ _ _ a.0.0.0.1;
        count = m;
        places = six-length (listed_buffer list);
        buffers = λ k h.
            rw (six-at (listed_buffer list) k h) (at_in list k (λ g. buffer-in _ _ _ (a.1 k g)));
      },
      a.0.0.1,
    )

pub valid-elements : (fifoOk : Bool) (t : Tables) (list : BufferList) → Valid (elements_of t list) → fifoOk ≡ true → elements_fault fifoOk t list ≡ None
unfolding elements_of wire_ok register_ok buffer_ok wire_from register_from buffer_from
valid-elements fifoOk t list v x =
    element-is fifoOk t list
    (buffers
    ((((((le-leb _ _ v.skew, le-leb _ _ v.limit), in-wire _ _ v.horizontal), in-wire _ _ v.vertical), in-register _ _ _ _ v.register), x), le-leb _ _ v.count)
    (clean (λ k g h.
    in_buffer _ _ _ (rw (buffer-at list k (omega arith)) at (rw (six-at (listed_buffer list) k (omega (arith, v.count))) at (v.buffers k (omega (arith, v.count))))))))

-- the elements' period is the tables'
pub valid-period : (t : Tables) (list : BufferList) → Valid (elements_of t list) → period_in_range t.period ≡ true
unfolding elements_of
valid-period t list v = in-period _ v.least v.most

-- No fault exactly where the elements are valid.
pub tables-valid : (t : Tables) (list : BufferList) → tables_fault t list ≡ None → Valid (elements_of t list)
unfolding tables_fault
tables-valid t list e =
    let p = require-passed (period_in_range t.period) Fault.Period (elements_fault true t list) e in
    (elements-valid true t list p.0 p.1).0

pub valid-tables : (t : Tables) (list : BufferList) → Valid (elements_of t list) → tables_fault t list ≡ None
valid-tables t list v = fault-is t list (elements (valid-period t list v) (rw (valid-elements true t list v refl) at (first-element true t list)))
