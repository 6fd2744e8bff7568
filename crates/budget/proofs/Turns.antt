-- The turns of the search of one side: the start; a layer; the next label; nothing more.
use Prim.Native.Nat.{ℕ, suc, ◌+◌, ◌≤◌, ◌<◌}
use mathlib.Core.Path.{◌≡◌, refl}
use mathlib.Core.Logic.{◌⊎◌, inl, inr}
use native.Mathlib.Omega.{arith}
use lib.Dec.{T}
use Rattle.rules.specs.Rules.{Rules, register_code, fifo_code, side_after}
use Rattle.rules.proofs.View.{ending-view, side_same}
use Rattle.budget.specs.Table.{Table}
use Rattle.budget.specs.Done.{stage, NotAfter, Done, Open, Least, After, Labels, Covers, Labelled, Lawful}
use Rattle.budget.specs.Search.{Searching, Next, Relabelled, IdleUntil, AllSeeds, renewed}
use Rattle.budget.proofs.Done.{none_before, none-without-steps, done_more, after_more}
use Rattle.budget.proofs.Search.{not-before, covers-next, covers-later, next-table, settled}

module _ (R : Rules) (law : Lawful R) (f : ℕ) where
  -- the registers that are done at (k, s) are those whose fresh state is in the table
  after_open : (k s k' s' : ℕ) → ((c l d : ℕ) → Open R f k' s' c l d → Open R f k s c l d) → (n : ℕ) → After R f register_code (R.weight f + k') s' n → After R f register_code (R.weight f + k) s n
  after_open k s k' s' g n (After.at_source a b c) = After.at_source a b c
  after_open k s k' s' g n (After.at_gate shut may x) =
      let e : side_after f register_code ≡ f = side_same f register_code (λ z. omega arith) in
      After.at_gate shut may (rw e (g n _ _ (rw e at x)))

  -- at (0, 0) nothing is done: the table is zero, and only the source is labelled
  pub search-start : (A : Table) (m : ℕ → Labels) → ((c l : ℕ) → A c l ≡ 0) → ((w s : ℕ) → Covers (After R f fifo_code) w s (m fifo_code)) → ((n : ℕ) → T ((m register_code).known n) → (f ≡ R.fifos) × ((n ≡ R.source) × (((m register_code).weight n ≡ 0) × ((m register_code).steps n ≡ 0)))) → (f ≡ R.fifos → (n : ℕ) → n ≡ R.source → T ((m register_code).known n)) → Searching R f 0 0 A m
  search-start A m zeros exits only source =
      record {
        table = record { sound = λ c l d h. absurd (omega (arith, zeros c l)); complete = λ c l d x. absurd (none-without-steps x) };
        labels =
            record {
              registers =
                  record {
                    enough = λ n h. let q = only n h in After.at_source refl q.0 q.1.0;
                    least = λ n h k t x. let q = only n h in rw (q.1.1.0, q.1.1.1) (none_before k t);
                    complete = λ n x. known n x;
                  };
              fifos = exits;
            };
      }
    where
      known : (n : ℕ) → After R f register_code (R.weight f + 0) 0 n → T ((m register_code).known n)
      known n (After.at_source a b c) = source b n c
      known n (After.at_gate shut may x) =
          let e : side_after f register_code ≡ f = side_same f register_code (λ z. omega arith) in
          absurd (none-without-steps (rw e at x))

  module _ {k s : ℕ} {A : Table} {m : ℕ → Labels} (now : Searching R f k s A m) where
    -- a state that a layer brings into the table has its least figures
    pub layer-least : {B : Table} → Next R f m k s A B → (c l d : ℕ) → A c l ≤ d → d < B c l → Least R f (R.weight f + k) (suc s) c l d
    layer-least {B} next c l d not_yet h =
        record {
          enough = (next-table R law f k s m now.labels A B now.table next).sound c l d h;
          least = λ w t x. not-before (λ early. absurd (omega (arith, now.table.complete c l d (done_more _ s early x))));
        }

    -- a layer
    pub layer-turn : {B : Table} {n : Labels} → Next R f m k s A B → Relabelled (After R f register_code) (R.weight f + k) (suc s) (m register_code) n → Searching R f k (suc s) B (renewed m n)
    unfolding renewed
    layer-turn {B} {n} next re =
        record {
          table = next-table R law f k s m now.labels A B now.table next;
          labels = record { registers = covers-next (After R f register_code) (λ w s n p q. after_more p q) now.labels.registers re; fifos = now.labels.fifos };
        }

    -- a layer changes nothing, and the next label is (k', s')
    module _ (quiet : Next R f m k s A A) where
      pub jump-turn : (k' s' : ℕ) → NotAfter k s k' s' → IdleUntil m k s k' s' → Searching R f k' s' A m
      jump-turn k' s' later idle =
          record {
            table = record { sound = λ c l d h. done_more _ s' (plus later) (now.table.sound c l d h); complete = λ c l d x. now.table.complete c l d (back c l d x) };
            labels =
                record {
                  registers = covers-later (After R f register_code) (λ w s n p q. after_more p q) _ s' now.labels.registers (after_open k s k' s' back);
                  fifos = now.labels.fifos;
                };
          }
        where
          plus : {a b c d : ℕ} → NotAfter a b c d → NotAfter (R.weight f + a) b (R.weight f + c) d
          plus (inl h) = inl (omega arith)
          plus (inr h) = inr (omega arith, h.1)

          shorter : (w t : ℕ) → NotAfter w (suc t) (R.weight f + k') s' → NotAfter w t (R.weight f + k') s'
          shorter w t (inl h) = inl h
          shorter w t (inr h) = inr (h.0, omega arith)

          lighter : (w t : ℕ) → NotAfter (R.weight f + w) (suc t) (R.weight f + k') s' → NotAfter w t (R.weight f + k') s'
          lighter w t (inl h) = inl (omega (arith, law.heavy f))
          lighter w t (inr h) = inl (omega (arith, law.heavy f))

          early : {a b w t : ℕ} → NotAfter (R.weight f + w) (suc t) (R.weight f + k') s' → NotAfter a b w t → NotAfter a b k s ⊎ NotAfter k' s' a b → NotAfter a b k s
          early h g (inl q) = q
          early (inl h) (inl g) (inr (inl q)) = absurd (omega arith)
          early (inl h) (inl g) (inr (inr q)) = absurd (omega arith)
          early (inl h) (inr g) (inr (inl q)) = absurd (omega arith)
          early (inl h) (inr g) (inr (inr q)) = absurd (omega arith)
          early (inr h) (inl g) (inr (inl q)) = absurd (omega arith)
          early (inr h) (inl g) (inr (inr q)) = absurd (omega arith)
          early (inr h) (inr g) (inr (inl q)) = absurd (omega arith)
          early (inr h) (inr g) (inr (inr q)) = absurd (omega arith)

          back : (c l d : ℕ) → Open R f k' s' c l d → Open R f k s c l d
          back c l d x =
              settled R law f k s m now.labels A now.table quiet (λ w t. NotAfter w t (R.weight f + k') s') shorter lighter
              (λ code n w t h room g. early room g (idle code n h)) (ending-view R c 0 f (stage l d) x.route x.ending) x.within

      -- and if every label is a seed, the table has all that can be done at all
      pub all-turn : AllSeeds m k s → (w t c l d : ℕ) → Done R f w t c l d → Open R f k s c l d
      all-turn all w t c l d x =
          settled R law f k s m now.labels A now.table quiet (λ w t. Unit {0}) (λ w t u. u) (λ w t u. u)
          (λ code n w t h u g. all code n h) (ending-view R c 0 f (stage l d) x.route x.ending) tt

      pub all-labels : AllSeeds m k s → (w t : ℕ) → Labelled R f w t m
      all-labels all w t =
          record {
            registers = covers-later (After R f register_code) (λ w s n p q. after_more p q) _ t now.labels.registers (after_open k s w t (λ c l d. all-turn all _ t c l d));
            fifos = now.labels.fifos;
          }
