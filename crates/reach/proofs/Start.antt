-- The start of a span: its labels wait in the orders, from the first of their weight on.
use Prim.Native.Nat.{ℕ, ◌+◌, ◌*◌, ◌<◌}
use mathlib.Core.Path.{refl, ◌∙◌}
use mathlib.Core.Bool.{Bool, true}
use mathlib.Core.List.{List}
use native.Mathlib.Omega.{arith}
use lib.Dec.{T}
use Rattle.rules.specs.Rules.{Rules, register_code, fifo_code, is_closing}
use Rattle.rules.proofs.View.{register-closing, fifo-closing}
use Rattle.budget.specs.Colours.{LabelsInStep}
use Rattle.budget.proofs.Layer.{row_of}
use Rattle.budget.proofs.Reaches.{reaches-start}
use Rattle.layout.specs.Layout.{labels_at, exits_at, label_words, active_at, seeds_at}
use Rattle.lists.specs.Lists.{Listed}
use Rattle.rows.specs.Words.{Kept}
use Rattle.table.specs.Problem.{seed_of}
use Rattle.table.specs.Layer.{ActiveIn}
use Rattle.table.proofs.Views.{budget-kept}
use Rattle.table.proofs.Colours.{coloured-none}
use Rattle.labels.specs.Labels.{labels_for, Ordered}
use Rattle.labels.specs.Idle.{no_idle}
use Rattle.labels.specs.Both.{ArrivedBoth}
use Rattle.labels.proofs.Labels.{unknown-not, labels-register, labels-fifo}
use Rattle.labels.proofs.Arriving.{cleared-table, cleared-seed, cleared-active}
use Rattle.reach.specs.Reach.{FirstWith, FirstExit, Cleared, BothAt, Running, Started}
use Rattle.reach.proofs.Sets.{set-start}
use Rattle.reach.proofs.Turns.{arrive-turn}

module _ (R : Rules) (n : ℕ) (old mid : List ℕ) (z : Cleared n old mid) where
  start-list : {top : ℕ} {P : ℕ → Bool} → ActiveIn R n top P mid 0
  start-list {top} = cleared-active R n top mid z.rows z.flags

  listed : Listed n mid (n * active_at) 0
  listed = (start-list {top = 0} {P = λ c. true}).listed

  unseeded : (code : ℕ) → T (is_closing code) → (c : ℕ) → c < n → T (seed_of n mid code c) → ⊥
  unseeded code shut c h t = unknown-not (cleared-seed n mid c (z.flags (n * seeds_at + c) (omega arith) (omega arith)) code shut) t

  pub start-near : Kept (n * labels_at) (n * labels_at + n * label_words) old mid
  start-near i lo hi = z.kept i (omega arith) (omega arith)

  pub start-far : Kept (n * exits_at) (n * exits_at + n * label_words) old mid
  start-far i lo hi = z.rest i (omega arith)

  module _ (k count exits : ℕ) (o : Ordered n (n * labels_at) old count) (p : 0 < exits → Ordered n (n * exits_at) old exits) (in_step : LabelsInStep R (labels_for n exits old)) (at exit : ℕ) (x : FirstWith n (n * labels_at) mid count k at) (y : FirstExit n mid exits k exit) where
    start-sets : BothAt n exits k old mid 0 at count exit
    start-sets =
        record {
          near = set-start n exits k (n * labels_at) register_code old mid count (labels-register n exits old) o start-near (unseeded register_code (register-closing register_code refl)) at x;
          within = y.within;
          far = λ h. set-start n exits k (n * exits_at) fifo_code old mid exits (labels-fifo n exits old h) (p h) start-far (unseeded fifo_code (fifo-closing fifo_code refl)) exit (y.first h);
          no_fifo = λ e. unseeded fifo_code (fifo-closing fifo_code refl);
        }

    pub labels-start : (f : ℕ) (P : ℕ → ℕ → Bool) → Running R n f k P old mid 0 0 at count exit exits
    labels-start f P =
        record {
          same = z.same;
          labels = λ i lo hi. z.kept i (omega arith) (omega arith);
          rest = λ i lo. z.rest i (omega arith);
          table = λ c t. row_of (reaches-start R (labels_for n exits old) f k (cleared-table n mid z.rows)) c;
          list = start-list;
          sets = start-sets;
          in_step = in_step;
          coloured = coloured-none R 0 listed refl;
        }

    pub labels-started : (new : List ℕ) (to out active : ℕ) → ArrivedBoth n no_idle at count exit exits k 0 mid new to out active → Started R n k old new active to count out exits
    labels-started new to out active a =
        record {
          empty = λ c l. budget-kept n mid new (λ i lo hi. a.low i (omega arith)) c l ∙ cleared-table n mid z.rows c l;
          current = λ f P. arrive-turn R n f k P old count exits mid 0 0 at exit (labels-start f P) new to out active a;
        }
