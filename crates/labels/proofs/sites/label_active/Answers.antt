use Rattle.std.proofs.Common.{ℕ, ◌+◌, ◌*◌, ◌<◌, ◌≤◌, ◌≡◌, refl, ◌⊎◌, inl, inr, List, arith, length, get_or}
use Rattle.layout.specs.Layout.{label_words, active_at, trail_at}
use Rattle.lists.specs.Lists.{flag_of, Listed}
use Rattle.lists.proofs.Lists.{listed-count}
use Rattle.problem.specs.declared.net.Net.{Net}
use Rattle.table.specs.Problem.{net_rules}
use Rattle.problem.proofs.Sizes.{few-cells}
use Rattle.labels.specs.Additions.{LabelAsks, LabelsAdded}
use Rattle.labels.proofs.Additions.{labels-more, labels-among, labels-last}
use Rattle.labels.proofs.sites.label_active.Invariants.{Tried}
use Rattle.labels.proofs.sites.label_active.Goals as goal
use Rattle.labels.proofs.sites.label_active.Goals.{In-loop-i}

module _ (net : Net) (marks : List ℕ) (code set active weight steps count : ℕ) (old : List ℕ) (asks : LabelAsks net marks code set weight steps count old) (listed : Listed (length marks) old (length marks * active_at) active) where
  abbrev n : ℕ
  n = length marks

  few : n ≤ 1024
  few = few-cells net.problem marks asks.ready.ready

  short : active ≤ n
  short = listed-count listed

  module _ (i : ℕ) (mid : List ℕ) (known : ℕ) (a : Tried net marks code set weight steps count old i mid known) where
    -- the set is apart from the list
    list-stays : i < active → get_or mid (n * active_at + i) 0 ≡ get_or old (n * active_at + i) 0
    list-stays h = go asks.apart.beside
      where
        go : (set + n * label_words ≤ n * active_at) ⊎ (n * trail_at ≤ set) → get_or mid (n * active_at + i) 0 ≡ get_or old (n * active_at + i) 0
        go (inl q) = a.high (n * active_at + i) (omega arith)
        go (inr q) = a.low (n * active_at + i) (omega (arith, short))

    cell_below : i < active → get_or mid (n * active_at + i) 0 < n
    cell_below h = omega (arith, list-stays h, listed.cells i h)

    next-asks : i < active → LabelAsks net marks code set weight steps known mid × (get_or mid (n * active_at + i) 0 < n)
    next-asks h = (
      record {
        ready = asks.ready;
        gate = asks.gate;
        room = omega (arith, a.same, asks.room);
        ordered = a.ordered;
        last = labels-last a asks.last;
        few = asks.few;
        set_in = record { small = asks.set_in.small; low = asks.set_in.low; room = omega (arith, a.same, asks.set_in.room) };
        apart = asks.apart;
      },
      cell_below h,
    )

    tried-all : i ≡ active → LabelsAdded (net_rules net marks) n code set weight steps old mid count known
    tried-all e = labels-among a (λ c. flag_of n old c ≡ 1) (λ c h f. rw e (listed.covered c h f))

-- the sizes, in a turn
few-in : (c : In-loop-i) → length c.args.plan.now ≤ 1024
few-in c = few _ _ _ _ _ _ _ _ _ c.requires.0 c.requires.1

short-in : (c : In-loop-i) → c.args.active ≤ length c.args.plan.now
short-in c = short _ _ _ _ _ _ _ _ _ c.requires.0 c.requires.1

pub overflow_add-cell : goal.overflow_add-cell
overflow_add-cell c = omega (arith, few-in c, short-in c)

pub offset_bounds-scratch-n : goal.offset_bounds-scratch-n
offset_bounds-scratch-n c = omega (arith, few-in c, short-in c)

pub bounds-scratch-n : goal.bounds-scratch-n
bounds-scratch-n c =
    omega (arith, c.requires.0.room, short-in (goal.at.bounds-scratch-n c).In-loop-i, c.loop-i.invariant.same, c.loop-i-test.true)

pub label_cell-known-requires : goal.label_cell-known-requires
label_cell-known-requires c =
    next-asks _ _ _ _ _ _ _ _ _ c.requires.0 c.requires.1 _ _ _ c.loop-i.invariant c.loop-i-test.true

pub loop-i-preserved : goal.loop-i-preserved
loop-i-preserved c =
    labels-more c.requires.0.apart.past (list-stays _ _ _ _ _ _ _ _ _ c.requires.0 c.requires.1 _ _ _ c.loop-i.invariant c.loop-i-test.true) c.loop-i.invariant refl c.label_cell-known.ensures
