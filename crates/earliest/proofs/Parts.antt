-- What each part of a turn asks and leaves, from what holds between two turns.
use Prim.Native.Nat.{ℕ, ◌+◌, ◌*◌, ◌-◌, ◌/◌, ◌%◌, ◌≤◌, ◌<◌}
use mathlib.Core.Path.{◌≡◌, refl, sym, ◌∙◌, subst}
use mathlib.Core.Logic.{◌⊎◌, inl, inr}
use mathlib.Core.List.{List}
use native.Mathlib.Omega.{arith}
use Rattle.std.proofs.Common.{Option, Some, None}
use lib.ListN.{length, get_or, set, length-set}
use lib.Seq.{get_or-set_other}
use Rattle.timing.specs.Formulas.{register_load, setup_delay}
use Rattle.timing.specs.Ranges.{period_max}
use Rattle.timing.specs.Relaxed.{at_period}
use Rattle.rules.specs.Rules.{rules_of}
use Rattle.rules.specs.Legal.{Route}
use Rattle.rules.specs.Relaxed.{HasRoute}
use Rattle.rules.proofs.View.{LegalRoute, starts, route-view}
use Rattle.plan.proofs.Truth.{split}
use Rattle.costs.specs.Costs.{row_words}
use Rattle.layout.specs.Layout.{closes_at, hint_at, cell_words}
use Rattle.rows.specs.Words.{Filled, KeptFrom}
use Rattle.rows.specs.Rows.{view_of}
use Rattle.problem.specs.declared.Problem.{Problem}
use Rattle.problem.proofs.Sizes.{few-cells}
use Rattle.problem.specs.Problem.{rules_for, Ready}
use Rattle.table.specs.Problem.{Room}
use Rattle.queue.specs.Queue.{Space, Left}
use Rattle.delays.proofs.Waiting.{queue-kept, waits_kept}
use Rattle.delays.specs.Delays.{never, latest, closes_of, ClosesAt, Eased, Lines}
use Rattle.spans.specs.Opens.{rules_at, Opens}
use Rattle.spans.specs.Eases.{Ground, StartedAt, Eases}
use Rattle.spans.specs.Arrive.{StartAsks}
use Rattle.spans.specs.Spread.{SpreadAsks, SpreadOut}
use Rattle.spans.proofs.Opens.{shuts-later, start-opens}
use Rattle.spans.proofs.Eases.{eases-self, eases-then, eased-in, eased-eases, limit-row, ground-eases}
use Rattle.earliest.specs.declared.First.{First}
use Rattle.earliest.specs.declared.turns.Progress.{Progress}
use Rattle.earliest.specs.Earliest.{Passing, Begun, GoneOn, StartAllAsks, StartedOne, StartedAll, RiseAsks, NoPeriod, TurnDone, found_at, none_at, unknown, FirstPeriod}
use Rattle.earliest.proofs.Passing.{passing_begins, passing-eases, passing-rises, passing-goes-on}
use Rattle.earliest.proofs.NoRoute.{no-route}

pub lines-space : {n : ℕ} {words : List ℕ} → Lines n words → Space n words
lines-space l = record { small = l.small; room = omega (arith, l.room) }

module _ (p : Problem) (marks : List ℕ) where
  abbrev n : ℕ
  n = length marks

  module _ {words : List ℕ} {count : ℕ} (g : Ground p marks words count) where
    pub ground-lines : Lines n words
    ground-lines = record { small = few-cells p marks g.ready; room = omega (arith, g.room) }

    pub ground-start : (cell : ℕ) → cell < n → StartAsks p n words count cell
    ground-start cell inside =
        record {
          valid = g.ready.valid;
          space = lines-space ground-lines;
          queue = g.queue;
          falling = g.falling;
          inside = inside;
          light = g.light;
        }

  -- a state leaves the queue and goes on
  module _ {old mid : List ℕ} {f : Progress} {state : ℕ} (was : Passing p marks f.period old f.count) (some : 0 < f.count) (left : Left n f.count old mid state) where
    low_same : (k : ℕ) → k < n * row_words → get_or mid k 0 ≡ get_or old k 0
    low_same k h = left.aside.low k h

    pub left-asks : SpreadAsks p marks f.period mid (f.count - 1) state
    left-asks =
        record {
          ground =
              record {
                ready = was.ground.ready;
                room = omega (arith, was.ground.room, left.aside.same);
                light = was.ground.light;
                falling = λ c l m inside h small. rw (low_same (c * row_words + l) (omega (arith, limit-row p marks was.ground)), low_same (c * row_words + m) (omega (arith, limit-row p marks was.ground))) (was.ground.falling c l m inside h small);
                queue = left.queue;
              };
          most = omega (arith, was.most);
          inside = left.inside;
          opens = λ light known. opens light (omega (arith, low_same state left.inside));
        }
      where
        is : (state / row_words) * row_words + state % row_words ≡ state
        is = omega arith

        opens : state % row_words ≤ p.elements.limit.0 → get_or old state 0 < never → Opens p marks f.period (state / row_words) (state % row_words) (get_or mid state 0)
        opens light known =
            let there : view_of old (state / row_words) (state % row_words) ≡ get_or old state 0 = rw is refl in
            let o = was.opens (state / row_words) (state % row_words) (omega (arith, left.inside)) light (omega (arith, there)) in
            subst (λ (d : ℕ). Opens p marks f.period (state / row_words) (state % row_words) d) (there ∙ sym (low_same state left.inside)) o

    pub gone-on : {new : List ℕ} {next : ℕ} → Eases p marks f.period mid (f.count - 1) new next → SpreadOut (rules_for p marks) n state mid new → GoneOn p marks old f new (record { period = f.period; count = next })
    gone-on e out =
        record {
          same = e.same ∙ left.aside.same;
          rest = λ k h. e.rest k h ∙ left.aside.high k (omega arith);
          passing = passing-goes-on p marks was left e out;
        }

  -- the next span starts at a cell
  module _ {t : ℕ} {old : List ℕ} {count : ℕ} (asks : StartAllAsks p marks t old count) (cell : ℕ) (inside : cell < n) where
    pub not-started : (closes_of n old cell ≤ 2 * t → (cell ≡ p.source → ⊥) → ⊥) → StartedOne p marks t cell old count old count
    not-started f =
        record {
          eases = eases-self p marks t old count asks.ground;
          kept = λ k h. refl;
          started = λ h s. absurd (f h s);
        }

    pub started-one : {new : List ℕ} {next : ℕ} → (cell ≡ p.source → ⊥) → closes_of n old cell ≤ 2 * t → Eased n p.elements.limit.0 cell (register_load p.elements.register) (setup_delay p.elements.register) old count new next → StartedOne p marks t cell old count new next
    started-one {new} {next} other soon e =
        let closed = asks.closed cell inside (omega (arith, asks.most)) in
        record {
          eases = eased-eases p marks t old count cell _ _ new next asks.ground inside asks.ground.light e (closed.1.elsewhere other t (omega arith) soon);
          kept = λ k h. e.high k h;
          started = λ h s. eased-in e asks.ground.light;
        }

  -- the hint is written
  hint-eases : (t : ℕ) (old : List ℕ) (count x : ℕ) → Ground p marks old count → Eases p marks t old count (set old (n * hint_at) x) count
  hint-eases t old count x g =
      record {
        same = length-set old (n * hint_at) x;
        rest = λ k h. get_or-set_other old (n * hint_at) k x 0 (λ z. none z h);
        falling = λ c l m inside h small. rw (low (c * row_words + l) (omega (arith, limit-row p marks g)), low (c * row_words + m) (omega (arith, limit-row p marks g))) (g.falling c l m inside h small);
        queue = queue-kept g.queue _ (λ k h. low k);
        waits = waits_kept g.queue _ (λ k h. low k);
        lower = λ c l inside small. omega (arith, low (c * row_words + l) (omega (arith, limit-row p marks g)));
        closer = λ c inside. omega (arith, close c inside);
        anew = λ c l inside small f. absurd (omega (arith, low (c * row_words + l) (omega (arith, limit-row p marks g))));
        opens = λ c l inside small f. absurd (omega (arith, low (c * row_words + l) (omega (arith, limit-row p marks g))));
        shuts = λ c inside f. absurd (omega (arith, close c inside));
        going = λ c inside f. absurd (omega (arith, close c inside));
      }
    where
      low : (k : ℕ) → k < n * closes_at → get_or (set old (n * hint_at) x) k 0 ≡ get_or old k 0
      low k h = get_or-set_other old (n * hint_at) k x 0 (λ z. omega arith)

      close : (c : ℕ) → c < n → closes_of n (set old (n * hint_at) x) c ≡ closes_of n old c
      close c inside = get_or-set_other old (n * hint_at) (n * closes_at + c) x 0 (λ z. omega arith)

      none : {k : ℕ} → k ≡ n * hint_at → n * cell_words ≤ k → ⊥
      none z h = omega (arith, g.ready.source)

  -- A turn that writes the hint first
  module _ {old : List ℕ} {f : Progress} (was : Passing p marks f.period old f.count) (x : ℕ) where
    hinted : Eases p marks f.period old f.count (set old (n * hint_at) x) f.count
    hinted = hint-eases f.period old f.count x was.ground

    pub hint-passing : Passing p marks f.period (set old (n * hint_at) x) f.count
    hint-passing = passing-eases p marks was hinted

    pub hint-then : {new : List ℕ} {g : Progress} → GoneOn p marks (set old (n * hint_at) x) f new g → GoneOn p marks old f new g
    hint-then o =
        record {
          same = o.same ∙ hinted.same;
          rest = λ k h. o.rest k h ∙ hinted.rest k h;
          passing = o.passing;
        }

  -- The period goes up
  module _ {old : List ℕ} {f : Progress} {close : ℕ} (asks : RiseAsks p marks old f close) where
    -- there is no route before the close
    pub none-to : (b : ℕ) → 2 * b < close → b ≤ period_max → HasRoute (rules_at p marks b) → ⊥
    none-to b = no-route p marks f.period old f.count close asks.passing asks.none asks.far asks.next b

    module _ (some : close ≡ never → ⊥) (word : close ≤ never) where
      pub close-known : (2 * f.period < close) × (close ≤ latest)
      close-known = go asks.next.known
        where
          go : (close ≡ never) ⊎ ((2 * f.period < close) × ClosesAt n old close) → (2 * f.period < close) × (close ≤ latest)
          go (inl z) = absurd (some z)
          go (inr k) = (k.0, omega (arith, k.1.is, (asks.passing.closed k.1.cell k.1.inside (omega (arith, k.1.is))).0))

      abbrev u : ℕ
      u = (close + 1) / 2

      pub rise-asks : StartAllAsks p marks ((close + 1) / 2) old f.count
      rise-asks =
          record {
            ground = asks.passing.ground;
            most = omega (arith, close-known.1);
            closed = λ c inside known. let q = asks.passing.closed c inside known in (q.0, shuts-later p marks q.1 (omega (arith, close-known.0)));
          }

      pub risen : {mid : List ℕ} {next : ℕ} (x : ℕ) → StartedAll p marks ((close + 1) / 2) old f.count mid next → GoneOn p marks old f (set mid (n * hint_at) x) (record { period = (close + 1) / 2; count = next })
      risen {mid} {next} x all =
          let at : Passing p marks u mid next = passing-rises p marks (omega (arith, close-known.0)) (omega (arith, close-known.1)) asks.passing all.eases all.going (λ b h k. none-to b (omega arith) (omega (arith, close-known.1))) in
          let g : Progress = record { period = u; count = next } in
          let e = hinted {f = g} at x in
          record {
            same = e.same ∙ all.eases.same;
            rest = λ k h. e.rest k h ∙ all.eases.rest k h;
            passing = hint-passing {f = g} at x;
          }

  -- the next span has started at the first cells
  module _ (t : ℕ) (old : List ℕ) (count : ℕ) where
    pub record Starting (cells : ℕ) (new : List ℕ) (next : ℕ) : Type 0 where
      pub eases : Eases p marks t old count new next
      pub kept : KeptFrom (length marks * closes_at) old new
      pub few : cells ≤ length marks
      pub started : (c : ℕ) → c < cells → closes_of (length marks) new c ≤ 2 * t → (c ≡ p.source → ⊥) → StartedAt p marks new c

    module _ (asks : StartAllAsks p marks t old count) where
      pub starting-none : Starting 0 old count
      starting-none = record { eases = eases-self p marks t old count asks.ground; kept = λ k h. refl; few = omega arith; started = λ c h. absurd (omega arith) }

      module _ {cells : ℕ} {mid : List ℕ} {between : ℕ} (so : Starting cells mid between) where
        pub starting-asks : StartAllAsks p marks t mid between
        starting-asks =
            record {
              ground = ground-eases p marks t old count mid between asks.ground so.eases;
              most = asks.most;
              closed = λ c inside known. let same = so.kept (n * closes_at + c) (omega arith) in let q = asks.closed c inside (omega arith) in (omega (arith, q.0), rw same q.1);
            }

        pub starting-more : {new : List ℕ} {next : ℕ} → cells < n → StartedOne p marks t cells mid between new next → Starting (cells + 1) new next
        starting-more {new} {next} inside one =
            record {
              eases = eases-then p marks t old count mid between new next asks.ground so.eases one.eases;
              kept = λ k h. one.kept k h ∙ so.kept k h;
              few = omega arith;
              started = λ c h soon other. go c (split cells c) h soon other;
            }
          where
            go : (c : ℕ) → (cells ≤ c) ⊎ (c < cells) → c < cells + 1 → closes_of n new c ≤ 2 * t → (c ≡ p.source → ⊥) → StartedAt p marks new c
            go c (inl k) h soon other =
                let is : c ≡ cells = omega arith in
                rw is (one.started (rw is at soon) (rw is at other))
            go c (inr k) h soon other =
                let same = one.kept (n * closes_at + c) (omega arith) in
                omega (arith, one.eases.lower c _ (omega arith) asks.ground.light, so.started c k (omega arith) other)

        pub starting-end : cells ≡ n → StartedAll p marks t old count mid between
        starting-end all = record { eases = so.eases; going = λ c inside. so.started c (omega arith) }

  -- the words filled, and then the span at the sink started
  module _ {old rows words : List ℕ} (ready : Ready p marks) (room : Room n old) (light : register_load p.elements.register ≤ p.elements.limit.0) (low : Filled (λ k. never) 0 (n * row_words - 0) old rows) (high : Filled (λ k. never) (n * closes_at) (n * (hint_at + 1) - n * closes_at) rows words) where
    row : (k : ℕ) → k < n * row_words → get_or words k 0 ≡ never
    row k h = high.low k (omega arith) ∙ subst (λ (i : ℕ). get_or rows i 0 ≡ never) (omega arith) (low.done k (omega arith))

    pub filled-ground : Ground p marks words 0
    filled-ground =
        record {
          ready = ready;
          room = omega (arith, high.same, low.same);
          light = light;
          falling = λ c l m h k s. omega (arith, row (c * row_words + l) (omega (arith, ready.valid.limit)), row (c * row_words + m) (omega (arith, ready.valid.limit)));
          queue = record { states = λ i h. absurd (omega arith); places = λ i h. absurd (omega arith) };
        }

    pub begun : {new : List ℕ} {next : ℕ} → Eased n p.elements.limit.0 p.sink (register_load p.elements.register) (setup_delay p.elements.register) words 0 new next → Begun p marks old new next
    begun {new} {next} e =
        record {
          same = e.same ∙ (high.same ∙ low.same);
          rest = λ k h. e.high k (omega arith) ∙ (high.high k (omega arith) ∙ low.high k (omega arith));
          passing = passing_begins p marks ready filled-ground.room light row (λ c h. high.done c (omega arith)) (eased-eases p marks p.elements.period words 0 p.sink _ _ new next filled-ground ready.sink light e (start-opens p marks p.elements.period ready light)) (eased-in e light);
        }

  -- a register too heavy for the limit drives nothing
  pub too-heavy : p.elements.limit.0 < register_load p.elements.register → (b : ℕ) → HasRoute (rules_at p marks b) → ⊥
  unfolding rules_at rules_of at_period
  too-heavy heavy b r = go (route-view _ r.route r.is_legal)
    where
      go : {q : Route} → LegalRoute (rules_at p marks b) q → ⊥
      go (starts first rest) = omega (arith, first.light)

  -- how the pass ends
  module _ {old new : List ℕ} (same : length new ≡ length old) (rest : KeptFrom (n * cell_words) old new) where
    pub first_found : {t count : ℕ} → Passing p marks t new count → closes_of n new p.source ≤ 2 * t → FirstPeriod p marks old new (First.At t)
    first_found {t} at soon =
        record {
          same = same;
          rest = rest;
          tells =
              found_at
              (record {
                least = at.least;
                most = at.most;
                found = (at.closed p.source at.ground.ready.source (omega (arith, at.most))).1.at_source refl t (omega arith) soon;
                none = at.none;
              });
        }

    pub first-none : NoPeriod p marks → FirstPeriod p marks old new First.Never
    first-none none = record { same = same; rest = rest; tells = none_at none }

    pub first-unknown : FirstPeriod p marks old new First.Unknown
    first-unknown = record { same = same; rest = rest; tells = unknown }

  module _ {old : List ℕ} {f : Progress} {new : List ℕ} where
    pub turn_on : {t : Option Progress} → TurnDone p marks old f new t → (g : Progress) → t ≡ Some g → GoneOn p marks old f new g
    turn_on (TurnDone.on {g = h} o) g e = let q : h ≡ g = cc in rw q at o
    turn_on (TurnDone.ended a b c) g e = cc

    pub turn-ended : {t : Option Progress} → TurnDone p marks old f new t → t ≡ None → (length new ≡ length old) × (KeptFrom (n * cell_words) old new × NoPeriod p marks)
    turn-ended (TurnDone.on o) e = cc
    turn-ended (TurnDone.ended a b c) e = (a, (b, c))
