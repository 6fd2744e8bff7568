-- Laws of the states that wait: room for one more, and what an exchange, a join and a leave change.
use Prim.Native.Nat.{ℕ, ◌+◌, ◌*◌, ◌-◌, ◌≤◌, ◌<◌}
use mathlib.Core.Path.{◌≡◌, refl, sym, ap, ◌∙◌}
use mathlib.Core.Logic.{◌⊎◌, inl, inr}
use mathlib.Core.List.{List}
use native.Mathlib.Omega.{arith}
use lib.ListN.{get_or, set, length-set}
use lib.Seq.{get_or-set_same, get_or-set_other}
use Rattle.costs.specs.Costs.{row_words}
use Rattle.layout.specs.Layout.{queue_at, places_at}
use Rattle.plan.proofs.Truth.{equal}
use Rattle.queue.specs.Queue.{slot_of, place_of, Space, Slot, Queue, Waits, Aside, Exchanged, Requeued, Joined, Left}
use Rattle.queue.proofs.Room.{room, room_for}

-- the words aside

pub aside-self : (n : ℕ) (words : List ℕ) → Aside n words words
aside-self n words = record { same = refl; low = λ k h. refl; high = λ k h. refl }

pub aside_then : {n : ℕ} {old mid new : List ℕ} → Aside n old mid → Aside n mid new → Aside n old new
aside_then a b =
    record {
      same = b.same ∙ a.same;
      low = λ k h. b.low k h ∙ a.low k h;
      high = λ k h. b.high k h ∙ a.high k h;
    }

pub space-kept : {n : ℕ} {old new : List ℕ} → Space n old → Aside n old new → Space n new
space-kept s a = record { small = s.small; room = omega (arith, a.same) }

-- the queue

module _ {n : ℕ} {words : List ℕ} {count : ℕ} (q : Queue n words count) where
  pub queue-room : count ≤ n * row_words
  queue-room = room (n * row_words) (slot_of n words) (place_of n words) count q.states q.places

  -- a state that does not wait leaves room for it
  pub queue-room-for : (s : ℕ) → s < n * row_words → (Waits n words count s → ⊥) → count < n * row_words
  queue-room-for s h absent =
      room_for (n * row_words) (slot_of n words) (place_of n words) count q.states q.places s h (λ e k. absent (record { early = e; holds = k }))

  pub queue-slot : (i : ℕ) → i < count → Slot n words i
  queue-slot i h = record { place = omega (arith, queue-room); state = q.states i h }

  -- what stands at a place waits
  pub waits-at : (s i : ℕ) → i < count → slot_of n words i ≡ s → Waits n words count s
  waits-at s i h e =
      let p : place_of n words s ≡ i = ap (place_of n words) (sym e) ∙ q.places i h in
      record { early = omega arith; holds = ap (slot_of n words) p ∙ e }

  -- states at different places are different
  pub slots_apart : (i j : ℕ) → i < count → j < count → (i ≡ j → ⊥) → slot_of n words i ≡ slot_of n words j → ⊥
  slots_apart i j h k apart e = apart (sym (q.places i h) ∙ ap (place_of n words) e ∙ q.places j k)

  pub queue-less : (less : ℕ) → less ≤ count → Queue n words less
  queue-less less h = record { states = λ i k. q.states i (omega arith); places = λ i k. q.places i (omega arith) }

  pub requeued-self : Requeued n count words words
  requeued-self = record { aside = aside-self n words; queue = q; waits = λ s h w. w }

pub requeued-then : {n count : ℕ} {old mid new : List ℕ} → Requeued n count old mid → Requeued n count mid new → Requeued n count old new
requeued-then a b =
    record {
      aside = aside_then a.aside b.aside;
      queue = b.queue;
      waits = λ s h w. b.waits s h (a.waits s h w);
    }

-- an exchange

module _ {n count i j : ℕ} {old new : List ℕ} (q : Queue n old count) (h : i < count) (k : j < count) (e : Exchanged n i j old new) where
  -- place x after the exchange: what stood at y before
  record Comes (x y : ℕ) : Type 0 where
    below : y < count
    slot : slot_of n new x ≡ slot_of n old y
    place : place_of n new (slot_of n old y) ≡ x

  comes-other : (x : ℕ) → x < count → (x ≡ i → ⊥) → (x ≡ j → ⊥) → Comes x x
  comes-other x l p r =
      record {
        below = l;
        slot = e.slots x (omega (arith, queue-room q)) p r;
        place = e.others (slot_of n old x) (q.states x l) (slots_apart q x i l h p) (slots_apart q x j l k r) ∙ q.places x l;
      }

  comes-second : Comes j i
  comes-second = record { below = h; slot = e.second; place = e.place-second }

  comes-first : (i ≡ j → ⊥) → Comes i j
  comes-first apart = record { below = k; slot = e.first; place = e.place-first (slots_apart q i j h k apart) }

  record From (x : ℕ) : Type 0 where
    was : ℕ
    comes : Comes x was

  from : (x : ℕ) → x < count → From x
  from x l = go (equal x j) (equal x i)
    where
      go : (x ≡ j) ⊎ (x ≡ j → ⊥) → (x ≡ i) ⊎ (x ≡ i → ⊥) → From x
      go (inl p) r = record { was = i; comes = rw p comes-second }
      go (inr p) (inl r) = record { was = j; comes = rw r (comes-first (λ y. p (r ∙ y))) }
      go (inr p) (inr r) = record { was = x; comes = comes-other x l r p }

  exchanged-queue : Queue n new count
  exchanged-queue =
      record {
        states = λ x l. let f : From x = from x l in rw f.comes.slot (q.states f.was f.comes.below);
        places = λ x l. let f : From x = from x l in rw f.comes.slot f.comes.place;
      }

  exchanged-waits : (s : ℕ) → Waits n old count s → Waits n new count s
  exchanged-waits s w = go (place_of n old s) w.early w.holds (equal (place_of n old s) i) (equal (place_of n old s) j)
    where
      go : (p : ℕ) → p < count → slot_of n old p ≡ s → (p ≡ i) ⊎ (p ≡ i → ⊥) → (p ≡ j) ⊎ (p ≡ j → ⊥) → Waits n new count s
      go p l x (inl y) z = waits-at exchanged-queue s j k (e.second ∙ ap (slot_of n old) (sym y) ∙ x)
      go p l x (inr y) (inl z) = waits-at exchanged-queue s i h (e.first ∙ ap (slot_of n old) (sym z) ∙ x)
      go p l x (inr y) (inr z) = waits-at exchanged-queue s p l ((comes-other p l y z).slot ∙ x)

  pub exchanged-requeued : Requeued n count old new
  exchanged-requeued = record { aside = e.aside; queue = exchanged-queue; waits = λ s l w. exchanged-waits s w }

-- while states move, two places hold states, and may be exchanged

module _ {n count : ℕ} {old mid : List ℕ} (r : Requeued n count old mid) (i j : ℕ) (h : i < count) (k : j < count) where
  pub two-slots : Space n old → Space n mid × (Slot n mid i × Slot n mid j)
  two-slots s = (space-kept s r.aside, (queue-slot r.queue i h, queue-slot r.queue j k))

  pub requeued-more : {new : List ℕ} → Exchanged n i j mid new → Requeued n count old new
  requeued-more e = requeued-then r (exchanged-requeued r.queue h k e)

-- a state joins

-- one that waits
pub joined-waiting : {n count state : ℕ} {old new : List ℕ} → state < n * row_words → Waits n old count state → Requeued n count old new → Joined n count state old new count
joined-waiting h w r =
    record {
      aside = r.aside;
      queue = r.queue;
      here = r.waits _ h w;
      waits = r.waits;
      most = omega arith;
    }

pub joined-then : {n count state next : ℕ} {old mid new : List ℕ} → state < n * row_words → Joined n count state old mid next → Requeued n next mid new → Joined n count state old new next
joined-then h j r =
    record {
      aside = aside_then j.aside r.aside;
      queue = r.queue;
      here = r.waits _ h j.here;
      waits = λ s k w. r.waits s k (j.waits s k w);
      most = j.most;
    }

-- one that does not: the words after the two stores
abbrev pub stored : ℕ → ℕ → ℕ → List ℕ → List ℕ
stored n count state old = set (set old (n * queue_at + count) state) (n * places_at + state) count

module _ {n count state : ℕ} {old : List ℕ} (space : Space n old) (q : Queue n old count) (h : state < n * row_words) (absent : Waits n old count state → ⊥) where
  abbrev new : List ℕ
  new = stored n count state old

  short : count < n * row_words
  short = queue-room-for q state h absent

  kept : (k : ℕ) → (k ≡ n * queue_at + count → ⊥) → (k ≡ n * places_at + state → ⊥) → get_or new k 0 ≡ get_or old k 0
  kept k p r =
      get_or-set_other (set old (n * queue_at + count) state) (n * places_at + state) k count 0 r
      ∙ get_or-set_other old (n * queue_at + count) k state 0 p

  last-slot : slot_of n new count ≡ state
  last-slot =
      get_or-set_other (set old (n * queue_at + count) state) (n * places_at + state) (n * queue_at + count) count 0 (λ e. omega (arith, short))
      ∙ get_or-set_same old (n * queue_at + count) state 0 (omega (arith, short))

  last-place : place_of n new state ≡ count
  last-place = get_or-set_same (set old (n * queue_at + count) state) (n * places_at + state) count 0 (simp length-set (omega arith))

  slot_kept : (i : ℕ) → i < count → slot_of n new i ≡ slot_of n old i
  slot_kept i l = kept (n * queue_at + i) (λ e. omega arith) (λ e. omega (arith, short))

  place_kept : (s : ℕ) → (s ≡ state → ⊥) → place_of n new s ≡ place_of n old s
  place_kept s p = kept (n * places_at + s) (λ e. omega (arith, short)) (λ e. p (omega arith))

  -- what stood at a place is another state
  others : (i : ℕ) → i < count → slot_of n old i ≡ state → ⊥
  others i l e = absent (waits-at q state i l e)

  stored-queue : Queue n new (count + 1)
  stored-queue = record { states = λ i l. state-at i l (equal i count); places = λ i l. place_at i l (equal i count) }
    where
      state-at : (i : ℕ) → i < count + 1 → (i ≡ count) ⊎ (i ≡ count → ⊥) → slot_of n new i < n * row_words
      state-at i l (inl e) = rw (e, last-slot) h
      state-at i l (inr e) = let m : i < count = omega arith in rw (slot_kept i m) (q.states i m)

      place_at : (i : ℕ) → i < count + 1 → (i ≡ count) ⊎ (i ≡ count → ⊥) → place_of n new (slot_of n new i) ≡ i
      place_at i l (inl e) = rw (e, last-slot) last-place
      place_at i l (inr e) =
          let m : i < count = omega arith in
          rw (slot_kept i m) (place_kept (slot_of n old i) (others i m) ∙ q.places i m)

  pub joined-new : Joined n count state old new (count + 1)
  joined-new =
      record {
        aside =
            record {
              same = simp length-set;
              low = λ k l. kept k (λ e. omega arith) (λ e. omega arith);
              high = λ k l. kept k (λ e. omega (arith, short)) (λ e. omega arith);
            };
        queue = stored-queue;
        here = waits-at stored-queue state count (omega arith) last-slot;
        waits = λ s l w. waits-at stored-queue s (place_of n old s) (omega (arith, w.early)) (slot_kept (place_of n old s) w.early ∙ w.holds);
        most = omega arith;
      }

-- a state leaves

pub left-then : {n count state : ℕ} {old mid new : List ℕ} → Left n count old mid state → Requeued n (count - 1) mid new → Left n count old new state
left-then l r =
    record {
      aside = aside_then l.aside r.aside;
      inside = l.inside;
      queue = r.queue;
      waits = λ s k e w. r.waits s k (l.waits s k e w);
    }

-- from the last place
module _ {n count state : ℕ} {old mid : List ℕ} (q : Queue n old count) (some : 0 < count) (first : slot_of n old 0 ≡ state) (x : Exchanged n 0 (count - 1) old mid) where
  after : Requeued n count old mid
  after = exchanged-requeued q some (omega arith) x

  -- the others stand before it
  stays : (s : ℕ) → (s ≡ state → ⊥) → Waits n mid count s → Waits n mid (count - 1) s
  stays s e w = record { early = go (equal (place_of n mid s) (count - 1)); holds = w.holds }
    where
      go : (place_of n mid s ≡ count - 1) ⊎ (place_of n mid s ≡ count - 1 → ⊥) → place_of n mid s < count - 1
      go (inl p) = absurd (e (sym w.holds ∙ ap (slot_of n mid) p ∙ x.second ∙ first))
      go (inr p) = omega (arith, w.early)

  pub left-last : Left n count old mid state
  left-last =
      record {
        aside = x.aside;
        inside = rw (sym first) (q.states 0 some);
        queue = queue-less after.queue (count - 1) (omega arith);
        waits = λ s k e w. stays s e (after.waits s k w);
      }
