-- Labels of registers, and then those of FIFOs, become seeds.
use Rattle.std.proofs.Common.{ℕ, ◌+◌, ◌*◌, ◌≤◌, ◌<◌, ◌≡◌, refl, sym, ◌∙◌, inl, inr, List, arith, T, get_or}
use Rattle.rules.specs.Rules.{register_code, fifo_code}
use Rattle.rules.proofs.View.{register-closing, fifo-closing}
use Rattle.layout.specs.Layout.{labels_at, exits_at, order_in}
use Rattle.labels.specs.Labels.{known_of, order_of, ListedOr, LabelBy, LabelAfter, SameLabel, ArriveAsks, ArrivedAll}
use Rattle.labels.specs.declared.both.Idle.{Idle}
use Rattle.labels.specs.Both.{BothAsk, ArrivedBoth}
use Rattle.labels.proofs.Labels.{known-below, label_kept, known_kept, set-in, set_apart, exits-in, exits-apart}

-- what `arrive` asks of a set
pub near-asks : (n at count exit exits active : ℕ) (words : List ℕ) → BothAsk n at count exit exits active words → ArriveAsks n (n * labels_at) register_code at count active words
near-asks n at count exit exits active words asks =
    record {
      listed = asks.listed;
      start = asks.near.start;
      short = asks.near.short;
      known = asks.near.known;
      set_in = set-in n words asks.few asks.room;
      room = asks.room;
      apart = set_apart n;
      closes = register-closing register_code refl;
    }

module _ (n : ℕ) (idle : Idle) (at count exit exits k s active : ℕ) (old mid : List ℕ) (to next : ℕ) (asks : BothAsk n at count exit exits active old) (near : ArrivedAll n (n * labels_at) register_code idle.registers at count k s old mid to next) where
  abbrev x : ℕ
  x = n * exits_at

  -- the FIFOs' words stay meanwhile
  stays : (i : ℕ) → x ≤ i → get_or mid i 0 ≡ get_or old i 0
  stays i h = near.arrived.high i (omega arith)

  place : (i : ℕ) → order_of n x mid i ≡ order_of n x old i
  place i = stays (x + n * order_in + i) (omega arith)

  label : (c : ℕ) → c < n → SameLabel n x old mid c
  label = label_kept n x old mid (λ i lo hi. stays i lo)

  far-known : exit < exits → (i : ℕ) → i < exits → T (known_of n x mid (order_of n x mid i))
  far-known h i j = rw (place i, known_kept n x old mid (λ i lo hi. stays i lo)) ((asks.far h).known i j)

  pub far-asks : exit < exits → ArriveAsks n x fifo_code exit exits next mid
  far-asks h =
      record {
        listed = near.arrived.listed;
        start = asks.within;
        short = (asks.far h).short;
        known = far-known h;
        set_in = exits-in n mid asks.few (omega (arith, asks.exits_in h, near.arrived.same));
        room = omega (arith, asks.room, near.arrived.same);
        apart = exits-apart n;
        closes = fifo-closing fifo_code refl;
      }

  apart-codes : register_code ≡ fifo_code → ⊥
  apart-codes z = omega arith

  -- no FIFO waits
  pub both-near : exit ≡ exits → ArrivedBoth n idle at count exit exits k s old mid to exit next
  both-near e =
      let a = near.arrived in
      record {
        same = a.same;
        near =
            record {
              forth = a.forth;
              within = near.within;
              late = near.late;
              in_time = a.in_time;
              seeds = a.seeds;
              seeds_stay = a.seeds_stay;
              other_seeds = a.other_seeds;
            };
        far =
            record {
              forth = omega arith;
              within = asks.within;
              late = λ h. absurd (omega arith);
              in_time = λ i h j. absurd (omega arith);
              seeds = λ i h j. absurd (omega arith);
              seeds_stay = λ c h t. rw (a.other_codes fifo_code (fifo-closing fifo_code refl) (λ z. omega arith) c h) t;
              other_seeds = λ c h g. a.other_codes fifo_code (fifo-closing fifo_code refl) (λ z. omega arith) c h;
            };
        listed = a.listed;
        near_listed = a.now_listed;
        far_listed = λ i h j. absurd (omega arith);
        flags_stay = a.flags_stay;
        other_flags = λ c h g f. a.other_flags c h g;
        low = a.low;
        middle = a.middle;
        high = a.high;
      }

  module _ (waits : exit < exits) (new : List ℕ) (out last : ℕ) (far : ArrivedAll n x fifo_code idle.fifos exit exits k s mid new out last) where
    in-plan : (i : ℕ) → i < exits → order_of n x old i < n
    in-plan i h = known-below n x old _ ((asks.far waits).known i h)

    -- a label of the FIFOs is as it was
    by_old : (i : ℕ) → i < exits → LabelBy n x mid k s (order_of n x mid i) → LabelBy n x old k s (order_of n x old i)
    by_old i h b =
        let e = label (order_of n x old i) (in-plan i h) in
        rw (← e.weight, ← e.steps) (rw (place i) at b)

    after-old : (i : ℕ) → i < exits → LabelAfter n x mid k s (order_of n x mid i) → LabelAfter n x old k s (order_of n x old i)
    after-old i h b =
        let e = label (order_of n x old i) (in-plan i h) in
        rw (← e.weight, ← e.steps) (rw (place i) at b)

    pub both-far : ArrivedBoth n idle at count exit exits k s old new to out last
    both-far =
        let a = near.arrived in
        let b = far.arrived in
        record {
          same = b.same ∙ a.same;
          near =
              record {
                forth = a.forth;
                within = near.within;
                late = near.late;
                in_time = a.in_time;
                seeds = λ i h j. rw (b.other_codes register_code (register-closing register_code refl) apart-codes _ (register-in i (omega (arith, near.within)))) (a.seeds i h j);
                seeds_stay = λ c h t. rw (b.other_codes register_code (register-closing register_code refl) apart-codes c h) (a.seeds_stay c h t);
                other_seeds = λ c h g. b.other_codes register_code (register-closing register_code refl) apart-codes c h ∙ a.other_seeds c h g;
              };
          far =
              record {
                forth = b.forth;
                within = far.within;
                late = λ h. after-old out h (far.late h);
                in_time = λ i h j. by_old i (omega (arith, far.within)) (b.in_time i h j);
                seeds = λ i h j. rw (← place i) (b.seeds i h j);
                seeds_stay = λ c h t. b.seeds_stay c h (rw (a.other_codes fifo_code (fifo-closing fifo_code refl) (λ z. omega arith) c h) t);
                other_seeds = λ c h g. b.other_seeds c h (λ i l j e. g i l j (sym (place i) ∙ e)) ∙ a.other_codes fifo_code (fifo-closing fifo_code refl) (λ z. omega arith) c h;
              };
          listed = b.listed;
          near_listed = λ i h j. near-listed i (omega (arith, near.within)) (a.now_listed i h j);
          far_listed = λ i h j. far-listed i (omega (arith, far.within)) (b.now_listed i h j);
          flags_stay = λ c h t. b.flags_stay c h (a.flags_stay c h t);
          other_flags = λ c h g f. b.other_flags c h (λ i l j e. f i l j (sym (place i) ∙ e)) ∙ a.other_flags c h g;
          low = λ i h. b.low i h ∙ a.low i h;
          middle = λ i lo hi. b.middle i lo hi ∙ a.middle i lo hi;
          high = λ i h. b.high i h ∙ a.high i h;
        }
      where
        register-in : (i : ℕ) → i < count → order_of n (n * labels_at) old i < n
        register-in i h = known-below n (n * labels_at) old _ (asks.near.known i h)

        near-listed : (i : ℕ) → i < count → ListedOr n idle.registers mid old fifo_code (order_of n (n * labels_at) old i) → ListedOr n idle.registers new old fifo_code (order_of n (n * labels_at) old i)
        near-listed i h (inl f) = inl (far.arrived.flags_stay _ (register-in i h) f)
        near-listed i h (inr f) = inr f

        far-listed : (i : ℕ) → i < exits → ListedOr n idle.fifos new mid register_code (order_of n x mid i) → ListedOr n idle.fifos new new register_code (order_of n x old i)
        far-listed i h (inl f) = inl (rw (← place i) f)
        far-listed i h (inr f) =
            inr (f.0, rw (far.arrived.other_codes register_code (register-closing register_code refl) apart-codes _ (in-plan i h)) (rw (← place i) f.1))
