-- Labels of both sets become seeds: those of registers, with the source's, and those of FIFOs.
use Rattle.std.specs.Prelude.{ℕ, ◌*◌, ◌≤◌, ◌<◌, ◌≡◌, List, T, length, get_or}
use Rattle.rules.specs.Rules.{register_code, fifo_code}
use Rattle.layout.specs.Layout.{labels_at, exits_at, aside_at, active_at, next_at, listed_at, trail_at}
use Rattle.lists.specs.Lists.{flag_of, Listed}
use Rattle.table.specs.Problem.{seed_of}
use Rattle.labels.specs.declared.both.Idle.{Idle}
use Rattle.labels.specs.Labels.{known_of, order_of, LabelBy, LabelAfter, ListedOr}

-- the places of an order up to `count` have labelled cells, and `at` is one of them or the end
pub record OrderAsks (n set : ℕ) (words : List ℕ) (at count : ℕ) : Type 0 where
  pub start : at ≤ count
  pub short : count ≤ n
  pub known : (i : ℕ) → i < count → T (known_of n set words (order_of n set words i))

-- Before `arrive_both`. Where no FIFO waits, there may be no words for their labels.
pub record BothAsk (n at count exit exits active : ℕ) (words : List ℕ) : Type 0 where
  pub few : n ≤ 1024
  pub room : n * trail_at ≤ length words
  pub listed : Listed n words (n * active_at) active
  pub near : OrderAsks n (n * labels_at) words at count
  pub within : exit ≤ exits
  pub exits_in : exit < exits → n * aside_at ≤ length words
  pub far : exit < exits → OrderAsks n (n * exits_at) words exit exits

-- Of one set: its labels from `from` up to `to`, the end of its order or the first label after weight k and s steps, have become seeds for gates of this code.
pub record Comes (n set code from count k s : ℕ) (old new : List ℕ) (to : ℕ) : Type 0 where
  pub forth : from ≤ to
  pub within : to ≤ count
  pub late : to < count → LabelAfter n set old k s (order_of n set old to)
  pub in_time : (i : ℕ) → from ≤ i → i < to → LabelBy n set old k s (order_of n set old i)
  pub seeds : (i : ℕ) → from ≤ i → i < to → T (seed_of n new code (order_of n set old i))
  pub seeds_stay : (c : ℕ) → c < n → T (seed_of n old code c) → T (seed_of n new code c)
  pub other_seeds : (c : ℕ) → c < n → ((i : ℕ) → from ≤ i → i < to → order_of n set old i ≡ c → ⊥) → seed_of n new code c ≡ seed_of n old code c

-- After `arrive_both`: it went up to `to` in one order and up to `out` in the other.
pub record ArrivedBoth (n : ℕ) (idle : Idle) (at count exit exits k s : ℕ) (old new : List ℕ) (to out active : ℕ) : Type 0 where
  pub same : length new ≡ length old
  pub near : Comes n (n * labels_at) register_code at count k s old new to
  pub far : Comes n (n * exits_at) fifo_code exit exits k s old new out
  pub listed : Listed n new (n * active_at) active
  -- registers come first
  pub near_listed : (i : ℕ) → at ≤ i → i < to → ListedOr n idle.registers new old fifo_code (order_of n (n * labels_at) old i)
  pub far_listed : (i : ℕ) → exit ≤ i → i < out → ListedOr n idle.fifos new new register_code (order_of n (n * exits_at) old i)
  pub flags_stay : (c : ℕ) → c < n → flag_of n old c ≡ 1 → flag_of n new c ≡ 1
  -- a flag that was set since is a label's
  pub other_flags :
      (c : ℕ) → c < n →
      ((i : ℕ) → at ≤ i → i < to → order_of n (n * labels_at) old i ≡ c → ⊥) →
      ((i : ℕ) → exit ≤ i → i < out → order_of n (n * exits_at) old i ≡ c → ⊥) → flag_of n new c ≡ flag_of n old c
  pub low : (k : ℕ) → k < n * active_at → get_or new k 0 ≡ get_or old k 0
  pub middle : (k : ℕ) → n * next_at ≤ k → k < n * listed_at → get_or new k 0 ≡ get_or old k 0
  pub high : (k : ℕ) → n * trail_at ≤ k → get_or new k 0 ≡ get_or old k 0
