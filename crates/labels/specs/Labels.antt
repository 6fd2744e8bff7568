-- The labels in the scratch words of n cells, and what the functions on them leave.
use Rattle.std.specs.Prelude.{ℕ, suc, ◌+◌, ◌-◌, ◌*◌, ◌≤◌, ◌<◌, ◌≡◌, Bool, true, false, ◌&&◌, not, cond, ◌⊎◌, List, T, eqb, ltb, length, get_or}
use Rattle.budget.specs.Done.{Labels, NotAfter}
use Rattle.rules.specs.Rules.{register_code, fifo_code, is_closing}
use Rattle.layout.specs.Layout.{labels_at, exits_at, weight_high, steps_low, steps_high, order_in, label_words, active_at, next_at, listed_at, trail_at}
use Rattle.costs.specs.Costs.{row_words}
use Rattle.lists.specs.Lists.{sum_below, flag_of, ListedAt, Listed}
use Rattle.table.specs.Problem.{marks_seed, seed_of}

-- a number in two words, its low and its high 16 bits
abbrev pub pair_of : List ℕ → ℕ → ℕ → ℕ
pair_of words low high = get_or words low 0 + get_or words high 0 * 65536

-- A set of labels starts at the word `set`: one more than the weight to go, 0 for no label; the steps to go; the order.

abbrev pub weight_word : ℕ → ℕ → List ℕ → ℕ → ℕ
weight_word n set words c = pair_of words (set + c) (set + n * weight_high + c)

unfoldable pub known_of : ℕ → ℕ → List ℕ → ℕ → Bool
known_of n set words c = ltb c n && not (eqb (weight_word n set words c) 0)

abbrev pub weight_of : ℕ → ℕ → List ℕ → ℕ → ℕ
weight_of n set words c = weight_word n set words c - 1

abbrev pub steps_of : ℕ → ℕ → List ℕ → ℕ → ℕ
steps_of n set words c = pair_of words (set + n * steps_low + c) (set + n * steps_high + c)

abbrev pub labels_of : ℕ → ℕ → List ℕ → Labels
labels_of n set words = record { known = known_of n set words; weight = weight_of n set words; steps = steps_of n set words }

abbrev pub order_of : ℕ → ℕ → List ℕ → ℕ → ℕ
order_of n set words i = get_or words (set + n * order_in + i) 0

-- the label of a cell is not after weight k and s steps, or is after them

abbrev pub LabelBy : ℕ → ℕ → List ℕ → ℕ → ℕ → ℕ → Type 0
LabelBy n set words k s c = NotAfter (weight_of n set words c) (steps_of n set words c) k s

abbrev pub LabelAfter : ℕ → ℕ → List ℕ → ℕ → ℕ → ℕ → Type 0
LabelAfter n set words k s c = NotAfter k (suc s) (weight_of n set words c) (steps_of n set words c)

-- r says which
pub record Compared (n set : ℕ) (words : List ℕ) (k s c : ℕ) (r : Bool) : Type 0 where
  pub after : r ≡ true → LabelAfter n set words k s c
  pub by : r ≡ false → LabelBy n set words k s c

abbrev pub no_labels : Labels
no_labels = record { known = λ c. false; weight = λ c. 0; steps = λ c. 0 }

-- the labels by code: those of registers, with the source's, and those of so many FIFOs; with one clock there are none of these
unfoldable pub labels_for : ℕ → ℕ → List ℕ → ℕ → Labels
labels_for n exits words code =
    cond {A = Labels} (eqb code register_code) (labels_of n (n * labels_at) words)
    (cond {A = Labels} (eqb code fifo_code && ltb 0 exits) (labels_of n (n * exits_at) words) no_labels)

-- the set lies in the words
pub record SetIn (n set : ℕ) (words : List ℕ) : Type 0 where
  pub small : n ≤ 1024
  -- 1,024 cells of 512 words
  pub low : set ≤ 524288
  pub room : set + n * label_words ≤ length words

-- it holds no word of the table, the lists and the flags
pub record Apart (n set : ℕ) : Type 0 where
  pub past : n * row_words ≤ set
  pub beside : (set + n * label_words ≤ n * active_at) ⊎ (n * trail_at ≤ set)

-- two sets in the words that share none of them
pub record CopyAsks (n from to : ℕ) (words : List ℕ) : Type 0 where
  pub source : SetIn n from words
  pub target : SetIn n to words
  pub apart : (from + n * label_words ≤ to) ⊎ (to + n * label_words ≤ from)

-- After `put_pair`: the two words hold the number, and the others stay.
pub record PairSet (low high number : ℕ) (old new : List ℕ) : Type 0 where
  pub same : length new ≡ length old
  pub holds : pair_of new low high ≡ number
  pub others : (k : ℕ) → (k ≡ low → ⊥) → (k ≡ high → ⊥) → get_or new k 0 ≡ get_or old k 0

-- 1 for a test that passes, 0 for one that fails
abbrev pub one : Bool → ℕ
one b = cond b 1 0

-- The order holds each labelled cell once, and no other, ascending by weight and then steps.
pub record Ordered (n set : ℕ) (words : List ℕ) (count : ℕ) : Type 0 where
  pub cells : (i : ℕ) → i < count → order_of n set words i < n
  pub known : (i : ℕ) → i < count → T (known_of n set words (order_of n set words i))
  pub covered : (c : ℕ) → T (known_of n set words c) → ListedAt n words (set + n * order_in) count c
  pub counted : count ≡ sum_below n (λ c. one (known_of n set words c))
  pub ascending :
      (i j : ℕ) → i ≤ j → j < count →
      NotAfter (weight_of n set words (order_of n set words i)) (steps_of n set words (order_of n set words i)) (weight_of n set words (order_of n set words j)) (steps_of n set words (order_of n set words j))

-- the cell's label is the same
pub record SameLabel (n set : ℕ) (old new : List ℕ) (c : ℕ) : Type 0 where
  pub known : known_of n set new c ≡ known_of n set old c
  pub weight : weight_of n set new c ≡ weight_of n set old c
  pub steps : steps_of n set new c ≡ steps_of n set old c

-- Before `label`: the cell has no label, and no label is after the new one.
pub record Labelable (n set cell weight steps count : ℕ) (words : List ℕ) : Type 0 where
  pub ordered : Ordered n set words count
  pub in_plan : cell < n
  pub unlabelled : known_of n set words cell ≡ false
  pub last : (c : ℕ) → T (known_of n set words c) → LabelBy n set words weight steps c
  pub few : weight < 4294967295
  pub set_in : SetIn n set words

-- After `label`: the cell has this label and is the last of the order; the other labels, the order before it, and the words outside of both stay.
pub record LabelAdded (n set cell weight steps count : ℕ) (old new : List ℕ) : Type 0 where
  pub same : length new ≡ length old
  pub ordered : Ordered n set new (count + 1)
  pub earlier : (i : ℕ) → i < count → order_of n set new i ≡ order_of n set old i
  pub last : order_of n set new count ≡ cell
  pub known : T (known_of n set new cell)
  pub weight_set : weight_of n set new cell ≡ weight
  pub steps_set : steps_of n set new cell ≡ steps
  pub others : (c : ℕ) → c < n → (c ≡ cell → ⊥) → SameLabel n set old new c
  pub low : (k : ℕ) → k < set → get_or new k 0 ≡ get_or old k 0
  pub high : (k : ℕ) → set + n * label_words ≤ k → get_or new k 0 ≡ get_or old k 0

-- the word marks a seed for gates of this code, and for the other code as before
pub record MarkedWith (word code r : ℕ) : Type 0 where
  pub has : T (marks_seed r code)
  pub others : (a : ℕ) → T (is_closing a) → (a ≡ code → ⊥) → marks_seed r a ≡ marks_seed word a

-- the other one of the two codes that close a span
abbrev pub other_code : ℕ → ℕ
other_code code = register_code + fifo_code - code

-- The cell is listed, or the code is idle and the cell a seed of this other one.
abbrev pub ListedOr : ℕ → Bool → List ℕ → List ℕ → ℕ → ℕ → Type 0
ListedOr n idle new seen other c = (flag_of n new c ≡ 1) ⊎ (T idle × T (seed_of n seen other c))

-- After `plant`: the cell is a seed for gates of this code, and listed, or the code is idle and the cell was a seed of the other; the flags of other cells, and all words but those of the active list and the flags, stay.
pub record Planted (n cell code : ℕ) (idle : Bool) (old new : List ℕ) (active : ℕ) : Type 0 where
  pub same : length new ≡ length old
  pub listed : Listed n new (n * active_at) active
  pub now_listed : ListedOr n idle new old (other_code code) cell
  pub flag_stays : flag_of n old cell ≡ 1 → flag_of n new cell ≡ 1
  pub now_seed : T (seed_of n new code cell)
  pub others : (c : ℕ) → c < n → (c ≡ cell → ⊥) → flag_of n new c ≡ flag_of n old c
  pub other_seeds : (c : ℕ) → c < n → (c ≡ cell → ⊥) → (a : ℕ) → seed_of n new a c ≡ seed_of n old a c
  pub other_codes : (a : ℕ) → T (is_closing a) → (a ≡ code → ⊥) → (c : ℕ) → c < n → seed_of n new a c ≡ seed_of n old a c
  pub low : (k : ℕ) → k < n * active_at → get_or new k 0 ≡ get_or old k 0
  pub middle : (k : ℕ) → n * next_at ≤ k → k < n * listed_at → get_or new k 0 ≡ get_or old k 0
  pub high : (k : ℕ) → n * trail_at ≤ k → get_or new k 0 ≡ get_or old k 0

-- Before `arrive`: the places of the order from `at` up to `count` have labelled cells; the set holds none of the lists and flags.
pub record ArriveAsks (n set code at count active : ℕ) (words : List ℕ) : Type 0 where
  pub listed : Listed n words (n * active_at) active
  pub start : at ≤ count
  pub short : count ≤ n
  pub known : (i : ℕ) → i < count → T (known_of n set words (order_of n set words i))
  pub set_in : SetIn n set words
  pub room : n * trail_at ≤ length words
  pub apart : Apart n set
  pub closes : T (is_closing code)

-- The labels of the order from `from` up to `to`, none after weight k and s steps, have become seeds; `active` cells are listed.
pub record Arrived (n set code : ℕ) (idle : Bool) (from to k s : ℕ) (old new : List ℕ) (active : ℕ) : Type 0 where
  pub same : length new ≡ length old
  pub forth : from ≤ to
  pub in_time : (i : ℕ) → from ≤ i → i < to → LabelBy n set old k s (order_of n set old i)
  pub listed : Listed n new (n * active_at) active
  pub seeds : (i : ℕ) → from ≤ i → i < to → T (seed_of n new code (order_of n set old i))
  pub seeds_stay : (c : ℕ) → c < n → T (seed_of n old code c) → T (seed_of n new code c)
  pub other_seeds : (c : ℕ) → c < n → ((i : ℕ) → from ≤ i → i < to → order_of n set old i ≡ c → ⊥) → seed_of n new code c ≡ seed_of n old code c
  pub other_codes : (a : ℕ) → T (is_closing a) → (a ≡ code → ⊥) → (c : ℕ) → c < n → seed_of n new a c ≡ seed_of n old a c
  pub now_listed : (i : ℕ) → from ≤ i → i < to → ListedOr n idle new old (other_code code) (order_of n set old i)
  pub flags_stay : (c : ℕ) → c < n → flag_of n old c ≡ 1 → flag_of n new c ≡ 1
  pub other_flags : (c : ℕ) → c < n → ((i : ℕ) → from ≤ i → i < to → order_of n set old i ≡ c → ⊥) → flag_of n new c ≡ flag_of n old c
  pub low : (k : ℕ) → k < n * active_at → get_or new k 0 ≡ get_or old k 0
  pub middle : (k : ℕ) → n * next_at ≤ k → k < n * listed_at → get_or new k 0 ≡ get_or old k 0
  pub high : (k : ℕ) → n * trail_at ≤ k → get_or new k 0 ≡ get_or old k 0

-- After `arrive`: it went up to `to`, the end of the order or the first label that is after them.
pub record ArrivedAll (n set code : ℕ) (idle : Bool) (from count k s : ℕ) (old new : List ℕ) (to active : ℕ) : Type 0 where
  pub within : to ≤ count
  pub late : to < count → LabelAfter n set old k s (order_of n set old to)
  pub arrived : Arrived n set code idle from to k s old new active
