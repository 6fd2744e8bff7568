-- Where each region of the scratch words (document 01: the bench) starts, in words a cell: in a plan of n cells, at n times its number.
-- From 0 on stand the budget rows, one a cell.
use Rattle.std.specs.Prelude.{ℕ}

-- the arrival row
abbrev pub arrival_at : ℕ
arrival_at = 64

-- the labels of registers, with the source's: a set of labels, `label_words` words a cell
abbrev pub labels_at : ℕ
labels_at = 128

-- in a set of labels: weight to go plus one, 0 for no label, the low 16 bits
abbrev pub weight_low : ℕ
weight_low = 0

-- in a set of labels: weight to go plus one, the high 16 bits
abbrev pub weight_high : ℕ
weight_high = 1

-- in a set of labels: steps to go, the low 16 bits
abbrev pub steps_low : ℕ
steps_low = 2

-- in a set of labels: steps to go, the high 16 bits
abbrev pub steps_high : ℕ
steps_high = 3

-- in a set of labels: the labelled cells in the order of their labels
abbrev pub order_in : ℕ
order_in = 4

-- words a cell of a set of labels
abbrev pub label_words : ℕ
label_words = 5

-- the active list
abbrev pub active_at : ℕ
active_at = 133

-- the next list
abbrev pub next_at : ℕ
next_at = 134

-- a flag a cell: 1 if it is listed
abbrev pub listed_at : ℕ
listed_at = 135

-- a mark a cell: the sum of the codes with which a span may close there, 7 at a register or at the source, 8 at a FIFO
abbrev pub seeds_at : ℕ
seeds_at = 136

-- the undo trail's far stretch; its near one follows the arrival row
abbrev pub trail_at : ℕ
trail_at = 137

-- all words of a cell, with one clock
abbrev pub cell_words : ℕ
cell_words = 256

-- with two clocks: the labels of FIFOs, a set of labels as that of registers
abbrev pub exits_at : ℕ
exits_at = 256

-- with two clocks: the labels of registers on the source's side, laid aside while the sink's side is searched
abbrev pub aside_at : ℕ
aside_at = 261

-- all words of a cell, with two clocks
abbrev pub crossing_words : ℕ
crossing_words = 512

-- words a cell of the far stretch: from `trail_at` to `cell_words`
abbrev pub far_words : ℕ
far_words = 119

-- words a cell of the near stretch, with the arrival row: from `arrival_at` to `labels_at`
abbrev pub near_words : ℕ
near_words = 64

-- words of a slot of the trail: a row, its cell, its layer in two words
abbrev pub slot_words : ℕ
slot_words = 67

-- in a slot: the cell
abbrev pub slot_cell : ℕ
slot_cell = 64

-- in a slot: the layer, the low 16 bits
abbrev pub slot_low : ℕ
slot_low = 65

-- in a slot: the layer, the high 16 bits
abbrev pub slot_high : ℕ
slot_high = 66

-- While the first period is sought the words hold other things. From 0 on stand the rows of the least delays, one a cell.

-- the states that wait
abbrev pub queue_at : ℕ
queue_at = 64

-- where each state waits
abbrev pub places_at : ℕ
places_at = 128

-- the least delay with which a span closes at each cell
abbrev pub closes_at : ℕ
closes_at = 192

-- a word that only says when it is worth looking for the next close
abbrev pub hint_at : ℕ
hint_at = 193
