-- The records that a job's numbers make: the order of the tables' fields, and of a buffer's.
use Rattle.std.specs.Prelude.{ℕ, ◌+◌, ◌*◌, List, [], ◌∷◌, get_or}
use Rattle.answers.specs.declared.records.BufferRecord.{BufferRecord}
use Rattle.answers.specs.declared.records.BufferList.{BufferList}
use Rattle.answers.specs.declared.records.Tables.{Tables}

-- register R K C setup, horizontal R C, vertical R C, T, skew (document 02, C-16: "directly after T"), L
unfoldable pub tables_of : List ℕ → Tables
tables_of vs =
    record {
      register = record { resistance = get_or vs 0 0; delay = get_or vs 1 0; load = get_or vs 2 0; setup = get_or vs 3 0 };
      horizontal = record { resistance = get_or vs 4 0; load = get_or vs 5 0 };
      vertical = record { resistance = get_or vs 6 0; load = get_or vs 7 0 };
      period = get_or vs 8 0;
      skew = get_or vs 9 0;
      limit = get_or vs 10 0;
    }

-- how many numbers the tables have
abbrev pub table_numbers : ℕ
table_numbers = 11

-- the buffer at index i: R K C; zeros past the end
unfoldable pub buffer_record_at : List ℕ → ℕ → BufferRecord
buffer_record_at vs i = record { resistance = get_or vs (3 * i) 0; delay = get_or vs (3 * i + 1) 0; load = get_or vs (3 * i + 2) 0 }

unfoldable pub buffer_list_of : ℕ → List ℕ → BufferList
buffer_list_of n vs =
    record {
      n = n;
      items = buffer_record_at vs 0 ∷ buffer_record_at vs 1 ∷ buffer_record_at vs 2 ∷ buffer_record_at vs 3 ∷ buffer_record_at vs 4 ∷ buffer_record_at vs 5 ∷ [];
    }
