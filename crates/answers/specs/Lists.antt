-- What is read of a lent list of buffers: its length and its first six records.
use Rattle.std.specs.Prelude.{List, [], ◌∷◌, length, get_or}
use Rattle.answers.specs.declared.records.BufferRecord.{BufferRecord}
use Rattle.answers.specs.declared.records.BufferList.{BufferList}

-- stands past the end of a list
abbrev pub no_buffer : BufferRecord
no_buffer = record { resistance = 0; delay = 0; load = 0 }

unfoldable pub list_of : List BufferRecord → BufferList
list_of ys =
    record {
      n = length ys;
      items = get_or ys 0 no_buffer ∷ get_or ys 1 no_buffer ∷ get_or ys 2 no_buffer ∷ get_or ys 3 no_buffer ∷ get_or ys 4 no_buffer ∷ get_or ys 5 no_buffer ∷ [];
    }
