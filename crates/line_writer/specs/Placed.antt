-- What numbers and bytes at an offset make of a buffer. What does not fit is refused, and all after it
use Rattle.std.specs.Prelude.{ℕ, ◌+◌, Bool, true, false, cond, ◌&&◌, List, ◌++◌, length, take, drop, set, leb, Result, Ok, Err}
use Rattle.column_lines.specs.Numeral.{numeral, numeral_fits}
use Rattle.line_writer.specs.declared.place.Refused.{Refused}

-- where the next byte goes, whether all so far fits, and the buffer
pub record Placed : Type 0 where
  pub offset : ℕ
  pub fits : Bool
  pub bytes : List ℕ

abbrev pub placed : Result ℕ Refused → List ℕ → Placed
placed (Ok at) bs = record { offset = at; fits = true; bytes = bs }
placed (Err r) bs = record { offset = r.offset; fits = false; bytes = bs }

abbrev pub has_room : ℕ → Placed → Bool
has_room n m = m.fits && leb (m.offset + n) (length m.bytes)

abbrev pub refused : Placed → Placed
refused m = record { offset = m.offset; fits = false; bytes = m.bytes }

-- a number, right-justified in a width
abbrev pub number_put : ℕ → Bool → ℕ → Placed → Placed
number_put width signed word m =
    record {
      offset = m.offset + width;
      fits = numeral_fits width signed word;
      bytes = take m.offset m.bytes ++ (numeral width signed word ++ drop (m.offset + width) m.bytes);
    }

unfoldable pub number_at : ℕ → Bool → ℕ → Placed → Placed
number_at width signed word m = cond (has_room width m) (number_put width signed word m) (refused m)

-- one byte
abbrev pub byte_put : ℕ → Placed → Placed
byte_put b m = record { offset = m.offset + 1; fits = true; bytes = set m.bytes m.offset b }

unfoldable pub byte_at : ℕ → Placed → Placed
byte_at b m = cond (has_room 1 m) (byte_put b m) (refused m)
