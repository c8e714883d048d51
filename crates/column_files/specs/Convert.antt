-- What the two converters answer (01, 'Replies of the compiler'): rows 1 to 4, in order, then 9, place 0, for an output that is too short. A refusal
-- has its number and place, total 0, and an output of zeros; a success has number and place 0, how many records were converted, and zeros after them
use Rattle.std.specs.Prelude.{ℕ, ◌-◌, ◌*◌, ◌/◌, ◌≤◌, ◌≡◌, cond, List, ◌++◌, length, replicate, eqb, leb, Result, Ok, Err}
use Rattle.words.specs.Areas.{cleared_from}
use Rattle.words.specs.Row.{row_number}
use Rattle.words.specs.declared.row.Refused.{Refused}
use Rattle.tree.specs.Check.{shape_of}
use Rattle.column_files.specs.declared.Converted.{Converted}
use Rattle.column_files.specs.Files.{lines_in, words_of, first_bad, columns_of}

pub record Conversion : Type 0 where
  pub reply : Converted
  pub output : List ℕ

abbrev pub refusal : ℕ → ℕ → Converted
refusal number place = record { number = number; place = place; total = 0 }

abbrev pub success : ℕ → Converted
success total = record { number = 0; place = 0; total = total }

abbrev pub refuse : ℕ → ℕ → ℕ → Conversion
refuse number place room = record { reply = refusal number place; output = replicate room 0 }

-- the reply to how many records were converted, or to a refusal
abbrev pub reply_of : Result ℕ Refused → Converted
reply_of (Ok total) = success total
reply_of (Err found) = refusal (row_number found.row) found.place

-- the reply to an output that is too short
unfoldable pub short_reply : Result (Unit {0}) Refused → Converted
short_reply (Err found) = refusal (row_number found.row) found.place
short_reply (Ok fine) = refusal 9 0

-- after row 1: rows 2 to 4, then 9, else the output with zeros after it
unfoldable pub answer_by : Result (Unit {0}) Refused → List ℕ → ℕ → ℕ → Conversion
answer_by (Err found) out total room = refuse (row_number found.row) found.place room
answer_by (Ok fine) out total room =
    cond (leb (length out) room) (record { reply = success total; output = out ++ replicate (room - length out) 0 }) (refuse 9 0 room)

unfoldable pub columns_to_records : List ℕ → ℕ → Conversion
columns_to_records file room =
    cond (eqb (first_bad file) 0) (answer_by (shape_of (words_of file)) (words_of file) (lines_in file) room) (refuse 1 (first_bad file) room)

unfoldable pub records_to_columns : List ℕ → ℕ → Conversion
records_to_columns words room = answer_by (shape_of words) (columns_of words) (length words / 4) room

-- the contract of a converter: its reply and every lent word
pub record Converts (c : Conversion) (after : List ℕ) (r : Converted) : Type 0 where
  pub reply : r ≡ c.reply
  pub output : after ≡ c.output

-- what stands in an output before zeros are written after it: so many records of a width, or a refusal
abbrev pub Stands : ℕ → Conversion → List ℕ → Result ℕ Refused → Type 0
Stands width c out (Ok total) = (total * width ≤ length out) × (c ≡ record { reply = success total; output = cleared_from (total * width) out })
Stands width c out (Err found) = c ≡ refuse (row_number found.row) found.place (length out)

-- how much of it stands
abbrev pub kept_of : ℕ → Result ℕ Refused → ℕ
kept_of width (Ok total) = total * width
kept_of width (Err found) = 0
