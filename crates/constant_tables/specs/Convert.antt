-- What the two ways answer (02, 2026-02), in 01's order of rows. A refusal has its number and place, total 0, file number 0, and an output of zeros; a
-- success has how much was written, and zeros after it
use Rattle.std.specs.Prelude.{Result, Ok, Err}
use Rattle.words.specs.Areas.{cleared_from}
use Rattle.words.specs.Row.{row_number}
use Rattle.words.specs.declared.row.Row.TheVariants.{BadLine, BadLength, BadShape, NotATable}
use Rattle.words.specs.declared.row.Refused.{Refused}
use Rattle.std.specs.Prelude.{ℕ, ◌+◌, ◌-◌, ◌*◌, ◌≤◌, ◌≡◌, cond, List, ◌++◌, length, replicate, leb, ltb}
use Rattle.words.specs.Record.{value_at, most_records}
use Rattle.tree.specs.Check.{shape_of, records_of, refused}
use Rattle.column_files.specs.Convert.{Conversion, answer_by}
use Rattle.constant_tables.specs.Entry.{is_text, table_bytes, table_records}
use Rattle.constant_tables.specs.Table.{line_count, first_off, entries_of, not_table, definition_count, entries_in}
use Rattle.constant_tables.specs.declared.Tabled.{Tabled}

-- 'row 1 for a line off this form ..; row 2 past its limit; row 3, place 0, for a file number that is no text'
unfoldable pub table_rows : List ℕ → ℕ → Result (Unit {0}) Refused
table_rows table file =
    cond (ltb (first_off table) (line_count table)) (refused BadLine (first_off table + 1))
    (cond (ltb most_records (line_count table * 3 + 1)) (refused BadLength 0) (cond (is_text file) (Ok tt) (refused BadShape 0)))

-- a table and a file number to the words of its document; 'short output is answered as in 01'
unfoldable pub table_to_records : List ℕ → ℕ → ℕ → Conversion
table_to_records table file room = answer_by (table_rows table file) (table_records file (entries_of table)) (line_count table * 3 + 1) room

-- 'backward rows 2 to 4, then 10'
unfoldable pub row_ten : Result (Unit {0}) Refused → List ℕ → Result (Unit {0}) Refused
row_ten (Err found) w = Err found
row_ten (Ok fine) w = cond (ltb (not_table w) (records_of w)) (refused NotATable (not_table w)) (Ok tt)

abbrev pub document_rows : List ℕ → Result (Unit {0}) Refused
document_rows w = row_ten (shape_of w) w

pub record TableConversion : Type 0 where
  pub reply : Tabled
  pub output : List ℕ

-- 'with its file number beside them (0 in a refusal)'
abbrev pub no_table : ℕ → ℕ → Tabled
no_table number place = record { number = number; place = place; total = 0; file = 0 }

abbrev pub tabled : ℕ → ℕ → Tabled
tabled total file = record { number = 0; place = 0; total = total; file = file }

abbrev pub refuse_table : ℕ → ℕ → ℕ → TableConversion
refuse_table number place room = record { reply = no_table number place; output = replicate room 0 }

unfoldable pub table_by : Result (Unit {0}) Refused → List ℕ → ℕ → ℕ → ℕ → TableConversion
table_by (Err found) out total file room = refuse_table (row_number found.row) found.place room
table_by (Ok fine) out total file room =
    cond (leb (length out) room) (record { reply = tabled total file; output = out ++ replicate (room - length out) 0 }) (refuse_table 9 0 room)

-- 'and such a document back into the same lines'
unfoldable pub records_to_table : List ℕ → ℕ → TableConversion
records_to_table w room = table_by (document_rows w) (table_bytes (entries_in w)) (definition_count w) (value_at w 0) room

-- the contract of the way back: its reply and every lent byte
pub record Tables (c : TableConversion) (after : List ℕ) (r : Tabled) : Type 0 where
  pub reply : r ≡ c.reply
  pub output : after ≡ c.output

-- what stands in an output before zeros are written after it: so many lines of a table with its file number, or a refusal
abbrev pub TableStands : ℕ → TableConversion → List ℕ → Result ℕ Refused → Type 0
TableStands file c out (Ok total) = (total * 34 ≤ length out) × (c ≡ record { reply = tabled total file; output = cleared_from (total * 34) out })
TableStands file c out (Err found) = c ≡ refuse_table (row_number found.row) found.place (length out)
