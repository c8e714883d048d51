-- The writer that carries its buffer, and a line of 01's listing: 'Lines have widths 4, six of 8, and 21, right-justified'
use Rattle.std.specs.Prelude.{ℕ, true, false, cond, List, [], ◌∷◌, ◌++◌, Result, Ok, Err}
use denote.Ref.{MutBor, at_last}
use Rattle.column_lines.specs.Form.{newline}
use Rattle.column_lines.specs.Numeral.{numeral}
use Rattle.line_writer.specs.declared.place.Refused.{Refused}
use Rattle.line_writer.specs.declared.writer.Writer.{Writer}
use Rattle.line_writer.specs.declared.writer.Fields.{Fields}
use Rattle.line_writer.specs.Placed.{Placed, placed, number_at, byte_at}

-- what a writer holds; `at_last x l` is the borrow x, its pointer and its ghost name with it, at the list l
abbrev pub held : Writer → Placed
held w = placed w.place w.buffer.now

-- the place where the next byte goes, if all so far fits
abbrev pub place_of : Placed → Result ℕ Refused
place_of m = cond m.fits (Ok m.offset) (Err (record { offset = m.offset }))

abbrev pub onto : Writer → Placed → Writer
onto w m = record { buffer = at_last w.buffer m.bytes; place = place_of m }

abbrev pub begun : MutBor (List ℕ) → ℕ → Writer
begun buffer offset = record { buffer = buffer; place = Ok offset }

abbrev pub start_at : ℕ → List ℕ → Placed
start_at offset bytes = record { offset = offset; fits = true; bytes = bytes }

-- the line's form
abbrev pub section_width : ℕ
section_width = 4

abbrev pub field_width : ℕ
field_width = 8

abbrev pub last_width : ℕ
last_width = 21

abbrev pub field_at : ℕ → Placed → Placed
field_at word m = number_at field_width false word m

-- `write_line`: the eight numbers of a line and its newline, one after the other
unfoldable pub line_at : Fields → Placed → Placed
line_at l m =
    byte_at newline (number_at last_width l.signed l.last (field_at l.sixth (field_at l.fifth (field_at l.fourth (field_at l.third
    (field_at l.second (field_at l.first (number_at section_width false l.section m))))))))

-- a line's bytes: 4, six of 8, 21 and the newline
abbrev pub line_size : ℕ
line_size = 74

-- a line's bytes behind others, one field after the other
abbrev pub field_behind : List ℕ → ℕ → List ℕ
field_behind before word = before ++ numeral field_width false word

abbrev pub six_behind : List ℕ → Fields → List ℕ
six_behind before l =
    field_behind (field_behind (field_behind (field_behind (field_behind (field_behind before l.first) l.second) l.third) l.fourth) l.fifth) l.sixth

abbrev pub line_behind : List ℕ → Fields → List ℕ
line_behind before l =
    (six_behind (before ++ numeral section_width false l.section) l ++ numeral last_width l.signed l.last) ++ (newline ∷ [])
