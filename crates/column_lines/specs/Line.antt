-- A line of a column file and the record that it spells (01, 'Column file')
use Rattle.std.specs.Prelude.{ℕ, ◌≡◌, Bool, false, cond, ◌&&◌, List, [], ◌∷◌, ◌++◌, length, take, drop, get_or, eqb}
use Rattle.words.specs.Record.{pack_position, line_of, column_of}
use Rattle.column_lines.specs.Form.{kind_width, span_width, line_width, column_width, value_width, span_place, line_place, column_place, value_place}
use Rattle.column_lines.specs.Form.{newline_place, line_length, newline, signed_kind}
use Rattle.column_lines.specs.Numeral.{numeral, read_numeral}
use Rattle.std.specs.Prelude.{Option, Some, None}
use Rattle.words.specs.declared.node.Record.{Record}

-- a field of a line
abbrev pub field_in : ℕ → ℕ → List ℕ → List ℕ
field_in place width l = take width (drop place l)

-- whether the value of a kind is signed
abbrev pub signed_is : Option ℕ → Bool
signed_is (Some kind) = eqb kind signed_kind
signed_is None = false

-- a position, whatever its line and column are: one above the limit is row 3, not row 1 (2026-06: 'row 3 for a position above the new limit, in a column
-- file too'). Nothing is lost, for a number of nine digits is below 2^32
unfoldable pub position_in : Option ℕ → Option ℕ → Option ℕ
position_in (Some line) (Some column) = Some (pack_position line column)
position_in (Some line) None = None
position_in None column = None

-- a record by its words
abbrev pub record_of : ℕ → ℕ → ℕ → ℕ → Record
record_of kind span position value = record { kind = kind; span = span; position = position; value = value }

-- a record, where every field is a number
unfoldable pub record_in : Option ℕ → Option ℕ → Option ℕ → Option ℕ → Option Record
record_in (Some kind) (Some span) (Some position) (Some value) = Some (record_of kind span position value)
record_in (Some kind) (Some span) (Some position) None = None
record_in (Some kind) (Some span) None value = None
record_in (Some kind) None position value = None
record_in None span position value = None

-- the fields of a line, read
abbrev pub kind_in : List ℕ → Option ℕ
kind_in l = read_numeral false (field_in 0 kind_width l)

abbrev pub span_in : List ℕ → Option ℕ
span_in l = read_numeral false (field_in span_place span_width l)

abbrev pub place_in : List ℕ → Option ℕ
place_in l = position_in (read_numeral false (field_in line_place line_width l)) (read_numeral false (field_in column_place column_width l))

abbrev pub value_in : List ℕ → Option ℕ
value_in l = read_numeral (signed_is (kind_in l)) (field_in value_place value_width l)

-- a line of its length, with its newline
abbrev pub whole_line : List ℕ → Bool
whole_line l = eqb (length l) line_length && eqb (get_or l newline_place 0) newline

-- `read_line`
unfoldable pub read_line : List ℕ → Option Record
read_line l = cond (whole_line l) (record_in (kind_in l) (span_in l) (place_in l) (value_in l)) None

-- a record's line
unfoldable pub record_line : ℕ → ℕ → ℕ → ℕ → List ℕ
record_line kind span position value =
    numeral kind_width false kind ++ (numeral span_width false span ++ (numeral line_width false (line_of position)
    ++ (numeral column_width false (column_of position) ++ (numeral value_width (eqb kind signed_kind) value ++ (newline ∷ [])))))

-- what writing a record's line leaves: nothing is written unless there are as many bytes as a line has
pub record LineWrote (kind span position value : ℕ) (before after : List ℕ) (r : Bool) : Type 0 where
  pub bytes : after ≡ cond (eqb (length before) line_length) (record_line kind span position value) before
  pub done : r ≡ eqb (length before) line_length
