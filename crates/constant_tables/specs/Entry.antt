-- An entry of a constant table, its line and its local definition (02, 2026-02)
use Rattle.std.specs.Prelude.{ℕ, ◌+◌, ◌*◌, Bool, false, cond, ◌&&◌, ◌||◌, List, [], ◌∷◌, ◌++◌, length, get_or, eqb, leb}
use Rattle.words.specs.Record.{most_text}
use Rattle.column_lines.specs.Form.{newline}
use Rattle.column_lines.specs.Numeral.{numeral, read_numeral}
use Rattle.column_lines.specs.Line.{field_in}
use Rattle.constant_tables.specs.Form.{text_width, table_kind_width, table_value_width, table_kind_place, table_value_place, table_newline_place}
use Rattle.constant_tables.specs.Form.{table_line_length}
use Rattle.constant_tables.specs.Form.{table_integer, table_float, document_kind, local_definition_kind, integer_kind, float_kind, name_kind}
use Rattle.std.specs.Prelude.{Option, Some, None}
pub use Rattle.constant_tables.specs.declared.line.Entry.{Entry}

-- 'text number .., kind .. (2 integer, 3 float), value': the value is its 64 bits, of an integer in two's complement
abbrev pub entry : ℕ → ℕ → ℕ → Entry
entry text kind value = record { text = text; kind = kind; value = value }

-- 01: 'texts, file names included, are numbers 1 to 1,048,575'
unfoldable pub is_text : ℕ → Bool
is_text n = leb 1 n && leb n most_text

unfoldable pub is_table_kind : ℕ → Bool
is_table_kind kind = eqb kind table_integer || eqb kind table_float

-- 'integers signed and floats as bits'
abbrev pub integer_is : Option ℕ → Bool
integer_is (Some kind) = eqb kind table_integer
integer_is None = false

-- 'a line off this form, a text out of range too'
unfoldable pub constant_in : Option ℕ → Option ℕ → Option ℕ → Option Entry
constant_in (Some text) (Some kind) (Some value) = cond (is_text text) (cond (is_table_kind kind) (Some (entry text kind value)) None) None
constant_in (Some text) (Some kind) None = None
constant_in (Some text) None value = None
constant_in None kind value = None

-- the columns of a line, read
abbrev pub text_in : List ℕ → Option ℕ
text_in l = read_numeral false (field_in 0 text_width l)

abbrev pub table_kind_in : List ℕ → Option ℕ
table_kind_in l = read_numeral false (field_in table_kind_place table_kind_width l)

abbrev pub table_value_in : List ℕ → Option ℕ
table_value_in l = read_numeral (integer_is (table_kind_in l)) (field_in table_value_place table_value_width l)

-- a line of its length, with its newline
abbrev pub whole_table_line : List ℕ → Bool
whole_table_line l = eqb (length l) table_line_length && eqb (get_or l table_newline_place 0) newline

-- `read_entry`
unfoldable pub read_entry : List ℕ → Option Entry
read_entry l = cond (whole_table_line l) (constant_in (text_in l) (table_kind_in l) (table_value_in l)) None

-- an entry's line
unfoldable pub entry_line : Entry → List ℕ
entry_line e =
    numeral text_width false e.text ++ (numeral table_kind_width false e.kind
    ++ (numeral table_value_width (eqb e.kind table_integer) e.value ++ (newline ∷ [])))

-- the bytes of a table
unfoldable pub table_bytes : List Entry → List ℕ
table_bytes [] = []
table_bytes (e ∷ es) = entry_line e ++ table_bytes es

-- 2 integer is kind 33 of a record, 3 float kind 34
unfoldable pub record_kind : ℕ → ℕ
record_kind kind = cond (eqb kind table_integer) integer_kind float_kind

unfoldable pub table_kind : ℕ → ℕ
table_kind kind = cond (eqb kind integer_kind) table_integer table_float

-- 'a local definition per line, all positions 0': the definition, its name, its value
abbrev pub definition_of : Entry → List ℕ
definition_of e =
    local_definition_kind ∷ 3 ∷ 0 ∷ 0 ∷
    name_kind ∷ 1 ∷ 0 ∷ e.text ∷
    record_kind e.kind ∷ 1 ∷ 0 ∷ e.value ∷ []

unfoldable pub definitions_of : List Entry → List ℕ
definitions_of [] = []
definitions_of (e ∷ es) = definition_of e ++ definitions_of es

-- 'such a table into one document record with a local definition per line'
abbrev pub table_records : ℕ → List Entry → List ℕ
table_records file es = document_kind ∷ (length es * 3 + 1) ∷ 0 ∷ file ∷ definitions_of es
