-- The form of a line of a constant table (02, 2026-02: 'lines of three right-justified columns: text number in 8, kind in 4 (2 integer, 3 float), value in
-- 21'), and the kinds of the records of its document
use Rattle.std.specs.Prelude.{ℕ, ◌+◌}

abbrev pub text_width : ℕ
text_width = 8

abbrev pub table_kind_width : ℕ
table_kind_width = 4

abbrev pub table_value_width : ℕ
table_value_width = 21

abbrev pub table_kind_place : ℕ
table_kind_place = text_width

abbrev pub table_value_place : ℕ
table_value_place = table_kind_place + table_kind_width

abbrev pub table_newline_place : ℕ
table_newline_place = table_value_place + table_value_width

abbrev pub table_line_length : ℕ
table_line_length = table_newline_place + 1

-- the kinds of a table
abbrev pub table_integer : ℕ
table_integer = 2

abbrev pub table_float : ℕ
table_float = 3

-- the kinds of records (01, 'The tree')
abbrev pub document_kind : ℕ
document_kind = 1

abbrev pub local_definition_kind : ℕ
local_definition_kind = 10

abbrev pub integer_kind : ℕ
integer_kind = 33

abbrev pub float_kind : ℕ
float_kind = 34

abbrev pub name_kind : ℕ
name_kind = 40
