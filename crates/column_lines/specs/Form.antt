-- The form of a line of a column file (01, 'Column file'; 2026-06: 'In the column file both fields widen from 6 to 9'), in one place: the order and the
-- widths of its fields, and so their places
use Rattle.std.specs.Prelude.{ℕ, ◌+◌}

abbrev pub kind_width : ℕ
kind_width = 4

abbrev pub span_width : ℕ
span_width = 8

abbrev pub line_width : ℕ
line_width = 9

abbrev pub column_width : ℕ
column_width = 9

abbrev pub value_width : ℕ
value_width = 21

abbrev pub span_place : ℕ
span_place = kind_width

abbrev pub line_place : ℕ
line_place = span_place + span_width

abbrev pub column_place : ℕ
column_place = line_place + line_width

abbrev pub value_place : ℕ
value_place = column_place + column_width

abbrev pub newline_place : ℕ
newline_place = value_place + value_width

abbrev pub line_length : ℕ
line_length = newline_place + 1

abbrev pub newline : ℕ
newline = 10

-- 'Integers of kind 33 are signed ..; other values are unsigned'
abbrev pub signed_kind : ℕ
signed_kind = 33
