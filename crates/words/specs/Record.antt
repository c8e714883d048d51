-- Records of 01, 'The tree': four words each, of which `field_of` reads one. Also the limits of rows 2 to 4 and of texts and positions, named once
use Rattle.std.specs.Prelude.{ℕ, ◌+◌, ◌*◌, ◌/◌, ◌%◌, ◌^◌, Bool, cond, ◌&&◌, List, get_or, leb, ltb}
use Rattle.words.specs.Ast.{Token}

-- row 2: the most records of a bundle
abbrev pub most_records : ℕ
most_records = 1048576

-- row 4: the last level that is allowed
abbrev pub most_levels : ℕ
most_levels = 64

-- the greatest text number; texts are 1 to this
abbrev pub most_text : ℕ
most_text = 1048575

-- 2026-06: 'A position becomes line × 2^32 + column, each at most 99,999,999'
abbrev pub position_base : ℕ
position_base = 2 ^ 32

abbrev pub most_place : ℕ
most_place = 99999999

abbrev pub pack_position : ℕ → ℕ → ℕ
pack_position line column = line * position_base + column

abbrev pub line_of : ℕ → ℕ
line_of p = p / position_base

abbrev pub column_of : ℕ → ℕ
column_of p = p % position_base

-- line and column are in range, each by itself: line 0 with column 2^32 - 1 is not
unfoldable pub in_place : ℕ → Bool
in_place p = leb (line_of p) most_place && leb (column_of p) most_place

-- word k of record i: 0 kind, 1 span, 2 position, 3 value; 0 outside
unfoldable pub field_of : List ℕ → ℕ → ℕ → ℕ
field_of w i k = cond (ltb k 4) (get_or w (i * 4 + k) 0) 0

abbrev pub kind_at : List ℕ → ℕ → ℕ
kind_at w i = field_of w i 0

abbrev pub span_at : List ℕ → ℕ → ℕ
span_at w i = field_of w i 1

abbrev pub position_at : List ℕ → ℕ → ℕ
position_at w i = field_of w i 2

abbrev pub value_at : List ℕ → ℕ → ℕ
value_at w i = field_of w i 3

-- the token that a record is
abbrev pub token_at : List ℕ → ℕ → Token
token_at w i = record { position = position_at w i; kind = kind_at w i; value = value_at w i }
