-- Lines and documents of the readings of 2026-02, each by computing. Assumes nothing.
use Prim.Native.Nat.{ℕ}
use mathlib.Core.Path.{◌≡◌, refl}
use mathlib.Core.List.{List, [], ◌∷◌, ◌++◌}
use lib.ListN.{replicate}
use Rattle.words.specs.Record.{field_of}
use Rattle.column_lines.specs.Numeral.{read_numeral, sign_from, sign_at, number_from, zero_from, digits_from, word_of}
use Rattle.constant_tables.specs.Entry.{Entry, entry, is_text, is_table_kind, constant_in, read_entry}
use Rattle.constant_tables.specs.Table.{first_where, head_is, in_definition, agrees_at, not_table}
use Rattle.std.specs.Prelude.{Option, Some, None}

-- lines, from the last bytes of their three columns

line : ℕ → List ℕ → ℕ → List ℕ → ℕ → List ℕ → List ℕ
line a text b kind c value = replicate a 32 ++ (text ++ (replicate b 32 ++ (kind ++ (replicate c 32 ++ (value ++ (10 ∷ []))))))

read : List ℕ → Option Entry
unfolding read_entry constant_in is_text is_table_kind read_numeral sign_from sign_at number_from zero_from digits_from word_of
read l = read_entry l

integer : read (line 7 (49 ∷ []) 3 (50 ∷ []) 20 (55 ∷ [])) ≡ Some (entry 1 2 7)
unfolding read line
integer = refl

-- -1 as an integer is 2^64 - 1; as a float's bits it is off the form
minus_one : read (line 7 (49 ∷ []) 3 (50 ∷ []) 19 (45 ∷ 49 ∷ [])) ≡ Some (entry 1 2 18446744073709551615)
unfolding read line
minus_one = refl

minus_float : read (line 7 (49 ∷ []) 3 (51 ∷ []) 19 (45 ∷ 49 ∷ [])) ≡ None
unfolding read line
minus_float = refl

kind_four : read (line 7 (49 ∷ []) 3 (52 ∷ []) 20 (48 ∷ [])) ≡ None
unfolding read line
kind_four = refl

text_none : read (line 7 (48 ∷ []) 3 (50 ∷ []) 20 (48 ∷ [])) ≡ None
unfolding read line
text_none = refl

minus_nought : read (line 7 (49 ∷ []) 3 (50 ∷ []) 19 (45 ∷ 48 ∷ [])) ≡ None
unfolding read line
minus_nought = refl

-- row 10

other : List ℕ → ℕ
unfolding first_where agrees_at in_definition head_is field_of
other w = not_table w

abbrev rec : ℕ → ℕ → ℕ → ℕ → List ℕ
rec k s p v = k ∷ s ∷ p ∷ v ∷ []

-- a table of one line
whole : other (rec 1 4 0 5 ++ (rec 10 3 0 0 ++ (rec 40 1 0 3 ++ rec 33 1 0 1))) ≡ 4
unfolding other
whole = refl

-- a definition without pairs: the document's span is no table's
span_two : other (rec 1 2 0 5 ++ rec 10 1 0 0) ≡ 0
unfolding other
span_two = refl

-- two pairs in one definition, in a document of a table's span
two_pairs : other (rec 1 7 0 5 ++ (rec 10 5 0 0 ++ (rec 40 1 0 3 ++ (rec 33 1 0 1 ++ (rec 40 1 0 4 ++ (rec 33 1 0 1 ++ rec 10 1 0 0)))))) ≡ 1
unfolding other
two_pairs = refl

position : other (rec 1 4 0 5 ++ (rec 10 3 0 0 ++ (rec 40 1 1 3 ++ rec 33 1 0 1))) ≡ 2
unfolding other
position = refl

boolean : other (rec 1 4 0 5 ++ (rec 10 3 0 0 ++ (rec 40 1 0 3 ++ rec 36 1 0 1))) ≡ 3
unfolding other
boolean = refl

model : other (rec 1 4 0 5 ++ (rec 12 3 0 3 ++ (rec 40 1 0 3 ++ rec 40 1 0 3))) ≡ 1
unfolding other
model = refl

second_document : other (rec 1 1 0 5 ++ rec 1 1 0 6) ≡ 1
unfolding other
second_document = refl
