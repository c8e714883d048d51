-- Numbers and texts as a line has them (2026-10: 'numbers plain'; 'Texts come from a lent table, whose words 2n - 2 and 2n - 1 give start and length of
-- text n in lent bytes. They stand between quotation marks')
use Rattle.std.specs.Prelude.{ℕ, ◌+◌, ◌-◌, ◌*◌, ◌/◌, ◌≡◌, Bool, false, cond, ◌&&◌, ◌||◌, List, [], ◌∷◌, ◌++◌, length, take, drop, get_or, eqb, leb}
use Rattle.std.specs.Prelude.{Option, Some, None}
use Rattle.column_lines.specs.Numeral.{blank, digit_of, numeral}
use Rattle.column_lines.specs.Form.{value_width}

abbrev pub quotation_mark : ℕ
quotation_mark = 34

abbrev pub backslash : ℕ
backslash = 92

-- what stands after the blanks
unfoldable pub after_blanks : List ℕ → List ℕ
after_blanks [] = []
after_blanks (b ∷ bs) = cond (eqb b blank) (after_blanks bs) (b ∷ bs)

-- a number in base ten, as in the widest column and without its blanks
unfoldable pub plain : Bool → ℕ → List ℕ
plain signed word = after_blanks (numeral value_width signed word)

-- 'one of these or a backslash inside gets a backslash before it, and bytes outside 32 to 126 become a backslash and three decimal digits'
abbrev pub is_mark : ℕ → Bool
is_mark b = eqb b quotation_mark || eqb b backslash

abbrev pub is_printed : ℕ → Bool
is_printed b = leb 32 b && leb b 126

unfoldable pub escape : ℕ → List ℕ
escape b = cond (is_mark b) (backslash ∷ b ∷ []) (cond (is_printed b) (b ∷ []) (backslash ∷ digit_of (b / 100) ∷ digit_of (b / 10) ∷ digit_of b ∷ []))

unfoldable pub escaped : List ℕ → List ℕ
escaped [] = []
escaped (b ∷ bs) = escape b ++ escaped bs

unfoldable pub quoted : List ℕ → List ℕ
quoted text = quotation_mark ∷ (escaped text ++ (quotation_mark ∷ []))

-- start and length of text n; the table has them where both words are in it
abbrev pub start_of : List ℕ → ℕ → ℕ
start_of table n = get_or table (2 * n - 2) 0

abbrev pub length_of : List ℕ → ℕ → ℕ
length_of table n = get_or table (2 * n - 1) 0

abbrev pub in_table : List ℕ → ℕ → Bool
in_table table n = leb 1 n && leb (2 * n) (length table)

-- text n; none for 'a text number that the table lacks or ends past its bytes'
unfoldable pub text_at : List ℕ → List ℕ → ℕ → Option (List ℕ)
text_at table bytes n =
    cond (in_table table n) (cond (leb (start_of table n + length_of table n) (length bytes)) (Some (take (length_of table n) (drop (start_of table n) bytes)))
    None)
    None

-- 'A text number that the table lacks or ends past its bytes is written without quotation marks'
abbrev pub text_field_by : Option (List ℕ) → ℕ → List ℕ
text_field_by (Some text) n = quoted text
text_field_by None n = plain false n

unfoldable pub text_field : List ℕ → List ℕ → ℕ → List ℕ
text_field table bytes n = text_field_by (text_at table bytes n) n

-- 'one text table whose texts all differ': no two numbers that are written between quotation marks have the same bytes
abbrev pub TextsDiffer : List ℕ → List ℕ → Type 0
TextsDiffer table bytes = (m n : ℕ) (text : List ℕ) → text_at table bytes m ≡ Some text → text_at table bytes n ≡ Some text → m ≡ n
