-- Right-justified numbers, one pair for every width and sign (01, 'Column file': right-justified in widths .., blanks pad; no leading zeros; a value
-- past its 64 bits and -0 are off the form; signed, from -9,223,372,036,854,775,808 upward). `numeral` writes a word, `read_numeral` reads a field
use Rattle.std.specs.Prelude.{ℕ, zero, suc, ◌+◌, ◌-◌, ◌*◌, ◌/◌, ◌%◌, Bool, true, false, cond, ◌&&◌, List, [], ◌∷◌, ◌++◌, replicate, length, drop, eqb, leb, ltb}
use Rattle.std.specs.Prelude.{◌≡◌}
use Rattle.std.specs.Prelude.{Option, Some, None}

-- the bytes of a field
abbrev pub blank : ℕ
blank = 32

abbrev pub minus_sign : ℕ
minus_sign = 45

abbrev pub digit_of : ℕ → ℕ
digit_of m = 48 + m % 10

abbrev pub is_digit : ℕ → Bool
is_digit b = leb 48 b && leb b 57

-- a signed word stands for a negative number from 2^63 on: minus what it lacks to 2^64
abbrev pub least_size : ℕ
least_size = 9223372036854775808

abbrev pub word_end : ℕ
word_end = 18446744073709551616

abbrev pub negative_of : Bool → ℕ → Bool
negative_of signed word = signed && leb least_size word

-- the largest number without a sign
abbrev pub most_of : Bool → ℕ
most_of signed = cond signed 9223372036854775807 18446744073709551615

-- the digits of m in base ten: one where m is below ten, which the Bool tells, else those of m / 10 and then one; a number m has at most m + 1
unfoldable pub digits_by : ℕ → Bool → ℕ → List ℕ
digits_by zero below m = digit_of m ∷ []
digits_by (suc more) true m = digit_of m ∷ []
digits_by (suc more) false m = digits_by more (ltb (m / 10) 10) (m / 10) ++ (digit_of m ∷ [])

abbrev pub digits : ℕ → List ℕ
digits m = digits_by m (ltb m 10) m

-- a word in base ten: a minus sign where it is negative, then its digits
unfoldable pub written : Bool → ℕ → List ℕ
written signed word = cond (negative_of signed word) (minus_sign ∷ digits (word_end - word)) (digits word)

-- 'right-justified', 'blanks pad': the last `width` bytes of as many blanks and the text
unfoldable pub right_justified : ℕ → List ℕ → List ℕ
right_justified width text = drop (length text) (replicate width blank ++ text)

-- a word in a field, and that it is not wider
abbrev pub numeral : ℕ → Bool → ℕ → List ℕ
numeral width signed word = right_justified width (written signed word)

abbrev pub numeral_fits : ℕ → Bool → ℕ → Bool
numeral_fits width signed word = leb (length (written signed word)) width

-- the word of a number, if it is one: past its 64 bits it is off the form
unfoldable pub word_of : Bool → Bool → ℕ → Option ℕ
word_of signed true m = cond (leb m least_size) (Some (word_end - m)) None
word_of signed false m = cond (leb m (most_of signed)) (Some m) None

-- the digits after those that make m
unfoldable pub digits_from : Bool → Bool → ℕ → List ℕ → Option ℕ
digits_from signed negative m [] = word_of signed negative m
digits_from signed negative m (b ∷ bs) = cond (is_digit b) (digits_from signed negative (m * 10 + (b - 48)) bs) None

-- a first digit 0 is the whole number, and has no sign
unfoldable pub zero_from : Bool → List ℕ → Option ℕ
zero_from true bs = None
zero_from false [] = Some 0
zero_from false (b ∷ bs) = None

unfoldable pub number_from : Bool → Bool → List ℕ → Option ℕ
number_from signed negative [] = None
number_from signed negative (b ∷ bs) = cond (eqb b 48) (zero_from negative bs) (digits_from signed negative 0 (b ∷ bs))

-- after the blanks: a sign where one may be, then the digits
unfoldable pub sign_at : Bool → List ℕ → Bool
sign_at signed [] = false
sign_at signed (b ∷ bs) = signed && eqb b minus_sign

unfoldable pub sign_from : Bool → List ℕ → Option ℕ
sign_from signed bs = cond (sign_at signed bs) (number_from signed true (drop 1 bs)) (number_from signed false bs)

-- a field
unfoldable pub read_numeral : Bool → List ℕ → Option ℕ
read_numeral signed [] = None
read_numeral signed (b ∷ bs) = cond (eqb b blank) (read_numeral signed bs) (sign_from signed (b ∷ bs))

-- what a write of a word to a field leaves: the field's bytes, and whether the word fits in them
pub record Wrote (signed : Bool) (word : ℕ) (before after : List ℕ) (r : Bool) : Type 0 where
  pub bytes : after ≡ numeral (length before) signed word
  pub fits : r ≡ numeral_fits (length before) signed word
