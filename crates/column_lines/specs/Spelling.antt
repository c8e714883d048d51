-- Numbers in fields by sign and magnitude, from the last digit on, as the writers go. Only contracts of private functions cite these definitions, so that
-- nobody has to believe them: `numeral_spelled` and `fits_spelled` of proofs/Digits.antt join them with `numeral` and `numeral_fits`
use Rattle.std.specs.Prelude.{ℕ, zero, suc, ◌-◌, ◌/◌, Bool, true, false, cond, not, ◌&&◌, List, [], ◌∷◌, ◌++◌, replicate, length, drop, eqb, ◌≡◌}
use Rattle.column_lines.specs.Numeral.{blank, minus_sign, digit_of, least_size, most_of, word_end, negative_of}

-- the largest number of a sign
abbrev pub size_of : Bool → Bool → ℕ
size_of signed negative = cond negative least_size (most_of signed)

abbrev pub magnitude_of : Bool → ℕ → ℕ
magnitude_of signed word = cond (negative_of signed word) (word_end - word) word

-- what stands in w bytes before the first digit: blanks, the last of them a sign where the number is negative
unfoldable pub lead_of : ℕ → Bool → List ℕ
lead_of w false = replicate w blank
lead_of zero true = []
lead_of (suc w) true = replicate w blank ++ (minus_sign ∷ [])

-- w bytes before a digit, where m is left of the number
unfoldable pub rest_of : ℕ → Bool → ℕ → List ℕ
rest_of zero negative m = []
rest_of (suc w) negative m = cond (eqb m 0) (lead_of (suc w) negative) (rest_of w negative (m / 10) ++ (digit_of m ∷ []))

-- a number in w bytes; of one that is wider, its last w bytes
unfoldable pub spelled : ℕ → Bool → ℕ → List ℕ
spelled zero negative m = []
spelled (suc w) negative m = rest_of w negative (m / 10) ++ (digit_of m ∷ [])

-- the number is not wider
unfoldable pub lead_fits : ℕ → Bool → Bool
lead_fits zero negative = not negative
lead_fits (suc w) negative = true

unfoldable pub rest_fits : ℕ → Bool → ℕ → Bool
rest_fits zero negative m = eqb m 0 && not negative
rest_fits (suc w) negative m = cond (eqb m 0) true (rest_fits w negative (m / 10))

unfoldable pub spell_fits : ℕ → Bool → ℕ → Bool
spell_fits zero negative m = false
spell_fits (suc w) negative m = rest_fits w negative (m / 10)

-- what a write of a number to a field leaves: the field's bytes, and whether the number fits in them
pub record Spelt (negative : Bool) (m : ℕ) (before after : List ℕ) (r : Bool) : Type 0 where
  pub bytes : after ≡ spelled (length before) negative m
  pub fits : r ≡ spell_fits (length before) negative m

-- and of the bytes before a place, with those from there on kept
pub record Led (negative : Bool) (at : ℕ) (before after : List ℕ) (r : Bool) : Type 0 where
  pub bytes : after ≡ lead_of at negative ++ drop at before
  pub fits : r ≡ lead_fits at negative
