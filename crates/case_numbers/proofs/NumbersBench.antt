-- The numbers of short texts, by computing. Assumes nothing.
use mathlib.Core.Path.{◌≡◌, refl}
use mathlib.Core.List.{[], ◌∷◌}
use Rattle.case_numbers.specs.Numbers.{greatest, longer_by, numbers_from, numbers_in, overwritten}

-- 'a: 10 203', a text that ends in a digit
two_numbers : numbers_in (97 ∷ 58 ∷ 32 ∷ 49 ∷ 48 ∷ 32 ∷ 50 ∷ 48 ∷ 51 ∷ []) ≡ 10 ∷ 203 ∷ []
unfolding numbers_from
two_numbers = refl

-- '7, 8.' and '007'
marks_between : numbers_in (55 ∷ 44 ∷ 32 ∷ 56 ∷ 46 ∷ []) ≡ 7 ∷ 8 ∷ []
unfolding numbers_from
marks_between = refl

leading_zeros : numbers_in (48 ∷ 48 ∷ 55 ∷ []) ≡ 7 ∷ []
unfolding numbers_from
leading_zeros = refl

-- no digit: '/' and ':' stand right before '0' and right behind '9'
no_number : numbers_in (47 ∷ 58 ∷ []) ≡ []
unfolding numbers_from
no_number = refl

no_text : numbers_in [] ≡ []
unfolding numbers_from
no_text = refl

-- 2^64 - 1, and one more
the_greatest : longer_by 1844674407370955161 5 ≡ 18446744073709551615
the_greatest = refl

one_more : longer_by 1844674407370955161 6 ≡ greatest
one_more = refl

-- and a number past it stays there
past_it : longer_by greatest 0 ≡ greatest
past_it = refl

-- room for fewer, and for more
fewer : overwritten (1 ∷ 2 ∷ 3 ∷ []) (9 ∷ 9 ∷ []) ≡ 1 ∷ 2 ∷ []
unfolding overwritten
fewer = refl

more : overwritten (1 ∷ []) (9 ∷ 9 ∷ []) ≡ 1 ∷ 9 ∷ []
unfolding overwritten
more = refl
