-- 2026-01: what a bundle that is laid on may change of a program that stands is noted in its own words, in bits that 01's entries leave unused, so that a
-- refusal can give it back without lent memory. A constant's mark that stood is 2 in place of 1; a method that stood has the function that it had in the upper
-- bits of its three words. A model and a function are below 2^56 (01: "an area longer than 2^56 - 1 entries counts as that long"), a name below 2^20
use Rattle.std.specs.Prelude.{ℕ, suc, ◌+◌, ◌*◌, ◌/◌, ◌%◌, ◌^◌, cond, List, [], ◌∷◌, eqb, ltb}
use Rattle.words.specs.Areas.{constants_area, methods_area, entry_field, write_word}

-- the three words of an entry of areas 2 and 6
pub record Words : Type 0 where
  pub first : ℕ
  pub second : ℕ
  pub third : ℕ

abbrev pub words : ℕ → ℕ → ℕ → Words
words a b c = record { first = a; second = b; third = c }

-- every entry of three words anew, by its number, counted from i; a tail shorter than an entry stays
abbrev pub entries_anew : (ℕ → ℕ → ℕ → ℕ → Words) → ℕ → List ℕ → List ℕ
entries_anew f i [] = []
entries_anew f i (a ∷ []) = a ∷ []
entries_anew f i (a ∷ (b ∷ [])) = a ∷ b ∷ []
entries_anew f i (a ∷ (b ∷ (c ∷ l))) = let x = f i a b c in x.first ∷ x.second ∷ x.third ∷ entries_anew f (suc i) l

-- marks (area 2). The first n that are 1 become 2
abbrev pub noted_mark : ℕ → ℕ → ℕ → ℕ → ℕ → Words
noted_mark n i a b c = words a b (cond (ltb i n) (cond (eqb c 1) 2 c) c)

abbrev pub noted_marks : ℕ → List ℕ → List ℕ
noted_marks n l = entries_anew (noted_mark n) 0 l

-- what the area says, whatever is noted: a mark that is not 0 is a mark
abbrev pub plain_mark : ℕ → ℕ → ℕ → ℕ → Words
plain_mark i a b c = words a b (cond (eqb c 0) 0 1)

unfoldable pub plain_marks : List ℕ → List ℕ
plain_marks l = entries_anew plain_mark 0 l

-- the same of the first n
abbrev pub settled_mark : ℕ → ℕ → ℕ → ℕ → ℕ → Words
settled_mark n i a b c = words a b (cond (ltb i n) (cond (eqb c 0) 0 1) c)

abbrev pub settled_marks : ℕ → List ℕ → List ℕ
settled_marks n l = entries_anew (settled_mark n) 0 l

-- of the first n those that stood
abbrev pub restored_mark : ℕ → ℕ → ℕ → ℕ → ℕ → Words
restored_mark n i a b c = words a b (cond (ltb i n) (cond (eqb c 2) 1 0) c)

abbrev pub restored_marks : ℕ → List ℕ → List ℕ
restored_marks n l = entries_anew (restored_mark n) 0 l

-- methods (area 6): model, name and function with a note of 56 bits, and what each word holds of it
abbrev pub note_method : ℕ → ℕ → ℕ → ℕ → Words
note_method model name function old = words (model + 2 ^ 56 * (old / 2 ^ 52)) (name + 2 ^ 20 * (old % 2 ^ 44)) (function + 2 ^ 56 * (old / 2 ^ 44 % 2 ^ 8))

-- the note
abbrev pub noted_function : ℕ → ℕ → ℕ → ℕ
noted_function a b c = a / 2 ^ 56 * 2 ^ 52 + c / 2 ^ 56 * 2 ^ 44 + b / 2 ^ 20

-- the first n methods, each with its own function noted
abbrev pub noted_method : ℕ → ℕ → ℕ → ℕ → ℕ → Words
noted_method n i a b c = cond (ltb i n) (note_method (a % 2 ^ 56) (b % 2 ^ 20) (c % 2 ^ 56) (c % 2 ^ 56)) (words a b c)

abbrev pub noted_methods : ℕ → List ℕ → List ℕ
noted_methods n l = entries_anew (noted_method n) 0 l

-- what the area says where the first n methods stood, whatever is noted; without such the words are as they are
abbrev pub plain_method : ℕ → ℕ → ℕ → ℕ → ℕ → Words
plain_method n i a b c = cond (ltb i n) (words (a % 2 ^ 56) (b % 2 ^ 20) (c % 2 ^ 56)) (words a b (c % 2 ^ 56))

unfoldable pub plain_methods : ℕ → List ℕ → List ℕ
plain_methods n l = cond (eqb n 0) l (entries_anew (plain_method n) 0 l)

-- the first n methods with the functions that they had
abbrev pub restored_method : ℕ → ℕ → ℕ → ℕ → ℕ → Words
restored_method n i a b c = cond (ltb i n) (words (a % 2 ^ 56) (b % 2 ^ 20) (noted_function a b c)) (words a b c)

abbrev pub restored_methods : ℕ → List ℕ → List ℕ
restored_methods n l = entries_anew (restored_method n) 0 l

-- another function for method i: the note in its word stays
abbrev pub with_function_word : ℕ → ℕ → ℕ → List ℕ → List ℕ
with_function_word n i function l =
    cond (eqb n 0) (write_word 3 i 2 function l) (write_word 3 i 2 (entry_field 3 i 2 l / 2 ^ 56 * 2 ^ 56 + function % 2 ^ 56) l)

-- what an area says by its number, where n methods stood before the bundle
abbrev pub plain : ℕ → ℕ → List ℕ → List ℕ
plain n area l = cond (eqb area constants_area) (plain_marks l) (cond (eqb area methods_area) (plain_methods n l) l)
