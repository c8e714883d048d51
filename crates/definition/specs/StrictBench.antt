-- The strict mode of 2026-07 on bundles whose root is book 2 and includes book 5, which has a public function 3, a private function 4 and a public model 8
-- (`StrictRows`). A row has the words of a bundle and what the call comes to on them in strict mode; `run` is the present mode. All are proved by computing,
-- in proofs/AllStrictRows.antt
use Rattle.std.specs.Prelude.{ℕ, ◌+◌, ◌≡◌, true, List, [], ◌∷◌, ◌++◌, map, length, get_or, set, replicate}
use Rattle.definition.specs.Book.{in_mode}
use Rattle.definition.specs.Program.{Entries, tables_of}
use Rattle.definition.specs.Answer.{Answer, Delivery, Refusal, answer_from, answer, reply_of, areas_of}
use Rattle.definition.specs.Bench.{Result, r, bundle, book, ample, run_as, run, refused, error}
use Rattle.definition.specs.PriorBench.{standing, book7}

-- the call in strict mode: its result; an area's entries; the words of all areas; the areas' totals; onto what stands in specs/PriorBench.antt, the row and its
-- place
unfoldable pub strict_in : List ℕ → List ℕ → Result
unfolding run_as
strict_in lengths w = run_as true lengths w

unfoldable pub strictly : List ℕ → Result
unfolding strict_in
strictly w = strict_in ample w

unfoldable pub strict_table : ℕ → List ℕ → Entries
unfolding strictly
strict_table area w = table_of (answer true w ample)
  where
    table_of : Answer → Entries
    table_of (Delivery c) = get_or (tables_of c) area []
    table_of (Refusal n p es) = []

unfoldable pub strict_words : List ℕ → List ℕ → Entries
unfolding strictly
strict_words lengths w = areas_of lengths (answer true w lengths)

unfoldable pub strict_totals : List ℕ → List ℕ
unfolding strictly
strict_totals w = (reply_of (answer true w ample)).totals

unfoldable pub strictly_onto : List ℕ → List ℕ
unfolding strictly
strictly_onto w = row_of (answer_from (in_mode true standing) w ample)
  where
    row_of : Answer → List ℕ
    row_of (Delivery c) = []
    row_of (Refusal n p es) = n ∷ p ∷ []

-- an include of book 5 with some pairs (public name, alias), and one pair
abbrev include : List (List ℕ) → List (List ℕ)
include pairs = r 11 (length pairs + 1) 0 5 ∷ pairs

abbrev pair : ℕ → ℕ → List (List ℕ)
pair name alias = r 40 1 0 name ∷ r 40 1 0 alias ∷ []

-- book 2 with some definitions, then book 5
abbrev with_book5 : List (List ℕ) → List ℕ
with_book5 definitions = bundle (r 1 (length definitions + 1) 0 2 ∷ definitions ++ (r 1 4 0 5 ∷ r 15 1 0 3 ∷ r 14 1 0 4 ∷ r 13 1 0 8 ∷ []))

-- the context locals of book 5, with their values
abbrev of_book5 : Entries
of_book5 = (0 ∷ 3 ∷ 1 ∷ 3 ∷ []) ∷ (0 ∷ 4 ∷ 1 ∷ 4 ∷ []) ∷ (0 ∷ 8 ∷ 1 ∷ 5 ∷ []) ∷ []

-- the model 4, then the include at index 2 of a name 6 that is not public, whose alias 4 is there already
abbrev alias_there : List ℕ
alias_there = with_book5 (r 12 1 0 4 ∷ include (pair 6 4))

-- error 10, then the include at index 2 of the name 6
abbrev after_error : List ℕ
after_error = with_book5 (r 16 1 0 77 ∷ include (pair 6 7))

-- book 2 includes 5 with the name 6, and 5 includes 7 with the name 6: the indices of the includes are 1 and 5
abbrev two_includes : List ℕ
two_includes = bundle (r 1 4 0 2 ∷ include (pair 6 7) ++ (r 1 4 0 5 ∷ r 11 3 0 7 ∷ pair 6 9 ++ (r 1 1 0 7 ∷ [])))

pub record StrictRows : Type 0 where
  -- public names alone, models and functions, one of them twice and under two aliases: every alias has its value in area 7 (file, name, value, constant)
  pub all_public : strict_table 7 (with_book5 (include (pair 3 6 ++ pair 8 7 ++ pair 3 6 ++ pair 3 9)))
      ≡ of_book5 ++ ((1 ∷ 6 ∷ 1 ∷ 3 ∷ []) ∷ (1 ∷ 7 ∷ 1 ∷ 5 ∷ []) ∷ (1 ∷ 9 ∷ 1 ∷ 3 ∷ []) ∷ [])
  -- no names: nothing is missing
  pub no_names : strict_table 7 (with_book5 (include [])) ≡ of_book5
  -- a name that no book has, a private one, and one that book 5 does not have but the root: row 11 with the include's index, where the present mode delivers
  pub misspelt : strictly (with_book5 (include (pair 6 7))) ≡ refused 11 1 []
  pub private_name : strictly (with_book5 (include (pair 4 7))) ≡ refused 11 1 []
  pub of_another_book : strictly (with_book5 (r 13 1 0 9 ∷ include (pair 9 7))) ≡ refused 11 2 []
  pub present_delivers : map (λ (x : Result). x.row) (run (with_book5 (include (pair 6 7))) ∷ run (with_book5 (include (pair 4 7))) ∷ run alias_there
      ∷ []) ≡ 0 ∷ 0 ∷ 0 ∷ []
  -- one of several, wherever it stands, and a repeated one
  pub last_of_three : strictly (with_book5 (include (pair 3 6 ++ pair 8 7 ++ pair 6 9))) ≡ refused 11 1 []
  pub first_of_two : strictly (with_book5 (include (pair 6 9 ++ pair 3 6))) ≡ refused 11 1 []
  pub repeated : strictly (with_book5 (include (pair 6 9 ++ pair 6 9))) ≡ refused 11 1 []
  -- 'every name it lists': also that of a pair whose alias is there already
  pub alias_there : strictly alias_there ≡ refused 11 2 []
  -- before its own aliases take entries of area 7, after what the book took before: book 5 has three context locals, the model 4 is the fourth
  pub before_its_aliases : strict_in (set ample 7 16) (with_book5 (r 12 1 0 2 ∷ include (pair 6 7))) ≡ refused 11 2 []
  pub after_earlier_steps : strict_in (set ample 7 12) (with_book5 (r 12 1 0 2 ∷ include (pair 6 7))) ≡ refused 9 7 []
  pub aliases_need_room : strict_in (set ample 7 16) (with_book5 (r 12 1 0 2 ∷ include (pair 3 7))) ≡ refused 9 7 []
  -- before what follows it: a function for which area 1 has no room
  pub before_later_steps : strict_in (set ample 1 8) (with_book5 (include (pair 6 7) ++ (r 14 1 0 9 ∷ []))) ≡ refused 11 1 []
  -- before row 7 of the same book, wherever its errors stand; after row 9 for them
  pub before_row_7 : strictly after_error ≡ refused 11 2 []
  pub before_later_errors : strictly (with_book5 (include (pair 6 7) ++ (r 16 1 0 77 ∷ []))) ≡ refused 11 1 []
  pub after_full_errors : strict_in (set ample 11 3) after_error ≡ refused 9 11 []
  -- row 7 of an earlier book comes first
  pub after_row_7 : strictly (bundle (r 1 4 0 2 ∷ include (pair 6 7) ++ (r 1 2 0 5 ∷ r 16 1 0 77 ∷ []))) ≡ refused 7 5 (error 10 0 16 77 ∷ [])
  -- of two the one that is reached first: book 5 is compiled before book 2
  pub first_reached : strictly two_includes ≡ refused 11 5 []
  -- a book that is absent, and a book that includes itself, are rows 6 and 8 still
  pub absent : strictly (book (r 11 3 0 3 ∷ pair 6 7)) ≡ refused 6 3 []
  pub itself : strictly (book (r 11 3 0 2 ∷ pair 6 7)) ≡ refused 8 1 (error 11 0 0 2 ∷ [])
  -- 'after any other refusal every area is zero': the errors' too, and the totals
  pub nothing_left : strict_words ample after_error ≡ [] ∷ replicate 12 (replicate 100 0)
  pub no_totals : strict_totals after_error ≡ replicate 13 0
  -- onto a program that stands, whose book 2 has no public name 4: the include of book 7 has index 1
  pub onto_standing : strictly_onto book7 ≡ 11 ∷ 1 ∷ []
