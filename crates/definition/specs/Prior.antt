-- The part of a program that stood before a bundle (2026-01): its entries as they were lent. No definition reads a word of its code, functions, models,
-- properties or context locals; of its books and public names it is read which constant a file has made public under a name
use Rattle.std.specs.Prelude.{ℕ, ◌+◌, Bool, false, cond, List, [], ◌∷◌, get_or, eqb}
use Rattle.std.proofs.Math.Option.{Option, none, some}

-- an area's entries, each the list of its words
abbrev pub Entries : Type 0
Entries = List (List ℕ)

-- areas 1, 3, 4, 5, 7, 8 and 12
pub record Prior : Type 0 where
  pub code : Entries
  pub functions : Entries
  pub models : Entries
  pub properties : Entries
  pub locals : Entries
  pub publics : Entries
  pub books : Entries

-- before a fresh program
abbrev pub nothing_stands : Prior
nothing_stands = record { code = []; functions = []; models = []; properties = []; locals = []; publics = []; books = [] }

-- books' file numbers
abbrev pub file_numbers : Entries → List ℕ
file_numbers [] = []
file_numbers (e ∷ es) = get_or e 0 0 ∷ file_numbers es

-- the index of the first book with a file number, counted from i
abbrev pub book_index : ℕ → ℕ → Entries → Option ℕ
book_index file i [] = none
book_index file i (e ∷ es) = cond (eqb (get_or e 0 0) file) (some i) (book_index file (i + 1) es)

-- whether the first two words of an entry are two numbers
abbrev pub has_key : ℕ → ℕ → List ℕ → Bool
has_key a b e = cond (eqb (get_or e 0 0) a) (eqb (get_or e 1 0) b) false

-- the constant of a book's public name
abbrev pub find_public : ℕ → ℕ → Entries → Option ℕ
find_public book name [] = none
find_public book name (e ∷ es) = cond (has_key book name e) (some (get_or e 2 0)) (find_public book name es)
