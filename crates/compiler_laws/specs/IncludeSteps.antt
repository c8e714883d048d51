-- What the routines of an include promise: the names that it takes from the books before, by searches in areas 12 and 8
-- Private contracts alone cite this file: whoever reads the promises need not believe it
use Rattle.std.specs.Prelude.{ℕ, ◌+◌, ◌-◌, ◌≡◌, Bool, true, false, cond, List, [], ◌∷◌, eqb}
use Rattle.std.proofs.Math.Option.{Option, none, some}
use Rattle.words.specs.Ast.{Alias}
use Rattle.words.specs.Areas.{entry_field}
use Rattle.words.specs.Record.{value_at}
use Rattle.tree.specs.At.{AliasAt, RunAt, run_size, double}
use Rattle.definition.specs.Book.{public_names}
use Rattle.building.specs.Found.{first_from}
use Rattle.compiler_laws.specs.declared.book.Book as struct

-- whether book i of area 12 is of a file; `find_book`: the first that is
abbrev pub is_book : ℕ → List ℕ → ℕ → Bool
is_book file w i = eqb (entry_field 1 i 0 w) file

abbrev pub find_book_c : ℕ → ℕ → List ℕ → Option ℕ
find_book_c many file w = first_from (is_book file w) many 0

-- `is_pair`: whether the first two words of entry i are a and b
abbrev pub is_pair : ℕ → ℕ → ℕ → List ℕ → ℕ → Bool
is_pair width a b w i = cond (eqb (entry_field width i 0 w) a) (eqb (entry_field width i 1 w) b) false

-- `find_pair`: the first such entry from entry `from` on, up to the count
abbrev pub find_pair_c : ℕ → ℕ → ℕ → ℕ → ℕ → List ℕ → Option ℕ
find_pair_c width from count a b w = first_from (is_pair width a b w) (count - from) from

-- the constant of a public name, by its entry of area 8
abbrev pub public_constant : Option ℕ → List ℕ → Option ℕ
public_constant none w = none
public_constant (some i) w = some (entry_field 3 i 2 w)

abbrev pub included_by : Option ℕ → ℕ → ℕ → List ℕ → Option ℕ
included_by none count name w = none
included_by (some j) count name w = public_constant (find_pair_c 3 0 count j name w) w

-- `included_name`, the Rust's `find_constant_index_by_include`
abbrev pub included_c : ℕ → ℕ → ℕ → ℕ → List ℕ → List ℕ → Option ℕ
included_c many count file name books w = included_by (find_book_c many file books) count name w

-- `is_public`
abbrev pub is_some : Option ℕ → Bool
is_some none = false
is_some (some c) = true

-- whether a book has all of some public names
abbrev pub all_names_c : Option ℕ → ℕ → List ℕ → List ℕ → Bool
all_names_c book count [] w = true
all_names_c book count (n ∷ ns) w = cond (is_some (included_by book count n w)) (all_names_c book count ns w) false

-- `all_public`: those of the pairs from a place up to the end
pub record AsksNames (tree : List ℕ) (at end : ℕ) (book : Option ℕ) (count : ℕ) (u : List ℕ) (r : Bool) : Type 0 where
  pub asks : (as' : List Alias) → RunAt AliasAt double as' tree at → at + run_size double as' ≡ end → r ≡ all_names_c book count (public_names as') u

-- `gives_values`, of the include at a place
pub record AsksMode (tree : List ℕ) (at end : ℕ) (books u : List ℕ) (s : struct.Book) (r : Bool) : Type 0 where
  pub asks : (as' : List Alias) → RunAt AliasAt double as' tree (at + 1) → at + 1 + run_size double as' ≡ end
      → r ≡ cond s.strict (all_names_c (find_book_c s.file (value_at tree at) books) s.publics (public_names as') u) true
