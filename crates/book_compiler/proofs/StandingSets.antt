-- The file numbers of the books that stand, read from area 12 of one memory: their set, from one of zeros that has room for them, and whether all are small.
-- By the lemmas over the area's words. Assumes nothing.
use Rattle.std.proofs.Common.{◌≡◌, ℕ, ◌*◌, Bool, true, List, [], ◌++◌, length, take, sym, subst}
use Rattle.memory.specs.Layout.{part, Fits}
use Rattle.words.specs.Areas.{books_area}
use Rattle.definition.specs.Book.{Context}
use Rattle.definition.specs.DependencySolver.{loaded_of}
use Rattle.compiler_laws.specs.FileSets.{narrow_size, SetIs, Below}
use Rattle.compiler_laws.specs.SolverSteps.{NarrowNumbers, AddsNumbers}
use Rattle.compiler_laws.specs.BooksInOrder.{Zero}
use Rattle.compiler_laws.proofs.BooksNeeded.{set_empty}
use Rattle.compiler_laws.proofs.StandingNumbers.{standing_set, standing_narrow}
use Rattle.book_compiler.specs.BookOrder.{ReadsPart}

-- a set of zeros is empty
pub zeros_empty : (set : List ℕ) → Zero set → SetIs set []
zeros_empty set z = subst (λ (x : List ℕ). SetIs x []) (sym z) (set_empty (length set))

-- area 12 begins with the files of the books that stand in a context
module _ {a w : List ℕ} {stand : ℕ} (f : Fits a (length w)) (context : Context) (rest : List ℕ) (area : part a books_area w ≡ loaded_of context ++ rest)
    (so_many : stand ≡ length (loaded_of context)) where
  -- `add_standing`
  pub standing_held : {set after : List ℕ} → ReadsPart books_area (λ o. AddsNumbers (take stand o) set after) a w → Zero set
      → Below (length set * 64) (loaded_of context) → SetIs after (loaded_of context)
  standing_held {set} R zeros room = standing_set (loaded_of context) rest area so_many (R.on f) (zeros_empty set zeros) room

  -- `narrow_standing`
  pub standing_small : {r : Bool} → ReadsPart books_area (λ o. NarrowNumbers (take stand o) r) a w → r ≡ true → Below narrow_size (loaded_of context)
  standing_small R h = standing_narrow (loaded_of context) rest area so_many (R.on f) h
