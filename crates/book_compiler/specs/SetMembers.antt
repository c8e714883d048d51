-- What the members of a set of file numbers give, one after the other
-- Private contracts alone cite this file: whoever reads the promises need not believe it
use Rattle.std.specs.Prelude.{◌≡◌, ℕ, ◌+◌, ◌≤◌, ◌<◌, List, Option, Some}
use Rattle.compiler_laws.specs.FileSets.{NextIn, set_size}
use Rattle.book_compiler.specs.Rows.{or_count}

pub record StepsTo (set : List ℕ) (from : ℕ) (found : Option ℕ) (set' : List ℕ) (from' : ℕ) : Type 0 where
  pub set_is : set' ≡ set
  pub finds : from ≤ set_size → NextIn set from (or_count set_size found)
  pub inside : (n : ℕ) → found ≡ Some n → n < set_size
  pub goes : (n : ℕ) → found ≡ Some n → from' ≡ n + 1
