-- What 01 says of the words of a program that is delivered, as far as a note relies on it
-- Private contracts alone cite this file: whoever reads the promises need not believe it
use Rattle.std.specs.Prelude.{ℕ, ◌^◌, ◌<◌, List}
use Rattle.words.specs.Areas.{entry_word}

-- the first n methods of area 6 leave the bits of a note unused
pub record MethodsFit (n : ℕ) (l : List ℕ) : Type 0 where
  pub model : (i : ℕ) → i < n → entry_word 3 i 0 l < 2 ^ 56
  pub name : (i : ℕ) → i < n → entry_word 3 i 1 l < 2 ^ 20
  pub function : (i : ℕ) → i < n → entry_word 3 i 2 l < 2 ^ 56
