-- Searches among an area's entries, the first first. An answer of the code is an `Option` as Rust has it, one of the definitions an option of the proofs'
-- library
use Rattle.std.specs.Prelude.{◌≡◌, ℕ, zero, suc, ◌+◌, ◌-◌, ◌≤◌, ◌<◌, ◌≢◌, ◌==◌, Bool, cond, List, Some, None}
use Rattle.std.specs.Prelude as code
use Rattle.std.proofs.Math.Option.{Option, none, some}
use Rattle.words.specs.Areas.{entry_word, entry_field}

-- how the code answers
abbrev pub found_of : Option ℕ → code.Option ℕ
found_of none = None
found_of (some i) = Some i

-- the first of k entries from entry i on that a test takes
unfoldable pub first_from : (ℕ → Bool) → ℕ → ℕ → Option ℕ
first_from test zero i = none
first_from test (suc k) i = cond (test i) (some i) (first_from test k (i + 1))

-- whether one of the words of entry i is the value
abbrev pub has_word : ℕ → ℕ → ℕ → List ℕ → ℕ → Bool
has_word width word value w i = entry_field width i word w == value

-- the first of the entries from a place up to the end that has the value in that word
abbrev pub find_word : ℕ → ℕ → ℕ → ℕ → ℕ → List ℕ → Option ℕ
find_word width word value from end w = first_from (has_word width word value w) (end - from) from

-- `pass`: an entry from a place up to the end, before which none from there on has a value in one of its words
pub record Passes (w : List ℕ) (width word value from end r : ℕ) : Type 0 where
  pub on : from ≤ r
  pub last : r ≤ end
  pub others : (i : ℕ) → from ≤ i → i < r → entry_word width i word w ≢ value
