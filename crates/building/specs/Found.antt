-- Searches: an answer of the code is an `Option` as Rust has it, one of the definitions an option of the proofs' library
use Rattle.std.specs.Prelude.{◌≡◌, ℕ, zero, suc, ◌+◌, ◌-◌, ◌/◌, ◌%◌, ◌^◌, ◌<◌, ◌≤◌, Bool, cond, List, length, ◌==◌, ◌≢◌, nat_le}
use Rattle.std.proofs.Math.Option.{Option, none, some}
use Rattle.words.specs.Areas.{entry_field}
use Rattle.words.specs.Object.{Constant, constant_of, same_constant}
pub use Rattle.words.specs.Search.{found_of}
unfoldable pub use Rattle.words.specs.Search.{first_from}
use Rattle.std.specs.Prelude as code
use Rattle.std.specs.Prelude.{Some, None}
use Rattle.building.specs.declared.scopes.Narrow.{Narrow}
use Rattle.building.specs.declared.scopes.Narrow.TheVariants as narrow

-- what the code answers
abbrev pub Found : Type 0
Found = code.Option ℕ

-- what a search among names and locals of 32 bits answers where the search of 64 bits answers an option (2026-03): a local that does not fit is said to be wide
abbrev pub narrow_of : Option ℕ → Narrow
narrow_of none = narrow.Nothing
narrow_of (some i) = cond (nat_le i 4294967295) (narrow.At i) narrow.Wide

-- what a caller makes of it: where the local is wide or an entry beyond the area, the search of 64 bits is asked
abbrev pub widened : Narrow → Found → Found
widened (narrow.At i) found = Some i
widened narrow.Nothing found = None
widened narrow.Wide found = found
widened narrow.Beyond found = found

-- a local's number as it stands in 64 bits
abbrev pub wrapped : Option ℕ → Option ℕ
wrapped none = none
wrapped (some i) = some (i % 2 ^ 64)

-- the local of a name among k entries of area 9 that end below entry i + k, the newest first
unfoldable pub find_newest : ℕ → ℕ → ℕ → List ℕ → Option ℕ
find_newest zero i name w = none
find_newest (suc k) i name w = cond (entry_field 2 (i + k) 0 w == name) (some (entry_field 2 (i + k) 1 w)) (find_newest k i name w)

-- `find_narrow`: the search of 32 bits among the entries from `from` up to `end`, on any words; beyond the area it does not look (2026-03)
abbrev pub find_narrow : ℕ → ℕ → ℕ → List ℕ → Narrow
find_narrow from end name w = cond (nat_le end (length w / 2)) (narrow_of (find_newest (end - from) from name w)) narrow.Beyond

-- whether constant i of area 2 is the same as c
abbrev pub is_constant : Constant → List ℕ → ℕ → Bool
is_constant c w i = same_constant c (constant_of (entry_field 3 i 0 w) (entry_field 3 i 1 w))

-- the first of the constants that is the same as c
abbrev pub find_constant_c : ℕ → Constant → List ℕ → Option ℕ
find_constant_c count c w = first_from (is_constant c w) count 0

-- whether context local i of area 7 has a name
abbrev pub is_named : ℕ → List ℕ → ℕ → Bool
is_named name w i = entry_field 4 i 1 w == name

-- the first of a book's context locals, from entry `start` up to the count, with a name
abbrev pub find_context_local_c : ℕ → ℕ → ℕ → List ℕ → Option ℕ
find_context_local_c start count name w = first_from (is_named name w) (count - start) start
