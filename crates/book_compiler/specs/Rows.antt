-- The row that refuses a bundle and its place, of an answer that may be a refusal
-- Private contracts alone cite this file: whoever reads the promises need not believe it
use Rattle.std.specs.Prelude.{ℕ, Option, Some, None, Result, Ok, Err}
use Rattle.words.specs.Row.{row_number}
use Rattle.words.specs.declared.row.Refused.{Refused}

-- 0 where there is none
abbrev pub row_in : {A : Type 0} → Result A Refused → ℕ
row_in (Ok _) = 0
row_in (Err refused) = row_number refused.row

abbrev pub place_in : {A : Type 0} → Result A Refused → ℕ
place_in (Ok _) = 0
place_in (Err refused) = refused.place

-- how the books end: of a delivery the number of books in the row's place
abbrev pub place_or_books : Result ℕ Refused → ℕ
place_or_books (Ok books) = books
place_or_books (Err refused) = refused.place

-- the index of an entry that was found, or how many entries there are
abbrev pub or_count : ℕ → Option ℕ → ℕ
or_count count None = count
or_count count (Some index) = index
