-- The rows of refusals by their numbers (01, 'Replies of the compiler')
use Rattle.std.specs.Prelude.{ℕ}
use Rattle.words.specs.declared.row.Row.{Row}
use Rattle.words.specs.declared.row.Row.TheVariants.{BadLine, BadLength, BadShape, TooDeep, BookTwice, BookMissing, BookFaulty, Ring, AreaFull}
use Rattle.words.specs.declared.row.Row.TheVariants.{NotATable, NameNotPublic, StaleTrial, TotalsDiffer}

abbrev pub row_number : Row → ℕ
row_number BadLine = 1
row_number BadLength = 2
row_number BadShape = 3
row_number TooDeep = 4
row_number BookTwice = 5
row_number BookMissing = 6
row_number BookFaulty = 7
row_number Ring = 8
row_number AreaFull = 9
row_number NotATable = 10
row_number NameNotPublic = 11
row_number StaleTrial = 12
row_number TotalsDiffer = 13
