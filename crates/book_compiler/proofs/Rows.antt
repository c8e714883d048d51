-- The rows of refusals: none has the number 0. Assumes nothing.
use Rattle.std.proofs.Common.{◌≡◌, arith}
use Rattle.words.specs.Row.{row_number}
use Rattle.words.specs.declared.row.Row.{Row}
use Rattle.words.specs.declared.row.Row.TheVariants.{BadLine, BadLength, BadShape, TooDeep, BookTwice, BookMissing, BookFaulty, Ring, AreaFull}
use Rattle.words.specs.declared.row.Row.TheVariants.{NotATable, NameNotPublic, StaleTrial, TotalsDiffer}

pub never_zero : (row : Row) → row_number row ≡ 0 → ⊥
never_zero BadLine e = omega arith
never_zero BadLength e = omega arith
never_zero BadShape e = omega arith
never_zero TooDeep e = omega arith
never_zero BookTwice e = omega arith
never_zero BookMissing e = omega arith
never_zero BookFaulty e = omega arith
never_zero Ring e = omega arith
never_zero AreaFull e = omega arith
never_zero NotATable e = omega arith
never_zero NameNotPublic e = omega arith
never_zero StaleTrial e = omega arith
never_zero TotalsDiffer e = omega arith
