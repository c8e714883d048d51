-- The answer of the shape check as two numbers
use Rattle.std.specs.Prelude.{Result, Ok, Err}
use Rattle.words.specs.Row.{row_number}
use Rattle.words.specs.declared.row.Refused.{Refused}
use Rattle.clover_back_end.specs.declared.Refusal.{Refusal}

unfoldable pub refusal_of : Result (Unit {0}) Refused → Refusal
refusal_of (Err found) = record { number = row_number found.row; place = found.place }
refusal_of (Ok fine) = record { number = 0; place = 0 }
