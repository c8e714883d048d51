-- What the program check answers: "row 3 with place 1,048,576 plus the area number answers the first area .."
use Rattle.std.specs.Prelude.{Result, Ok}
use Rattle.words.specs.declared.row.Row.TheVariants.{BadShape}
use Rattle.words.specs.declared.row.Refused.{Refused}
use Rattle.std.specs.Prelude.{ℕ, ◌+◌}
use Rattle.std.proofs.Math.Option.{Option, none, some}
use Rattle.tree.specs.Check.{refused}

unfoldable pub answer_of : Option ℕ → Result (Unit {0}) Refused
answer_of none = Ok tt
answer_of (some area) = refused BadShape (1048576 + area)
