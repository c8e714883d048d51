-- Record i of some words, all four at once; zeros outside
use Rattle.std.specs.Prelude.{ℕ, List}
use Rattle.words.specs.Record.{kind_at, span_at, position_at, value_at}
use Rattle.words.specs.declared.node.Record.{Record}

abbrev pub record_at : List ℕ → ℕ → Record
record_at w i = record { kind = kind_at w i; span = span_at w i; position = position_at w i; value = value_at w i }
