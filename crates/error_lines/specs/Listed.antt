-- What the code's type of an error stands for
use Rattle.definition.specs.Compiler.{Error}
use Rattle.error_lines.specs.declared.known.ListedError.{ListedError}

abbrev pub listed : ListedError → Error
listed e = record { number = e.number; token = record { position = e.position; kind = e.kind; value = e.value } }
