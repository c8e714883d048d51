-- Whoever writes the escapes from here on has written all.
use lib.ListN.{drop}
use Rattle.error_lines.specs.Texts.{escaped}
use Rattle.error_lines.proofs.Putting.{Rest}
use Rattle.error_lines.proofs.buffer.Sink.put_escaped.Given as goal

abbrev pub invariant-loop-byte : goal.invariant-loop-byte
invariant-loop-byte l = Rest (escaped l.text) l.fn.self (escaped (drop l.byte-index l.text)) l.self
