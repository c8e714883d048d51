-- Whoever writes the bytes from here on has written all.
use lib.ListN.{drop}
use Rattle.error_lines.proofs.Putting.{Rest}
use Rattle.error_lines.proofs.buffer.Sink.put_bytes.Given as goal

abbrev pub invariant-loop-byte : goal.invariant-loop-byte
invariant-loop-byte l = Rest l.bytes l.fn.self (drop l.byte-index l.bytes) l.self
