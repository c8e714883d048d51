-- `put_bytes` meets its contract: at the end no byte is left. Assumes nothing.
use lib.ListN.{drop}
use native.Mathlib.Omega.{arith}
use Rattle.error_lines.proofs.Putting.{rest_end, bytes_none}
use Rattle.error_lines.proofs.buffer.Sink.put_bytes.Goals as goal

pub returns : goal.returns
returns c = rest_end (drop c.loop-byte.byte-index c.args.bytes.now) (bytes_none c.args.bytes.now _ (omega arith)) c.loop-byte.invariant
