-- `put_escaped` meets its contract, byte by byte. Assumes nothing.
use Prim.Native.Nat.{◌+◌}
use native.Mathlib.Omega.{arith}
use lib.ListN.{drop, get_or}
use Rattle.error_lines.specs.Texts.{escape, escaped}
use Rattle.error_lines.proofs.Putting.{rest_more, rest_end, bytes_none}
use Rattle.error_lines.proofs.TextFields.{escaped_more, escaped_none}
use Rattle.error_lines.proofs.buffer.Sink.put_escaped.Goals as goal

pub loop-byte-preserved : goal.loop-byte-preserved
loop-byte-preserved c =
    rest_more (escape (get_or c.args.text.now c.loop-byte.byte-index 0)) (escaped (drop (c.loop-byte.byte-index + 1) c.args.text.now))
    (escaped (drop c.loop-byte.byte-index c.args.text.now)) (escaped_more c.args.text.now c.loop-byte.byte-index c.loop-byte-test.true)
    c.loop-byte.invariant c.put_escape.ensures

pub returns : goal.returns
returns c =
    rest_end (escaped (drop c.loop-byte.byte-index c.args.text.now)) (escaped_none _ (bytes_none c.args.text.now _ (omega arith))) c.loop-byte.invariant
