-- Whoever writes the lines of the entries from i on has written all.
use Prim.Native.Nat.{◌-◌, ◌/◌}
use lib.ListN.{length}
use Rattle.error_lines.specs.Lines.{errors_from, errors_in, lines_of}
use Rattle.error_lines.proofs.Putting.{Rest}
use Rattle.error_lines.proofs.buffer.Sink.put_lines.Given as goal

abbrev pub invariant-loop-i : goal.invariant-loop-i
invariant-loop-i l =
    Rest (lines_of l.texts.table.now l.texts.bytes.now l.file (errors_in l.errors)) l.fn.self (lines_of l.texts.table.now l.texts.bytes.now l.file
    (errors_from l.errors l.i (length l.errors / 4 - l.i))) l.self
