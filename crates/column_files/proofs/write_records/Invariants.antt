-- `write_records` meets its contract. The invariant: the first i are written, and the output is as it was after them. Assumes nothing.
use Rattle.std.proofs.Common.{◌*◌}
use Rattle.column_lines.specs.Form.{line_length}
use Rattle.column_lines.proofs.Lines.{Begun}
use Rattle.column_files.specs.Files.{lines_by}
use Rattle.column_files.proofs.write_records.Given as goal

abbrev pub invariant-loop-i : goal.invariant-loop-i
invariant-loop-i l = Begun (lines_by l.i l.tree) l.initial.out l.out (l.i * line_length)
