-- `check_lines` meets its contract. The invariant: the first bad line of the file is the first from here on. Assumes nothing.
use Rattle.std.proofs.Common.{◌≡◌, ◌+◌, ◌-◌, ◌*◌, drop}
use Rattle.column_lines.specs.Form.{line_length}
use Rattle.column_files.specs.Files.{bad_by, first_bad, lines_in}
use Rattle.column_files.proofs.file.check_lines.Given as goal

abbrev pub invariant-loop-i : goal.invariant-loop-i
invariant-loop-i l = first_bad l.file ≡ bad_by (lines_in l.file - l.i) (l.i + 1) (drop (l.i * line_length) l.file)
