-- `write_lines` meets its contract. The invariant: the first bad line of the file is the first from here on, the lines before are written, and the output is
-- as it was after them. Assumes nothing.
use Rattle.std.proofs.Common.{◌≡◌, ◌+◌, ◌-◌, ◌*◌, drop}
use Rattle.column_lines.specs.Form.{line_length}
use Rattle.column_lines.proofs.Lines.{Begun}
use Rattle.column_files.specs.Files.{words_by, bad_by, first_bad, lines_in}
use Rattle.column_files.proofs.write_lines.Given as goal

abbrev pub invariant-loop-i : goal.invariant-loop-i
invariant-loop-i l =
    record {
      bad : first_bad l.file ≡ bad_by (lines_in l.file - l.i) (l.i + 1) (drop (l.i * line_length) l.file);
      written : Begun (words_by l.i l.file) l.initial.out l.out (l.i * 4);
    }
