-- `write_constants` meets its contract. The invariant: the first i lines are written, and the output is as it was after them. Assumes nothing.
use Rattle.std.proofs.Common.{◌*◌}
use Rattle.column_lines.proofs.Lines.{Begun}
use Rattle.constant_tables.specs.Entry.{table_bytes}
use Rattle.constant_tables.specs.Table.{list_from, entry_at}
use Rattle.constant_tables.proofs.write_constants.Given as goal

abbrev pub invariant-loop-i : goal.invariant-loop-i
invariant-loop-i l = Begun (table_bytes (list_from (entry_at l.tree) 0 l.i)) l.initial.out l.out (l.i * 34)
