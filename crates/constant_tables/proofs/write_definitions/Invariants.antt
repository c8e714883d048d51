-- `write_definitions` meets its contract. The invariant: the first bad line is the first from here on, the lines before are written where there is room for
-- all, and the output is as it was after them. Assumes nothing.
use Rattle.std.proofs.Common.{◌≡◌, ◌-◌}
use Rattle.constant_tables.specs.Table.{first_where, bad_at, first_off, line_count}
use Rattle.constant_tables.proofs.Converting.{Begins}
use Rattle.constant_tables.proofs.write_definitions.Given as goal

abbrev pub invariant-loop-i : goal.invariant-loop-i
invariant-loop-i l =
    record {
      off : first_off l.table ≡ first_where (bad_at l.table) l.i (line_count l.table - l.i);
      written : Begins l.table l.initial.out l.out l.i;
    }
