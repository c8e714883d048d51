-- `check_document` meets its contract. The invariant: the first record that does not agree is the first from here on. Assumes nothing.
use Rattle.std.proofs.Common.{◌≡◌, ◌-◌}
use Rattle.tree.specs.Check.{records_of}
use Rattle.constant_tables.specs.Table.{first_where, not_table}
use Rattle.constant_tables.proofs.Converting.{differs}
use Rattle.constant_tables.proofs.check_document.Given as goal

abbrev pub invariant-loop-i : goal.invariant-loop-i
invariant-loop-i l = not_table l.tree ≡ first_where (differs l.tree) l.i (records_of l.tree - l.i)
