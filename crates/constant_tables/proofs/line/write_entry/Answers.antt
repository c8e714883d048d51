-- `write_entry` meets its contract: after each column, the bytes up to its end are written and the others as they were. Assumes nothing.
use Rattle.std.proofs.Common.{[], arith, false, eqb}
use Rattle.column_lines.proofs.Lines.{begun, begun_put}
use Rattle.constant_tables.specs.Form.{table_integer}
use Rattle.constant_tables.proofs.TableLines.{entry_written}
use Rattle.constant_tables.proofs.line.write_entry.Goals as goal

pub returns : goal.returns
returns c =
    let e = c.args.entry in
    let text = begun_put [] c.args.out.now _ 0 8 false e.text (begun c.args.out.now) (omega arith) (omega arith) c.write_number.ensures in
    let kind = begun_put _ c.args.out.now _ 8 12 false e.kind text (omega arith) (omega arith) c.write_number-2.ensures in
    let value = begun_put _ c.args.out.now _ 12 33 (eqb e.kind table_integer) e.value kind (omega arith) (omega arith) c.write_number-3.ensures in
    entry_written e c.args.out.now _ c.requires value
