-- `line_at` meets its contract. Assumes nothing.
use Rattle.constant_tables.proofs.Converting.{line_none}
use Rattle.constant_tables.proofs.line_at.Goals as goal

pub returns-then-i-table : goal.returns-then-i-table
returns-then-i-table c = line_none c.args.table.now c.args.i c.if-i-table.true
