-- `line_at` meets its contract. Assumes nothing.
use Rattle.column_files.proofs.Files.{line_none}
use Rattle.column_files.proofs.file.line_at.Goals as goal

pub returns-then-i-file : goal.returns-then-i-file
returns-then-i-file c = line_none c.args.file.now c.args.i c.if-i-file.true
