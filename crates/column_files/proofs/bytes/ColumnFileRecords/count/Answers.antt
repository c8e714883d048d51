-- `count` meets its contract: a file's words are four a line. Assumes nothing.
use mathlib.Core.Path.{sym}
use Rattle.column_files.proofs.Files.{records_is}
use Rattle.column_files.proofs.bytes.ColumnFileRecords.count.Goals as goal

pub returns : goal.returns
returns c = sym (records_is c.args.self.0.now)
