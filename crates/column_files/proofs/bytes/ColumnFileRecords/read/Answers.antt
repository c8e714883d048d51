-- `read` meets its contract: the words of a line are those of its record, or zeros. Assumes nothing.
use Rattle.std.proofs.Common.{sym, ◌∙◌}
use Rattle.column_files.proofs.Files.{line_record}
use Rattle.column_files.proofs.bytes.ColumnFileRecords.read.Goals as goal

pub returns : goal.returns
returns c = c.unwrap_or.ensures ∙ sym (line_record c.args.self.0.now c.args.at c.line_at.ensures)
