-- `write_record` meets its contract. Assumes nothing.
use Rattle.column_files.proofs.Converting.{record_put}
use Rattle.column_files.proofs.write_record.Goals as goal

pub returns : goal.returns
returns c = record_put c.args.tree.now c.args.out.now c.args.at c.requires.line_length_in_bounds c.write_line.ensures
