-- `written_lines::write_line` meets its contract: the nine steps in a row make a line.
use Rattle.line_writer.specs.Written.{line_at}
use Rattle.building_cases.proofs.written_lines.write_line.Goals as goal

pub returns : goal.returns
unfolding line_at
returns c = cc
