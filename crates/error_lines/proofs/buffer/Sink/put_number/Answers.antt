-- `put_number` meets its contract: the number in its column, without blanks. Assumes nothing.
use mathlib.Core.Path.{ap, ◌∙◌}
use Rattle.error_lines.specs.Texts.{after_blanks, plain}
use Rattle.error_lines.proofs.Putting.{writes_as}
use Rattle.error_lines.proofs.buffer.Sink.put_number.Goals as goal

pub returns : goal.returns
unfolding plain
returns c = writes_as (c.without_blanks.ensures ∙ ap after_blanks c.write_number.ensures.bytes) c.put_bytes.ensures
