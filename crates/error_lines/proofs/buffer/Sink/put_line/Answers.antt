-- `put_line` meets its contract, field after field. Assumes nothing.
use mathlib.Core.Path.{ap}
use mathlib.Core.Bool.{false}
use Rattle.error_lines.specs.Listed.{listed}
use Rattle.error_lines.specs.Lines.{value_field}
use Rattle.error_lines.specs.Texts.{plain, text_field}
use Rattle.error_lines.proofs.Putting.{writes_as}
use Rattle.error_lines.proofs.Walking.{line_writes}
use Rattle.error_lines.proofs.buffer.Sink.put_line.Goals as goal

pub returns : goal.returns
returns c =
    line_writes c.args.texts.table.now c.args.texts.bytes.now c.args.file (listed c.args.error) (writes_as c.message.ensures c.put_bytes.ensures)
    c.put_between.ensures (writes_as (ap (text_field c.args.texts.table.now c.args.texts.bytes.now) c.file.ensures) c.put_text.ensures)
    c.put_between-2.ensures (writes_as (ap (plain false) c.line_of.ensures) c.put_number.ensures) c.put_between-3.ensures
    (writes_as (ap (plain false) c.column_of.ensures) c.put_number-2.ensures) c.put_between-4.ensures c.put_number-3.ensures c.put_between-5.ensures
    (writes_as (ap (value_field c.args.texts.table.now c.args.texts.bytes.now c.args.error.kind) c.shown_value.ensures) c.put_value.ensures)
    c.put.ensures
