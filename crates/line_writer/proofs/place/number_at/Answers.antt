-- `number_at` meets its contract where the number has room. Assumes nothing.
use Rattle.line_writer.proofs.Placing.{number_done}
use Rattle.line_writer.proofs.place.number_at.Goals as goal

pub returns-then-write_number : goal.returns-then-write_number
returns-then-write_number c =
    number_done c.args.width c.args.word c.args.signed c.args.place c.in_ok-at.at c.args.buffer.now _ c.in_ok-at.was c.if-at-buffer.true
    c.if-width-buffer.true c.write_number.ensures c.if-write_number.true

pub returns-then-width-buffer : goal.returns-then-width-buffer
returns-then-width-buffer c =
    number_done c.args.width c.args.word c.args.signed c.args.place c.in_ok-at.at c.args.buffer.now _ c.in_ok-at.was c.if-at-buffer.true
    c.if-width-buffer.true c.write_number.ensures c.if-write_number.false
