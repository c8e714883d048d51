-- `write_line` meets its contract: nine steps in a row (`InARow`), and the buffer has what the writer ended with. Assumes nothing.
use Rattle.line_writer.proofs.InARow.{line_back}
use borrow.Author.Rules.{rules}
use Rattle.line_writer.proofs.writer.write_line.Goals as goal

pub returns : goal.returns
returns c =
    line_back _ c.args.offset c.args.line c.new-w.result c.number.new.self c.number-2.new.self c.number-3.new.self c.number-4.new.self
    c.number-5.new.self c.number-6.new.self c.number-7.new.self c.number-8.new.self c.byte.new.self c.new-w.ensures
    (record { is = c.number.ensures }) (record { is = c.number-2.ensures }) (record { is = c.number-3.ensures })
    (record { is = c.number-4.ensures }) (record { is = c.number-5.ensures }) (record { is = c.number-6.ensures })
    (record { is = c.number-7.ensures }) (record { is = c.number-8.ensures }) (record { is = c.byte.ensures })
    c.end.result _ _ (λ n. search rules) c.end.ensures
