-- `read_entry` meets its contract: its length, its newline, then its columns, up to one that is no number or that no constant has. Assumes nothing.
use Rattle.std.proofs.Common.{sym, ◌∙◌}
use Rattle.constant_tables.proofs.TableLines.{line_length_lem, line_newline, text_off, kind_off, value_off, entry_off, entry_spelled}
use Rattle.constant_tables.proofs.line.read_entry.Goals as goal
use Rattle.constant_tables.proofs.line.read_entry.Goals.{then-line-ne-TABLE_LINE_LENGTH-via-then-line-ne-TABLE_LINE_LENGTH}
use Rattle.constant_tables.proofs.line.read_entry.Goals.{then-line-ne-TABLE_LINE_LENGTH-via-else-line-ne-TABLE_LINE_LENGTH+then-line-ne-NEWLINE}

pub returns-then-line-ne-TABLE_LINE_LENGTH : goal.returns-then-line-ne-TABLE_LINE_LENGTH
returns-then-line-ne-TABLE_LINE_LENGTH c = elim c.then-line-ne-TABLE_LINE_LENGTH.branch [
  | then-line-ne-TABLE_LINE_LENGTH-via-then-line-ne-TABLE_LINE_LENGTH w ↦ line_length_lem c.args.line.now w.if-line-ne-TABLE_LINE_LENGTH.true
  | then-line-ne-TABLE_LINE_LENGTH-via-else-line-ne-TABLE_LINE_LENGTH+then-line-ne-NEWLINE w ↦
      line_newline c.args.line.now w.if-line-ne-TABLE_LINE_LENGTH.false w.if-line-ne-NEWLINE.true
]

pub returns-in_err-text : goal.returns-in_err-text
returns-in_err-text c = c.from_residual.ensures ∙ text_off c.args.line.now c.if-line-ne-TABLE_LINE_LENGTH.false c.if-line-ne-NEWLINE.false
    (sym c.read_number.ensures ∙ c.in_err-text.was)

pub returns-in_err-kind : goal.returns-in_err-kind
returns-in_err-kind c = c.from_residual-in_err-kind.ensures ∙ kind_off c.args.line.now c.if-line-ne-TABLE_LINE_LENGTH.false c.if-line-ne-NEWLINE.false
    (sym c.read_number.ensures ∙ c.in_ok-text.was) (sym c.read_number-2.ensures ∙ c.in_err-kind.was)

pub returns-in_err-value : goal.returns-in_err-value
returns-in_err-value c = c.from_residual-in_err-value.ensures ∙ value_off c.args.line.now c.if-line-ne-TABLE_LINE_LENGTH.false c.if-line-ne-NEWLINE.false
    (sym c.read_number.ensures ∙ c.in_ok-text.was) (sym c.read_number-2.ensures ∙ c.in_ok-kind.was) (sym c.read_number-3.ensures ∙ c.in_err-value.was)

pub returns-then-not-is_text : goal.returns-then-not-is_text
returns-then-not-is_text c = entry_off c.args.line.now c.if-line-ne-TABLE_LINE_LENGTH.false c.if-line-ne-NEWLINE.false
    (sym c.read_number.ensures ∙ c.in_ok-text.was) (sym c.read_number-2.ensures ∙ c.in_ok-kind.was) (sym c.read_number-3.ensures ∙ c.in_ok-value.was)
    (sym c.is_text.ensures ∙ c.if-not-is_text.true)

pub returns : goal.returns
returns c = c.then_some.ensures ∙ rw c.is_table_kind.ensures (entry_spelled c.args.line.now c.if-line-ne-TABLE_LINE_LENGTH.false c.if-line-ne-NEWLINE.false
    (sym c.read_number.ensures ∙ c.in_ok-text.was) (sym c.read_number-2.ensures ∙ c.in_ok-kind.was) (sym c.read_number-3.ensures ∙ c.in_ok-value.was)
    (sym c.is_text.ensures ∙ c.if-not-is_text.false))
