-- `read_line` meets its contract: its length, its newline, then its fields, up to one that is no number. Assumes nothing.
use mathlib.Core.Path.{sym, ◌∙◌}
use native.Mathlib.Omega.{arith}
use Rattle.column_lines.specs.Form.{line_width, column_width, line_place, column_place}
use Rattle.column_lines.proofs.Lines.{line_length_lem, line_newline, kind_off, span_off, row_off, column_off, value_off, line_spelled}
use Rattle.column_lines.proofs.Again.{field_below}
use Rattle.column_lines.proofs.line.read_line.Goals as goal
use Rattle.column_lines.proofs.line.read_line.Goals.{then-line-ne-LINE_LENGTH-via-then-line-ne-LINE_LENGTH}
use Rattle.column_lines.proofs.line.read_line.Goals.{then-line-ne-LINE_LENGTH-via-else-line-ne-LINE_LENGTH+then-line-ne-NEWLINE}

pub returns-then-line-ne-LINE_LENGTH : goal.returns-then-line-ne-LINE_LENGTH
returns-then-line-ne-LINE_LENGTH c = elim c.then-line-ne-LINE_LENGTH.branch [
  | then-line-ne-LINE_LENGTH-via-then-line-ne-LINE_LENGTH w ↦ line_length_lem c.args.line.now w.if-line-ne-LINE_LENGTH.true
  | then-line-ne-LINE_LENGTH-via-else-line-ne-LINE_LENGTH+then-line-ne-NEWLINE w ↦
      line_newline c.args.line.now w.if-line-ne-LINE_LENGTH.false w.if-line-ne-NEWLINE.true
]

pub returns-in_err-kind : goal.returns-in_err-kind
returns-in_err-kind c = c.from_residual.ensures ∙ kind_off c.args.line.now c.if-line-ne-LINE_LENGTH.false c.if-line-ne-NEWLINE.false
    (sym c.read_number.ensures ∙ c.in_err-kind.was)

pub returns-in_err-span : goal.returns-in_err-span
returns-in_err-span c = c.from_residual-in_err-span.ensures ∙ span_off c.args.line.now c.if-line-ne-LINE_LENGTH.false c.if-line-ne-NEWLINE.false
    (sym c.read_number.ensures ∙ c.in_ok-kind.was) (sym c.read_number-2.ensures ∙ c.in_err-span.was)

pub returns-in_err-row : goal.returns-in_err-row
returns-in_err-row c = c.from_residual-in_err-row.ensures ∙ row_off c.args.line.now c.if-line-ne-LINE_LENGTH.false c.if-line-ne-NEWLINE.false
    (sym c.read_number.ensures ∙ c.in_ok-kind.was) (sym c.read_number-2.ensures ∙ c.in_ok-span.was) (sym c.read_number-3.ensures ∙ c.in_err-row.was)

pub returns-in_err-column : goal.returns-in_err-column
returns-in_err-column c = c.from_residual-in_err-column.ensures ∙ column_off c.args.line.now c.if-line-ne-LINE_LENGTH.false c.if-line-ne-NEWLINE.false
    (sym c.read_number.ensures ∙ c.in_ok-kind.was) (sym c.read_number-2.ensures ∙ c.in_ok-span.was) (sym c.read_number-3.ensures ∙ c.in_ok-row.was)
    (sym c.read_number-4.ensures ∙ c.in_err-column.was)

pub returns-in_err-value : goal.returns-in_err-value
returns-in_err-value c = c.from_residual-in_err-value.ensures ∙ value_off c.args.line.now c.if-line-ne-LINE_LENGTH.false c.if-line-ne-NEWLINE.false
    (sym c.read_number.ensures ∙ c.in_ok-kind.was) (sym c.read_number-2.ensures ∙ c.in_ok-span.was) (sym c.read_number-3.ensures ∙ c.in_ok-row.was)
    (sym c.read_number-4.ensures ∙ c.in_ok-column.was) (sym c.read_number-5.ensures ∙ c.in_err-value.was)

pub overflow_mul-result : goal.overflow_mul-result
overflow_mul-result c =
    let l = field_below c.args.line.now line_place line_width (omega arith) (sym c.read_number-3.ensures ∙ c.in_ok-row.was) in omega (arith, l)

pub overflow_add-result : goal.overflow_add-result
overflow_add-result c =
    let l = field_below c.args.line.now line_place line_width (omega arith) (sym c.read_number-3.ensures ∙ c.in_ok-row.was) in
    let k = field_below c.args.line.now column_place column_width (omega arith) (sym c.read_number-4.ensures ∙ c.in_ok-column.was) in
    omega (arith, l, k)

pub returns : goal.returns
returns c = line_spelled c.args.line.now c.if-line-ne-LINE_LENGTH.false c.if-line-ne-NEWLINE.false
    (sym c.read_number.ensures ∙ c.in_ok-kind.was) (sym c.read_number-2.ensures ∙ c.in_ok-span.was) (sym c.read_number-3.ensures ∙ c.in_ok-row.was)
    (sym c.read_number-4.ensures ∙ c.in_ok-column.was) (sym c.read_number-5.ensures ∙ c.in_ok-value.was)
