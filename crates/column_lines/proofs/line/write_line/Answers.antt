-- `write_line` meets its contract: after each field, the bytes up to its end are written and the others as they were. Assumes nothing.
use mathlib.Core.Bool.{false}
use mathlib.Core.List.{[]}
use lib.Dec.{eqb}
use native.Mathlib.Omega.{arith}
use Rattle.column_lines.specs.Form.{span_place, line_place, column_place, value_place, newline_place, signed_kind}
use Rattle.column_lines.proofs.Lines.{begun, begun_put, line_written}
use Rattle.column_lines.proofs.line.write_line.Goals as goal

pub returns : goal.returns
returns c =
    let kind = begun_put [] c.args.out.now _ 0 span_place false c.args.fields.kind (begun c.args.out.now) (omega arith) (omega arith) c.write_number.ensures in
    let span = begun_put _ c.args.out.now _ span_place line_place false c.args.fields.span kind (omega arith) (omega arith) c.write_number-2.ensures in
    let row = begun_put _ c.args.out.now _ line_place column_place false c.line_of.result span (omega arith) (omega arith) c.write_number-3.ensures in
    let column = begun_put _ c.args.out.now _ column_place value_place false c.column_of.result row (omega arith) (omega arith) c.write_number-4.ensures in
    let value = begun_put _ c.args.out.now _ value_place newline_place (eqb c.args.fields.kind signed_kind) c.args.fields.value column (omega arith)
    (omega arith) c.write_number-5.ensures in
    line_written c.args.fields.kind c.args.fields.span c.args.fields.position c.args.fields.value c.args.out.now _ c.if-out-ne-LINE_LENGTH.false
    c.line_of.ensures c.column_of.ensures value
