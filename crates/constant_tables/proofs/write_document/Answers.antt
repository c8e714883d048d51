-- `write_document` meets its contract: the document, its definitions up to a bad line, then the rows in their order. Assumes nothing.
use Rattle.std.proofs.Common.{◌∙◌, sym, refl, arith, length}
use Rattle.std.proofs.lemmas.Result.{err_from_is_err_and}
use Rattle.constant_tables.proofs.Converting.{count_most, rows_bad, rows_long, rows_file, rows_good, table_refused, table_short, table_done}
use Rattle.constant_tables.proofs.write_document.Goals as goal

pub overflow_mul-records : goal.overflow_mul-records
overflow_mul-records c = omega (arith, c.line_count-lines.ensures, count_most (length c.args.table.now))

pub overflow_add-records : goal.overflow_add-records
overflow_add-records c = omega (arith, c.line_count-lines.ensures, count_most (length c.args.table.now))

pub returns-in_err-write_definitions : goal.returns-in_err-write_definitions
returns-in_err-write_definitions c =
    let p = err_from_is_err_and c.from_residual.result c.from_residual.ensures.1 in
    rw (p.1, p.2) (table_refused c.args.table.now c.write_definitions.new.out c.args.file (length c.args.out.now)
    (c.write_definitions.auto.out ∙ c.write_entry.auto.area) (rows_bad c.args.table.now c.args.file
    (sym c.write_definitions.ensures.first ∙ c.in_err-write_definitions.was)))

pub returns-then-lines-gt-MOST_LINES : goal.returns-then-lines-gt-MOST_LINES
returns-then-lines-gt-MOST_LINES c =
    let good = sym c.write_definitions.ensures.first ∙ c.in_ok-write_definitions.was in
    table_refused c.args.table.now c.write_definitions.new.out c.args.file (length c.args.out.now) (c.write_definitions.auto.out ∙ c.write_entry.auto.area)
    (rw c.at.ensures (rows_long c.args.table.now c.args.file good (omega (arith, c.line_count-lines.ensures, c.if-lines-gt-MOST_LINES.true))))

pub returns-then-not-is_text : goal.returns-then-not-is_text
returns-then-not-is_text c =
    let good = sym c.write_definitions.ensures.first ∙ c.in_ok-write_definitions.was in
    table_refused c.args.table.now c.write_definitions.new.out c.args.file (length c.args.out.now) (c.write_definitions.auto.out ∙ c.write_entry.auto.area)
    (rw c.at-then-not-is_text.ensures (rows_file c.args.table.now c.args.file good (omega (arith, c.line_count-lines.ensures, c.if-lines-gt-MOST_LINES.false))
    (sym c.is_text.ensures ∙ c.if-not-is_text.true)))

pub returns-then-out-records : goal.returns-then-out-records
returns-then-out-records c =
    let good = sym c.write_definitions.ensures.first ∙ c.in_ok-write_definitions.was in
    let long = c.write_definitions.auto.out ∙ c.write_entry.auto.area in
    table_short c.args.table.now c.write_definitions.new.out c.args.file (length c.args.out.now) long
    (rows_good c.args.table.now c.args.file good (omega (arith, c.line_count-lines.ensures, c.if-lines-gt-MOST_LINES.false))
    (sym c.is_text.ensures ∙ c.if-not-is_text.false)) (omega (arith, c.line_count-lines.ensures, c.if-out-records.true, long)) c.at-then-out-records.ensures

pub returns : goal.returns
returns c =
    let good = sym c.write_definitions.ensures.first ∙ c.in_ok-write_definitions.was in
    let long = c.write_definitions.auto.out ∙ c.write_entry.auto.area in
    table_done c.args.table.now c.write_definitions.new.out c.args.file (length c.args.out.now) long
    (rows_good c.args.table.now c.args.file good (omega (arith, c.line_count-lines.ensures, c.if-lines-gt-MOST_LINES.false))
    (sym c.is_text.ensures ∙ c.if-not-is_text.false)) c.args.out.now c.write_entry.new.area c.line_count-lines.ensures
    (omega (arith, c.if-out-records.false, long))
    c.write_entry.auto.area refl c.write_entry.ensures c.write_definitions.ensures c.in_ok-write_definitions.was
