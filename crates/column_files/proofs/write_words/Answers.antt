-- `write_words` meets its contract: by the room, row 1, then rows 2 to 4 from the bytes or from the words. Assumes nothing.
use Rattle.std.proofs.Common.{◌∙◌, sym, refl, length}
use Rattle.std.proofs.lemmas.Result.{err_from_is_err_and}
use Rattle.column_files.proofs.Files.{row_one_none}
use Rattle.column_files.proofs.Converting.{words_bad, words_refused, words_short, words_done, words_checked}
use Rattle.column_files.proofs.write_words.Goals as goal

pub returns-in_err-check_lines : goal.returns-in_err-check_lines
returns-in_err-check_lines c =
    let p = err_from_is_err_and c.from_residual.result c.from_residual.ensures.1 in
    rw (p.1, p.2) (words_bad c.args.file.now c.args.out.now (length c.args.out.now) refl (sym c.check_lines.ensures ∙ c.in_err-check_lines.was))

pub returns-in_err-check_file : goal.returns-in_err-check_file
returns-in_err-check_file c =
    let p = err_from_is_err_and c.from_residual-in_err-check_file.result c.from_residual-in_err-check_file.ensures.1 in
    let good = row_one_none c.args.file.now c.check_lines.ensures c.in_ok-check_lines.was in
    rw (p.1, p.2) (words_refused c.args.file.now c.args.out.now (length c.args.out.now) refl good (sym c.check_file.ensures ∙ c.in_err-check_file.was))

pub returns-then-out-lines : goal.returns-then-out-lines
returns-then-out-lines c =
    let good = row_one_none c.args.file.now c.check_lines.ensures c.in_ok-check_lines.was in
    words_short c.args.file.now c.args.out.now (length c.args.out.now) refl good (sym c.check_file.ensures ∙ c.in_ok-check_file.was) c.if-out-lines.true
    c.at.ensures

pub returns-in_err-write_lines : goal.returns-in_err-write_lines
returns-in_err-write_lines c =
    let p = err_from_is_err_and c.from_residual-in_err-write_lines.result c.from_residual-in_err-write_lines.ensures.1 in
    rw (p.1, p.2) (words_bad c.args.file.now c.write_lines.new.out (length c.args.out.now) c.write_lines.auto.out
    (sym c.write_lines.ensures.first ∙ c.in_err-write_lines.was))

pub returns-in_err-check : goal.returns-in_err-check
returns-in_err-check c =
    let p = err_from_is_err_and c.from_residual-in_err-check.result c.from_residual-in_err-check.ensures.1 in
    let good = row_one_none c.args.file.now c.write_lines.ensures.first c.in_ok-write_lines.was in
    let m = c.write_lines.ensures.words c.in_ok-write_lines.was in
    rw (p.1, p.2) (words_refused c.args.file.now c.write_lines.new.out (length c.args.out.now) c.write_lines.auto.out good
    (sym (words_checked c.args.file.now _ _ m) ∙ sym c.check.ensures ∙ c.in_err-check.was))

pub returns : goal.returns
returns c =
    let good = row_one_none c.args.file.now c.write_lines.ensures.first c.in_ok-write_lines.was in
    let m = c.write_lines.ensures.words c.in_ok-write_lines.was in
    words_done c.args.file.now c.write_lines.new.out (length c.args.out.now) c.write_lines.auto.out good _
    (sym (words_checked c.args.file.now _ _ m) ∙ sym c.check.ensures ∙ c.in_ok-check.was) c.if-out-lines.false m
