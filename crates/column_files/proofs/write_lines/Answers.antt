-- `write_lines` meets its contract. Assumes nothing.
use Rattle.std.proofs.Common.{arith, sym, ◌∙◌}
use Rattle.column_files.proofs.Files.{bad_start, bad_next}
use Rattle.column_files.proofs.Converting.{words_put, lines_begun, lines_next, lines_bad, lines_end}
use Rattle.column_files.proofs.write_lines.Goals as goal

pub loop-i-init : goal.loop-i-init
loop-i-init c = record { bad = bad_start c.args.file.now; written = lines_begun c.args.file.now c.args.out.now }

pub loop-i-preserved : goal.loop-i-preserved
loop-i-preserved c = record {
  bad = c.loop-i.invariant.bad ∙ bad_next c.args.file.now c.loop-i.i c.loop-i-test.true c.line_at.ensures c.in-Some.is;
  written = lines_next c.args.file.now c.args.out.now c.loop-i.out _ c.loop-i.i c.loop-i.invariant.written
      (words_put c.args.file.now c.loop-i.out c.loop-i.i (omega (arith, c.requires, c.loop-i-test.true, c.loop-i.auto.out))
      (sym c.in-Some.is ∙ c.line_at.ensures) c.write_entry.ensures);
}

pub returns-in_default : goal.returns-in_default
returns-in_default c =
    rw c.at.ensures (lines_bad c.args.file.now c.args.out.now c.loop-i.out c.loop-i.i c.loop-i.invariant.bad c.loop-i-test.true c.line_at.ensures
    c.in_default.is)

pub returns : goal.returns
returns c =
    lines_end c.args.file.now c.args.out.now c.loop-i.out c.loop-i.i c.loop-i.invariant.bad c.loop-i.invariant.written c.loop-i-test.false c.loop-i.auto.i-end
    c.check_end.ensures
