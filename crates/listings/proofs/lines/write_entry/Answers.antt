-- `write_entry` meets its contract: a line through the writer, or none. Assumes nothing.
use Rattle.listings.specs.Sections.{entry_lines}
use Rattle.listings.proofs.Walking.{entry_written, entry_unlisted, place_refused}
use borrow.Author.Rules.{rules}
use Rattle.listings.proofs.lines.write_entry.Goals as goal

pub returns-in_err-at : goal.returns-in_err-at
returns-in_err-at c =
    place_refused (entry_lines c.args.section c.args.area.now c.args.i) c.args.place c.from_residual.result c.args.out.now c.in_err-at.was (search rules)

pub returns-then-is_listed : goal.returns-then-is_listed
returns-then-is_listed c =
    entry_written c.args.section c.args.area.now c.args.i c.args.place c.in_ok-at.at c.args.out.now c.in_ok-at.was c.is_listed.ensures
    c.if-is_listed.true c.entry_line-line.ensures c.write_line.ensures

pub returns : goal.returns
returns c =
    entry_unlisted c.args.section c.args.area.now c.args.i c.args.place c.in_ok-at.at c.args.out.now c.in_ok-at.was c.is_listed.ensures
    c.if-is_listed.false
