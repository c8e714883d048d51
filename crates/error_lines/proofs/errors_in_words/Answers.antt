-- `errors_in_words` meets its contract, with an unknown error or none. Assumes nothing.
use borrow.Author.Rules.{rules}
use Rattle.error_lines.proofs.Whole.{answer_unknown, answer_lines}
use Rattle.error_lines.proofs.errors_in_words.Goals as goal

pub returns-in-Some : goal.returns-in-Some
returns-in-Some c =
    answer_unknown c.args.errors.now c.args.table.now c.args.bytes.now c.args.file c.first_unknown.ensures c.args.out.now c.in-Some.is
    c.clear_bytes.ensures

pub returns : goal.returns
returns c =
    answer_lines c.args.errors.now c.args.table.now c.args.bytes.now c.args.file c.first_unknown.ensures _ c.put_lines.new.self _
    c.finish.new.self.0 (search rules) c.put_lines.ensures c.finish.ensures (λ n. search rules)
