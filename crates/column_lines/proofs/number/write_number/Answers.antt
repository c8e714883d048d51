-- `write_number` meets its contract, by the sign. Assumes nothing.
use Rattle.std.proofs.Common.{sym, ◌∙◌}
use Rattle.column_lines.proofs.Integers.{negative_size, negative_held}
use Rattle.column_lines.proofs.Writing.{wrote_natural, wrote_negative, negative_yes}
use Rattle.column_lines.proofs.number.write_number.Goals as goal

pub write_digits-requires : goal.write_digits-requires
write_digits-requires c =
    negative_held c.args.word _ c.ranges.word (negative_yes c.args.signed c.args.word (sym c.if-is_negative.true ∙ c.is_negative.ensures))
    c.integer_of_word.ensures

pub returns-then-is_negative : goal.returns-then-is_negative
returns-then-is_negative c =
    let negative = sym c.if-is_negative.true ∙ c.is_negative.ensures in
    wrote_negative c.args.signed c.args.word _ c.args.out.now _ negative
    (negative_size c.args.word _ c.ranges.word (negative_yes c.args.signed c.args.word negative) c.integer_of_word.ensures) c.write_digits.ensures

pub returns-else-is_negative : goal.returns-else-is_negative
returns-else-is_negative c =
    wrote_natural c.args.signed c.args.word c.args.out.now _ (sym c.if-is_negative.false ∙ c.is_negative.ensures) c.write_digits-else-is_negative.ensures
