-- `book_compiler::pairs::find_pair` meets its contract. The invariant: what is found from the start on is what is found from here on. Assumes nothing.
use Rattle.std.proofs.Common.{◌-◌, sym, ◌∙◌}
use Rattle.words.proofs.Firsts.{first_here, first_next, first_end}
use Rattle.compiler_laws.specs.IncludeSteps.{is_pair}
use Rattle.book_compiler.proofs.pairs.find_pair.Goals as goal

pub returns-then-is_pair : goal.returns-then-is_pair
returns-then-is_pair c =
    first_here (is_pair c.args.width c.args.a c.args.b c.args.area.now) c.args.count c.loop-i.i
    (c.args.count - c.args.from) c.args.from
    c.loop-i-test.true (sym c.is_pair.ensures ∙ c.if-is_pair.true) c.loop-i.invariant

pub loop-i-preserved : goal.loop-i-preserved
loop-i-preserved c =
    first_next (is_pair c.args.width c.args.a c.args.b c.args.area.now) c.args.count c.loop-i.i
    (c.args.count - c.args.from) c.args.from
    c.loop-i-test.true (sym c.is_pair.ensures ∙ c.if-is_pair.false) c.loop-i.invariant

pub returns : goal.returns
returns c = first_end (is_pair c.args.width c.args.a c.args.b
    c.args.area.now) c.args.count c.loop-i.i
    (c.args.count - c.args.from) c.args.from
    c.loop-i-test.false c.loop-i.invariant
