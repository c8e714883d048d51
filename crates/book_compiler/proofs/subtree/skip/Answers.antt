-- `book_compiler::subtree::skip` meets its contract: a way for each outcome of its tests. Assumes nothing.
use Rattle.compiler_laws.proofs.Tokens.{skip_past, skip_zero, skip_span, skip_end}
use Rattle.std.proofs.Common.{arith}
use Rattle.book_compiler.proofs.subtree.skip.Goals as goal

pub returns-then-span-eq0 : goal.returns-then-span-eq0
returns-then-span-eq0 c = skip_zero c.args.tree.now c.args.at
    c.args.end c.if-at-end.true c.field-span.ensures c.if-span-eq0.true

pub returns-then-span-end : goal.returns-then-span-end
returns-then-span-end c =
    skip_span c.args.tree.now c.args.at c.args.end c.if-at-end.true c.field-span.ensures
    c.if-span-eq0.false (omega (arith, c.if-at-end.true, c.if-span-end.true))

pub returns-then-at-end : goal.returns-then-at-end
returns-then-at-end c =
    skip_end c.args.tree.now c.args.at c.args.end c.if-at-end.true c.field-span.ensures
    c.if-span-eq0.false (omega (arith, c.if-at-end.true, c.if-span-end.false))

pub returns : goal.returns
returns c = skip_past c.args.tree.now c.args.at c.args.end c.if-at-end.false
