-- `next` of the subtrees meets its contract: the next place is further on, and not behind the end. Assumes nothing.
use Rattle.std.proofs.Common.{arith}
use Rattle.compiler_laws.proofs.Tokens.{skip_more}
use Rattle.book_compiler.proofs.subtree.SubtreesIterator.next.Goals as goal

pub returns-clause-goes : goal.returns-clause-goes
returns-clause-goes c =
    let on = skip_more c.args.self.now.tree.now c.args.self.now.at c.args.self.now.end c.if-self.false c.skip-self.ensures in
    record { on = λ f. (tt, tt, omega (arith, on)); keeps = tt; rests = λ f. tt }
