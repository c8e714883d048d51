-- `book_compiler::solver::add` meets its contract: a way for each outcome of its tests. Assumes nothing.
use Rattle.std.proofs.Common.{sym, ◌∙◌}
use Rattle.compiler_laws.proofs.SetBits.{add_there, add_out, add_new}
use Rattle.book_compiler.proofs.solver.add.Goals as goal

pub returns-then-has : goal.returns-then-has
returns-then-has c = add_there c.args.set.now c.args.n (sym
    c.if-has.true ∙ c.has.ensures)

pub returns-then-at-set : goal.returns-then-at-set
returns-then-at-set c =
    add_new c.args.set.now c.args.n (sym c.if-has.false ∙ c.has.ensures)

pub returns-else-at-set : goal.returns-else-at-set
returns-else-at-set c =
    add_out c.args.set.now c.args.n (sym c.if-has.false ∙ c.has.ensures) c.if-at-set.false
