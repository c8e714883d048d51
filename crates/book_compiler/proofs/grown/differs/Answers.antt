-- `book_compiler::grown::differs` meets its contract: a commit, and another order. Assumes nothing.
use Rattle.std.proofs.Common.{not, sym, ap, ◌∙◌}
use Rattle.compiler_laws.specs.CallEnd.{differs}
use Rattle.book_compiler.specs.declared.grown.Order as code
use Rattle.book_compiler.specs.Orders.{order_of}
use Rattle.book_compiler.proofs.OrderKinds.{never_differs}
use Rattle.book_compiler.proofs.grown.differs.Goals as goal

pub returns-in-Commit : goal.returns-in-Commit
unfolding differs order_of
returns-in-Commit c = ap not c.same_line_one.ensures
    ∙ ap (λ (x : code.Order). differs (order_of x) c.args.totals) (sym c.in-Commit.is)

pub returns-in_default : goal.returns-in_default
returns-in_default c = never_differs c.args.order c.in_default.not-Commit c.args.totals
