-- `book_compiler::grown::is_stale` meets its contract: a commit, and another order. Assumes nothing.
use Rattle.std.proofs.Common.{sym, ap}
use Rattle.definition.specs.Trial.{is_stale}
use Rattle.book_compiler.specs.declared.grown.Order as code
use Rattle.book_compiler.specs.Orders.{order_of}
use Rattle.book_compiler.proofs.OrderKinds.{never_stale}
use Rattle.book_compiler.proofs.grown.is_stale.Goals as goal

pub returns-in-Commit : goal.returns-in-Commit
unfolding order_of
returns-in-Commit c = ap (λ (x : code.Order). is_stale (order_of x) c.args.bundles) (sym c.in-Commit.is)

pub returns-in_default : goal.returns-in_default
returns-in_default c = never_stale c.args.order c.in_default.not-Commit c.args.bundles
