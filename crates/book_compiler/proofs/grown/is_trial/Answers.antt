-- `book_compiler::grown::is_trial` meets its contract: a trial, and another order. Assumes nothing.
use Rattle.std.proofs.Common.{sym, ap}
use Rattle.compiler_laws.specs.CallEnd.{is_trial}
use Rattle.book_compiler.specs.declared.grown.Order as code
use Rattle.book_compiler.specs.Orders.{order_of}
use Rattle.book_compiler.proofs.OrderKinds.{no_trial}
use Rattle.book_compiler.proofs.grown.is_trial.Goals as goal

pub returns-in-Trial : goal.returns-in-Trial
unfolding is_trial order_of
returns-in-Trial c = ap (λ (x : code.Order). is_trial (order_of x)) (sym c.in-Trial.is)

pub returns-in_default : goal.returns-in_default
returns-in_default c = no_trial c.args.order c.in_default.not-Trial
