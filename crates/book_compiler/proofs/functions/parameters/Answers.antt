-- `book_compiler::functions::parameters` meets its contract. The invariant: what finishes from here finishes the whole. Assumes nothing.
use Rattle.book_compiler.proofs.Parameters.{parameters_end, parameters_more}
use Rattle.book_compiler.proofs.functions.parameters.Goals as goal

pub loop-i-init : goal.loop-i-init
loop-i-init c = λ m h. h

pub loop-i-preserved : goal.loop-i-preserved
loop-i-preserved c = λ m h. c.loop-i.invariant m (parameters_more c.loop-i-test.true c.parameter.ensures h)

pub returns : goal.returns
returns c = c.loop-i.invariant _ (parameters_end c.loop-i-test.false)
