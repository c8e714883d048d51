-- `book_compiler::lent::part` meets its contract: where the starts fit, the part is what is read. Assumes nothing.
use Rattle.std.proofs.Common.{refl}
use Rattle.memory.specs.Layout.{part}
use Rattle.book_compiler.proofs.Lending.{uncut}
use Rattle.book_compiler.proofs.lent.part.Goals as goal

pub returns : goal.returns
unfolding part
returns c = record { on = λ f. let at = uncut f c.requires c.min-end.ensures c.min-start.ensures in rw (at.0, at.1) refl }
