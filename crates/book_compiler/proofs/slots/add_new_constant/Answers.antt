-- `book_compiler::slots::add_new_constant` meets its contract: the count says whether an entry was taken. Assumes nothing.
use Rattle.book_compiler.proofs.SlotSteps.{new_with_slot, new_refused}
use Rattle.book_compiler.proofs.slots.add_new_constant.Goals as goal

pub returns-then-before-state : goal.returns-then-before-state
returns-then-before-state c = new_with_slot c.add_no_check-index.ensures c.put_slot.ensures c.if-before-state.true

pub returns-else-before-state : goal.returns-else-before-state
returns-else-before-state c = new_refused c.add_no_check-index.ensures c.if-before-state.false
