-- `book_compiler::slots::fill_slots` meets its contract. The invariant: the slots are what filling zeros with the constants so far gives. Assumes nothing.
use Rattle.book_compiler.proofs.SlotFilling.{FillsZeros}
use Rattle.book_compiler.proofs.slots.fill_slots.Given as goal

abbrev pub invariant-loop-i : goal.invariant-loop-i
invariant-loop-i l = FillsZeros l.i l.starts l.initial.memory l.memory
