-- `book_compiler::order::ring` meets its contract. The invariant: what is rung from here is rung from the start. Assumes nothing.
use Rattle.book_compiler.specs.BookOrder.{PushesRingErrorsIn}
use Rattle.building.specs.declared.taking.Taken.{Taken}
use Rattle.building.specs.Taking.{taken}
use Rattle.std.proofs.Common.{◌≡◌, ℕ, List, length}
use Rattle.book_compiler.proofs.order.ring.Given as goal

abbrev pub invariant-loop-k : goal.invariant-loop-k
invariant-loop-k l = (length l.memory ≡ length l.initial.memory)
    × ((r : Taken) (after : List ℕ) → PushesRingErrorsIn l.k l.count l.t l.starts l.memory r after → PushesRingErrorsIn l.done l.count (taken 0 0) l.starts
    l.initial.memory r after)
