-- `book_compiler::solver::needed` meets its contract. The invariant: what is needed from here is needed from the start. Assumes nothing.
use Rattle.std.proofs.Common.{◌≡◌, ℕ, List, length}
use Rattle.compiler_laws.proofs.DocumentsRead.{NeededFrom}
use Rattle.book_compiler.proofs.solver.needed.Given as goal

abbrev pub invariant-loop-document : goal.invariant-loop-document
invariant-loop-document l = (l._document-iterator.tree.now ≡ l.tree) × (l._document-iterator.end ≡ l.end) × (length l.read ≡ length l.initial.read)
    × (length l.set ≡ length l.initial.set) × (length l.next ≡ length l.initial.next)
    × ((after : List ℕ) → NeededFrom l.tree l._document-iterator.at l.end l.standing l.read l.set l.next after
    → NeededFrom l.tree 0 l.end l.standing l.initial.read l.initial.set
    l.initial.next after)
