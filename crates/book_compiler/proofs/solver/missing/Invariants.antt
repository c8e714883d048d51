-- `book_compiler::solver::missing` meets its contract. The invariant: what is missing from here is missing from the start. Assumes nothing.
use Rattle.std.proofs.Common.{◌≡◌, ◌≤◌}
use Rattle.building.specs.Found.{Found}
use Rattle.compiler_laws.specs.FileSets.{set_size}
use Rattle.compiler_laws.proofs.DocumentsRead.{MissesFrom}
use Rattle.book_compiler.proofs.solver.missing.Given as goal

abbrev pub invariant-loop-file : goal.invariant-loop-file
invariant-loop-file l = (l.file-iterator.set.now ≡ l.needed) × (l.file-iterator.from ≤ set_size)
    × ((r : Found) → MissesFrom l.needed l.present l.file-iterator.from r → MissesFrom l.needed l.present 0 r)
