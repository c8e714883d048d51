-- `book_compiler::pairs::find_pair` meets its contract. The invariant: what is found from the start on is what is found from here on.
-- Assumes nothing.
use Rattle.std.proofs.Common.{◌≡◌, ◌-◌}
use Rattle.building.specs.Found.{first_from}
use Rattle.compiler_laws.specs.IncludeSteps.{is_pair}
use Rattle.book_compiler.proofs.pairs.find_pair.Given as goal

abbrev pub invariant-loop-i : goal.invariant-loop-i
invariant-loop-i l = first_from (is_pair l.width l.a l.b l.area) (l.count - l.i) l.i ≡ first_from (is_pair l.width l.a l.b l.area) (l.count - l.from) l.from
