-- `undo::methods::find_method` meets its contract. The invariant: what is found from the start on is what is found from here on. Assumes nothing.
use Rattle.std.proofs.Common.{◌≡◌, ◌-◌}
use Rattle.building.specs.Found.{first_from}
use Rattle.compiler_laws.specs.IncludeSteps.{is_pair}
use Rattle.undo.specs.Notes.{plain_methods}
use Rattle.undo.proofs.methods.find_method.Given as goal

abbrev pub invariant-loop-i : goal.invariant-loop-i
invariant-loop-i l = first_from (is_pair 3 l.model l.name (plain_methods l.stood l.methods)) (l.count - l.i) l.i
    ≡ first_from (is_pair 3 l.model l.name (plain_methods l.stood l.methods)) (l.count - 0) 0
