-- `book_compiler::function_state::add_constant` meets its contract: a way for each outcome of its tests. Assumes nothing.
use Rattle.book_compiler.proofs.SlotSteps.{adds_full, adds_found, adds_new, adds_plain}
use Rattle.book_compiler.proofs.function_state.add_constant.Goals.{then-is_shared+in_default, else-is_shared}
use Rattle.book_compiler.proofs.function_state.add_constant.Goals as goal

pub returns-then-state-ne0 : goal.returns-then-state-ne0
returns-then-state-ne0 c = adds_full c.args.kind c.args.value c.if-state-ne0.true

pub returns-in-Some : goal.returns-in-Some
returns-in-Some c =
    adds_found c.if-state-ne0.false c.is_shared.ensures c.if-is_shared.true c.find_constant.ensures c.in-Some.is

pub returns : goal.returns
returns c =
    elim c.if-is_shared.branch [
      | then-is_shared+in_default w ↦
          adds_new c.if-state-ne0.false c.is_shared.ensures w.if-is_shared.true w.find_constant.ensures w.in_default.is c.add_new_constant.ensures
      | else-is_shared w ↦ adds_plain c.if-state-ne0.false c.is_shared.ensures w.if-is_shared.false c.add_new_constant.ensures
    ]
