-- `code_fine` meets its contract. Assumes nothing.
use Rattle.program_check.proofs.InstructionTests.{code_fine}
use Rattle.program_check.proofs.instructions.code_fine.Goals as goal

pub returns : goal.returns
returns c =
    code_fine c.args.code.now c.args.i c.args.totals c.entry_word-word.ensures c.entry_word-position.ensures c.operand_fine-within.ensures
    c.is_operation.ensures c.implies-operation.ensures c.is_opcode.ensures c.in_place.ensures
