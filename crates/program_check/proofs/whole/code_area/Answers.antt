-- `code_area` meets its contract: the entries, and what is asked of functions. Assumes nothing.
use Rattle.std.proofs.Common.{sym, ◌∙◌}
use Rattle.program_check.proofs.WholeTests.{code_no, code_yes, code_room}
use Rattle.program_check.proofs.whole.code_area.Goals as goal

pub functions_keep-requires : goal.functions_keep-requires
functions_keep-requires c = code_room c.args.code.now c.args.functions.now c.args.totals (sym c.entries_fine.ensures ∙ c.if-entries_fine.true)

pub returns-then-entries_fine : goal.returns-then-entries_fine
returns-then-entries_fine c =
    c.functions_keep.ensures ∙ code_yes c.args.code.now c.args.functions.now c.args.totals (sym c.entries_fine.ensures ∙ c.if-entries_fine.true)

pub returns-else-entries_fine : goal.returns-else-entries_fine
returns-else-entries_fine c =
    c.if-entries_fine.false ∙ code_no c.args.code.now c.args.functions.now c.args.totals (sym c.entries_fine.ensures ∙ c.if-entries_fine.false)
