-- `book_compiler::grown::answer_onto` meets its contract: a program that fails the check is left; a stale commit is refused; else the work. Assumes nothing.
use Rattle.std.proofs.Common.{sym, refl, ◌∙◌, rules}
use Rattle.book_compiler.proofs.OntoMemory.{unfit_into, stale_into, runs_into}
use Rattle.book_compiler.proofs.grown.answer_onto.Goals as goal

pub returns-in-Err : goal.returns-in-Err
returns-in-Err c =
    unfit_into c.args.lengths c.args.memory.now (search rules) (sym
    c.in-Err.is ∙ c.check_program.ensures) refl c.refused_with.ensures

pub returns-then-is_stale : goal.returns-then-is_stale
returns-then-is_stale c =
    stale_into c.args.lengths c.args.memory.now (search (rules, c.well_formed.1.1.1.1.0)) c.starts_of-starts.ensures
    c.refuse_stale.auto.memory
    (sym c.in_default.is ∙ c.check_program.ensures) c.is_stale.ensures c.if-is_stale.true c.refuse_stale.ensures

pub returns : goal.returns
returns c =
    runs_into c.args.lengths c.args.memory.now (search (rules, c.well_formed.1.1.1.1.0)) c.starts_of-starts.ensures
    c.run_onto.auto.memory
    (sym c.in_default.is ∙ c.check_program.ensures) c.is_stale.ensures c.if-is_stale.false c.run_onto.ensures
