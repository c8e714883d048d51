-- `book_compiler::expressions::name` meets its contract: with the mark set, a local, a context local, or a global. Assumes nothing.
use Rattle.words.specs.Codes.{number_of}
use Rattle.book_compiler.proofs.Leaves.{name_full, name_local, name_context, name_global}
use Rattle.book_compiler.proofs.expressions.name.Goals as goal

pub returns-then-state-ne0 : goal.returns-then-state-ne0
returns-then-state-ne0 c = name_full (number_of c.args.local) (number_of c.args.outer) (number_of
    c.args.other) c.args.text c.args.position c.if-state-ne0.true

pub returns-in-Some : goal.returns-in-Some
returns-in-Some c =
    name_local (number_of c.args.local) (number_of c.args.outer) (number_of c.args.other) c.args.text c.args.position
    c.if-state-ne0.false c.find_local.ensures c.in-Some.is c.to_instruction-instruction.ensures
    c.emit.ensures

pub returns-in-Some-find_context_local : goal.returns-in-Some-find_context_local
returns-in-Some-find_context_local c =
    name_context (number_of c.args.local) (number_of c.args.outer) (number_of c.args.other) c.args.text c.args.position
    c.if-state-ne0.false c.find_local.ensures c.in_default.is c.find_context_local.ensures c.in-Some-find_context_local.is
    c.to_instruction-instruction-in-Some-find_context_local.ensures c.emit-in-Some-find_context_local.ensures

pub returns : goal.returns
returns c =
    name_global (number_of c.args.local) (number_of c.args.outer) (number_of c.args.other) c.args.text c.args.position
    c.if-state-ne0.false c.find_local.ensures c.in_default.is c.find_context_local.ensures
    c.in_default-find_context_local.is c.global.ensures
