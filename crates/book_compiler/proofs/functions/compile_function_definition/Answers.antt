-- `book_compiler::functions::compile_function_definition` meets its contract: with the mark set, an instance's function, and any other. Assumes nothing.
use Rattle.book_compiler.proofs.FunctionDefinitions.{function_full, function_instance, function_plain}
use Rattle.book_compiler.proofs.functions.compile_function_definition.Goals as goal

pub returns-then-state-ne0 : goal.returns-then-state-ne0
returns-then-state-ne0 c =
    function_full c.field-name.ensures c.define_local-found.ensures c.make-state.ensures c.if-state-ne0.true c.resume.ensures

pub returns-then-state : goal.returns-then-state
returns-then-state c =
    function_instance c.field-name.ensures c.define_local-found.ensures c.make-state.ensures c.if-state-ne0.false c.if-state.true
    c.drop_instance.ensures

pub returns : goal.returns
returns c =
    function_plain c.field-name.ensures c.define_local-found.ensures c.make-state.ensures c.if-state-ne0.false c.if-state.false
    c.add_plain.ensures
