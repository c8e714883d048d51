-- What a statement does one deeper: the part of `compile_statement` between its two changes of the depth
-- Private contracts alone cite this file: whoever reads the promises need not believe it
use Rattle.words.specs.Ast.{Statement, Local, Return, For, Break, Rescue, Expr}
use Rattle.definition.specs.FunctionState as Emission
use Rattle.definition.specs.Compiler.{Step, doing, compile_expression}
use Rattle.definition.specs.Compiler.{compile_statements, compile_variables, compile_for_statement}
use Rattle.definition.specs.Compiler.{compile_rescue, compile_expression_statement}

-- a statement, the depth apart: `compile_statement s` is `deeper (inner s)`
abbrev pub inner : Statement → Step
inner (Local vs) = compile_variables vs
inner (Return t) = doing (Emission.emit_return t.position)
inner (For t n e ss) = compile_for_statement t n (compile_expression e) (compile_statements ss)
inner (Break t) = doing (Emission.emit_break t.position)
inner (Rescue t) = compile_rescue t
inner (Expr e) = compile_expression_statement (compile_expression e)
