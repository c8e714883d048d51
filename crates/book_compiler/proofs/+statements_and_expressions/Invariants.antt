-- The cycle of `compile_statement`: each member does what the definition does to what stands at its place. The measure is the unread span.
-- A loop's invariant: whatever finishes from here finishes the whole. Assumes nothing.
use Rattle.std.proofs.Common.{◌≡◌, ℕ, ◌+◌, ◌-◌, ◌<◌, ◌≤◌}
use Rattle.book_compiler.specs.Represents.{Memory, laid}
use Rattle.book_compiler.specs.Members.{CompilesExpressions, CompilesList, CompilesStatements, CompilesVariables}
use Rattle.book_compiler.proofs.+statements_and_expressions.Given as goal

abbrev pub decreases-statements::compile_for_statement : goal.decreases-statements::compile_for_statement
decreases-statements::compile_for_statement l = l.end - l.at

abbrev pub decreases-statements::compile_block : goal.decreases-statements::compile_block
decreases-statements::compile_block l = l.end - l.at

abbrev pub decreases-statements::compile_statement : goal.decreases-statements::compile_statement
decreases-statements::compile_statement l = l.end - l.at

abbrev pub decreases-expressions::compile_if_expression : goal.decreases-expressions::compile_if_expression
decreases-expressions::compile_if_expression l = l.end - l.at

abbrev pub decreases-expressions::compile_assign_expression_left_part : goal.decreases-expressions::compile_assign_expression_left_part
decreases-expressions::compile_assign_expression_left_part l = l.end - l.at

abbrev pub decreases-expressions::compile_infix_expression : goal.decreases-expressions::compile_infix_expression
decreases-expressions::compile_infix_expression l = l.end - l.at

abbrev pub decreases-expressions::compile_expression : goal.decreases-expressions::compile_expression
decreases-expressions::compile_expression l = l.end - l.at

abbrev pub invariant-expressions::compile_assign_expression_left_part-loop-part : goal.invariant-expressions::compile_assign_expression_left_part-loop-part
invariant-expressions::compile_assign_expression_left_part-loop-part l = (l.part-iterator.tree.now ≡ l.tree) × (l.part-iterator.end ≡ l.end)
    × (l.at < l.part-iterator.at)
    × ((m : Memory) → CompilesExpressions l.tree l.part-iterator.at l.end l.start l.count (laid l.state l.starts l.memory) m
    → CompilesExpressions l.tree (l.at + 1) l.end l.start l.count (laid l.initial.state l.starts l.initial.memory) m)

abbrev pub invariant-expressions::compile_expression-loop-part : goal.invariant-expressions::compile_expression-loop-part
invariant-expressions::compile_expression-loop-part l = (l.part-iterator.tree.now ≡ l.tree) × (l.part-iterator.end ≡ l.end) × (l.at + l.n < l.part-iterator.at)
    × ((m : Memory) (r : ℕ) → CompilesList l.tree l.part-iterator.at l.end l.start l.count (laid l.state l.starts l.memory) m l.n r
    → CompilesList l.tree (l.at + 1) l.end l.start l.count (laid l.initial.state l.starts l.initial.memory) m 0 r)

abbrev pub invariant-statements::compile_variables-loop-i : goal.invariant-statements::compile_variables-loop-i
invariant-statements::compile_variables-loop-i l = (l.at ≤ l.i) ×
    ((m : Memory) → CompilesVariables l.tree l.i l.end l.start l.count
    (laid l.state l.starts l.memory) m → CompilesVariables l.tree l.at l.end l.start l.count
    (laid l.initial.state l.starts l.initial.memory) m)

abbrev pub decreases-statements::compile_variables-loop-i : goal.decreases-statements::compile_variables-loop-i
decreases-statements::compile_variables-loop-i l = l.end - l.i

abbrev pub invariant-statements::compile_block-loop-statement : goal.invariant-statements::compile_block-loop-statement
invariant-statements::compile_block-loop-statement l = (l.statement-iterator.tree.now ≡ l.tree) × (l.statement-iterator.end ≡ l.end)
    × (l.at < l.statement-iterator.at)
    × ((m : Memory) → CompilesStatements l.tree l.statement-iterator.at l.end l.start l.count (laid l.state l.starts l.memory) m
    → CompilesStatements l.tree (l.at + 1) l.end l.start l.count (laid l.initial.state l.starts l.initial.memory) m)

abbrev pub invariant-statements::compile_for_statement-loop-statement : goal.invariant-statements::compile_for_statement-loop-statement
invariant-statements::compile_for_statement-loop-statement l = (l.statement-iterator.tree.now ≡ l.tree) × (l.statement-iterator.end ≡ l.end)
    × (l.at < l.statement-iterator.at)
    × ((m : Memory) → CompilesStatements l.tree l.statement-iterator.at l.end l.start l.count (laid l.state l.starts l.memory) m
    → CompilesStatements l.tree l.body l.end l.start l.count (laid l.initial.state l.starts l.initial.memory) m)

abbrev pub decreases-statements::compile_variables : goal.decreases-statements::compile_variables
decreases-statements::compile_variables l = l.end - l.at
