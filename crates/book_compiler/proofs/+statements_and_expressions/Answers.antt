-- The cycle of `compile_statement`: each member does what the definition does to what stands at its place. The measure is the unread span.
-- A loop's invariant: whatever finishes from here finishes the whole. Assumes nothing.
use Rattle.std.proofs.Common.{ℕ, ◌+◌, refl, arith}
use Rattle.words.specs.declared.record.RecordKind.{RecordKind}
use Rattle.words.specs.declared.record.RecordKind.TheVariants as records
use Rattle.compiler_laws.proofs.Tokens.{skip_more, skip_inside}
use Rattle.book_compiler.specs.Represents.{laid}
use Rattle.book_compiler.specs.Members.{CompilesExpressions, CompilesList, CompilesStatements}
use Rattle.book_compiler.proofs.Subtrees.{same_tree, same_end, over, past, back}
use Rattle.book_compiler.proofs.ReadCases.{record_or, no_record}
use Rattle.book_compiler.proofs.ExpressionKinds as e
use Rattle.book_compiler.proofs.Infix as i
use Rattle.book_compiler.proofs.Ifs as f
use Rattle.book_compiler.proofs.StatementKinds as s
use Rattle.book_compiler.proofs.Variables as v
use Rattle.book_compiler.proofs.BothParts.{break_acts}
use Rattle.book_compiler.proofs.Loops.{for_meets, for_past}
use Rattle.book_compiler.proofs.+statements_and_expressions.Goals.{statements::compile_statement-in-ExpressionStatement}
use Rattle.book_compiler.proofs.+statements_and_expressions.Goals.{statements::compile_statement-in-LocalStatement}
use Rattle.book_compiler.proofs.+statements_and_expressions.Goals.{statements::compile_statement-in-ForStatement}
use Rattle.book_compiler.proofs.+statements_and_expressions.Goals.{statements::compile_statement-in-BreakStatement}
use Rattle.book_compiler.proofs.+statements_and_expressions.Goals.{statements::compile_statement-in-RescueStatement, statements::compile_statement-in_default}
use Rattle.book_compiler.proofs.+statements_and_expressions.Goals as goal

pub expressions::compile_assign_expression_left_part-returns-then-state-ne0 : goal.expressions::compile_assign_expression_left_part-returns-then-state-ne0
expressions::compile_assign_expression_left_part-returns-then-state-ne0 t c = i.target_full c.if-state-ne0.true

pub expressions::compile_assign_expression_left_part-compile_expression-requires :
    goal.expressions::compile_assign_expression_left_part-compile_expression-requires
expressions::compile_assign_expression_left_part-compile_expression-requires t c =
    let O = over c.next.ensures.steps c.loop-part.invariant.0 c.loop-part.invariant.1 c.in-Some.is in
    let m = skip_more c.args.tree.now _ c.args.end O.inside O.next in omega (arith, m, O.here_is, c.loop-part.invariant.2, c.requires)

pub expressions::compile_assign_expression_left_part-loop-part-preserved : goal.expressions::compile_assign_expression_left_part-loop-part-preserved
expressions::compile_assign_expression_left_part-loop-part-preserved t c =
    let O = over c.next.ensures.steps c.loop-part.invariant.0 c.loop-part.invariant.1 c.in-Some.is in
    let m = skip_more c.args.tree.now _ c.args.end O.inside O.next in (
      same_tree c.next.ensures.steps c.loop-part.invariant.0 c.loop-part.invariant.1,
      same_end c.next.ensures.steps c.loop-part.invariant.0 c.loop-part.invariant.1,
      omega (arith, m, O.here_is, O.goes_is, c.loop-part.invariant.2),
      λ m h. c.loop-part.invariant.3 m
          (back O (λ (k : ℕ). CompilesExpressions c.args.tree.now k c.args.end c.args.start c.args.count
          (laid c.loop-part.state c.args.starts.now c.loop-part.memory) m)
          (λ (k : ℕ). CompilesExpressions c.args.tree.now k c.args.end c.args.start c.args.count
          (laid c.compile_expression.new.state c.args.starts.now c.compile_expression.new.memory) m)
          (e.run_more O.inside O.next c.compile_expression.ensures) h),
    )

pub expressions::compile_assign_expression_left_part-returns-in-30 : goal.expressions::compile_assign_expression_left_part-returns-in-30
expressions::compile_assign_expression_left_part-returns-in-30 t c = i.target_name c.field-kind.ensures c.in-30.is c.field-text.ensures c.name.ensures

pub expressions::compile_assign_expression_left_part-returns-in_default : goal.expressions::compile_assign_expression_left_part-returns-in_default
expressions::compile_assign_expression_left_part-returns-in_default t c =
    let d = c.in_default in
    i.target_other c.field-kind.ensures (λ q. grind (arith, q, d)) (λ q. grind (arith, q, d)) (λ q. grind (arith, q, d)) c.push_error.ensures

pub expressions::compile_assign_expression_left_part-returns-then-kind-eq-INSTANCE_GET :
    goal.expressions::compile_assign_expression_left_part-returns-then-kind-eq-INSTANCE_GET
expressions::compile_assign_expression_left_part-returns-then-kind-eq-INSTANCE_GET t c =
    i.target_instance c.field-kind.ensures c.field-place.ensures
    (c.loop-part.invariant.3 _ (e.run_end (past c.next.ensures.steps c.loop-part.invariant.0 c.loop-part.invariant.1 c.in-None.is)))
    c.if-kind-eq-INSTANCE_GET.true c.emit_opcode.ensures

pub expressions::compile_assign_expression_left_part-returns-else-kind-eq-INSTANCE_GET :
    goal.expressions::compile_assign_expression_left_part-returns-else-kind-eq-INSTANCE_GET
expressions::compile_assign_expression_left_part-returns-else-kind-eq-INSTANCE_GET t c =
    i.target_index c.field-kind.ensures c.field-place.ensures
    (c.loop-part.invariant.3 _ (e.run_end (past c.next.ensures.steps c.loop-part.invariant.0 c.loop-part.invariant.1 c.in-None.is)))
    (omega (arith, c.in-45, c.if-kind-eq-INSTANCE_GET.false)) c.emit_opcode-else-kind-eq-INSTANCE_GET.ensures

pub expressions::compile_assign_expression_left_part-returns-then-end-at : goal.expressions::compile_assign_expression_left_part-returns-then-end-at
expressions::compile_assign_expression_left_part-returns-then-end-at t c = i.target_past c.if-end-at.true

pub expressions::compile_expression-returns-then-state-ne0 : goal.expressions::compile_expression-returns-then-state-ne0
expressions::compile_expression-returns-then-state-ne0 t c = e.full_meets c.if-state-ne0.true

pub expressions::compile_expression-returns-then-kind-lt-ARRAY : goal.expressions::compile_expression-returns-then-kind-lt-ARRAY
expressions::compile_expression-returns-then-kind-lt-ARRAY t c =
    e.leaf_meets c.field-kind.ensures c.field-position.ensures c.field-value.ensures c.if-kind-lt-ARRAY.true c.leaf.ensures

pub expressions::compile_expression-compile_infix_expression-requires : goal.expressions::compile_expression-compile_infix_expression-requires
expressions::compile_expression-compile_infix_expression-requires t c =
    omega (arith, c.if-kind-lt-ARRAY, c.if-end-at, c.if-state-ne0, c.requires)

pub expressions::compile_expression-returns-in-Infix : goal.expressions::compile_expression-returns-in-Infix
expressions::compile_expression-returns-in-Infix t c =
    e.infix_meets c.field-kind.ensures c.field-position.ensures c.field-value.ensures
    (record_or _ _ c.try_from.ensures c.unwrap_or.ensures c.in-Infix.is refl) c.compile_infix_expression.ensures

pub expressions::compile_expression-compile_if_expression-requires : goal.expressions::compile_expression-compile_if_expression-requires
expressions::compile_expression-compile_if_expression-requires t c =
    omega (arith, c.if-kind-lt-ARRAY, c.if-end-at, c.if-state-ne0, c.requires)

pub expressions::compile_expression-returns-in-If : goal.expressions::compile_expression-returns-in-If
expressions::compile_expression-returns-in-If t c =
    e.if_meets c.field-kind.ensures c.field-position.ensures c.field-value.ensures
    (record_or _ _ c.try_from.ensures c.unwrap_or.ensures c.in-If.is refl) c.compile_if_expression.ensures

pub expressions::compile_expression-compile_expression-requires : goal.expressions::compile_expression-compile_expression-requires
expressions::compile_expression-compile_expression-requires t c =
    let O = over c.next.ensures.steps c.loop-part.invariant.0 c.loop-part.invariant.1 c.in-Some.is in
    let m = skip_more c.args.tree.now _ c.args.end O.inside O.next in omega (arith, m, O.here_is, c.loop-part.invariant.2, c.requires)

pub expressions::compile_expression-overflow_add-n : goal.expressions::compile_expression-overflow_add-n
expressions::compile_expression-overflow_add-n t c = let O = over c.next.ensures.steps c.loop-part.invariant.0 c.loop-part.invariant.1 c.in-Some.is in omega
    (arith, O.inside, O.here_is, c.loop-part.invariant.2, c.ranges)

pub expressions::compile_expression-loop-part-preserved : goal.expressions::compile_expression-loop-part-preserved
expressions::compile_expression-loop-part-preserved t c =
    let O = over c.next.ensures.steps c.loop-part.invariant.0 c.loop-part.invariant.1 c.in-Some.is in
    let m = skip_more c.args.tree.now _ c.args.end O.inside O.next in (
      same_tree c.next.ensures.steps c.loop-part.invariant.0 c.loop-part.invariant.1,
      same_end c.next.ensures.steps c.loop-part.invariant.0 c.loop-part.invariant.1,
      omega (arith, m, O.here_is, O.goes_is, c.loop-part.invariant.2),
      λ m r h. c.loop-part.invariant.3 m r
          (back O (λ (k : ℕ). CompilesList c.args.tree.now k c.args.end c.args.start c.args.count
          (laid c.loop-part.state c.args.starts.now c.loop-part.memory) m c.loop-part.n r)
          (λ (k : ℕ). CompilesList c.args.tree.now k c.args.end c.args.start c.args.count
          (laid c.compile_expression.new.state c.args.starts.now c.compile_expression.new.memory) m (c.loop-part.n + 1) r)
          (e.list_more O.inside O.next c.compile_expression.ensures) h),
    )

pub expressions::compile_expression-returns-in-None : goal.expressions::compile_expression-returns-in-None
expressions::compile_expression-returns-in-None t c =
    e.list_meets c.field-kind.ensures c.field-position.ensures c.field-value.ensures (omega (arith, c.if-kind-lt-ARRAY.false))
    (no_record _ _ records.Infix c.try_from.ensures c.unwrap_or.ensures c.in_default.not-Infix)
    (no_record _ _ records.If c.try_from.ensures c.unwrap_or.ensures c.in_default.not-If)
    (c.loop-part.invariant.3 _ _ (e.list_end (past c.next.ensures.steps c.loop-part.invariant.0 c.loop-part.invariant.1 c.in-None.is)))
    c.finish_expression.ensures

pub expressions::compile_expression-returns-then-end-at : goal.expressions::compile_expression-returns-then-end-at
expressions::compile_expression-returns-then-end-at t c = e.past_meets c.if-end-at.true

pub expressions::compile_if_expression-compile_expression-requires : goal.expressions::compile_if_expression-compile_expression-requires
expressions::compile_if_expression-compile_expression-requires t c =
    let y = skip_more c.args.tree.now c.args.at c.args.end c.if-end-at.false c.skip-yes.ensures in
    let n = skip_more c.args.tree.now c.skip-yes.result c.args.end c.if-end-yes.false
    c.skip-no.ensures in omega (arith, y, n, c.if-end-at.false, c.if-end-yes.false, c.requires)

pub expressions::compile_if_expression-compile_block-requires : goal.expressions::compile_if_expression-compile_block-requires
expressions::compile_if_expression-compile_block-requires t c =
    let y = skip_more c.args.tree.now c.args.at c.args.end c.if-end-at.false c.skip-yes.ensures in
    let n = skip_more c.args.tree.now c.skip-yes.result c.args.end c.if-end-yes.false c.skip-no.ensures in omega (
      arith,
      y,
      n,
      c.if-end-at.false,
      c.if-end-yes.false,
      c.requires,
    )

pub expressions::compile_if_expression-compile_block-requires-2 : goal.expressions::compile_if_expression-compile_block-requires-2
expressions::compile_if_expression-compile_block-requires-2 t c =
    let y = skip_more c.args.tree.now c.args.at c.args.end c.if-end-at.false c.skip-yes.ensures in
    let n = skip_more c.args.tree.now c.skip-yes.result c.args.end c.if-end-yes.false c.skip-no.ensures in omega (
      arith,
      y,
      n,
      c.if-end-at.false,
      c.if-end-yes.false,
      c.requires,
    )

pub expressions::compile_if_expression-returns : goal.expressions::compile_if_expression-returns
expressions::compile_if_expression-returns t c =
    f.if_meets c.skip-yes.ensures c.skip-no.ensures c.compile_expression.ensures c.get_next_instruction_index-true_part.ensures
    c.emit_opcode_without_position.ensures c.get_next_instruction_index-jump_to_end.ensures c.emit_opcode_without_position-2.ensures
    c.get_next_instruction_index-next.ensures c.to_instruction-taken.ensures
    c.replace_instruction.ensures c.compile_block-2.ensures c.get_next_instruction_index-last.ensures c.to_instruction-over.ensures
    c.replace_instruction-2.ensures c.compile_block.ensures

pub expressions::compile_if_expression-returns-then-end-yes : goal.expressions::compile_if_expression-returns-then-end-yes
expressions::compile_if_expression-returns-then-end-yes t c = f.if_short c.skip-yes.ensures c.if-end-yes.true

pub expressions::compile_if_expression-returns-then-end-at : goal.expressions::compile_if_expression-returns-then-end-at
expressions::compile_if_expression-returns-then-end-at t c = f.if_past c.if-end-at.true

pub expressions::compile_infix_expression-compile_expression-requires : goal.expressions::compile_infix_expression-compile_expression-requires
expressions::compile_infix_expression-compile_expression-requires t c =
    let m = skip_more c.args.tree.now c.args.at c.args.end c.if-end-at.false c.skip-middle.ensures in
    omega (arith, m, c.if-end-middle.false, c.if-end-at.false, c.requires)

pub expressions::compile_infix_expression-compile_assign_expression_left_part-requires :
    goal.expressions::compile_infix_expression-compile_assign_expression_left_part-requires
expressions::compile_infix_expression-compile_assign_expression_left_part-requires t c =
    let m = skip_more c.args.tree.now c.args.at c.args.end c.if-end-at.false c.skip-middle.ensures in
    omega (arith, m, c.if-end-middle.false, c.if-end-at.false, c.requires)

pub expressions::compile_infix_expression-returns-then-value-eq-INFIX_ASSIGN : goal.expressions::compile_infix_expression-returns-then-value-eq-INFIX_ASSIGN
expressions::compile_infix_expression-returns-then-value-eq-INFIX_ASSIGN t c =
    i.infix_assign c.skip-middle.ensures c.if-value-eq-INFIX_ASSIGN.true c.compile_expression.ensures c.compile_assign_expression_left_part.ensures

pub expressions::compile_infix_expression-returns-then-value-gt-INFIX_OR : goal.expressions::compile_infix_expression-returns-then-value-gt-INFIX_OR
expressions::compile_infix_expression-returns-then-value-gt-INFIX_OR t c =
    i.infix_unknown c.if-value-gt-INFIX_OR.true c.push_error.ensures

pub expressions::compile_infix_expression-compile_expression-requires-2 :
    goal.expressions::compile_infix_expression-compile_expression-requires-2
expressions::compile_infix_expression-compile_expression-requires-2 t c =
    let m = skip_more c.args.tree.now c.args.at c.args.end c.if-end-at.false c.skip-middle.ensures in
    omega (arith, m, c.if-end-middle.false, c.if-end-at.false, c.requires)

pub expressions::compile_infix_expression-compile_expression-requires-3 :
    goal.expressions::compile_infix_expression-compile_expression-requires-3
expressions::compile_infix_expression-compile_expression-requires-3 t c =
    let m = skip_more c.args.tree.now c.args.at c.args.end c.if-end-at.false c.skip-middle.ensures in
    omega (arith, m, c.if-end-middle.false, c.if-end-at.false, c.requires)

pub expressions::compile_infix_expression-compile_assign_expression_left_part-requires-then-value-lt-INFIX_EQUAL :
    goal.expressions::compile_infix_expression-compile_assign_expression_left_part-requires-then-value-lt-INFIX_EQUAL
expressions::compile_infix_expression-compile_assign_expression_left_part-requires-then-value-lt-INFIX_EQUAL t c =
    let m = skip_more c.args.tree.now c.args.at c.args.end c.if-end-at.false c.skip-middle.ensures in
    omega (arith, m, c.if-end-middle.false, c.if-end-at.false, c.requires)

pub expressions::compile_infix_expression-returns-then-value-lt-INFIX_EQUAL : goal.expressions::compile_infix_expression-returns-then-value-lt-INFIX_EQUAL
expressions::compile_infix_expression-returns-then-value-lt-INFIX_EQUAL t c =
    i.infix_compound c.skip-middle.ensures c.compile_expression-2.ensures c.compile_expression-3.ensures c.operation.ensures
    c.if-value-eq-INFIX_ASSIGN.false c.if-value-gt-INFIX_OR.false c.if-value-gt-INFIX_PERCENT.true c.if-value-lt-INFIX_EQUAL.true
    c.compile_assign_expression_left_part-then-value-lt-INFIX_EQUAL.ensures

pub expressions::compile_infix_expression-returns-else-value-gt-INFIX_PERCENT : goal.expressions::compile_infix_expression-returns-else-value-gt-INFIX_PERCENT
expressions::compile_infix_expression-returns-else-value-gt-INFIX_PERCENT t c =
    i.infix_plain c.skip-middle.ensures c.compile_expression-2.ensures c.compile_expression-3.ensures c.operation.ensures
    c.if-value-eq-INFIX_ASSIGN.false c.if-value-gt-INFIX_OR.false (λ a l. grind (arith, a, l, c.else-value-gt-INFIX_PERCENT))

pub expressions::compile_infix_expression-returns-then-end-middle : goal.expressions::compile_infix_expression-returns-then-end-middle
expressions::compile_infix_expression-returns-then-end-middle t c = i.infix_short c.skip-middle.ensures c.if-end-middle.true

pub expressions::compile_infix_expression-returns-then-end-at : goal.expressions::compile_infix_expression-returns-then-end-at
expressions::compile_infix_expression-returns-then-end-at t c = i.infix_past c.if-end-at.true

pub statements::compile_block-compile_statement-requires : goal.statements::compile_block-compile_statement-requires
statements::compile_block-compile_statement-requires t c =
    let O = over c.next.ensures.steps c.loop-statement.invariant.0 c.loop-statement.invariant.1 c.in-Some.is in
    let m = skip_more c.args.tree.now _ c.args.end O.inside O.next in
    omega (arith, m, O.here_is, c.loop-statement.invariant.2, c.requires)

pub statements::compile_block-loop-statement-preserved : goal.statements::compile_block-loop-statement-preserved
statements::compile_block-loop-statement-preserved t c =
    let O = over c.next.ensures.steps c.loop-statement.invariant.0 c.loop-statement.invariant.1 c.in-Some.is in
    let m = skip_more c.args.tree.now _ c.args.end O.inside O.next in (
      same_tree c.next.ensures.steps c.loop-statement.invariant.0 c.loop-statement.invariant.1,
      same_end c.next.ensures.steps c.loop-statement.invariant.0 c.loop-statement.invariant.1,
      omega (arith, m, O.here_is, O.goes_is, c.loop-statement.invariant.2),
      λ m h. c.loop-statement.invariant.3 m
          (back O (λ (n : ℕ). CompilesStatements c.args.tree.now n c.args.end c.args.start c.args.count
          (laid c.loop-statement.state c.args.starts.now c.loop-statement.memory) m)
          (λ (n : ℕ). CompilesStatements c.args.tree.now n c.args.end c.args.start c.args.count
          (laid c.compile_statement.new.state c.args.starts.now c.compile_statement.new.memory) m)
          (s.list_more O.inside O.next c.compile_statement.ensures) h),
    )

pub statements::compile_block-returns-then-at-end : goal.statements::compile_block-returns-then-at-end
statements::compile_block-returns-then-at-end t c =
    s.block_meets c.if-at-end.true c.enter_scope.ensures
    (c.loop-statement.invariant.3 _
    (s.list_end (past c.next.ensures.steps c.loop-statement.invariant.0 c.loop-statement.invariant.1 c.in-None.is)))
    c.exit_scope.ensures c.remove_pop_or_push_null.ensures

pub statements::compile_block-returns : goal.statements::compile_block-returns
statements::compile_block-returns t c =
    s.block_none c.if-at-end.false c.emit_null.ensures

pub statements::compile_for_statement-compile_expression-requires : goal.statements::compile_for_statement-compile_expression-requires
statements::compile_for_statement-compile_expression-requires t c =
    let b = skip_inside c.args.tree.now (c.args.at + 1) c.args.end (omega (arith, c.if-end-at.false)) c.skip-body.ensures in
    omega (arith, b, c.if-end-at.false, c.requires)

pub statements::compile_for_statement-loop-statement-init : goal.statements::compile_for_statement-loop-statement-init
statements::compile_for_statement-loop-statement-init t c =
    let b = skip_inside c.args.tree.now (c.args.at + 1) c.args.end (omega (arith, c.if-end-at.false)) c.skip-body.ensures in
    rw c.into_iter-statement-iterator.ensures.into_iter_gives (refl, refl, omega (arith, b), λ m h. h)

pub statements::compile_for_statement-compile_statement-requires : goal.statements::compile_for_statement-compile_statement-requires
statements::compile_for_statement-compile_statement-requires t c =
    let O = over c.next.ensures.steps c.loop-statement.invariant.0 c.loop-statement.invariant.1 c.in-Some.is in
    let m = skip_more c.args.tree.now _ c.args.end O.inside O.next in
    omega (arith, m, O.here_is, c.loop-statement.invariant.2, c.requires)

pub statements::compile_for_statement-loop-statement-preserved : goal.statements::compile_for_statement-loop-statement-preserved
statements::compile_for_statement-loop-statement-preserved t c =
    let O = over c.next.ensures.steps c.loop-statement.invariant.0 c.loop-statement.invariant.1 c.in-Some.is in
    let m = skip_more c.args.tree.now _ c.args.end O.inside O.next in (
      same_tree c.next.ensures.steps c.loop-statement.invariant.0 c.loop-statement.invariant.1,
      same_end c.next.ensures.steps c.loop-statement.invariant.0 c.loop-statement.invariant.1,
      omega (arith, m, O.here_is, O.goes_is, c.loop-statement.invariant.2),
      λ m h. c.loop-statement.invariant.3 m
          (back O (λ (n : ℕ). CompilesStatements c.args.tree.now n c.args.end c.args.start c.args.count
          (laid c.loop-statement.state c.args.starts.now c.loop-statement.memory) m)
          (λ (n : ℕ). CompilesStatements c.args.tree.now n c.args.end c.args.start c.args.count
          (laid c.compile_statement.new.state c.args.starts.now c.compile_statement.new.memory) m)
          (s.list_more O.inside O.next c.compile_statement.ensures) h),
    )

pub statements::compile_for_statement-returns : goal.statements::compile_for_statement-returns
statements::compile_for_statement-returns t c =
    for_meets c.field-text.ensures c.field-text_position.ensures c.skip-body.ensures c.start_loop.ensures c.compile_expression.ensures
    c.begin_loop.ensures c.name_loop-entry.ensures
    (c.loop-statement.invariant.3 _
    (s.list_end (past c.next.ensures.steps c.loop-statement.invariant.0 c.loop-statement.invariant.1 c.in-None.is)))
    c.end_loop.ensures

pub statements::compile_for_statement-returns-then-end-at : goal.statements::compile_for_statement-returns-then-end-at
statements::compile_for_statement-returns-then-end-at t c = for_past c.if-end-at.true

pub statements::compile_statement-returns-then-state-ne0 : goal.statements::compile_statement-returns-then-state-ne0
statements::compile_statement-returns-then-state-ne0 t c = s.full_meets c.if-state-ne0.true

pub statements::compile_statement-compile_expression-requires : goal.statements::compile_statement-compile_expression-requires
statements::compile_statement-compile_expression-requires t c = omega (arith, c.if-end-at, c.requires)

pub statements::compile_variables-loop-i-init : goal.statements::compile_variables-loop-i-init
statements::compile_variables-loop-i-init t c = (omega arith, λ m h. h)

pub statements::compile_variables-overflow_add-i-in-Some : goal.statements::compile_variables-overflow_add-i-in-Some
statements::compile_variables-overflow_add-i-in-Some t c =
    omega (arith, c.loop-i-test.true, c.ranges)

pub statements::compile_variables-loop-i-smaller-then-value_kind-eq-ABSENT : goal.statements::compile_variables-loop-i-smaller-then-value_kind-eq-ABSENT
statements::compile_variables-loop-i-smaller-then-value_kind-eq-ABSENT t c =
    let m = skip_inside c.args.tree.now (c.loop-i.i + 1) c.args.end (omega (arith, c.loop-i-test.true)) c.skip-next.ensures in
    omega (arith, m, c.loop-i-test.true)

pub statements::compile_variables-loop-i-preserved-then-value_kind-eq-ABSENT : goal.statements::compile_variables-loop-i-preserved-then-value_kind-eq-ABSENT
statements::compile_variables-loop-i-preserved-then-value_kind-eq-ABSENT t c =
    let m = skip_inside c.args.tree.now (c.loop-i.i + 1) c.args.end (omega (arith, c.loop-i-test.true)) c.skip-next.ensures in (
      omega (arith, m, c.loop-i.invariant.0),
      λ m h. c.loop-i.invariant.1 m (v.list_more c.loop-i-test.true c.skip-next.ensures
          (v.variable_bare c.field-text.ensures c.field-place.ensures c.define_local.ensures c.in-Some.is
          c.field-value_kind.ensures c.if-value_kind-eq-ABSENT.true) h),
    )

pub statements::compile_variables-overflow_add-i-in-Some-2 : goal.statements::compile_variables-overflow_add-i-in-Some-2
statements::compile_variables-overflow_add-i-in-Some-2 t c =
    omega (arith, c.loop-i-test.true, c.ranges)

pub statements::compile_variables-compile_expression-requires : goal.statements::compile_variables-compile_expression-requires
statements::compile_variables-compile_expression-requires t c =
    let m = skip_inside c.args.tree.now (c.loop-i.i + 1) c.args.end (omega (arith, c.loop-i-test.true)) c.skip-next.ensures in
    omega (arith, m, c.loop-i.invariant.0, c.loop-i-test.true, c.requires)

pub statements::compile_variables-loop-i-smaller-in-Some : goal.statements::compile_variables-loop-i-smaller-in-Some
statements::compile_variables-loop-i-smaller-in-Some t c =
    let m = skip_inside c.args.tree.now (c.loop-i.i + 1) c.args.end (omega (arith, c.loop-i-test.true)) c.skip-next.ensures in
    omega (arith, m, c.loop-i-test.true)

pub statements::compile_variables-loop-i-preserved-in-Some : goal.statements::compile_variables-loop-i-preserved-in-Some
statements::compile_variables-loop-i-preserved-in-Some t c =
    let m = skip_inside c.args.tree.now (c.loop-i.i + 1) c.args.end (omega (arith, c.loop-i-test.true)) c.skip-next.ensures in (
      omega (arith, m, c.loop-i.invariant.0),
      λ m h. c.loop-i.invariant.1 m (v.list_more c.loop-i-test.true c.skip-next.ensures
          (v.variable_valued c.field-text.ensures c.field-place.ensures c.define_local.ensures c.in-Some.is c.field-value_kind.ensures
          c.if-value_kind-eq-ABSENT.false
          c.compile_expression.ensures
          c.to_instruction-instruction.ensures c.emit.ensures) h),
    )

pub statements::compile_variables-loop-i-smaller : goal.statements::compile_variables-loop-i-smaller
statements::compile_variables-loop-i-smaller t c =
    let m = skip_inside c.args.tree.now (c.loop-i.i + 1) c.args.end (omega (arith, c.loop-i-test.true)) c.skip-next.ensures in
    omega (arith, m, c.loop-i-test.true)

pub statements::compile_variables-loop-i-preserved : goal.statements::compile_variables-loop-i-preserved
statements::compile_variables-loop-i-preserved t c =
    let m = skip_inside c.args.tree.now (c.loop-i.i + 1) c.args.end (omega (arith, c.loop-i-test.true)) c.skip-next.ensures in (
      omega (arith, m, c.loop-i.invariant.0),
      λ m h. c.loop-i.invariant.1 m (v.list_more c.loop-i-test.true c.skip-next.ensures
          (v.variable_there c.field-text.ensures c.field-place.ensures c.define_local.ensures c.in_default.is c.field-name_kind.ensures
          c.push_error.ensures) h),
    )

pub statements::compile_statement-compile_for_statement-requires : goal.statements::compile_statement-compile_for_statement-requires
statements::compile_statement-compile_for_statement-requires t c = omega (arith, c.if-end-at, c.requires)

pub statements::compile_statement-returns : goal.statements::compile_statement-returns
statements::compile_statement-returns t c =
    elim c.match-kind.branch [
      | statements::compile_statement-in-ExpressionStatement w ↦
          s.statement_expression c.deeper.ensures c.set_depth.ensures c.field-number.ensures
          (record_or _ _ c.try_from.ensures c.unwrap_or-kind.ensures w.in-ExpressionStatement.is refl) w.compile_expression.ensures
          (rw (← w.memory-is, ← w.state-is) at w.emit_opcode_without_position.ensures)
      | statements::compile_statement-in-LocalStatement w ↦
          s.statement_local c.deeper.ensures c.set_depth.ensures c.field-number.ensures
          (record_or _ _ c.try_from.ensures c.unwrap_or-kind.ensures w.in-LocalStatement.is refl)
          (rw (← w.memory-is, ← w.state-is) at w.compile_variables.ensures)
      | statements::compile_statement-in-ForStatement w ↦
          s.statement_for c.deeper.ensures c.set_depth.ensures c.field-number.ensures c.field-position.ensures
          (record_or _ _ c.try_from.ensures c.unwrap_or-kind.ensures w.in-ForStatement.is refl)
          (rw (← w.memory-is, ← w.state-is) at w.compile_for_statement.ensures)
      | statements::compile_statement-in-BreakStatement w ↦
          s.statement_break c.deeper.ensures c.set_depth.ensures c.field-number.ensures c.field-position.ensures
          (record_or _ _ c.try_from.ensures c.unwrap_or-kind.ensures w.in-BreakStatement.is refl)
          (break_acts c.field-position.result (rw (← w.memory-is, ← w.state-is) at w.emit_break.ensures))
      | statements::compile_statement-in-RescueStatement w ↦
          s.statement_rescue c.deeper.ensures c.set_depth.ensures c.field-number.ensures c.field-position.ensures w.field-value.ensures
          (record_or _ _ c.try_from.ensures c.unwrap_or-kind.ensures w.in-RescueStatement.is refl)
          (rw (← w.memory-is, ← w.state-is) at w.rescue.ensures)
      | statements::compile_statement-in_default w ↦
          let none = λ (k : RecordKind). no_record _ _ k c.try_from.ensures c.unwrap_or-kind.ensures in
          s.statement_return c.deeper.ensures c.set_depth.ensures c.field-number.ensures c.field-position.ensures
          (none records.ExpressionStatement w.in_default.not-ExpressionStatement) (none records.LocalStatement w.in_default.not-LocalStatement)
          (none records.ForStatement w.in_default.not-ForStatement) (none records.BreakStatement w.in_default.not-BreakStatement)
          (none records.RescueStatement w.in_default.not-RescueStatement)
          (rw (← w.memory-is, ← w.state-is) at w.emit_return.ensures)
    ]

pub statements::compile_statement-returns-then-end-at : goal.statements::compile_statement-returns-then-end-at
statements::compile_statement-returns-then-end-at t c = s.past_meets c.if-end-at.true

pub statements::compile_statement-compile_variables-requires : goal.statements::compile_statement-compile_variables-requires
statements::compile_statement-compile_variables-requires t c = omega (arith, c.if-end-at, c.requires)

pub statements::compile_variables-returns : goal.statements::compile_variables-returns
statements::compile_variables-returns t c = c.loop-i.invariant.1 _ (v.list_end c.loop-i-test.false)
