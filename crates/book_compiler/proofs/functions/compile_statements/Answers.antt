-- `book_compiler::functions::compile_statements` meets its contract. Assumes nothing.
use Rattle.std.proofs.Common.{ℕ}
use Rattle.book_compiler.specs.Represents.{laid}
use Rattle.book_compiler.specs.Members.{CompilesStatements}
use Rattle.book_compiler.proofs.Subtrees.{same_tree, same_end, over, past, back}
use Rattle.book_compiler.proofs.StatementKinds as s
use Rattle.book_compiler.proofs.functions.compile_statements.Goals as goal

pub loop-statement-preserved : goal.loop-statement-preserved
loop-statement-preserved c =
    let O = over c.next.ensures.steps c.loop-statement.invariant.0 c.loop-statement.invariant.1 c.in-Some.is in (
      same_tree c.next.ensures.steps c.loop-statement.invariant.0 c.loop-statement.invariant.1,
      same_end c.next.ensures.steps c.loop-statement.invariant.0 c.loop-statement.invariant.1,
      λ m h. c.loop-statement.invariant.2 m
          (back O (λ (n : ℕ). CompilesStatements c.args.tree.now n c.args.end c.args.start c.args.count
          (laid c.loop-statement.state c.args.starts.now c.loop-statement.memory) m)
          (λ (n : ℕ). CompilesStatements c.args.tree.now n c.args.end c.args.start c.args.count
          (laid c.compile_statement.new.state c.args.starts.now c.compile_statement.new.memory) m)
          (s.list_more O.inside O.next c.compile_statement.ensures) h),
    )

pub returns : goal.returns
returns c = c.loop-statement.invariant.2 _
    (s.list_end (past c.next.ensures.steps c.loop-statement.invariant.0 c.loop-statement.invariant.1 c.in-None.is))
