-- `book_compiler::definitions::compile_definitions` meets its contract. The invariant: what finishes from here finishes the whole. Assumes nothing.
use Rattle.std.proofs.Common.{ℕ, ◌∙◌}
use Rattle.book_compiler.specs.RepresentsBook.{book_laid, CompilesDefinitions}
use Rattle.book_compiler.proofs.DocumentDefinitions.{definitions_end, definitions_more}
use Rattle.book_compiler.proofs.Subtrees.{same_tree, same_end, over, past, back}
use Rattle.book_compiler.proofs.definitions.compile_definitions.Goals as goal

pub loop-definition-preserved : goal.loop-definition-preserved
loop-definition-preserved c =
    let O = over c.next.ensures.steps c.loop-definition.invariant.0 c.loop-definition.invariant.1 c.in-Some.is in (
      same_tree c.next.ensures.steps c.loop-definition.invariant.0 c.loop-definition.invariant.1,
      same_end c.next.ensures.steps c.loop-definition.invariant.0 c.loop-definition.invariant.1,
      c.compile_definition.auto.memory ∙ c.loop-definition.invariant.2,
      λ m h. c.loop-definition.invariant.3 m
          (back O (λ (n : ℕ). CompilesDefinitions c.args.tree.now n c.args.end (book_laid c.loop-definition.book c.args.starts.now c.loop-definition.memory) m)
          (λ (n : ℕ). CompilesDefinitions c.args.tree.now n c.args.end
          (book_laid c.compile_definition.new.book c.args.starts.now c.compile_definition.new.memory) m)
          (definitions_more O.inside O.next c.compile_definition.ensures) h),
    )

pub returns : goal.returns
returns c = c.loop-definition.invariant.3 _ (definitions_end (past c.next.ensures.steps c.loop-definition.invariant.0 c.loop-definition.invariant.1
    c.in-None.is))
