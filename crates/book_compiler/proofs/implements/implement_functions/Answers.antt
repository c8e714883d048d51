-- `book_compiler::implements::implement_functions` meets its contract. The invariant: what finishes from here finishes the whole. Assumes nothing.
use Rattle.std.proofs.Common.{ℕ, ◌∙◌}
use Rattle.book_compiler.specs.RepresentsBook.{book_laid}
use Rattle.book_compiler.specs.DefinitionSteps.{ImplementsFunctions}
use Rattle.book_compiler.proofs.ImplementDefinitions.{functions_end, functions_more}
use Rattle.book_compiler.proofs.Subtrees.{same_tree, same_end, over, past, back}
use Rattle.book_compiler.proofs.implements.implement_functions.Goals as goal

pub loop-function-preserved : goal.loop-function-preserved
loop-function-preserved c =
    let O = over c.next.ensures.steps c.loop-function.invariant.0 c.loop-function.invariant.1 c.in-Some.is in (
      same_tree c.next.ensures.steps c.loop-function.invariant.0 c.loop-function.invariant.1,
      same_end c.next.ensures.steps c.loop-function.invariant.0 c.loop-function.invariant.1,
      c.implement_function.auto.memory ∙ c.loop-function.invariant.2,
      λ m h. c.loop-function.invariant.3 m
          (back O (λ (n : ℕ). ImplementsFunctions c.args.tree.now n c.args.end (book_laid c.loop-function.book c.args.starts.now c.loop-function.memory) m)
          (λ (n : ℕ). ImplementsFunctions c.args.tree.now n c.args.end
          (book_laid c.implement_function.new.book c.args.starts.now c.implement_function.new.memory) m)
          (functions_more O.inside O.next c.implement_function.ensures) h),
    )

pub returns : goal.returns
returns c = c.loop-function.invariant.3 _ (functions_end (past c.next.ensures.steps c.loop-function.invariant.0 c.loop-function.invariant.1 c.in-None.is))
