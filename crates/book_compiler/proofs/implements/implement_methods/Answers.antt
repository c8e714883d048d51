-- `book_compiler::implements::implement_methods` meets its contract. The invariant: what finishes from here finishes the whole. Assumes nothing.
use Rattle.std.proofs.Common.{ℕ, ◌+◌, ◌∙◌}
use Rattle.book_compiler.specs.RepresentsBook.{book_laid}
use Rattle.book_compiler.specs.DefinitionSteps.{ImplementsMethods}
use Rattle.book_compiler.proofs.ImplementDefinitions.{methods_end, methods_past, methods_more}
use Rattle.book_compiler.proofs.Subtrees.{same_tree, same_end, over, past, back, before}
use Rattle.book_compiler.proofs.implements.implement_methods.Goals as goal

pub returns-then-number-count : goal.returns-then-number-count
returns-then-number-count c =
    let O = over c.next.ensures.steps c.loop-function.invariant.0 c.loop-function.invariant.1 c.in-Some.is in
    c.loop-function.invariant.3 _
    (before O (λ (n : ℕ). ImplementsMethods c.args.tree.now n c.args.end c.args.model c.loop-function.number c.args.book.now.functions
    (book_laid c.loop-function.book c.args.starts.now c.loop-function.memory) (book_laid c.loop-function.book c.args.starts.now c.loop-function.memory))
    (methods_past O.inside c.if-number-count.true))

pub loop-function-preserved : goal.loop-function-preserved
loop-function-preserved c =
    let O = over c.next.ensures.steps c.loop-function.invariant.0 c.loop-function.invariant.1 c.in-Some.is in (
      same_tree c.next.ensures.steps c.loop-function.invariant.0 c.loop-function.invariant.1,
      same_end c.next.ensures.steps c.loop-function.invariant.0 c.loop-function.invariant.1,
      c.insert_method.auto.memory ∙ c.loop-function.invariant.2,
      λ m h. c.loop-function.invariant.3 m
          (back O (λ (n : ℕ). ImplementsMethods c.args.tree.now n c.args.end c.args.model c.loop-function.number c.args.book.now.functions
          (book_laid c.loop-function.book c.args.starts.now c.loop-function.memory) m)
          (λ (n : ℕ). ImplementsMethods c.args.tree.now n c.args.end c.args.model (c.loop-function.number + 1) c.args.book.now.functions
          (book_laid c.insert_method.new.book c.args.starts.now c.insert_method.new.memory) m)
          (methods_more O.inside c.field-name.ensures c.insert_method.ensures O.next) h),
    )

pub returns : goal.returns
returns c = c.loop-function.invariant.3 _ (methods_end (past c.next.ensures.steps c.loop-function.invariant.0 c.loop-function.invariant.1 c.in-None.is))
