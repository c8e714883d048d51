-- `book_compiler::locals::compile_local_definition` meets its contract. The invariant: what defines the pairs from here defines all of them.
-- Assumes nothing.
use Rattle.book_compiler.specs.RepresentsBook.{book_laid}
use Rattle.book_compiler.specs.DefinitionSteps.{CompilesLocalDefinition}
use Rattle.book_compiler.proofs.LocalDefinitions.{bindings_end, bindings_more}
use Rattle.std.proofs.Common.{ℕ, ◌+◌, ◌∙◌, arith}
use Rattle.book_compiler.proofs.Subtrees.{same_last, two, no_two, back_two}
use Rattle.book_compiler.proofs.locals.compile_local_definition.Goals as goal

pub overflow_add-name : goal.overflow_add-name
overflow_add-name c = let O = two c.next.ensures.steps c.loop-name.invariant.0 c.in-Some.is in omega (arith, O.inside, c.ranges)

pub loop-name-preserved : goal.loop-name-preserved
loop-name-preserved c =
    let O = two c.next.ensures.steps c.loop-name.invariant.0 c.in-Some.is in (
      same_last c.next.ensures.steps c.loop-name.invariant.0,
      c.compile_binding.auto.memory ∙ c.loop-name.invariant.1,
      λ m h. c.loop-name.invariant.2 m
          (back_two O
          (λ (n : ℕ). CompilesLocalDefinition c.args.tree.now n c.args.end (book_laid c.loop-name.book c.args.starts.now c.loop-name.memory) m)
          (λ (n : ℕ). CompilesLocalDefinition c.args.tree.now n c.args.end
          (book_laid c.compile_binding.new.book c.args.starts.now c.compile_binding.new.memory) m)
          (bindings_more c.args.tree.now c.in-Some.name c.args.end O.inside c.compile_binding.ensures) h),
    )

pub returns : goal.returns
returns c =
    c.loop-name.invariant.2 _ (bindings_end c.args.tree.now (c.loop-name.name-iterator.at + 1) c.args.end
    (no_two c.next.ensures.steps c.loop-name.invariant.0 c.in-None.is))
