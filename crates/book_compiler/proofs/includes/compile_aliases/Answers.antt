-- `book_compiler::includes::compile_aliases` meets its contract. The invariant: what takes the names from here on takes all of them.
-- Assumes nothing.
use Rattle.book_compiler.specs.RepresentsBook.{book_laid}
use Rattle.book_compiler.specs.DefinitionSteps.{CompilesAliases}
use Rattle.book_compiler.proofs.IncludeDefinitions.{aliases_end, aliases_more}
use Rattle.std.proofs.Common.{ℕ, ◌+◌, ◌∙◌, arith}
use Rattle.book_compiler.proofs.Subtrees.{same_last, two, no_two, back_two}
use Rattle.book_compiler.proofs.includes.compile_aliases.Goals as goal

pub overflow_add-name : goal.overflow_add-name
overflow_add-name c = let O = two c.next.ensures.steps c.loop-name.invariant.0 c.in-Some.is in omega (arith, O.inside, c.ranges)

pub loop-name-preserved : goal.loop-name-preserved
loop-name-preserved c =
    let O = two c.next.ensures.steps c.loop-name.invariant.0 c.in-Some.is in (
      same_last c.next.ensures.steps c.loop-name.invariant.0,
      c.compile_alias.auto.memory ∙ c.loop-name.invariant.1,
      λ m h. c.loop-name.invariant.2 m
          (back_two O
          (λ (n : ℕ). CompilesAliases c.args.tree.now n c.args.end c.field-file.result (book_laid c.loop-name.book c.args.starts.now c.loop-name.memory) m)
          (λ (n : ℕ). CompilesAliases c.args.tree.now n c.args.end c.field-file.result
          (book_laid c.compile_alias.new.book c.args.starts.now c.compile_alias.new.memory) m)
          (aliases_more c.args.tree.now c.in-Some.name c.args.end c.field-file.result O.inside c.compile_alias.ensures) h),
    )

pub returns : goal.returns
returns c =
    rw c.field-file.ensures at (c.loop-name.invariant.2 _ (aliases_end c.args.tree.now (c.loop-name.name-iterator.at + 1) c.args.end
    c.field-file.result (no_two c.next.ensures.steps c.loop-name.invariant.0 c.in-None.is)))
