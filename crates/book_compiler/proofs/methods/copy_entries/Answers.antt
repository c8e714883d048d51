-- `book_compiler::methods::copy_entries` meets its contract. The invariant: whatever copies from here on copies all, and the methods that stood are the
-- first. Assumes nothing.
use Rattle.std.proofs.Common.{ℕ, refl, subst, arith}
use Rattle.compiler_laws.specs.ModelSteps.{CopiesMethod}
use Rattle.compiler_laws.proofs.CopiedMethods.{copies_end, copies_more, copies_done}
use Rattle.undo.specs.Notes.{plain_methods}
use Rattle.book_compiler.proofs.StoodBooks.{methods_then, counts_then, stood_first_on}
use Rattle.book_compiler.proofs.methods.copy_entries.Goals as goal

pub loop-i-preserved : goal.loop-i-preserved
loop-i-preserved c =
    let S = c.loop-i.invariant.1 in (
      omega (arith, c.loop-i.invariant.0, c.copy_entry.auto.methods),
      counts_then S c.copy_entry.ensures.counts,
      λ h s' t' x. c.loop-i.invariant.2 h s' t'
          (copies_more c.args.source c.args.target c.args.book.now.methods c.loop-i.i c.loop-i-test.true
          (subst (λ (n : ℕ). CopiesMethod c.args.source c.args.target c.loop-i.i c.loop-i.book (plain_methods n c.loop-i.methods)
          c.copy_entry.new.book (plain_methods n c.copy_entry.new.methods)) S.standing
          (c.copy_entry.ensures.copies (stood_first_on c.loop-i.invariant.3 S h))) x),
      methods_then S c.loop-i.invariant.3 c.copy_entry.ensures.spares,
    )

pub returns : goal.returns
returns c = (
  record {
    copies = λ h. copies_done c.args.source c.args.target
        c.args.book.now.methods refl (c.loop-i.invariant.2 h _ _
        (copies_end c.args.source c.args.target c.args.book.now.methods
        c.loop-i.i c.loop-i-test.false));
    spares = c.loop-i.invariant.3;
  },
  c.loop-i.invariant.1,
)
