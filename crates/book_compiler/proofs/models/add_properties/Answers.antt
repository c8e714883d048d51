-- `book_compiler::models::add_properties` meets its contract. The invariant: whatever adds the properties from here on adds all of them.
-- Assumes nothing.
use Rattle.std.proofs.Common.{refl, arith}
use Rattle.book_compiler.proofs.ModelDefinitions.{properties_end, properties_more, properties_done}
use Rattle.book_compiler.proofs.models.add_properties.Goals as goal

pub loop-i-preserved : goal.loop-i-preserved
loop-i-preserved c = (
  omega (arith, c.loop-i.invariant.0, c.add_property.auto.memory),
  λ m h. c.loop-i.invariant.1 m
      (properties_more c.args.tree.now c.args.end c.args.book.now.properties c.loop-i.i c.loop-i-test.true
      c.add_property.ensures h),
)

pub returns : goal.returns
returns c = properties_done c.args.tree.now c.args.end
    c.args.book.now.properties c.args.at refl (c.loop-i.invariant.1 _
    (properties_end c.args.tree.now c.args.end
    c.args.book.now.properties c.loop-i.i c.loop-i-test.false))
