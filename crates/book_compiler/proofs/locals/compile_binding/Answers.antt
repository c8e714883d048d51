-- `book_compiler::locals::compile_binding` meets its contract: a way for each outcome of its tests. Assumes nothing.
use Rattle.book_compiler.proofs.LocalDefinitions.{binds_full, binds_absent, binds_again, binds_value}
use Rattle.book_compiler.proofs.locals.compile_binding.Goals as goal

pub returns-then-book-ne0 : goal.returns-then-book-ne0
returns-then-book-ne0 c =
    binds_full c.args.tree.now c.args.at c.args.next c.field-name.ensures c.define_local-found.ensures c.if-book-ne0.true

pub returns-then-kind-eq-ABSENT : goal.returns-then-kind-eq-ABSENT
returns-then-kind-eq-ABSENT c =
    binds_absent c.args.tree.now c.args.at c.args.next c.field-name.ensures c.define_local-found.ensures c.field-kind.ensures
    c.if-kind-eq-ABSENT.true

pub returns-in-Some : goal.returns-in-Some
returns-in-Some c =
    binds_value c.args.tree.now c.args.at c.args.next c.field-name.ensures c.define_local-found.ensures c.if-book-ne0.false
    c.field-kind.ensures c.if-kind-eq-ABSENT.false c.in-Some.is
    c.give_value.ensures

pub returns-in_default : goal.returns-in_default
returns-in_default c =
    binds_again c.args.tree.now c.args.at c.args.next c.field-name.ensures c.define_local-found.ensures
    c.if-book-ne0.false c.in_default.is
