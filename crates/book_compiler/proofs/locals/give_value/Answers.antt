-- `book_compiler::locals::give_value` meets its contract: a way for each kind. Assumes nothing.
use Rattle.std.proofs.Common.{inl, inr, arith}
use Rattle.book_compiler.proofs.LocalDefinitions.{gives_null, gives_boolean, gives_integer, gives_float, gives_error}
use Rattle.book_compiler.proofs.locals.give_value.Goals as goal

pub returns-in-32 : goal.returns-in-32
returns-in-32 c =
    elim c.in-32.is [
      | inl q ↦ gives_null c.args.tree.now c.args.at c.field-kind.ensures c.field-value.ensures q c.standing.ensures c.set_value.ensures
      | inr q ↦ gives_boolean c.args.tree.now c.args.at c.field-kind.ensures c.field-value.ensures q c.standing.ensures c.set_value.ensures
    ]

pub returns-in-33 : goal.returns-in-33
returns-in-33 c = gives_integer c.args.tree.now c.args.at c.field-kind.ensures c.field-value.ensures c.in-33.is c.add_value.ensures

pub returns-in-34 : goal.returns-in-34
returns-in-34 c = gives_float c.args.tree.now c.args.at c.field-kind.ensures c.field-value.ensures c.in-34.is c.add_value-in-34.ensures

pub returns-in_default : goal.returns-in_default
returns-in_default c =
    let d = c.in_default in
    gives_error c.args.tree.now c.args.at c.field-kind.ensures c.field-value.ensures (λ q. grind (arith, q, d)) (λ q. grind (arith, q, d))
    (λ q. omega (arith, q, d)) (λ q. omega (arith, q, d)) c.push_error.ensures
