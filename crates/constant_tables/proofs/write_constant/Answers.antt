-- `write_constant` meets its contract. Assumes nothing.
use Rattle.constant_tables.proofs.Converting.{constant_put}
use Rattle.constant_tables.proofs.write_constant.Goals as goal

pub returns : goal.returns
returns c =
    let h = c.table_kind.ensures in let k = c.field.ensures in
    constant_put c.args.tree.now c.args.out.now c.args.i c.requires c.field.ensures c.field-2.ensures c.field-3.ensures c.table_kind.ensures
    c.write_entry.ensures
