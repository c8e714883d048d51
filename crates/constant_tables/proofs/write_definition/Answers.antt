-- `write_definition` meets its contract: three records, one after the other. Assumes nothing.
use Rattle.constant_tables.proofs.Converting.{definition_put}
use Rattle.constant_tables.proofs.write_definition.Goals as goal

pub returns : goal.returns
returns c =
    definition_put c.args.out.now c.write_entry.new.area c.write_entry-2.new.area _ c.args.i c.args.entry c.record_kind-of.ensures
    c.write_entry.auto.area c.write_entry-2.auto.area c.write_entry.ensures c.write_entry-2.ensures c.write_entry-3.ensures
