-- `records_to_table` meets its contract: zeros after what stands. Assumes nothing.
use Rattle.constant_tables.proofs.Converting.{tables_done, tables_refused}
use Rattle.constant_tables.proofs.records_to_table.Goals as goal

pub returns-in-Ok : goal.returns-in-Ok
returns-in-Ok c = tables_done _ c.write_table.new.out c.in-Ok.lines _ c.in-Ok.ensures c.clear_bytes.ensures c.field.ensures

pub returns-in-Err : goal.returns-in-Err
returns-in-Err c = tables_refused _ c.write_table.new.out 0 c.in-Err.refused c.in-Err.ensures c.clear_bytes-in-Err.ensures c.number.ensures
