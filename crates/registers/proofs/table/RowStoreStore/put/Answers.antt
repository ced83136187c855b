use Rattle.std.proofs.Common.{rules}
use Rattle.registers.specs.Bounds.{length-table_rows}
use Rattle.registers.proofs.Rows.{table_put, table_room_lem, put_accepted, put_refused, put_row_past, put_changed}
use Rattle.registers.proofs.table.RowStoreStore.put.Goals as goal

pub returns-then-place-self : goal.returns-then-place-self
returns-then-place-self c = search (rules, put_refused, put_row_past, length-table_rows)

pub returns : goal.returns
returns c = search (rules, table_put, table_room_lem, put_accepted, put_changed, length-table_rows)
