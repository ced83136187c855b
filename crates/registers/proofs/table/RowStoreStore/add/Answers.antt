use Rattle.std.proofs.Common.{arith, refl}
use Rattle.registers.proofs.Rows.{table_room_lem, table_added, add_changed}
use Rattle.registers.proofs.table.RowStoreStore.add.Goals as goal

pub returns : goal.returns
returns c =
    let a = table_added c.args.self.now.table.now c.args.self.now.filled c.args.row (omega arith) in
    record {
      answer = a.0;
      after = a.1;
      same_room = table_room_lem c.args.self.now.table.now c.args.self.now.filled c.args.row;
      changes = record { now = add_changed c.args.self.now.table.now c.args.self.now.filled c.args.row (omega arith); lent = refl };
    }
