use Rattle.std.proofs.Common.{◌≡◌, ◌≤◌, ◌*◌, take, sum_by}
use Rattle.pool.specs.Debts.{owed_in}
use Rattle.pool.specs.declared.need.TheConstants.{MOST_OWED_BY_OBLIGATION}
use Rattle.pool.proofs.need.owed_over.Given as goal

abbrev pub invariant-loop-slot : goal.invariant-loop-slot
invariant-loop-slot l =
    record {
      owed : l.owed ≡ sum_by (owed_in l.account l.asset) (take l.slot-index l.table);
      most : l.owed ≤ l.slot-index * MOST_OWED_BY_OBLIGATION;
    }
