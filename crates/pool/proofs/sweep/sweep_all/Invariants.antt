use Rattle.std.proofs.Common.{◌≡◌, ◌≤◌, take}
use Rattle.pool.specs.Calls.{sweeps_from, count_returning}
use Rattle.pool.proofs.Sweeps.{swept_to}
use Rattle.pool.proofs.sweep.sweep_all.Given as goal

abbrev pub invariant-loop-place : goal.invariant-loop-place
invariant-loop-place g l =
    record {
      rows : g.S.Store.rows l.store ≡ swept_to l.place (g.S.Store.rows l.fn.store);
      same_room : g.S.Store.capacity l.store ≡ g.S.Store.capacity l.fn.store;
      changes : g.S.Store.made l.fn.store (sweeps_from 0 (take l.place (g.S.Store.rows l.fn.store))) l.store;
      count : l.count ≡ count_returning (take l.place (g.S.Store.rows l.fn.store));
      few : l.count ≤ l.place;
    }
