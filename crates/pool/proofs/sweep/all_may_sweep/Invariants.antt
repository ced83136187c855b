use Rattle.std.proofs.Common.{◌≡◌, true, take}
use Rattle.std.specs.List.{list_all}
use Rattle.registers.specs.Changes.{OnlyAsked}
use Rattle.pool.specs.Calls.{may_sweep}
use Rattle.pool.proofs.sweep.all_may_sweep.Given as goal

abbrev pub invariant-loop-place : goal.invariant-loop-place
invariant-loop-place g l =
    record {
      asked : OnlyAsked g.S.Store.rows g.S.Store.capacity g.S.Store.made l.fn.store l.store;
      fine : list_all may_sweep (take l.place (g.S.Store.rows l.fn.store)) ≡ true;
    }
