use Rattle.std.proofs.Common.{rules}
use Rattle.std.proofs.lemmas.Int.{to_z_pos}
use Rattle.pool.specs.Calls.{close_of}
use Rattle.pool.proofs.engine.Engine.close.Goals as goal

pub returns : goal.returns
unfolding close_of
returns g c =
    let led = g.met.S.Store.asked_first _ _ _ _ c.all_may_sweep.ensures.asked.changes c.sweep_all.ensures.changes in
    search (rules, to_z_pos)
