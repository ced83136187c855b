use Rattle.std.proofs.Common.{rules, [], ◌∷◌}
use Rattle.std.proofs.lemmas.Int.{to_z_pos}
use Rattle.full.specs.Trades.{Following}
use Rattle.pool.specs.Calls.{settle_of}
use Rattle.pool.proofs.engine.Engine.settle.Goals as goal

pub returns : goal.returns
unfolding settle_of
returns g c =
    let follow : Following (g.S.Store.rows c.thirds_passed.new.store) (c.in_ok-passed.passed.debtor ∷ c.in_ok-passed.passed.creditor ∷ []) = search rules in
    let led = g.met.S.Store.asked_first _ _ _ _ c.thirds_passed.ensures.asked.changes (c.put_moves.ensures.changes_following follow) in
    search (rules, to_z_pos)
