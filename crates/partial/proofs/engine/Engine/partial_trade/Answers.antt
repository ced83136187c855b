use Rattle.std.proofs.Common.{rules, [], ◌∷◌}
use Rattle.full.specs.Trades.{Following}
use Rattle.partial.specs.Calls.{partial_trade_of}
use Rattle.partial.proofs.engine.Engine.partial_trade.Goals as goal

pub returns : goal.returns
unfolding partial_trade_of
returns g c =
    let follow : Following (g.S.Store.rows c.limits_drawn.new.store) (c.in_ok-drawn.drawn.buyer ∷ c.in_ok-drawn.drawn.seller ∷ []) = search rules in
    let led = g.met.S.Store.asked_first _ _ _ _ c.limits_drawn.ensures.asked.changes (c.put_moves.ensures.changes_following follow) in
    search rules
