use Rattle.std.proofs.Common.{rules}
use Rattle.full.specs.Calls.{enter_of}
use Rattle.full.proofs.engine.Engine.enter.Goals as goal

pub returns : goal.returns
unfolding enter_of
returns g c =
    let few = g.met.S.Store.bounded c.self.inside.store in
    let led = g.met.S.Store.asked_first _ _ _ _ c.find.ensures.asked.changes (g.met.S.Store.asked_first _ _ _ _ c.count-count.ensures.asked.changes c.add.ensures.changes) in
    search rules
