use Rattle.std.proofs.Common.{rules}
use Rattle.full.specs.OpenRegisters.{FiguresAt}
use Rattle.partial.proofs.Draws.{drawn_follow}
use Rattle.partial.proofs.limits.limits_drawn.Goals as goal

pub returns-clause-follow : goal.returns-clause-follow
returns-clause-follow g c =
    let x : FiguresAt (g.S.Store.rows c.args.store.now) c.in_ok-a.a.place c.in_ok-a.a.figures = search rules in
    let y : FiguresAt (g.S.Store.rows c.args.store.now) c.in_ok-b.b.place c.in_ok-b.b.figures = search rules in
    drawn_follow _ c.in_ok-a.a c.in_ok-b.b _ _ _ x y c.drawn_from.result c.drawn_from.ensures
