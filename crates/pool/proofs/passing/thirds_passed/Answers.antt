use Rattle.std.proofs.Common.{rules}
use Rattle.full.specs.OpenRegisters.{FiguresAt}
use Rattle.pool.proofs.Follows.{passed_follow}
use Rattle.pool.proofs.passing.thirds_passed.Goals as goal

pub returns-clause-follow : goal.returns-clause-follow
returns-clause-follow g c =
    let x : FiguresAt (g.S.Store.rows c.args.store.now) c.in_ok-a.a.place c.in_ok-a.a.figures = search rules in
    let y : FiguresAt (g.S.Store.rows c.args.store.now) c.in_ok-b.b.place c.in_ok-b.b.figures = search rules in
    passed_follow _ c.in_ok-a.a c.in_ok-b.b _ x y c.passed_from.result c.passed_from.ensures.answer
