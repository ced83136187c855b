use Rattle.std.proofs.Common.{rules, ◌≡◌, List, sym, ap, ◌∙◌, subst}
use Rattle.registers.specs.Changes.{Change, put_changes}
use Rattle.pool.specs.Calls.{returned}
use Rattle.pool.proofs.Sweeps.{stays, put_sweeps}
use Rattle.pool.proofs.sweep.sweep_row.Goals as goal

pub returns-then-not-returns-clause-after : goal.returns-then-not-returns-clause-after
returns-then-not-returns-clause-after g c = stays (g.S.Store.rows c.args.store.now) c.args.place c.args.row c.requires.stands (sym c.returns.ensures ∙ c.if-not-returns.true)

pub returns-in-Ok-clause-changes : goal.returns-in-Ok-clause-changes
returns-in-Ok-clause-changes g c =
    let rows = g.S.Store.rows c.args.store.now in
    let read : c.in-Ok.figures.figures ≡ c.args.row.figures = search rules in
    subst (λ (cs : List Change). g.S.Store.made c.args.store.now cs c.put.new.self)
    (ap (put_changes rows c.args.place) (c.returned.ensures ∙ ap returned read) ∙ put_sweeps rows c.args.place c.args.row c.requires.stands (sym c.returns.ensures ∙ c.if-not-returns.false))
    c.put.ensures.changes
