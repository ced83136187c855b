use Rattle.std.proofs.Common.{◌∷◌, sym, ap, ◌∙◌, arith}
use Rattle.dayfile.specs.declared.line.Line.{Line}
use Rattle.day_runs.specs.Days.{overwritten, told_by}
use Rattle.day_runs.proofs.Overwritten.{overwritten-past, overwritten-next}
use Rattle.day_runs.proofs.runs.tell.Goals as goal

pub returns-then-next-outcomes : goal.returns-then-next-outcomes
returns-then-next-outcomes c ls =
    overwritten-past c.args.outcomes.now c.args.next (told_by ls) (omega (arith, c.if-next-outcomes.true))
    ∙ sym (overwritten-past c.args.outcomes.now c.args.next (told_by (c.args.line ∷ ls)) (omega (arith, c.if-next-outcomes.true)))

pub returns : goal.returns
returns c ls =
    overwritten-next c.args.outcomes.now c.args.next c.in-Record.outcome (told_by ls) (omega arith)
    ∙ sym (ap (λ (l : Line). overwritten c.args.outcomes.now c.args.next (told_by (l ∷ ls))) c.in-Record.is)
