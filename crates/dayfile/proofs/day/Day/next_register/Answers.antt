use Rattle.std.proofs.Common.{rules}
use Rattle.dayfile.proofs.Places.{drop_none, drop_some}
use Rattle.dayfile.proofs.day.Day.next_register.Goals as goal

pub returns-in_err-row-clause-lines : goal.returns-in_err-row-clause-lines
returns-in_err-row-clause-lines g c = search (rules, drop_none _ c.args.place c.in_err-row.ensures.answer)

pub returns-clause-lines : goal.returns-clause-lines
returns-clause-lines g c = search (rules, drop_some _ c.args.place c.in_ok-row.row c.in_ok-row.ensures.answer)
