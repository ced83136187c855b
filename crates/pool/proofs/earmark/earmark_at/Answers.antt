use Rattle.std.proofs.Common.{rules}
use Rattle.std.proofs.lemmas.Int.{to_z-of_z}
use Rattle.pool.specs.Calls.{earmark_at}
use Rattle.pool.proofs.earmark.earmark_at.Goals as goal

pub returns-in_err-ended-clause-answer : goal.returns-in_err-ended-clause-answer
unfolding earmark_at
returns-in_err-ended-clause-answer g c = search (rules, to_z-of_z)

pub returns-clause-answer : goal.returns-clause-answer
unfolding earmark_at
returns-clause-answer g c = search (rules, to_z-of_z)
