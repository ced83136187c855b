use Rattle.std.proofs.Common.{rules}
use Rattle.std.proofs.lemmas.Int.{to_z-of_z}
use Rattle.full.specs.OpenRegisters.{paid_of}
use Rattle.full.proofs.open_register.paid.Goals as goal

pub returns : goal.returns
unfolding paid_of
returns c = let b = c.args.before.bounded in let l = b.limit_within in let m = b.blocked_within in search (rules, to_z-of_z)
