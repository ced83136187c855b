-- What the checks of calls rest on.
use Rattle.std.proofs.lemmas.Int.{to_z-of_z}
use Rattle.std.proofs.lemmas.List.{length-append}

-- a signed number, passed on and read again
pub ruleset signed = (to_z-of_z)

-- a list with one more
pub ruleset counted = (length-append)
