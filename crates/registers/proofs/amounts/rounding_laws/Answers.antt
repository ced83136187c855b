use Rattle.registers.proofs.Rounding.{rounded_near, rounded_monotone, rounded_none}
use Rattle.registers.proofs.amounts.rounding_laws.Goals as goal

pub returns : goal.returns
returns c = record { near = rounded_near; monotone = rounded_monotone; none = rounded_none }
