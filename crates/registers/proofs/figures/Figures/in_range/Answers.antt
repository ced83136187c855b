use Rattle.std.proofs.Common.{rules}
use Rattle.std.proofs.lemmas.Int.{to_z-of_z}
use Rattle.registers.specs.Registers.{in_range}
use Rattle.registers.proofs.figures.Figures.in_range.Goals as goal

pub returns-then-is_bounded-4 : goal.returns-then-is_bounded-4
unfolding in_range
returns-then-is_bounded-4 c = search (rules, to_z-of_z)

pub returns-else-is_bounded-4 : goal.returns-else-is_bounded-4
unfolding in_range
returns-else-is_bounded-4 c = search (rules, to_z-of_z)
