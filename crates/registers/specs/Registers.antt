-- Registers: when figures are in range, when keys are the same, and the numbers of faults.
use Rattle.std.specs.Prelude.{ℕ, Bool, if◌then◌else◌, Some, None, Option, ◌&&◌, ℤ, pos, ◌+ℤ◌, ◌≤ℤ◌, ◌==◌, int_le}
use Rattle.registers.specs.declared.key.Key.{Key}
use Rattle.registers.specs.declared.figures.Figures.{Figures}
use Rattle.registers.specs.declared.figures.TheConstants.{LEAST_FIGURE, MOST_FIGURE}
use Rattle.registers.specs.declared.kind.RegisterKind.{RegisterKind}
use Rattle.registers.specs.declared.kind.RegisterKind.TheVariants.{Cash, Holding, Participant}
use Rattle.registers.specs.declared.fault.StoreFault.{StoreFault}
use Rattle.registers.specs.declared.fault.StoreFault.TheVariants.{Full, NotOpen, OutOfRange}

-- a figure that lies between the least and the greatest
unfoldable pub bounded : ℤ → Bool
bounded z = int_le LEAST_FIGURE z && int_le z MOST_FIGURE

-- each figure, and limit plus third, is bounded, and the third is not negative
unfoldable pub in_range : Figures → Bool
in_range f = bounded f.limit && (bounded f.blocked && (bounded f.third && (bounded (f.limit +ℤ f.third) && int_le (pos 0) f.third)))

-- what a figure in range is good for: sums of a few of them fit 64 bits
pub record Within (z : ℤ) : Type 0 where
  pub low : LEAST_FIGURE ≤ℤ z
  pub high : z ≤ℤ MOST_FIGURE

pub record Bounded (f : Figures) : Type 0 where
  pub limit_within : Within f.limit
  pub blocked_within : Within f.blocked
  pub third_within : Within f.third

-- whether two keys are the same
abbrev pub same_key : Key → Key → Bool
same_key a b = a.kind == b.kind && (a.code == b.code && a.security == b.security)

-- the number of each kind of registers, and the kind of a number
abbrev pub kind_number : RegisterKind → ℕ
kind_number Cash = 1
kind_number Holding = 2
kind_number Participant = 3

abbrev pub kind_of : ℕ → Option RegisterKind
kind_of n = if n == kind_number Cash then Some Cash else (if n == kind_number Holding then Some Holding else (if n == kind_number Participant then Some Participant else None))

-- the refusal number of each fault
abbrev pub fault_number : StoreFault → ℕ
fault_number Full = 2
fault_number NotOpen = 6
fault_number OutOfRange = 25
