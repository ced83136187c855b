-- The numbers of the constants that the definitions and the contracts cite.
use Rattle.std.specs.Prelude.{◌≡◌, pos, negsuc}
use Rattle.registers.specs.declared.image.TheConstants.{HEADER, COUNT_PLACE, KEY, FIGURES, ROW}
use Rattle.registers.specs.declared.figures.TheConstants.{LEAST_FIGURE, MOST_FIGURE}
use Rattle.registers.specs.declared.amounts.TheConstants.{MOST_AMOUNT, MOST_VALUE}

-- an image: its header, where in it the count begins, and a row's key, figures and whole length, in bytes
abbrev pub ImageNumbers : Type 0
ImageNumbers = (HEADER ≡ 7) × (COUNT_PLACE ≡ 5) × (KEY ≡ 7) × (FIGURES ≡ 24) × (ROW ≡ 31)

-- a figure in range: from −10^15 to 10^15
abbrev pub FigureNumbers : Type 0
FigureNumbers = (LEAST_FIGURE ≡ negsuc 999999999999999) × (MOST_FIGURE ≡ pos 1000000000000000)

-- the greatest amount, 10^16, and the greatest that is worked out, 10^12
abbrev pub AmountNumbers : Type 0
AmountNumbers = (MOST_AMOUNT ≡ 10000000000000000) × (MOST_VALUE ≡ 1000000000000)
