-- The texts of keys, figures and rows, their numbers with spaces between them, and of faults.
use Rattle.std.specs.Prelude.{ℕ, List, ◌++◌, codes, decimal}
use Rattle.std.specs.Fmt.{signed_decimal}
use Rattle.registers.specs.declared.key.Key.{Key}
use Rattle.registers.specs.declared.figures.Figures.{Figures}
use Rattle.registers.specs.declared.row.Row.{Row}
use Rattle.registers.specs.declared.fault.StoreFault.{StoreFault}
use Rattle.registers.specs.Registers.{fault_number}

abbrev pub key_text : Key → List ℕ
key_text k = decimal k.kind ++ (codes " " ++ (decimal k.code ++ (codes " " ++ decimal k.security)))

abbrev pub figures_text : Figures → List ℕ
figures_text f = signed_decimal f.limit ++ (codes " " ++ (signed_decimal f.blocked ++ (codes " " ++ signed_decimal f.third)))

abbrev pub row_text : Row → List ℕ
row_text r = key_text r.key ++ (codes " " ++ figures_text r.figures)

-- a fault's refusal number, and S for the store
abbrev pub fault_text : StoreFault → List ℕ
fault_text e = decimal (fault_number e) ++ codes " S"

-- what bytes without room for a header are told by
abbrev pub too_short_text : List ℕ
too_short_text = codes "too short for the header of an image"
