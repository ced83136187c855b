-- What is told of a fault.
use Rattle.std.specs.Prelude.{ℕ, ◌/◌, ◌%◌, List, ◌++◌, codes, decimal, encode_utf8, if◌then◌else◌}
use Rattle.std.specs.Char.{is_ascii_graphic}
use Rattle.hex_source.specs.declared.fault.Fault.{Fault}
use Rattle.hex_source.specs.declared.fault.Fault.TheVariants.{NoDigit, HalfByte}
use Rattle.hex_source.specs.declared.misspelling.Misspelling.{Misspelling}
use Rattle.hex_source.specs.declared.source_error.SourceError.{SourceError}
use Rattle.hex_source.specs.declared.source_error.SourceError.TheVariants.{Misspelled, OutOfMemory}
use Rattle.hex_source.specs.Letters.{digit}

-- a letter that is no digit: as it looks, where it can be seen, and else as a byte in hex
abbrev pub fault_text : Fault → List ℕ
fault_text (NoDigit letter) =
    if is_ascii_graphic letter then encode_utf8 letter ++ codes " is no digit"
    else codes "the byte " ++ (encode_utf8 (digit (letter / 16)) ++ (encode_utf8 (digit (letter % 16)) ++ codes " is no digit"))
fault_text HalfByte = codes "half a byte"

-- the fault with its line
abbrev pub misspelling_text : Misspelling → List ℕ
misspelling_text misspelling = codes "line " ++ (decimal misspelling.line ++ (codes ": " ++ fault_text misspelling.fault))

abbrev pub error_text : SourceError → List ℕ
error_text (Misspelled misspelling) = misspelling_text misspelling
error_text OutOfMemory = codes "out of memory"
