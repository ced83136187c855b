-- The text of the lines of a listing.
use Rattle.std.specs.Prelude.{ℕ, List, [], ◌∷◌, ◌++◌, ℤ, Ok, Err, codes, decimal, encode_utf8, Result}
use Rattle.std.specs.Fmt.{signed_decimal}
use Rattle.registers.specs.Texts.{row_text}
use Rattle.plans.specs.Refusals.{layer_text}
use Rattle.day_records.specs.Kinds.{letter_of}
use Rattle.dayfile.specs.declared.line.Line.{Line}
use Rattle.dayfile.specs.declared.line.Line.TheVariants.{Record, Fault, End, Register}
use Rattle.dayfile.specs.declared.refusal.LineRefusal.{LineRefusal}
use Rattle.dayfile.specs.Calls.{line_number, line_layer}

-- a refusal: its number and the letter of its layer
abbrev pub line_refusal_text : LineRefusal → List ℕ
line_refusal_text r = decimal (line_number r) ++ (codes " " ++ layer_text (line_layer r))

-- what came of a record: ok and the answer, or no and the refusal
abbrev pub outcome_text : Result ℤ LineRefusal → List ℕ
outcome_text (Ok answer) = codes " ok " ++ signed_decimal answer
outcome_text (Err refusal) = codes " no " ++ line_refusal_text refusal

abbrev pub line_text : Line → List ℕ
line_text (Record number kind outcome) = decimal number ++ (codes " " ++ (encode_utf8 (letter_of kind) ++ outcome_text outcome))
line_text (Fault number refusal place) = decimal number ++ (codes " fault " ++ (line_refusal_text refusal ++ (codes " " ++ decimal place)))
line_text (End count) = codes "end " ++ decimal count
line_text (Register row) = codes "R " ++ row_text row

-- a listing: each line ended by a line feed
abbrev pub listing_text : List Line → List ℕ
listing_text [] = []
listing_text (l ∷ ls) = line_text l ++ (10 ∷ listing_text ls)
