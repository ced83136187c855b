-- What the letters of a text are, and the plainest text of bytes.
use Rattle.std.specs.Prelude.{ℕ, ◌+◌, ◌-◌, ◌/◌, ◌%◌, Bool, ◌||◌, List, [], ◌∷◌, ◌==◌, nat_lt, if◌then◌else◌}
use Rattle.std.specs.Char.{is_digit, digit_value}
use Rattle.hex_source.specs.declared.letters.Sign.{Sign}
use Rattle.hex_source.specs.declared.letters.Sign.TheVariants.{Digit, Blank, LineEnd, Hash, Other}

-- whether a letter is a hex digit: 0 to 9, A to F or a to f
abbrev pub is_hex : ℕ → Bool
is_hex letter = is_digit letter 16

-- what a letter is: a digit with its value; a blank, a tab or a carriage return; a line feed; a #; or another
abbrev pub sign_of : ℕ → Sign
sign_of letter =
    if is_hex letter then Digit (digit_value letter)
    else if letter == 32 || letter == 9 || letter == 13 then Blank
    else if letter == 10 then LineEnd
    else if letter == 35 then Hash
    else Other

-- the digit of a value below 16: 0 to 9, then A to F
abbrev pub digit : ℕ → ℕ
digit value = if nat_lt value 10 then 48 + value else 65 + (value - 10)

-- the plainest text of bytes: two digits for each, the first for the sixteens, and nothing else
abbrev pub plain : List ℕ → List ℕ
plain [] = []
plain (byte ∷ bytes) = digit (byte / 16) ∷ digit (byte % 16) ∷ plain bytes
