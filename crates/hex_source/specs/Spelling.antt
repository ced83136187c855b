-- Which bytes a text spells, or which fault it has first.
use Rattle.std.specs.Prelude.{◌≡◌, ℕ, ◌+◌, ◌*◌, ◌<◌, ⊤, List, [], ◌∷◌, ◌++◌, Ok, Err, Result, ◌==◌, if◌then◌else◌}
use Rattle.hex_source.specs.declared.fault.Fault.{Fault}
use Rattle.hex_source.specs.declared.fault.Fault.TheVariants.{NoDigit, HalfByte}
use Rattle.hex_source.specs.declared.misspelling.Misspelling.{Misspelling}
use Rattle.hex_source.specs.declared.source_error.SourceError.{SourceError}
use Rattle.hex_source.specs.declared.source_error.SourceError.TheVariants.{Misspelled, OutOfMemory}
use Rattle.hex_source.specs.declared.letters.Sign.{Sign}
use Rattle.hex_source.specs.declared.letters.Sign.TheVariants.{Digit, Blank, LineEnd, Hash, Other}
use Rattle.hex_source.specs.declared.standing.Standing.{Standing}
use Rattle.hex_source.specs.declared.standing.Standing.TheVariants.{Between, Half, Remark}
use Rattle.hex_source.specs.declared.effect.Effect.{Effect}
use Rattle.hex_source.specs.declared.effect.Effect.TheVariants.{Goes, Gives, Fails}
use Rattle.hex_source.specs.Letters.{sign_of}

-- what a letter with its sign makes of a reading
abbrev pub effect_of : Standing → ℕ → Sign → Effect
effect_of Remark letter LineEnd = Goes Between
effect_of Remark letter _ = Goes Remark
effect_of Between letter (Digit high) = Goes (Half high)
effect_of Between letter Blank = Goes Between
effect_of Between letter LineEnd = Goes Between
effect_of Between letter Hash = Goes Remark
effect_of Between letter Other = Fails (NoDigit letter)
effect_of (Half high) letter (Digit low) = Gives (16 * high + low)
effect_of (Half high) letter Blank = Fails HalfByte
effect_of (Half high) letter LineEnd = Fails HalfByte
effect_of (Half high) letter Hash = Fails HalfByte
effect_of (Half high) letter Other = Fails (NoDigit letter)

-- a fault in a line
abbrev pub fault_in : ℕ → Fault → Result (List ℕ) Misspelling
fault_in line fault = Err (record { line = line; fault = fault })

-- a byte in front of those that are spelled behind it
abbrev pub in_front : ℕ → Result (List ℕ) Misspelling → Result (List ℕ) Misspelling
in_front byte (Ok bytes) = Ok (byte ∷ bytes)
in_front byte (Err misspelling) = Err misspelling

-- the effect of a letter in a line, and behind it what is spelled from the next standing on
abbrev pub spelled_by : Effect → ℕ → (Standing → Result (List ℕ) Misspelling) → Result (List ℕ) Misspelling
spelled_by (Goes next) line behind = behind next
spelled_by (Gives byte) line behind = in_front byte (behind Between)
spelled_by (Fails fault) line behind = fault_in line fault

-- what a text has spelled that ends at a standing: a byte that has only its first digit is a fault
abbrev pub ended : Standing → ℕ → Result (List ℕ) Misspelling
ended Between line = Ok []
ended (Half high) line = fault_in line HalfByte
ended Remark line = Ok []

-- the line behind a letter
abbrev pub line_behind : ℕ → ℕ → ℕ
line_behind letter line = if letter == 10 then line + 1 else line

-- what a text spells, or its first fault, read from a standing in a line on
abbrev pub spelled_from : Standing → ℕ → List ℕ → Result (List ℕ) Misspelling
spelled_from standing line [] = ended standing line
spelled_from standing line (letter ∷ text) =
    spelled_by (effect_of standing letter (sign_of letter)) line (λ next. spelled_from next (line_behind letter line) text)

-- the bytes that a text spells, or its first fault
abbrev pub spelled : List ℕ → Result (List ℕ) Misspelling
spelled text = spelled_from Between 1 text

-- bytes that were read, and behind them what the rest of a text spells
abbrev pub behind : List ℕ → Result (List ℕ) Misspelling → Result (List ℕ) Misspelling
behind bytes (Ok more) = Ok (bytes ++ more)
behind bytes (Err misspelling) = Err misspelling

-- an error of reading a text: the fault that it has first, or want of memory, whatever the text
abbrev pub IsFaultOf : List ℕ → SourceError → Type 0
IsFaultOf text (Misspelled misspelling) = spelled text ≡ Err misspelling
IsFaultOf text OutOfMemory = ⊤

-- want of memory
abbrev pub IsOutOfMemory : SourceError → Type 0
IsOutOfMemory error = error ≡ OutOfMemory

-- an error of reading a text: this fault, or want of memory
abbrev pub IsThatFault : Misspelling → SourceError → Type 0
IsThatFault misspelling (Misspelled other) = other ≡ misspelling
IsThatFault misspelling OutOfMemory = ⊤

-- the first digit that a reading has passed is a digit's value
abbrev pub HoldsDigit : Standing → Type 0
HoldsDigit Between = ⊤
HoldsDigit (Half high) = high < 16
HoldsDigit Remark = ⊤

-- a letter from which a reading goes on leaves it with a digit's value, where it leaves it behind a first digit
abbrev pub LeavesDigit : Effect → Type 0
LeavesDigit (Goes next) = HoldsDigit next
LeavesDigit (Gives byte) = ⊤
LeavesDigit (Fails fault) = ⊤
