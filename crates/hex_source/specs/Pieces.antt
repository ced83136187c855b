-- Texts laid out of pieces in any order, and texts that break off with a fault behind such pieces. Nothing here says
-- how a text is read.
use Rattle.std.specs.Prelude.{◌≡◌, ◌≢◌, ℕ, ◌+◌, ◌*◌, ⊤, List, [], ◌∷◌, ◌++◌, All, IsTrue, count_by, ◌==◌}
use Rattle.std.specs.Char.{digit_value}
use Rattle.hex_source.specs.declared.fault.Fault.{Fault}
use Rattle.hex_source.specs.declared.fault.Fault.TheVariants.{NoDigit, HalfByte}
use Rattle.hex_source.specs.declared.misspelling.Misspelling.{Misspelling}
use Rattle.hex_source.specs.declared.source_error.SourceError.{SourceError}
use Rattle.hex_source.specs.declared.source_error.SourceError.TheVariants.{Misspelled, OutOfMemory}
use Rattle.hex_source.specs.declared.letters.Sign.{Sign}
use Rattle.hex_source.specs.declared.letters.Sign.TheVariants as signs
use Rattle.hex_source.specs.Letters.{is_hex, sign_of}

-- a piece of a text: the two digits of a byte; one of the four letters that part bytes; or a remark, with the line
-- feed that ends it
pub data Piece : Type 0 where
  Pair : ℕ → ℕ → Piece
  Blank : Piece
  Tab : Piece
  CarriageReturn : Piece
  LineFeed : Piece
  Remark : List ℕ → Piece

-- a piece is what it is called: digits are digits, and no line ends within a remark
abbrev pub IsPiece : Piece → Type 0
IsPiece (Pair high low) = IsTrue (is_hex high) × IsTrue (is_hex low)
IsPiece Blank = ⊤
IsPiece Tab = ⊤
IsPiece CarriageReturn = ⊤
IsPiece LineFeed = ⊤
IsPiece (Remark letters) = All (λ letter. letter ≢ 10) letters

-- the letters of pieces, one behind the other
abbrev pub written : List Piece → List ℕ
written [] = []
written (Pair high low ∷ pieces) = high ∷ low ∷ written pieces
written (Blank ∷ pieces) = 32 ∷ written pieces
written (Tab ∷ pieces) = 9 ∷ written pieces
written (CarriageReturn ∷ pieces) = 13 ∷ written pieces
written (LineFeed ∷ pieces) = 10 ∷ written pieces
written (Remark letters ∷ pieces) = 35 ∷ letters ++ (10 ∷ written pieces)

-- the bytes of pieces: those of the pairs
abbrev pub bytes_in : List Piece → List ℕ
bytes_in [] = []
bytes_in (Pair high low ∷ pieces) = (16 * digit_value high + digit_value low) ∷ bytes_in pieces
bytes_in (Blank ∷ pieces) = bytes_in pieces
bytes_in (Tab ∷ pieces) = bytes_in pieces
bytes_in (CarriageReturn ∷ pieces) = bytes_in pieces
bytes_in (LineFeed ∷ pieces) = bytes_in pieces
bytes_in (Remark letters ∷ pieces) = bytes_in pieces

-- what may stand behind the last piece: nothing, or a remark in a line that does not end
abbrev pub IsLastRemark : List ℕ → Type 0
IsLastRemark [] = ⊤
IsLastRemark (letter ∷ letters) = (letter ≡ 35) × All (λ other. other ≢ 10) letters

-- a letter that ends a group of digits
abbrev pub EndsGroup : Sign → Type 0
EndsGroup (signs.Digit value) = ⊥
EndsGroup signs.Blank = ⊤
EndsGroup signs.LineEnd = ⊤
EndsGroup signs.Hash = ⊤
EndsGroup signs.Other = ⊥

-- letters that begin with a fault: a letter that may stand in remarks only, alone or behind the first digit of a byte,
-- or a byte that has only its first digit, at the end of a group or of the text
pub data BeginsWith : List ℕ → Fault → Type 0 where
  Stray : (letter : ℕ) (more : List ℕ) → sign_of letter ≡ signs.Other → BeginsWith (letter ∷ more) (NoDigit letter)
  StrayInByte : (high letter : ℕ) (more : List ℕ) → IsTrue (is_hex high) → sign_of letter ≡ signs.Other → BeginsWith (high ∷ letter ∷ more) (NoDigit letter)
  Half : (high letter : ℕ) (more : List ℕ) → IsTrue (is_hex high) → EndsGroup (sign_of letter) → BeginsWith (high ∷ letter ∷ more) HalfByte
  HalfAtEnd : (high : ℕ) → IsTrue (is_hex high) → BeginsWith (high ∷ []) HalfByte

-- a text that is laid out of pieces, and the bytes that they have
pub record IsLaidOut (text bytes : List ℕ) : Type 0 where
  pub pieces : List Piece
  pub rest : List ℕ
  pub are_pieces : All IsPiece pieces
  pub is_remark : IsLastRemark rest
  pub letters : text ≡ written pieces ++ rest
  pub spelled : bytes ≡ bytes_in pieces

-- a text that breaks off with a fault behind pieces, and the fault with its line: 1, and one more for each line feed
-- that stands before it
pub record BreaksOff (text : List ℕ) (misspelling : Misspelling) : Type 0 where
  pub pieces : List Piece
  pub rest : List ℕ
  pub are_pieces : All IsPiece pieces
  pub begins : BeginsWith rest misspelling.fault
  pub letters : text ≡ written pieces ++ rest
  pub numbered : misspelling.line ≡ 1 + count_by (λ letter. letter == 10) (written pieces)

-- an error of reading a text: the fault with which it breaks off, or want of memory, whatever the text
abbrev pub IsBreakOf : List ℕ → SourceError → Type 0
IsBreakOf text (Misspelled misspelling) = BreaksOff text misspelling
IsBreakOf text OutOfMemory = ⊤
