-- A text read piece by piece.
use Rattle.std.proofs.Common.{◌≡◌, ◌≢◌, ℕ, ◌+◌, ◌*◌, Bool, true, false, List, [], ◌∷◌, ◌++◌, Ok, Err, Result, IsTrue, All, if◌then◌else◌, refl, sym, ◌∙◌, ap, subst, append_assoc, add-zero, arith}
use Rattle.std.specs.Prelude.{count_by, ◌==◌, ◌||◌}
use Rattle.std.specs.Char.{digit_value}
use Rattle.std.proofs.lemmas.Bool.{ne_eqb}
use Rattle.std.proofs.lemmas.List.{append-nil}
use Rattle.std.proofs.lemmas.List.Elements.{All-head, All-tail}
use Rattle.std.proofs.lemmas.List.Sums.{sum_by-cons}
use Rattle.hex_source.specs.declared.fault.Fault.{Fault}
use Rattle.hex_source.specs.declared.fault.Fault.TheVariants.{NoDigit, HalfByte}
use Rattle.hex_source.specs.declared.misspelling.Misspelling.{Misspelling}
use Rattle.hex_source.specs.declared.source_error.SourceError.{SourceError}
use Rattle.hex_source.specs.declared.source_error.SourceError.TheVariants.{Misspelled, OutOfMemory}
use Rattle.hex_source.specs.declared.letters.Sign.{Sign}
use Rattle.hex_source.specs.declared.letters.Sign.TheVariants as signs
use Rattle.hex_source.specs.declared.standing.Standing.TheVariants as standings
use Rattle.hex_source.specs.declared.effect.Effect.TheVariants.{Goes, Gives, Fails}
use Rattle.hex_source.specs.Letters.{is_hex, sign_of}
use Rattle.hex_source.specs.Spelling.{effect_of, fault_in, in_front, line_behind, behind, spelled_from, spelled, IsFaultOf, IsOutOfMemory, IsThatFault}
use Rattle.hex_source.specs.Pieces.{Piece, Pair, Blank, Tab, CarriageReturn, LineFeed, Remark, IsPiece, written, bytes_in, IsLastRemark, EndsGroup, BeginsWith, Stray, StrayInByte, Half, HalfAtEnd, IsLaidOut, BreaksOff}
use Rattle.hex_source.proofs.Letterwise.{behind-none, spelled-letter}

-- a digit is a digit by its sign, and ends no line
pub sign_of-hex : (letter : ℕ) → IsTrue (is_hex letter) → sign_of letter ≡ signs.Digit (digit_value letter)
sign_of-hex letter h = rw h refl

hex_is_no_feed : (letter : ℕ) → IsTrue (is_hex letter) → letter ≢ 10
hex_is_no_feed letter h e = let k : is_hex 10 ≡ true = subst (λ (x : ℕ). is_hex x ≡ true) e h in cc

line_behind-other : (letter line : ℕ) → letter ≢ 10 → line_behind letter line ≡ line
line_behind-other letter line ne = rw (ne_eqb letter 10 ne) refl

-- how many line feeds stand in letters
abbrev pub feeds : List ℕ → ℕ
feeds letters = count_by (λ (letter : ℕ). letter == 10) letters

feeds-other : (letter : ℕ) (letters : List ℕ) → letter ≢ 10 → feeds (letter ∷ letters) ≡ feeds letters
feeds-other letter letters ne = rw (sum_by-cons, ne_eqb letter 10 ne) (omega arith)

-- in a remark all letters but the line feed mean nothing
stays_by : (hex blank hash : Bool) (letter value : ℕ) → effect_of standings.Remark letter (if hex then signs.Digit value else if blank then signs.Blank else if false then signs.LineEnd else if hash then signs.Hash else signs.Other) ≡ Goes standings.Remark
stays_by true blank hash letter value = refl
stays_by false true hash letter value = refl
stays_by false false true letter value = refl
stays_by false false false letter value = refl

stays : (letter : ℕ) → letter ≢ 10 → effect_of standings.Remark letter (sign_of letter) ≡ Goes standings.Remark
stays letter ne = rw (ne_eqb letter 10 ne) (stays_by (is_hex letter) (letter == 32 || letter == 9 || letter == 13) (letter == 35) letter (digit_value letter))

spelled-remark : (letters : List ℕ) (line : ℕ) (text : List ℕ) → All (λ letter. letter ≢ 10) letters → spelled_from standings.Remark line (letters ++ (10 ∷ text)) ≡ spelled_from standings.Between (line + 1) text
spelled-remark [] line text h = refl
spelled-remark (letter ∷ letters) line text h =
    let ne : letter ≢ 10 = All-head (λ (x : ℕ). x ≢ 10) letter letters h in
    spelled-letter standings.Remark (Goes standings.Remark) line letter (letters ++ (10 ∷ text)) (stays letter ne)
    ∙ (ap (λ (n : ℕ). spelled_from standings.Remark n (letters ++ (10 ∷ text))) (line_behind-other letter line ne)
    ∙ spelled-remark letters line text (All-tail (λ (x : ℕ). x ≢ 10) letter letters h))

spelled-last_remark : (letters : List ℕ) (line : ℕ) → All (λ letter. letter ≢ 10) letters → spelled_from standings.Remark line letters ≡ Ok []
spelled-last_remark [] line h = refl
spelled-last_remark (letter ∷ letters) line h =
    spelled-letter standings.Remark (Goes standings.Remark) line letter letters (stays letter (All-head (λ (x : ℕ). x ≢ 10) letter letters h))
    ∙ spelled-last_remark letters (line_behind letter line) (All-tail (λ (x : ℕ). x ≢ 10) letter letters h)

feeds-remark : (letters text : List ℕ) → All (λ letter. letter ≢ 10) letters → feeds (letters ++ (10 ∷ text)) ≡ 1 + feeds text
feeds-remark [] text h = sum_by-cons _ 10 text
feeds-remark (letter ∷ letters) text h =
    feeds-other letter (letters ++ (10 ∷ text)) (All-head (λ (x : ℕ). x ≢ 10) letter letters h) ∙ feeds-remark letters text (All-tail (λ (x : ℕ). x ≢ 10) letter letters h)

-- the two digits of a byte
spelled-first_digit : (line high : ℕ) (text : List ℕ) → IsTrue (is_hex high) → spelled_from standings.Between line (high ∷ text) ≡ spelled_from (standings.Half (digit_value high)) line text
spelled-first_digit line high text h =
    spelled-letter standings.Between (Goes (standings.Half (digit_value high))) line high text (ap (λ (s : Sign). effect_of standings.Between high s) (sign_of-hex high h))
    ∙ ap (λ (n : ℕ). spelled_from (standings.Half (digit_value high)) n text) (line_behind-other high line (hex_is_no_feed high h))

pub spelled-pair : (line high low : ℕ) (text : List ℕ) → IsTrue (is_hex high) → IsTrue (is_hex low) → spelled_from standings.Between line (high ∷ low ∷ text) ≡ in_front (16 * digit_value high + digit_value low) (spelled_from standings.Between line text)
spelled-pair line high low text h k =
    spelled-first_digit line high (low ∷ text) h
    ∙ (spelled-letter (standings.Half (digit_value high)) (Gives (16 * digit_value high + digit_value low)) line low text (ap (λ (s : Sign). effect_of (standings.Half (digit_value high)) low s) (sign_of-hex low k))
    ∙ ap (λ (n : ℕ). in_front (16 * digit_value high + digit_value low) (spelled_from standings.Between n text)) (line_behind-other low line (hex_is_no_feed low k)))

in_front-behind : (byte : ℕ) (bytes : List ℕ) (r : Result (List ℕ) Misspelling) → in_front byte (behind bytes r) ≡ behind (byte ∷ bytes) r
in_front-behind byte bytes (Ok more) = refl
in_front-behind byte bytes (Err misspelling) = refl

-- a letter in front that ends no line moves no line number
parted : (letter : ℕ) (pieces : List Piece) (line : ℕ) (rest : List ℕ) → letter ≢ 10 → spelled_from standings.Between line (written pieces ++ rest) ≡ behind (bytes_in pieces) (spelled_from standings.Between (line + feeds (written pieces)) rest) → spelled_from standings.Between line (written pieces ++ rest) ≡ behind (bytes_in pieces) (spelled_from standings.Between (line + feeds (letter ∷ written pieces)) rest)
parted letter pieces line rest ne e =
    e ∙ ap (λ (n : ℕ). behind (bytes_in pieces) (spelled_from standings.Between (line + n) rest)) (sym (feeds-other letter (written pieces) ne))

-- pieces are read as their bytes, and what follows is read from the line on in which they end
pub spelled-pieces : (pieces : List Piece) (line : ℕ) (rest : List ℕ) → All IsPiece pieces → spelled_from standings.Between line (written pieces ++ rest) ≡ behind (bytes_in pieces) (spelled_from standings.Between (line + feeds (written pieces)) rest)
spelled-pieces [] line rest h =
    sym (behind-none (spelled_from standings.Between line rest))
    ∙ ap (λ (n : ℕ). behind [] (spelled_from standings.Between n rest)) (sym (add-zero line))
spelled-pieces (Pair high low ∷ pieces) line rest h =
    let digits : IsPiece (Pair high low) = All-head IsPiece (Pair high low) pieces h in
    let few : feeds (high ∷ low ∷ written pieces) ≡ feeds (written pieces) = feeds-other high (low ∷ written pieces) (hex_is_no_feed high digits.0) ∙ feeds-other low (written pieces) (hex_is_no_feed low digits.1) in
    spelled-pair line high low (written pieces ++ rest) digits.0 digits.1
    ∙ (ap (λ (r : Result (List ℕ) Misspelling). in_front (16 * digit_value high + digit_value low) r) (spelled-pieces pieces line rest (All-tail IsPiece (Pair high low) pieces h))
    ∙ (in_front-behind _ (bytes_in pieces) _
    ∙ ap (λ (n : ℕ). behind (bytes_in (Pair high low ∷ pieces)) (spelled_from standings.Between (line + n) rest)) (sym few)))
spelled-pieces (Blank ∷ pieces) line rest h = parted 32 pieces line rest (omega arith) (spelled-pieces pieces line rest (All-tail IsPiece Blank pieces h))
spelled-pieces (Tab ∷ pieces) line rest h = parted 9 pieces line rest (omega arith) (spelled-pieces pieces line rest (All-tail IsPiece Tab pieces h))
spelled-pieces (CarriageReturn ∷ pieces) line rest h = parted 13 pieces line rest (omega arith) (spelled-pieces pieces line rest (All-tail IsPiece CarriageReturn pieces h))
spelled-pieces (LineFeed ∷ pieces) line rest h =
    let one : line + 1 + feeds (written pieces) ≡ line + feeds (10 ∷ written pieces) = omega (arith, sum_by-cons (λ (letter : ℕ). if letter == 10 then 1 else 0) 10 (written pieces)) in
    spelled-pieces pieces (line + 1) rest (All-tail IsPiece LineFeed pieces h)
    ∙ ap (λ (n : ℕ). behind (bytes_in pieces) (spelled_from standings.Between n rest)) one
spelled-pieces (Remark letters ∷ pieces) line rest h =
    let inside : IsPiece (Remark letters) = All-head IsPiece (Remark letters) pieces h in
    let one : line + 1 + feeds (written pieces) ≡ line + feeds (35 ∷ (letters ++ (10 ∷ written pieces))) = omega (arith, feeds-remark letters (written pieces) inside, sum_by-cons (λ (letter : ℕ). if letter == 10 then 1 else 0) 35 (letters ++ (10 ∷ written pieces))) in
    ap (λ (text : List ℕ). spelled_from standings.Remark line text) (append_assoc letters (10 ∷ written pieces) rest)
    ∙ (spelled-remark letters line (written pieces ++ rest) inside
    ∙ (spelled-pieces pieces (line + 1) rest (All-tail IsPiece (Remark letters) pieces h)
    ∙ ap (λ (n : ℕ). behind (bytes_in pieces) (spelled_from standings.Between n rest)) one))

-- what may stand behind the last piece spells nothing
spelled-rest : (rest : List ℕ) (line : ℕ) → IsLastRemark rest → spelled_from standings.Between line rest ≡ Ok []
spelled-rest [] line h = refl
spelled-rest (letter ∷ letters) line h =
    ap (λ (x : ℕ). spelled_from standings.Between line (x ∷ letters)) h.0 ∙ spelled-last_remark letters line h.1

-- a text that is laid out spells the bytes of its pieces
pub spelled-laid_out : (text bytes : List ℕ) → IsLaidOut text bytes → spelled text ≡ Ok bytes
spelled-laid_out text bytes laid =
    ap spelled laid.letters
    ∙ (spelled-pieces laid.pieces 1 laid.rest laid.are_pieces
    ∙ (ap (behind (bytes_in laid.pieces)) (spelled-rest laid.rest (1 + feeds (written laid.pieces)) laid.is_remark)
    ∙ ap (λ (l : List ℕ). Ok l) (append-nil (bytes_in laid.pieces) ∙ sym laid.spelled)))

-- a fault is met where the letters begin with it
half_by : (value letter : ℕ) (sign : Sign) → EndsGroup sign → effect_of (standings.Half value) letter sign ≡ Fails HalfByte
half_by value letter (signs.Digit low) h = absurd h
half_by value letter signs.Blank h = refl
half_by value letter signs.LineEnd h = refl
half_by value letter signs.Hash h = refl
half_by value letter signs.Other h = absurd h

spelled-begins : (rest : List ℕ) (fault : Fault) (line : ℕ) → BeginsWith rest fault → spelled_from standings.Between line rest ≡ fault_in line fault
spelled-begins _ _ line (Stray letter more h) =
    spelled-letter standings.Between (Fails (NoDigit letter)) line letter more (ap (λ (s : Sign). effect_of standings.Between letter s) h)
spelled-begins _ _ line (StrayInByte high letter more h k) =
    spelled-first_digit line high (letter ∷ more) h
    ∙ spelled-letter (standings.Half (digit_value high)) (Fails (NoDigit letter)) line letter more (ap (λ (s : Sign). effect_of (standings.Half (digit_value high)) letter s) k)
spelled-begins _ _ line (Half high letter more h k) =
    spelled-first_digit line high (letter ∷ more) h
    ∙ spelled-letter (standings.Half (digit_value high)) (Fails HalfByte) line letter more (half_by (digit_value high) letter (sign_of letter) k)
spelled-begins _ _ line (HalfAtEnd high h) = spelled-first_digit line high [] h

-- a text that breaks off has the fault, in its line
pub spelled-breaks_off : (text : List ℕ) (misspelling : Misspelling) → BreaksOff text misspelling → spelled text ≡ Err misspelling
spelled-breaks_off text misspelling breaks =
    ap spelled breaks.letters
    ∙ (spelled-pieces breaks.pieces 1 breaks.rest breaks.are_pieces
    ∙ (ap (behind (bytes_in breaks.pieces)) (spelled-begins breaks.rest misspelling.fault (1 + feeds (written breaks.pieces)) breaks.begins)
    ∙ ap (λ (n : ℕ). fault_in n misspelling.fault) (sym breaks.numbered)))

-- so an error of reading a text that is laid out is want of memory, and of one that breaks off is its fault, or that
pub memory_at_laid_out : (text bytes : List ℕ) (error : SourceError) → IsFaultOf text error → IsLaidOut text bytes → IsOutOfMemory error
memory_at_laid_out text bytes (Misspelled misspelling) h laid = let e = spelled-laid_out text bytes laid in cc
memory_at_laid_out text bytes OutOfMemory h laid = refl

pub fault_at_break : (text : List ℕ) (misspelling : Misspelling) (error : SourceError) → IsFaultOf text error → BreaksOff text misspelling → IsThatFault misspelling error
fault_at_break text misspelling (Misspelled other) h breaks = let e = spelled-breaks_off text misspelling breaks in cc
fault_at_break text misspelling OutOfMemory h breaks = tt
