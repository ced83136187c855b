-- Each text is laid out of pieces, or breaks off behind some.
use Rattle.std.proofs.Common.{◌≡◌, ◌≢◌, ℕ, ◌+◌, List, [], ◌∷◌, ◌++◌, ◌⊎◌, inl, inr, Ok, Err, IsTrue, All, refl, sym, ◌∙◌, ap, subst, append_assoc}
use Rattle.std.specs.Prelude.{count_by, ◌==◌}
use Rattle.std.proofs.lemmas.Bool.{cases_Bool}
use Rattle.std.proofs.lemmas.Bool.Decides.{eqb_tells}
use Rattle.std.proofs.lemmas.List.{append-nil}
use Rattle.std.proofs.lemmas.List.Elements.{All-nil, All-cons, All-append}
use Rattle.hex_source.specs.declared.fault.Fault.{Fault}
use Rattle.hex_source.specs.declared.fault.Fault.TheVariants.{NoDigit, HalfByte}
use Rattle.hex_source.specs.declared.misspelling.Misspelling.{Misspelling}
use Rattle.hex_source.specs.declared.source_error.SourceError.{SourceError}
use Rattle.hex_source.specs.declared.source_error.SourceError.TheVariants.{Misspelled, OutOfMemory}
use Rattle.hex_source.specs.declared.letters.Sign.TheVariants as signs
use Rattle.hex_source.specs.Letters.{is_hex, sign_of}
use Rattle.hex_source.specs.Pieces.{Piece, Pair, Blank, Tab, CarriageReturn, LineFeed, Remark, IsPiece, written, bytes_in, IsLastRemark, EndsGroup, BeginsWith, Stray, StrayInByte, Half, HalfAtEnd, IsLaidOut, BreaksOff, IsBreakOf}
use Rattle.hex_source.specs.Spelling.{spelled, IsFaultOf}
use Rattle.hex_source.proofs.Piecewise.{spelled-laid_out, spelled-breaks_off}

abbrev pub Parsed : List ℕ → Type 0
Parsed text = ((bytes : List ℕ) × IsLaidOut text bytes) ⊎ ((misspelling : Misspelling) × BreaksOff text misspelling)

-- no letter ends a line
abbrev pub OnOneLine : List ℕ → Type 0
OnOneLine letters = All (λ letter. letter ≢ 10) letters

-- a text with a piece in front
front : Piece → List ℕ → List ℕ
front (Pair high low) text = high ∷ low ∷ text
front Blank text = 32 ∷ text
front Tab text = 9 ∷ text
front CarriageReturn text = 13 ∷ text
front LineFeed text = 10 ∷ text
front (Remark letters) text = 35 ∷ letters ++ (10 ∷ text)

front-written : (piece : Piece) (pieces : List Piece) (rest : List ℕ) → front piece (written pieces ++ rest) ≡ written (piece ∷ pieces) ++ rest
unfolding front
front-written (Pair high low) pieces rest = refl
front-written Blank pieces rest = refl
front-written Tab pieces rest = refl
front-written CarriageReturn pieces rest = refl
front-written LineFeed pieces rest = refl
front-written (Remark letters) pieces rest = ap (λ (l : List ℕ). 35 ∷ l) (sym (append_assoc letters (10 ∷ written pieces) rest))

parsed-front : (piece : Piece) (text : List ℕ) → IsPiece piece → Parsed text → Parsed (front piece text)
parsed-front piece text h (inl (bytes, laid)) = inl (
  bytes_in (piece ∷ laid.pieces),
  record {
    pieces = piece ∷ laid.pieces;
    rest = laid.rest;
    are_pieces = All-cons IsPiece piece laid.pieces h laid.are_pieces;
    is_remark = laid.is_remark;
    letters = ap (front piece) laid.letters ∙ front-written piece laid.pieces laid.rest;
    spelled = refl;
  },
)
parsed-front piece text h (inr (misspelling, breaks)) = inr (
  record { line = 1 + count_by (λ letter. letter == 10) (written (piece ∷ breaks.pieces)); fault = misspelling.fault },
  record {
    pieces = piece ∷ breaks.pieces;
    rest = breaks.rest;
    are_pieces = All-cons IsPiece piece breaks.pieces h breaks.are_pieces;
    begins = breaks.begins;
    letters = ap (front piece) breaks.letters ∙ front-written piece breaks.pieces breaks.rest;
    numbered = refl;
  },
)

-- a text that breaks off at once, and one that is nothing but a remark
breaks_at_once : (text : List ℕ) (fault : Fault) → BeginsWith text fault → Parsed text
breaks_at_once text fault h = inr (
  record { line = 1; fault = fault },
  record {
    pieces = [];
    rest = text;
    are_pieces = All-nil IsPiece;
    begins = h;
    letters = refl;
    numbered = refl;
  },
)

only_rest : (text : List ℕ) → IsLastRemark text → Parsed text
only_rest text h = inl (
  [],
  record {
    pieces = [];
    rest = text;
    are_pieces = All-nil IsPiece;
    is_remark = h;
    letters = refl;
    spelled = refl;
  },
)

-- what a letter may be
data Letter : ℕ → Type 0 where
  ADigit : (letter : ℕ) → IsTrue (is_hex letter) → Letter letter
  AParting : (letter : ℕ) (piece : Piece) → IsPiece piece → ((text : List ℕ) → front piece text ≡ letter ∷ text) → EndsGroup (sign_of letter) → Letter letter
  AHash : (letter : ℕ) → letter ≡ 35 → Letter letter
  AStray : (letter : ℕ) → sign_of letter ≡ signs.Other → Letter letter

parting : (letter n : ℕ) (piece : Piece) → letter ≡ n → IsPiece piece → ((text : List ℕ) → front piece text ≡ n ∷ text) → EndsGroup (sign_of n) → Letter letter
parting letter n piece e is begins ends = subst (λ (m : ℕ). Letter m) (sym e) (AParting n piece is begins ends)

letter_is : (letter : ℕ) → Letter letter
unfolding front
letter_is letter = elim (cases_Bool (is_hex letter)) [
  | inl h ↦ ADigit letter h
  | inr no_digit ↦ elim (eqb_tells letter 32) [
    | inl p ↦ parting letter 32 Blank p.1 tt (λ text. refl) tt
    | inr no_blank ↦
        elim (eqb_tells letter 9) [
          | inl p ↦ parting letter 9 Tab p.1 tt (λ text. refl) tt
          | inr no_tab ↦
              elim (eqb_tells letter 13) [
                | inl p ↦ parting letter 13 CarriageReturn p.1 tt (λ text. refl) tt
                | inr no_return ↦
                    elim (eqb_tells letter 10) [
                      | inl p ↦ parting letter 10 LineFeed p.1 tt (λ text. refl) tt
                      | inr no_feed ↦
                          elim (eqb_tells letter 35) [
                            | inl p ↦ AHash letter p.1
                            | inr no_hash ↦
                                AStray letter (rw (no_digit, no_blank.0, no_tab.0, no_return.0, no_feed.0, no_hash.0) refl)
                          ]
                    ]
              ]
        ]
  ]
]

-- a text, behind the first digit of a byte, and within a remark
abbrev pub ParsedAnywhere : List ℕ → Type 0
ParsedAnywhere text = Parsed text × ((high : ℕ) → IsTrue (is_hex high) → Parsed (high ∷ text)) × ((letters : List ℕ) → OnOneLine letters → Parsed (35 ∷ letters ++ text))

between : (letter : ℕ) (text : List ℕ) → Letter letter → ParsedAnywhere text → Parsed (letter ∷ text)
between _ text (ADigit letter h) p = p.1 letter h
between _ text (AParting letter piece is begins ends) p = subst Parsed (begins text) (parsed-front piece text is p.0)
between _ text (AHash letter e) p = subst (λ (n : ℕ). Parsed (n ∷ text)) (sym e) (p.2 [] (All-nil (λ (n : ℕ). n ≢ 10)))
between _ text (AStray letter h) p = breaks_at_once (letter ∷ text) (NoDigit letter) (Stray letter text h)

behind_digit : (high letter : ℕ) (text : List ℕ) → IsTrue (is_hex high) → Letter letter → ParsedAnywhere text → Parsed (high ∷ letter ∷ text)
unfolding front
behind_digit high _ text h (ADigit letter k) p = parsed-front (Pair high letter) text (h, k) p.0
behind_digit high _ text h (AParting letter piece is begins ends) p = breaks_at_once (high ∷ letter ∷ text) HalfByte (Half high letter text h ends)
behind_digit high _ text h (AHash letter e) p = breaks_at_once (high ∷ letter ∷ text) HalfByte (Half high letter text h (subst (λ (n : ℕ). EndsGroup (sign_of n)) (sym e) tt))
behind_digit high _ text h (AStray letter k) p = breaks_at_once (high ∷ letter ∷ text) (NoDigit letter) (StrayInByte high letter text h k)

in_remark : (letters : List ℕ) (letter : ℕ) (text : List ℕ) → OnOneLine letters → ParsedAnywhere text → Parsed (35 ∷ letters ++ (letter ∷ text))
unfolding front
in_remark letters letter text h p = elim (eqb_tells letter 10) [
  | inl q ↦ subst (λ (n : ℕ). Parsed (35 ∷ letters ++ (n ∷ text))) (sym q.1) (parsed-front (Remark letters) text h p.0)
  | inr q ↦ subst (λ (l : List ℕ). Parsed (35 ∷ l)) (append_assoc letters (letter ∷ []) text)
      (p.2 (letters ++ letter ∷ []) (All-append (λ (n : ℕ). n ≢ 10) letters (letter ∷ []) h (All-cons (λ (n : ℕ). n ≢ 10) letter [] q.1 (All-nil (λ (n : ℕ). n ≢ 10)))))
]

parsed_anywhere : (text : List ℕ) → ParsedAnywhere text
parsed_anywhere [] = (
  only_rest [] tt,
  λ high h. breaks_at_once (high ∷ []) HalfByte (HalfAtEnd high h),
  λ letters h. only_rest (35 ∷ letters ++ []) (refl, subst (λ (l : List ℕ). OnOneLine l) (sym (append-nil letters)) h),
)
parsed_anywhere (letter ∷ text) =
    let p : ParsedAnywhere text = parsed_anywhere text in (
      between letter text (letter_is letter) p,
      λ high h. behind_digit high letter text h (letter_is letter) p,
      λ letters h. in_remark letters letter text h p,
    )

parsed : (text : List ℕ) → Parsed text
parsed text = (parsed_anywhere text).0

-- so a text that spells bytes is laid out of pieces with these bytes, and one that has a fault breaks off with it
laid_out_by : (text bytes : List ℕ) → spelled text ≡ Ok bytes → Parsed text → IsLaidOut text bytes
laid_out_by text bytes e (inl (others, laid)) =
    let same : others ≡ bytes = let f = spelled-laid_out text others laid in cc in
    subst (λ (l : List ℕ). IsLaidOut text l) same laid
laid_out_by text bytes e (inr (misspelling, breaks)) = let f = spelled-breaks_off text misspelling breaks in cc

pub laid_out_from_spelled : (text bytes : List ℕ) → spelled text ≡ Ok bytes → IsLaidOut text bytes
laid_out_from_spelled text bytes e = laid_out_by text bytes e (parsed text)

breaks_off_by : (text : List ℕ) (misspelling : Misspelling) → spelled text ≡ Err misspelling → Parsed text → BreaksOff text misspelling
breaks_off_by text misspelling e (inl (bytes, laid)) = let f = spelled-laid_out text bytes laid in cc
breaks_off_by text misspelling e (inr (other, breaks)) =
    let same : other ≡ misspelling = let f = spelled-breaks_off text other breaks in cc in
    subst (λ (m : Misspelling). BreaksOff text m) same breaks

pub is_break_from_fault : (text : List ℕ) (error : SourceError) → IsFaultOf text error → IsBreakOf text error
is_break_from_fault text (Misspelled misspelling) e = breaks_off_by text misspelling e (parsed text)
is_break_from_fault text OutOfMemory e = tt
