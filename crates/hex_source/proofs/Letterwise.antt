-- A reading, letter by letter.
use Rattle.std.proofs.Common.{◌≡◌, ℕ, List, [], ◌∷◌, ◌++◌, Ok, Err, Result, refl, sym, ap, append_assoc}
use Rattle.std.proofs.lemmas.List.{append-nil}
use Rattle.hex_source.specs.declared.misspelling.Misspelling.{Misspelling}
use Rattle.hex_source.specs.declared.standing.Standing.{Standing}
use Rattle.hex_source.specs.declared.standing.Standing.TheVariants.{Between, Half, Remark}
use Rattle.hex_source.specs.declared.effect.Effect.{Effect}
use Rattle.hex_source.specs.Letters.{sign_of}
use Rattle.hex_source.specs.Spelling.{effect_of, in_front, line_behind, behind, ended, spelled_by, spelled_from}

pub behind-none : (r : Result (List ℕ) Misspelling) → behind [] r ≡ r
behind-none (Ok more) = refl
behind-none (Err misspelling) = refl

pub behind-in_front : (bytes : List ℕ) (byte : ℕ) (r : Result (List ℕ) Misspelling) → behind bytes (in_front byte r) ≡ behind (bytes ++ byte ∷ []) r
behind-in_front bytes byte (Ok more) = ap (λ (l : List ℕ). Ok l) (sym (append_assoc bytes (byte ∷ []) more))
behind-in_front bytes byte (Err misspelling) = refl

-- a letter, by its effect
pub spelled-letter : (standing : Standing) (effect : Effect) (line letter : ℕ) (text : List ℕ) → effect_of standing letter (sign_of letter) ≡ effect → spelled_from standing line (letter ∷ text) ≡ spelled_by effect line (λ next. spelled_from next (line_behind letter line) text)
spelled-letter standing effect line letter text e = ap (λ (x : Effect). spelled_by x line (λ next. spelled_from next (line_behind letter line) text)) e

-- bytes that were read up to the end of a text are what it spells, unless a byte has only its first digit there
pub behind-ended : (bytes : List ℕ) (standing : Standing) (line : ℕ) → ((high : ℕ) → standing ≡ Half high → ⊥) → behind bytes (ended standing line) ≡ Ok bytes
behind-ended bytes Between line whole = ap (λ (l : List ℕ). Ok l) (append-nil bytes)
behind-ended bytes (Half high) line whole = absurd (whole high refl)
behind-ended bytes Remark line whole = ap (λ (l : List ℕ). Ok l) (append-nil bytes)
