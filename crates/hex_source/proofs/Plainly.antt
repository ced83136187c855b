-- The plainest text of bytes spells them.
use Rattle.std.proofs.Common.{◌≡◌, ℕ, ◌+◌, ◌*◌, ◌/◌, ◌%◌, ◌<◌, List, [], ◌∷◌, Ok, Result, IsTrue, All, get_or, refl, ◌∙◌, ap, arith}
use Rattle.std.specs.Char.{digit_value}
use Rattle.std.proofs.lemmas.Bool.{lt-ltb}
use Rattle.std.proofs.lemmas.List.Elements.{All-head, All-tail, All-from_get_or}
use Rattle.std.proofs.lemmas.Bool.Decides.{nat_tests}
use Rattle.hex_source.specs.declared.misspelling.Misspelling.{Misspelling}
use Rattle.hex_source.specs.declared.standing.Standing.TheVariants as standings
use Rattle.hex_source.specs.Letters.{is_hex, digit, plain}
use Rattle.hex_source.specs.Spelling.{in_front, spelled_from, spelled}
use Rattle.hex_source.proofs.Piecewise.{spelled-pair}

digit_value-digit : (value : ℕ) → value < 16 → digit_value (digit value) ≡ value
digit_value-digit value h = grind (arith, nat_tests)

is_hex-digit : (value : ℕ) → value < 16 → IsTrue (is_hex (digit value))
is_hex-digit value h = let e : digit_value (digit value) ≡ value = digit_value-digit value h in rw e (lt-ltb value 16 h)

spelled_from-plain : (bytes : List ℕ) (line : ℕ) → All (λ byte. byte < 256) bytes → spelled_from standings.Between line (plain bytes) ≡ Ok bytes
spelled_from-plain [] line h = refl
spelled_from-plain (byte ∷ bytes) line h =
    let small : byte < 256 = All-head (λ (b : ℕ). b < 256) byte bytes h in
    let high : byte / 16 < 16 = omega arith in
    let low : byte % 16 < 16 = omega arith in
    let whole : 16 * digit_value (digit (byte / 16)) + digit_value (digit (byte % 16)) ≡ byte = rw (digit_value-digit (byte / 16) high, digit_value-digit (byte % 16) low) (omega arith) in
    spelled-pair line (digit (byte / 16)) (digit (byte % 16)) (plain bytes) (is_hex-digit (byte / 16) high) (is_hex-digit (byte % 16) low)
    ∙ (ap (λ (r : Result (List ℕ) Misspelling). in_front (16 * digit_value (digit (byte / 16)) + digit_value (digit (byte % 16))) r) (spelled_from-plain bytes line (All-tail (λ (b : ℕ). b < 256) byte bytes h))
    ∙ ap (λ (b : ℕ). Ok (b ∷ bytes)) whole)

-- the plainest text of bytes spells them
pub spelled-plain : (bytes : List ℕ) → ((i : ℕ) → get_or bytes i 0 < 256) → spelled (plain bytes) ≡ Ok bytes
spelled-plain bytes h = spelled_from-plain bytes 1 (All-from_get_or (λ (b : ℕ). b < 256) bytes 0 (λ i l. h i))
