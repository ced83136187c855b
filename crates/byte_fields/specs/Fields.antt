-- Numbers in bytes, the first byte the most.
use Rattle.std.specs.Prelude.{◌≡◌, ℕ, zero, suc, ◌+◌, ◌/◌, ◌%◌, ◌^◌, ◌<◌, Bool, true, if◌then◌else◌, List, [], ◌∷◌, ◌++◌, length, take, drop, ℤ, Some, None, Option, ◌==◌, nat_le, FitsSigned}
use Rattle.std.specs.Int.{w64, cast_signed, cast_unsigned}
use Rattle.std.specs.Int.Digits.{number_from_digits, AllBelowBase}

-- the number that bytes write
abbrev pub be : List ℕ → ℕ
be bs = number_from_digits 256 bs

-- the k lowest bytes of a number
abbrev pub bytes_of : ℕ → ℕ → List ℕ
bytes_of zero n = []
bytes_of (suc k) n = bytes_of k (n / 256) ++ n % 256 ∷ []

-- the k bytes from a place on
abbrev pub part : ℕ → ℕ → List ℕ → List ℕ
part k at s = take k (drop at s)

-- whether a field of k bytes at a place lies within
abbrev pub within : ℕ → ℕ → List ℕ → Bool
within k at s = nat_le (k + at) (length s)

-- a signed number of 64 bits in two's complement, as its bytes write it, and its bytes
abbrev pub signed_be : List ℕ → ℤ
signed_be bs = cast_signed w64 (be bs)

abbrev pub signed_bytes_of : ℤ → List ℕ
signed_bytes_of z = bytes_of 8 (cast_unsigned w64 z)

-- whether bytes are as many as a field of k bytes has
abbrev pub fills : ℕ → List ℕ → Bool
fills k s = length s == k

-- what the bytes of a field of k bytes mean, by a meaning of bytes; more or fewer of them mean nothing
abbrev pub meant_by : {X : Type 0} → (List ℕ → X) → ℕ → List ℕ → Option X
meant_by f k s = if fills k s then Some (f s) else None

-- the bytes of a field of k bytes after others are written over them; where they are more or fewer, they stay
abbrev pub written_over : ℕ → List ℕ → List ℕ → List ℕ
written_over k ys s = if fills k s then ys else s

-- what the bytes of a field of k bytes at a place mean, by a meaning of bytes
abbrev pub meant_at : {X : Type 0} → (List ℕ → X) → ℕ → ℕ → List ℕ → Option X
meant_at f k at s = if within k at s then Some (f (part k at s)) else None

-- the number in a field of k bytes at a place, and the same as a signed one of 64 bits
abbrev pub read_at : ℕ → ℕ → List ℕ → Option ℕ
read_at k at s = meant_at be k at s

abbrev pub signed_at : ℕ → List ℕ → Option ℤ
signed_at at s = meant_at signed_be 8 at s

-- bytes with others in the place of the k from a place on; every other byte stays
abbrev pub spliced : ℕ → ℕ → List ℕ → List ℕ → List ℕ
spliced k at ys s = take at s ++ (ys ++ drop k (drop at s))

-- all bytes after others are written into a field of k bytes at a place, and after a number is
abbrev pub written_at : ℕ → ℕ → List ℕ → List ℕ → List ℕ
written_at k at ys s = if within k at s then spliced k at ys s else s

abbrev pub put_at : ℕ → ℕ → ℕ → List ℕ → List ℕ
put_at k at n s = written_at k at (bytes_of k n) s

-- write then read: the number comes back, at every width and place
abbrev pub ReadBack : Type 0
ReadBack = (k at n : ℕ) (s : List ℕ) → n < 256 ^ k → within k at s ≡ true → read_at k at (put_at k at n s) ≡ Some n

-- read then write: the bytes come back, at every width and place
abbrev pub Rewritten : Type 0
Rewritten = (k at : ℕ) (s : List ℕ) → AllBelowBase 256 s → within k at s ≡ true → put_at k at (be (part k at s)) s ≡ s

-- the same of signed numbers of 64 bits
abbrev pub SignedReadBack : Type 0
SignedReadBack = (at : ℕ) (z : ℤ) (s : List ℕ) → FitsSigned w64 z → within 8 at s ≡ true → signed_at at (written_at 8 at (signed_bytes_of z) s) ≡ Some z

abbrev pub SignedRewritten : Type 0
SignedRewritten = (at : ℕ) (s : List ℕ) → AllBelowBase 256 s → within 8 at s ≡ true → written_at 8 at (signed_bytes_of (signed_be (part 8 at s))) s ≡ s
