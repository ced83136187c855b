-- Fields of every width: what a write leaves to be read.
use Rattle.std.proofs.Common.{◌≡◌, ℕ, zero, suc, ◌+◌, ◌-◌, ◌*◌, ◌/◌, ◌%◌, ◌^◌, ◌<◌, ◌≤◌, Bool, true, false, if◌then◌else◌, leb, ◌⊎◌, List, [], ◌∷◌, ◌++◌, length, get_or, take, drop, ℤ, Some, None, sym, refl, ap, ◌∙◌, subst, inl, inr, pow-suc, arith, length-append, length-drop, length-take, le-leb, leb-true, w64, SFits, to_z, of_z}
use mir.Facts.{Fits-of_z}
use native.Mathlib.Nat.{div-div-eq-div-mul}
use Rattle.std.proofs.lemmas.List.{take_all, take_at, drop_all, drop_at, drop-take, drop-drop, drop-append-le, take-append-le, take-append-drop, length-take-le, take_more, append_assoc}
use Rattle.std.proofs.ByRecursion.{All-get_or, All-take, All-drop}
use Rattle.std.proofs.lemmas.Slice.{take-put_mid, take-put_mid_below, drop-put_mid, between-put_mid}
use Rattle.std.proofs.lemmas.Int.{to_z-of_z, of_z-to_z}
use Rattle.std.proofs.lemmas.Int.Digits.{number_push, number_lt}
use Rattle.std.proofs.lemmas.Nat.{div_below, div-add-mod', div-mul-add, mod-mul-add}
use Rattle.std.specs.Int.Digits.{AllBelowBase}
use Rattle.byte_fields.specs.Fields.{be, signed_be, bytes_of, signed_bytes_of, part, within, spliced, written_at, put_at, meant_at, ReadBack, Rewritten, SignedReadBack, SignedRewritten}

pub length-bytes_of : (k n : ℕ) → length (bytes_of k n) ≡ k
length-bytes_of zero n = refl
length-bytes_of (suc k) n = length-append (bytes_of k (n / 256)) (n % 256 ∷ []) ∙ omega (arith, length-bytes_of k (n / 256))

-- a number's bytes, read back
pub be-bytes_of : (k n : ℕ) → n < 256 ^ k → be (bytes_of k n) ≡ n
be-bytes_of zero n h = omega arith
be-bytes_of (suc k) n h =
    let q : n / 256 < 256 ^ k = div_below n 256 (256 ^ k) (omega arith) (rw pow-suc at h) in
    number_push 256 (bytes_of k (n / 256)) (n % 256)
    ∙ ap (λ (x : ℕ). x * 256 + n % 256) (be-bytes_of k (n / 256) q)
    ∙ div-add-mod' n 256

-- bytes, written back from the number that they write
pub bytes_of-be : (k : ℕ) (xs : List ℕ) → length xs ≡ k → AllBelowBase 256 xs → bytes_of k (be xs) ≡ xs
bytes_of-be zero [] l u = refl
bytes_of-be zero (x ∷ xs) l u = absurd (omega arith)
bytes_of-be (suc k) xs l u =
    let h : k < length xs = omega arith in
    let d : get_or xs k 0 < 256 = All-get_or (λ x. x < 256) xs k 0 h u in
    let whole : xs ≡ take k xs ++ get_or xs k 0 ∷ [] = sym (take_all (k + 1) xs (omega arith)) ∙ take_more xs k 0 h in
    let n : be xs ≡ be (take k xs) * 256 + get_or xs k 0 = ap be whole ∙ number_push 256 (take k xs) (get_or xs k 0) in
    let q : be xs / 256 ≡ be (take k xs) = ap (λ (m : ℕ). m / 256) n ∙ div-mul-add (be (take k xs)) 256 (get_or xs k 0) d in
    let r : be xs % 256 ≡ get_or xs k 0 = ap (λ (m : ℕ). m % 256) n ∙ mod-mul-add (be (take k xs)) 256 (get_or xs k 0) d in
    let front : bytes_of k (be (take k xs)) ≡ take k xs = bytes_of-be k (take k xs) (length-take-le k xs (omega arith)) (All-take (λ x. x < 256) k xs u) in
    ap (λ (m : ℕ). bytes_of k m ++ be xs % 256 ∷ []) q
    ∙ ap (λ (ys : List ℕ). ys ++ be xs % 256 ∷ []) front
    ∙ ap (λ (m : ℕ). take k xs ++ m ∷ []) r
    ∙ sym whole

-- bytes that begin with those of a number: the number is the field in front
pub be-part-bytes_of : (k n : ℕ) (rest : List ℕ) → n < 256 ^ k → be (part k 0 (bytes_of k n ++ rest)) ≡ n
be-part-bytes_of k n rest h = ap be (take_at (bytes_of k n) rest k (length-bytes_of k n)) ∙ be-bytes_of k n h

-- a field behind it is that field of what follows the number
pub be-part-behind : (j k i n : ℕ) (rest : List ℕ) → be (part j (k + i) (bytes_of k n ++ rest)) ≡ be (part j i rest)
be-part-behind j k i n rest =
    ap (λ (ys : List ℕ). be (take j ys)) (sym (drop-drop i k (bytes_of k n ++ rest)) ∙ ap (drop i) (drop_at (bytes_of k n) rest k (length-bytes_of k n)))

-- the last k of m bytes are the k lowest
pub drop-bytes_of : (k j m n : ℕ) → m ≡ j + k → drop j (bytes_of m n) ≡ bytes_of k n
drop-bytes_of zero j m n e = drop_all j (bytes_of m n) (omega (arith, length-bytes_of m n))
drop-bytes_of (suc k) j zero n e = absurd (omega arith)
drop-bytes_of (suc k) j (suc m) n e =
    drop-append-le j (bytes_of m (n / 256)) (n % 256 ∷ []) (omega (arith, length-bytes_of m (n / 256)))
    ∙ ap (λ (ys : List ℕ). ys ++ n % 256 ∷ []) (drop-bytes_of k j m (n / 256) (omega arith))

-- a write of k bytes at a place that lies within
module _ (k at : ℕ) (ys s : List ℕ) (fits : k + at ≤ length s) (len : length ys ≡ k) where
  pub length-spliced : length (spliced k at ys s) ≡ length s
  length-spliced = simp (length-append, length-take, length-drop) (omega arith)

  -- the field itself now holds what was written
  pub part_same : part k at (spliced k at ys s) ≡ ys
  part_same = let e : k + at - at ≡ k = omega arith in subst (λ (j : ℕ). part j at (spliced k at ys s) ≡ ys) e (between-put_mid at k s ys (k + at) (omega arith) (omega arith))

  -- a field that ends before it, or begins past it, stays
  pub part_apart : (j b : ℕ) → (j + b ≤ at) ⊎ (k + at ≤ b) → part j b (spliced k at ys s) ≡ part j b s
  part_apart j b (inl h) =
      let t : take (b + j) (spliced k at ys s) ≡ take (b + j) s = take-put_mid_below at k s ys (b + j) (omega arith) (omega arith) in
      sym (drop-take b j (spliced k at ys s)) ∙ ap (drop b) t ∙ drop-take b j s
  part_apart j b (inr h) = ap (take j) (drop-put_mid at k s ys b (omega arith) (omega arith) len)

-- a part of what was written
pub part_inside : (k at j o : ℕ) (ys s : List ℕ) → k + at ≤ length s → length ys ≡ k → o + j ≤ k → part j (at + o) (spliced k at ys s) ≡ part j o ys
part_inside k at j o ys s fits len h =
    let l : length (take at s) ≡ at = length-take-le at s (omega arith) in
    let d : drop at (spliced k at ys s) ≡ ys ++ drop k (drop at s) = drop_at (take at s) (ys ++ drop k (drop at s)) at l in
    let e : drop o (ys ++ drop k (drop at s)) ≡ drop o ys ++ drop k (drop at s) = drop-append-le o ys (drop k (drop at s)) (omega arith) in
    ap (take j) (sym (drop-drop o at (spliced k at ys s)) ∙ ap (drop o) d ∙ e)
    ∙ take-append-le j (drop o ys) (drop k (drop at s)) (simp length-drop (omega arith))

-- two writes, the second right behind the first, are one
pub spliced-spliced : (k j at : ℕ) (ys zs s : List ℕ) → k + at ≤ length s → length ys ≡ k → spliced j (at + k) zs (spliced k at ys s) ≡ spliced (k + j) at (ys ++ zs) s
spliced-spliced k j at ys zs s fits len =
    let t : take (at + k) (spliced k at ys s) ≡ take at s ++ ys = take-put_mid at k s ys (at + k) (omega arith) (omega arith) in
    let d : drop (at + k) (spliced k at ys s) ≡ drop (at + k) s = drop-put_mid at k s ys (at + k) (omega arith) (omega arith) len in
    let r : drop j (drop (at + k) s) ≡ drop (k + j) (drop at s) = ap (drop j) (sym (drop-drop k at s)) ∙ drop-drop j k (drop at s) in
    ap (λ (x : List ℕ). x ++ (zs ++ drop j (drop (at + k) (spliced k at ys s)))) t
    ∙ ap (λ (x : List ℕ). (take at s ++ ys) ++ (zs ++ drop j x)) d
    ∙ ap (λ (x : List ℕ). (take at s ++ ys) ++ (zs ++ x)) r
    ∙ append_assoc (take at s) ys (zs ++ drop (k + j) (drop at s))
    ∙ ap (λ (x : List ℕ). take at s ++ x) (sym (append_assoc ys zs (drop (k + j) (drop at s))))

-- what a field holds, written again
pub spliced-part : (k at : ℕ) (s : List ℕ) → spliced k at (part k at s) s ≡ s
spliced-part k at s = ap (λ (t : List ℕ). take at s ++ t) (take-append-drop k (drop at s)) ∙ take-append-drop at s

-- a write that lies within happens
pub written_within : (k at : ℕ) (ys s : List ℕ) → k + at ≤ length s → written_at k at ys s ≡ spliced k at ys s
written_within k at ys s h = let e = le-leb (k + at) (length s) h in rw e

-- bytes written right behind k bytes that were written
pub written_behind : (k j at : ℕ) (ys zs s t : List ℕ) → t ≡ spliced k at ys s → length ys ≡ k → (k + j) + at ≤ length s → written_at j (at + k) zs t ≡ spliced (k + j) at (ys ++ zs) s
written_behind k j at ys zs s t is len fits =
    let l : length t ≡ length s = ap length is ∙ length-spliced k at ys s (omega arith) len in
    written_within j (at + k) zs t (omega arith)
    ∙ ap (spliced j (at + k) zs) is
    ∙ spliced-spliced k j at ys zs s (omega arith) len

length-written_at : (k at : ℕ) (ys s : List ℕ) → length ys ≡ k → length (written_at k at ys s) ≡ length s
length-written_at k at ys s len = by (leb (k + at) (length s)) refl
  where
    by : (b : Bool) → leb (k + at) (length s) ≡ b → length (if b then spliced k at ys s else s) ≡ length s
    by true e = length-spliced k at ys s (leb-true _ _ e) len
    by false e = refl

pub length-put_at : (k at n : ℕ) (s : List ℕ) → length (put_at k at n s) ≡ length s
length-put_at k at n s = length-written_at k at (bytes_of k n) s (length-bytes_of k n)

-- by any meaning of bytes: what was written means there what it means by itself
meant_back : {X : Type 0} (f : List ℕ → X) (k at : ℕ) (ys s : List ℕ) → length ys ≡ k → within k at s ≡ true → meant_at f k at (written_at k at ys s) ≡ Some (f ys)
meant_back {X = X} f k at ys s len w =
    let h : k + at ≤ length s = leb-true _ _ w in
    let l : length (written_at k at ys s) ≡ length s = length-written_at k at ys s len in
    let t : within k at (written_at k at ys s) ≡ true = le-leb _ _ (omega arith) in
    let p : part k at (written_at k at ys s) ≡ ys = ap (part k at) (written_within k at ys s h) ∙ part_same k at ys s h len in
    ap (λ (b : Bool). if b then Some (f (part k at (written_at k at ys s))) else None) t ∙ ap (λ (x : List ℕ). Some (f x)) p

pub read_back : ReadBack
read_back k at n s h w = meant_back be k at (bytes_of k n) s (length-bytes_of k n) w ∙ ap Some (be-bytes_of k n h)

pub signed_back : (z : ℤ) → SFits w64 z → signed_be (signed_bytes_of z) ≡ z
signed_back z f =
    let l : of_z w64 z < 256 ^ 8 = (Fits-of_z f).fits in
    ap (λ (n : ℕ). to_z w64 n) (be-bytes_of 8 (of_z w64 z) l) ∙ to_z-of_z w64 z f

pub signed_read_back : SignedReadBack
signed_read_back at z s f w = meant_back signed_be 8 at (signed_bytes_of z) s (length-bytes_of 8 (of_z w64 z)) w ∙ ap Some (signed_back z f)

pub rewritten : Rewritten
rewritten k at s u w =
    let f : k + at ≤ length s = leb-true _ _ w in
    let l : length (part k at s) ≡ k = length-take-le k (drop at s) (simp length-drop (omega arith)) in
    written_within k at (bytes_of k (be (part k at s))) s f
    ∙ ap (λ (ys : List ℕ). spliced k at ys s) (bytes_of-be k (part k at s) l (All-take (λ x. x < 256) k (drop at s) (All-drop (λ x. x < 256) at s u)))
    ∙ spliced-part k at s

pub signed_rewritten : SignedRewritten
signed_rewritten at s u w =
    let f : 8 + at ≤ length s = leb-true _ _ w in
    let l : length (part 8 at s) ≡ 8 = length-take-le 8 (drop at s) (simp length-drop (omega arith)) in
    let small : be (part 8 at s) < 256 ^ length (part 8 at s) = number_lt 256 (part 8 at s) (All-take (λ x. x < 256) 8 (drop at s) (All-drop (λ x. x < 256) at s u)) in
    let n : be (part 8 at s) < 2 ^ 64 = subst (λ (k : ℕ). be (part 8 at s) < 256 ^ k) l small in
    ap (λ (m : ℕ). written_at 8 at (bytes_of 8 m) s) (of_z-to_z w64 (be (part 8 at s)) n) ∙ rewritten 8 at s u w

-- the eight bytes of a number, as `to_be_bytes` gives them, and the part of them that is written
pub eight_bytes : (n : ℕ) → (n / 72057594037927936 % 256) ∷ (n / 281474976710656 % 256) ∷ (n / 1099511627776 % 256) ∷ (n / 4294967296 % 256) ∷ (n / 16777216 % 256) ∷ (n / 65536 % 256) ∷ (n / 256 % 256) ∷ (n % 256) ∷ [] ≡ bytes_of 8 n
eight_bytes n = simp div-div-eq-div-mul

pub low_bytes : (k j n : ℕ) (all ys : List ℕ) → j + k ≡ 8 → all ≡ bytes_of 8 n → ys ≡ take (8 - j) (drop j all) → ys ≡ bytes_of k n
low_bytes k j n all ys e is got =
    let d : drop j all ≡ bytes_of k n = ap (drop j) is ∙ drop-bytes_of k j 8 n (sym e) in
    got ∙ ap (take (8 - j)) d ∙ take_all (8 - j) (bytes_of k n) (omega (arith, length-bytes_of k n))
