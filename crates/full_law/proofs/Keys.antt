-- Look-ups and sums after a change of one element.
use Rattle.std.proofs.Common.{◌≡◌, ℕ, ◌+◌, Bool, true, false, eqb, List, [], ◌∷◌, ◌++◌, sum_by, Some, None, refl, subst, arith}
use Rattle.std.specs.List.{AllByRecursion}
use Rattle.std.proofs.lemmas.Bool.{cond_both}
use Rattle.std.proofs.lemmas.Bool.Decides.{nat_tests}
use Rattle.std.proofs.lemmas.List.Sums.{sum_by-cons}
use Rattle.seek.proofs.Cases.{no_case}
use Rattle.full_law.specs.Lists.{find_by, replace_by}

module _ {X : Type 0} (key : X → ℕ) where
  pub replaced_here : (n : ℕ) (y : X) (xs : List X) (x : X) → key y ≡ n → find_by key n xs ≡ Some x → find_by key n (replace_by key y xs) ≡ Some y
  replaced_here n y [] x ky e = grind arith
  replaced_here n y (z ∷ zs) x ky e = let h = replaced_here n y zs x ky in grind (arith, nat_tests, h)

  pub replaced_apart : (n : ℕ) (y : X) (xs : List X) (k : ℕ) → key y ≡ n → (k ≡ n → ⊥) → find_by key k (replace_by key y xs) ≡ find_by key k xs
  replaced_apart n y [] k ky ne = refl
  replaced_apart n y (z ∷ zs) k ky ne = let h = replaced_apart n y zs k ky ne in grind (arith, nat_tests, h)

  pub push_here : (n : ℕ) (y : X) (xs : List X) → key y ≡ n → find_by key n xs ≡ None → find_by key n (xs ++ y ∷ []) ≡ Some y
  push_here n y [] ky e = grind (arith, nat_tests)
  push_here n y (z ∷ zs) ky e = let h = push_here n y zs ky in grind (arith, nat_tests, h)

  pub push_apart : (n : ℕ) (y : X) (xs : List X) (k : ℕ) → key y ≡ n → (k ≡ n → ⊥) → find_by key k (xs ++ y ∷ []) ≡ find_by key k xs
  push_apart n y [] k ky ne = grind (arith, nat_tests)
  push_apart n y (z ∷ zs) k ky ne = let h = push_apart n y zs k ky ne in grind (arith, nat_tests, h)

  pub replaced_sum : (g : X → ℕ) (n : ℕ) (y : X) (xs : List X) (x : X) → key y ≡ n → find_by key n xs ≡ Some x → sum_by g (replace_by key y xs) + g x ≡ sum_by g xs + g y
  replaced_sum g n y [] x ky e = no_case (cc)
  replaced_sum g n y (z ∷ zs) x ky e = let h = replaced_sum g n y zs x ky in grind (arith, nat_tests, h, sum_by-cons g z zs, sum_by-cons g y zs, sum_by-cons g z (replace_by key y zs))

  pub replaced_all : (P : X → Type 0) (y : X) (xs : List X) → P y → AllByRecursion P xs → AllByRecursion P (replace_by key y xs)
  replaced_all P y [] p h = tt
  replaced_all P y (z ∷ zs) p h = let i = replaced_all P y zs p h.1 in cond_both (eqb (key y) (key z)) (y ∷ zs) (z ∷ replace_by key y zs) (AllByRecursion P) (λ _. (p, h.1)) (λ _. (h.0, i))

  pub all_at : (P : X → Type 0) (n : ℕ) (xs : List X) (x : X) → AllByRecursion P xs → find_by key n xs ≡ Some x → P x
  all_at P n [] x h e = no_case (cc)
  all_at P n (z ∷ zs) x h e = let i = all_at P n zs x h.1 in
      by_cond (eqb n (key z)) (λ t. subst P (some_same z x (cc)) h.0) (λ t. i (cc))
    where
      by_cond : (b : Bool) → (b ≡ true → P x) → (b ≡ false → P x) → P x
      by_cond true f g = f refl
      by_cond false f g = g refl

      some_same : (a b : X) → Some a ≡ Some b → a ≡ b
      some_same a b e = cc

  pub at_key : (n : ℕ) (xs : List X) (x : X) → find_by key n xs ≡ Some x → key x ≡ n
  at_key n [] x e = no_case (cc)
  at_key n (z ∷ zs) x e = let h = at_key n zs x in grind (arith, nat_tests, h)
