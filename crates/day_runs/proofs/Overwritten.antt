-- A list that others are written into.
use Rattle.std.proofs.Common.{◌≡◌, ℕ, zero, suc, ◌+◌, ◌≤◌, List, [], ◌∷◌, length, set, refl, ap, subst, arith}
use Rattle.day_runs.specs.Days.{overwritten}

module _ {X : Type 0} where
  pub overwritten-none : (os : List X) (n : ℕ) → overwritten os n [] ≡ os
  overwritten-none [] n = refl
  overwritten-none (o ∷ os) zero = refl
  overwritten-none (o ∷ os) (suc n) = ap (λ (x : List X). o ∷ x) (overwritten-none os n)

  -- past the end nothing is written
  pub overwritten-past : (os : List X) (n : ℕ) (xs : List X) → length os ≤ n → overwritten os n xs ≡ os
  overwritten-past [] n xs h = refl
  overwritten-past (o ∷ os) zero xs h = absurd (omega arith)
  overwritten-past (o ∷ os) (suc n) xs h = ap (λ (x : List X). o ∷ x) (overwritten-past os n xs (omega arith))

  next_by : (os : List X) (n : ℕ) (x : X) (xs : List X) → suc n ≤ length os → overwritten (set os n x) (suc n) xs ≡ overwritten os n (x ∷ xs)
  next_by [] n x xs h = absurd (omega arith)
  next_by (o ∷ os) zero x xs h = refl
  next_by (o ∷ os) (suc n) x xs h = ap (λ (y : List X). o ∷ y) (next_by os n x xs (omega arith))

  -- one more is written
  pub overwritten-next : (os : List X) (n : ℕ) (x : X) (xs : List X) → n + 1 ≤ length os → overwritten (set os n x) (n + 1) xs ≡ overwritten os n (x ∷ xs)
  overwritten-next os n x xs h =
      let e : suc n ≡ n + 1 = omega arith in
      subst (λ (k : ℕ). overwritten (set os n x) k xs ≡ overwritten os n (x ∷ xs)) e (next_by os n x xs (omega arith))
