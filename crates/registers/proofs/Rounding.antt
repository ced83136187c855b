-- Rounding half up, over any divisor.
use Rattle.std.proofs.Common.{◌≡◌, ℕ, ◌+◌, ◌*◌, ◌/◌, ◌<◌, ◌≤◌, ⊎_elim, mod-lt, mul_assoc, mul-le-mul_left, mul-zero, mul-add, arith}
use native.Mathlib.Nat.{div-add-mod}
use Rattle.std.proofs.lemmas.Bool.{cases_lt}
use Rattle.registers.specs.Amounts.{rounded, RoundedNear, RoundedMonotone, RoundedNone}

-- the quotient's bounds
lower : (d x : ℕ) → d * (x / d) ≤ x
lower d x = omega (arith, div-add-mod x d)

upper : (d x : ℕ) → 0 < d → x < d * (x / d) + d
upper d x pd = omega (arith, div-add-mod x d, mod-lt x pd)

-- a rounded number, between its bounds
pub record Nearest (d n r : ℕ) : Type 0 where
  pub least : 2 * (d * r) ≤ 2 * n + d
  pub most : 2 * n + d < 2 * (d * r) + 2 * d

pub rounded_nearest : (d n : ℕ) → 0 < d → Nearest d n (rounded d n)
unfolding rounded
rounded_nearest d n pd =
    let e : 2 * d * ((2 * n + d) / (2 * d)) ≡ 2 * (d * ((2 * n + d) / (2 * d))) = mul_assoc 2 d ((2 * n + d) / (2 * d)) in
    let p : 0 < 2 * d = omega arith in
    record {
      least = omega (arith, lower (2 * d) (2 * n + d));
      most = omega (arith, upper (2 * d) (2 * n + d) p);
    }

-- the only number between them
pub nearest_only : (d n r : ℕ) → 0 < d → Nearest d n r → rounded d n ≡ r
nearest_only d n r pd near =
    let is = rounded_nearest d n pd in
    ⊎_elim
    (λ h. absurd (omega (arith, mul-le-mul_left d h, mul-add d (rounded d n) 1)))
    (λ h. ⊎_elim
    (λ k. absurd (omega (arith, mul-le-mul_left d k, mul-add d r 1)))
    (λ k. omega arith)
    (cases_lt r (rounded d n)))
    (cases_lt (rounded d n) r)

pub rounded_near : RoundedNear
rounded_near d x y pd =
    let a = rounded_nearest d x pd in
    let b = rounded_nearest d y pd in
    let c = rounded_nearest d (x + y) pd in
    let s = mul-add d (rounded d x) (rounded d y) in (
      ⊎_elim
          (λ h. absurd (omega (arith, mul-le-mul_left d h, mul-add d (rounded d x + rounded d y + 1) 1, mul-add d (rounded d x + rounded d y) 1)))
          (λ h. h)
          (cases_lt (rounded d x + rounded d y + 1) (rounded d (x + y))),
      ⊎_elim
          (λ h. absurd (omega (arith, mul-le-mul_left d h, mul-add d (rounded d (x + y) + 1) 1, mul-add d (rounded d (x + y)) 1)))
          (λ h. h)
          (cases_lt (rounded d (x + y) + 1) (rounded d x + rounded d y)),
    )

pub rounded_monotone : RoundedMonotone
rounded_monotone d x y pd h =
    let a = rounded_nearest d x pd in
    let b = rounded_nearest d y pd in
    ⊎_elim
    (λ l. absurd (omega (arith, mul-le-mul_left d l, mul-add d (rounded d y) 1)))
    (λ l. l)
    (cases_lt (rounded d y) (rounded d x))

pub rounded_none : RoundedNone
rounded_none d pd = nearest_only d 0 0 pd (record { least = omega (arith, mul-zero d); most = omega (arith, mul-zero d) })
