-- The block of a rest, when a part of it is traded.
use Rattle.std.proofs.Common.{◌≡◌, ℕ, ◌+◌, ◌-◌, ◌*◌, ◌<◌, ◌≤◌, Bool, true, false, cond, ltb, sym, refl, ap, ◌∙◌, mul_assoc, add-mul, mul-le-mul_left, zero-mul, arith, lit<}
use Rattle.std.proofs.lemmas.Bool.{ltb-false}
use Rattle.registers.specs.Amounts.{rounded, money_of, risk_of}
use Rattle.registers.proofs.Rounding.{rounded_near, rounded_monotone, rounded_none}
use Rattle.full.specs.declared.side.Side.{Side}
use Rattle.full.specs.declared.side.Side.TheVariants.{Buy, Sell}
use Rattle.full.specs.declared.mode.Mode.{Mode}
use Rattle.full.specs.declared.mode.Mode.TheVariants.{Full, Partial}
use Rattle.full.specs.Blocks.{block_key, block_units}
use Rattle.full_law.proofs.Promises.{slack_of}

-- one where something is left
abbrev pub left_over : ℕ → ℕ
left_over m = cond (ltb 0 m) 1 0

-- two parts of a whole, within what may be off
pub record Parts (part rest whole off : ℕ) : Type 0 where
  pub most : rest + part ≤ whole + off
  pub least : whole ≤ rest + part + off

-- over every divisor: exact where nothing is left, else within one
module _ (d w q r : ℕ) (pd : 0 < d) (h : q ≤ r) where
  whole : q * w + (r - q) * w ≡ r * w
  whole = sym (add-mul q (r - q) w) ∙ ap (λ (n : ℕ). n * w) (let e : q + (r - q) ≡ r = omega arith in e)

  by : (b : Bool) → ltb 0 (r - q) ≡ b → Parts (rounded d (q * w)) (rounded d ((r - q) * w)) (rounded d (r * w)) (cond b 1 0)
  by true e =
      let n = rounded_near d (q * w) ((r - q) * w) pd in
      let f = ap (rounded d) whole in
      record { most = omega (arith, n.1); least = omega (arith, n.0) }
  by false e =
      let z : r - q ≡ 0 = omega (arith, ltb-false 0 (r - q) e) in
      let s : r ≡ q = omega arith in
      let n : rounded d ((r - q) * w) ≡ 0 = ap (λ (m : ℕ). rounded d (m * w)) z ∙ ap (rounded d) (zero-mul w) ∙ rounded_none d pd in
      let f : rounded d (r * w) ≡ rounded d (q * w) = ap (λ (m : ℕ). rounded d (m * w)) s in
      record { most = omega arith; least = omega arith }

  pub rounded_parts : Parts (rounded d (q * w)) (rounded d ((r - q) * w)) (rounded d (r * w)) (left_over (r - q))
  rounded_parts = by (ltb 0 (r - q)) refl

risk_as : (q p k : ℕ) → risk_of q p k ≡ rounded 1000000 (q * (p * k))
risk_as q p k = ap (rounded 1000000) (mul_assoc q p k)

-- the block of an order's rest, for both modes
pub units_parts : (m : Mode) (s : Side) (account security q r p k : ℕ) → q ≤ r → Parts (block_units m s q p k) (block_units m s (r - q) p k) (block_units m s r p k) (slack_of (block_key m s account security) (left_over (r - q)))
units_parts Full Buy account security q r p k h = rounded_parts 100 p q r (lit< tt) h
units_parts Full Sell account security q r p k h = record { most = omega arith; least = omega arith }
units_parts Partial Buy account security q r p k h = rw (risk_as q p k, risk_as (r - q) p k, risk_as r p k) (rounded_parts 1000000 (p * k) q r (lit< tt) h)
units_parts Partial Sell account security q r p k h = rw (risk_as q p k, risk_as (r - q) p k, risk_as r p k) (rounded_parts 1000000 (p * k) q r (lit< tt) h)

-- a lower price costs no more
pub money_less : (q t p : ℕ) → t ≤ p → money_of q t ≤ money_of q p
money_less q t p h = rounded_monotone 100 (q * t) (q * p) (lit< tt) (mul-le-mul_left q h)
