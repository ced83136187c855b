-- Amounts: one rounding over a divisor, and what it is used for.
use Rattle.std.specs.Prelude.{◌≡◌, ℕ, ◌+◌, ◌*◌, ◌/◌, ◌<◌, ◌≤◌, if◌then◌else◌, ◌&&◌, Some, None, Option, nat_le}
use Rattle.registers.specs.declared.amounts.TheConstants.{MONEY_DIVISOR, RISK_DIVISOR}

-- n ÷ d to the nearest whole number, a half upwards: the whole part of n ÷ d + 1/2
unfoldable pub rounded : ℕ → ℕ → ℕ
rounded d n = (2 * n + d) / (2 * d)

-- kopecks that a quantity costs at a price in ten-thousandths of a ruble
abbrev pub money_of : ℕ → ℕ → ℕ
money_of q p = rounded MONEY_DIVISOR (q * p)

-- kopecks of collateral under a ratio in ten-thousandths
abbrev pub risk_of : ℕ → ℕ → ℕ → ℕ
risk_of q p k = rounded RISK_DIVISOR (q * p * k)

-- a number that lies in a range, or none
abbrev pub ranged : ℕ → ℕ → ℕ → Option ℕ
ranged least most n = if nat_le least n && nat_le n most then Some n else None

-- two parts round to within one of what their sum rounds to
abbrev pub RoundedNear : Type 0
RoundedNear = (d x y : ℕ) → 0 < d → (rounded d (x + y) ≤ rounded d x + rounded d y + 1) × (rounded d x + rounded d y ≤ rounded d (x + y) + 1)

-- a greater number rounds to no less
abbrev pub RoundedMonotone : Type 0
RoundedMonotone = (d x y : ℕ) → 0 < d → x ≤ y → rounded d x ≤ rounded d y

-- nothing rounds to 0
abbrev pub RoundedNone : Type 0
RoundedNone = (d : ℕ) → 0 < d → rounded d 0 ≡ 0
