-- What cannot be.
use Rattle.std.proofs.Common.{◌≡◌, ℕ, arith}

-- where two cases that differ are equal, anything follows
pub no_case : {X : Type 0} → ◌≡◌ {A = ℕ} 0 1 → X
no_case z = absurd (omega arith)
