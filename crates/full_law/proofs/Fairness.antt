-- A register's figures stay fair: the arithmetic of each effect, on plain numbers.
use Rattle.std.proofs.Common.{◌≡◌, ℕ, ◌+◌, ◌≤◌, ℤ, pos, ◌+ℤ◌, ◌-ℤ◌, ◌≤ℤ◌, Some, None, Option, arith}
use Rattle.std.proofs.lemmas.Int.{ints}
use Rattle.full_law.proofs.Promises.{Above, Fair}

-- what is left of a limit and does not fall stays above the base
pub above_more : (base : Option ℤ) (y z : ℤ) → y ≤ℤ z → Above base y → Above base z
above_more None y z h a = tt
above_more (Some b) y z h a = omega (arith, ints)

-- a payment that what is freed covers, where there is a base to keep
abbrev pub Covers : Option ℤ → ℕ → ℕ → Type 0
Covers None paid m = Unit {0}
Covers (Some b) paid m = paid ≤ m

pub covers : (base : Option ℤ) (paid m : ℕ) → paid ≤ m → Covers base paid m
covers None paid m h = tt
covers (Some b) paid m h = h

above_paid : (base : Option ℤ) (l b : ℤ) (paid m : ℕ) → Covers base paid m → Above base (l -ℤ b) → Above base ((l -ℤ pos paid) -ℤ (b -ℤ pos m))
above_paid None l b paid m c a = tt
above_paid (Some x) l b paid m c a = omega (arith, ints)

-- a register as it begins
pub fair_open : (base : Option ℤ) (l b : ℤ) (n : ℕ) → b ≡ pos n → Above base (l -ℤ b) → Fair base l b (pos n) 0 0
fair_open base l b n e h = record { most = omega (arith, ints); least = omega (arith, ints); free = h }

module _ (base : Option ℤ) (l b o : ℤ) (owe slack : ℕ) (f : Fair base l b o owe slack) where
  -- another limit, which leaves the base
  pub fair_limit : (l' : ℤ) → Above base (l' -ℤ b) → Fair base l' b o owe slack
  fair_limit l' h = record { most = f.most; least = f.least; free = h }

  -- a block, which leaves the base
  pub fair_block : (m owe' : ℕ) → owe' ≡ owe + m → Above base (l -ℤ (b +ℤ pos m)) → Fair base l (b +ℤ pos m) o owe' slack
  fair_block m owe' e h = record { most = omega (arith, ints, f.most); least = omega (arith, ints, f.least); free = h }

  -- m comes off the blocked figure and a payment that it covers off the limit; the tally's sum falls by m, but for
  -- what the slack grows
  pub fair_freed : (m paid owe' more slack' : ℕ) → Covers base paid m → slack' ≡ slack + more → owe' + m ≤ owe + more → owe ≤ owe' + m + more → Fair base (l -ℤ pos paid) (b -ℤ pos m) o owe' slack'
  fair_freed m paid owe' more slack' p s most least = record { most = omega (arith, ints, f.most); least = omega (arith, ints, f.least); free = above_paid base l b paid m p f.free }
