-- The registers and the amounts of orders' blocks.
use Rattle.std.specs.Prelude.{ℕ, ◌/◌}
use Rattle.registers.specs.declared.key.Key.{Key}
use Rattle.full.specs.declared.keys.TheConstants.{ACCOUNTS_EACH}
use Rattle.registers.specs.declared.kind.RegisterKind.TheVariants.{Cash, Holding, Participant}
use Rattle.registers.specs.Amounts.{money_of, risk_of}
use Rattle.registers.specs.Registers.{kind_number}
use Rattle.full.specs.declared.side.Side.{Side}
use Rattle.full.specs.declared.side.Side.TheVariants.{Buy, Sell}
use Rattle.full.specs.declared.mode.Mode.{Mode}
use Rattle.full.specs.declared.mode.Mode.TheVariants.{Full, Partial}
use Rattle.full.specs.Orders.{Live}

-- the keys of an account's cash, of its holding of a security, of a participant's limit, and of the limit
-- of an account's participant
abbrev pub cash_key : ℕ → Key
cash_key code = record { kind = kind_number Cash; code = code; security = 0 }

abbrev pub holding_key : ℕ → ℕ → Key
holding_key code security = record { kind = kind_number Holding; code = code; security = security }

abbrev pub limit_key : ℕ → Key
limit_key participant = record { kind = kind_number Participant; code = participant; security = 0 }

abbrev pub participant_key : ℕ → Key
participant_key account = limit_key (account / ACCOUNTS_EACH)

-- the register of an order's block
abbrev pub block_key : Mode → Side → ℕ → ℕ → Key
block_key Full Buy account security = cash_key account
block_key Full Sell account security = holding_key account security
block_key Partial Buy account security = participant_key account
block_key Partial Sell account security = participant_key account

-- the block of a quantity at a price, under a ratio
abbrev pub block_units : Mode → Side → ℕ → ℕ → ℕ → ℕ
block_units Full Buy q p k = money_of q p
block_units Full Sell q p k = q
block_units Partial Buy q p k = risk_of q p k
block_units Partial Sell q p k = risk_of q p k

-- a live order's register, and the block of its rest
abbrev pub key_of : Live → Key
key_of o = block_key o.mode o.side o.account o.security

abbrev pub units_of : Live → ℕ
units_of o = block_units o.mode o.side o.rest o.price o.ratio
