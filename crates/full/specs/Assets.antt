-- Assets: what an account holds, and its registers.
use Rattle.std.specs.Prelude.{ℕ, Bool, true, false, if◌then◌else◌, ◌==◌}
use Rattle.registers.specs.declared.key.Key.{Key}
use Rattle.full.specs.declared.asset.Asset.{Asset}
use Rattle.full.specs.declared.asset.Asset.TheVariants.{Cash, Security}
use Rattle.full.specs.Blocks.{cash_key, holding_key}

-- the asset that a call names: a security by its number, cash by 0
abbrev pub asset_named : ℕ → Asset
asset_named security = if security == 0 then Cash else Security security

-- the register of an account's asset
abbrev pub asset_key : Asset → ℕ → Key
asset_key Cash account = cash_key account
asset_key (Security security) account = holding_key account security

abbrev pub same_asset : Asset → Asset → Bool
same_asset Cash Cash = true
same_asset Cash (Security t) = false
same_asset (Security s) Cash = false
same_asset (Security s) (Security t) = s == t
