-- Debts: what the legs of obligations are, and what an account owes of an asset.
use Rattle.std.specs.Prelude.{ℕ, ◌+◌, Bool, if◌then◌else◌, ◌&&◌, List, None, Some, Option, ◌==◌, sum_by}
use Rattle.full.specs.declared.asset.Asset.{Asset}
use Rattle.full.specs.declared.asset.Asset.TheVariants.{Cash, Security}
use Rattle.full.specs.Assets.{same_asset}
use Rattle.partial.specs.declared.obligation.Obligation.{Obligation}
use Rattle.pool.specs.declared.debt.Debt.{Debt}
use Rattle.pool.specs.declared.leg.Leg.{Leg}
use Rattle.pool.specs.declared.leg.Leg.TheVariants.{Securities, Money}
use Rattle.pool.specs.Stages.{is_owed}

-- a leg: the seller's account owes the quantity of the security to the buyer's, the buyer's the money to the seller's
abbrev pub debt_of : Obligation → Leg → Debt
debt_of o Securities = record { debtor = o.seller; creditor = o.buyer; asset = Security o.security; amount = o.quantity }
debt_of o Money = record { debtor = o.buyer; creditor = o.seller; asset = Cash; amount = o.money }

-- what an account owes of an asset: by a leg of an obligation, as long as that is owed; by the obligation in a place of
-- the table; and over the whole table
abbrev pub is_debtor : ℕ → Asset → Debt → Bool
is_debtor account asset d = d.debtor == account && same_asset d.asset asset

abbrev pub owed_by_leg : ℕ → Asset → Obligation → Leg → ℕ
owed_by_leg account asset o leg = if is_owed o.stage leg && is_debtor account asset (debt_of o leg) then (debt_of o leg).amount else 0

abbrev pub owed_in : ℕ → Asset → Option Obligation → ℕ
owed_in account asset None = 0
owed_in account asset (Some o) = owed_by_leg account asset o Securities + owed_by_leg account asset o Money

unfoldable pub owed_over : ℕ → Asset → List (Option Obligation) → ℕ
owed_over account asset os = sum_by (owed_in account asset) os
