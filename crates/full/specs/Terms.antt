-- The ranges of a call's arguments.
use Rattle.std.specs.Prelude.{ℕ, Bool, if◌then◌else◌, ◌&&◌, ◌||◌, Some, None, Option, ◌==◌, nat_le}
use Rattle.full.specs.declared.ranges.TheConstants.{LEAST_ACCOUNT, MOST_ACCOUNT, MOST_SECURITY, MOST_LIMIT}
use Rattle.registers.specs.declared.ranges.TheConstants.{MOST_PRICE, MOST_QUANTITY}
use Rattle.full.specs.declared.mode.Mode.{Mode}
use Rattle.full.specs.declared.mode.Mode.TheVariants.{Full, Partial}
use Rattle.full.specs.declared.announcement.Announcement.{Announcement}
use Rattle.full.specs.declared.deal.Deal.{Deal}
use Rattle.full.specs.declared.terms.Terms.{Terms}
use Rattle.full.specs.declared.bargain.Bargain.{Bargain}

abbrev pub between : ℕ → ℕ → ℕ → Bool
between least most n = nat_le least n && nat_le n most

-- account codes, and securities
unfoldable pub code_ok : ℕ → Bool
code_ok c = between LEAST_ACCOUNT MOST_ACCOUNT c

unfoldable pub security_ok : ℕ → Bool
security_ok n = between 1 MOST_SECURITY n

-- an account code, and the security that a call names, or 0 for cash
unfoldable pub asset_ok : ℕ → ℕ → Bool
asset_ok code security = code_ok code && (security == 0 || security_ok security)

-- the numbers of orders and trades: from 1 on
unfoldable pub number_ok : ℕ → Bool
number_ok n = nat_le 1 n

-- amounts of credits, and limits of openings
unfoldable pub amount_ok : ℕ → Bool
amount_ok n = between 1 MOST_LIMIT n

unfoldable pub limit_ok : ℕ → Bool
limit_ok n = nat_le n MOST_LIMIT

-- the number of each mode, and the mode of a number
abbrev pub mode_number : Mode → ℕ
mode_number Full = 1
mode_number Partial = 2

abbrev pub mode_of : ℕ → Option Mode
mode_of n = if n == mode_number Full then Some Full else (if n == mode_number Partial then Some Partial else None)

-- an announcement's numbers, if all of its arguments lie in their ranges
pub record TermsOf : Type 0 where
  pub mode : Mode
  pub quantity : ℕ
  pub price : ℕ

abbrev pub terms_in : Option Mode → Announcement → Option TermsOf
terms_in None a = None
terms_in (Some m) a =
    if number_ok a.number && (code_ok a.account && (security_ok a.security && (between 1 MOST_QUANTITY a.quantity && between 1 MOST_PRICE a.price)))
    then Some (record { mode = m; quantity = a.quantity; price = a.price }) else None

unfoldable pub terms_of : Announcement → Option TermsOf
terms_of a = terms_in (mode_of a.mode) a

abbrev pub terms_as : Terms → TermsOf
terms_as t = record { mode = t.mode; quantity = t.quantity.value; price = t.price.value }

-- a trade's numbers, if all of its arguments lie in their ranges
pub record BargainOf : Type 0 where
  pub quantity : ℕ
  pub price : ℕ

unfoldable pub bargain_of : Deal → Option BargainOf
bargain_of d =
    if number_ok d.number && (number_ok d.buy && (number_ok d.sell && (between 1 MOST_QUANTITY d.quantity && between 1 MOST_PRICE d.price)))
    then Some (record { quantity = d.quantity; price = d.price }) else None

abbrev pub bargain_as : Bargain → BargainOf
bargain_as b = record { quantity = b.quantity.value; price = b.price.value }
