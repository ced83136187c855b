-- The number of the last trade never falls.
use Rattle.std.proofs.Common.{◌≤◌, not, ◌&&◌, ◌||◌, eqb, ltb, length, is_some, arith}
use Rattle.registers.specs.declared.row.Row.{Row}
use Rattle.registers.specs.Stores.{place_for}
use Rattle.full.specs.Orders.{admitted_as}
use Rattle.full.specs.Terms.{between, security_ok, asset_ok, amount_ok}
use Rattle.full.specs.Assets.{asset_named, asset_key}
use Rattle.full.specs.Blocks.{key_of, units_of}
use Rattle.full.specs.Checks.{PlacedOf, found_of, ready_of, is_full, pair_of}
use Rattle.plans.proofs.Keeping.{Keeps, by_demand, by_step, by_there}
use Rattle.full.specs.declared.open_register.OpenRegister.{OpenRegister}
use Rattle.full.specs.State.{State}
use Rattle.full.specs.OpenRegisters.{register_at, block_on, release_on, credit_on, floor_of}
use Rattle.full.specs.Calls.{admit_of, opening_key, enter_of, open_of, credit_of, cover_at, placed_of, announce_of, withdraw_of}
use Rattle.full.specs.Trades.{exchange_of, trade_of}
use Rattle.full.specs.declared.call.Call.{Call}
use Rattle.full.specs.declared.call.Call.TheVariants.{Admit, Open, Credit, Announce, Withdraw, Trade}
use Rattle.full.specs.Plans.{call_of}
use Rattle.full_law.proofs.Numbers.{trade_above}

abbrev pub Rises : State → State → Type 0
Rises s n = s.last_trade ≤ n.last_trade

module _ (s : State) where
  pub enter_rises : (r : Row) → Keeps (Rises s) (enter_of s r)
  unfolding enter_of
  enter_rises r =
      by_demand (Rises s) (not (is_some (place_for r.key s.rows))) _ _ λ _.
      by_demand (Rises s) (ltb (length s.rows) s.room) _ _ λ _. omega arith

  pub placed_rises : (r : PlacedOf) (h : OpenRegister) → Keeps (Rises s) (placed_of s r h)
  unfolding placed_of
  placed_rises r h = by_step (Rises s) (block_on h (units_of r.order) (floor_of s.settings.reserve (key_of r.order))) _ λ b _. omega arith

  pub call_rises : (c : Call) → Keeps (Rises s) (call_of s c)
  unfolding admit_of open_of credit_of announce_of withdraw_of trade_of
  call_rises (Admit n k) =
      by_demand (Rises s) (security_ok n && between 1 10000 k) _ _ λ _.
      by_demand (Rises s) (not (is_some (admitted_as s.securities n))) _ _ λ _.
      by_demand (Rises s) (ltb (length s.securities) 64) _ _ λ _. omega arith
  call_rises (Open o) =
      by_there (Rises s) (opening_key o) _ _ λ k _.
      by_demand (Rises s) (eqb k.kind 1 || is_some (admitted_as s.securities k.security)) _ _ λ _.
      enter_rises _
  call_rises (Credit code security amount) =
      by_demand (Rises s) (asset_ok code security && amount_ok amount) _ _ λ _.
      by_step (Rises s) (register_at s.rows (asset_key (asset_named security) code)) _ λ r _.
      by_step (Rises s) (credit_on r amount) _ λ c _. omega arith
  call_rises (Announce a) =
      by_demand (Rises s) (eqb a.mode 1) _ _ λ _.
      by_step (Rises s) (ready_of s.securities s.orders s.last_order a) _ λ r _.
      by_step (Rises s) (cover_at s.rows r.order) _ λ c _.
      placed_rises r c
  call_rises (Withdraw n) =
      by_step (Rises s) (found_of s.orders n) _ λ f _.
      by_step (Rises s) (register_at s.rows (key_of f.order)) _ λ r _.
      by_step (Rises s) (release_on r (units_of f.order)) _ λ c _. omega arith
  call_rises (Trade d) =
      by_step (Rises s) (pair_of s.orders s.last_trade d) _ λ p ep.
      by_demand (Rises s) (is_full p.buy.mode) _ _ λ _.
      by_step (Rises s) (exchange_of s.rows p) _ λ m _.
      let above = trade_above s.orders s.last_trade d p ep in omega arith
