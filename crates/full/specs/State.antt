-- The state of Level One.
use Rattle.std.specs.Prelude.{ℕ, List, [], replicate, ℤ, None, Option, Result}
use Rattle.registers.specs.declared.row.Row.{Row}
use Rattle.plans.specs.declared.refusal.Refusal.{Refusal}
use Rattle.full.specs.declared.book.TheConstants.{MOST_ORDERS}
use Rattle.full.specs.declared.settings.Settings.{Settings}
use Rattle.full.specs.Orders.{Live, Admitted}
use Rattle.plans.specs.Plans.{Plan}

-- what the rules speak of: the store's rows and room, the settings, the admitted securities, the
-- places of the order book, and the numbers of the last order and the last trade
pub record State : Type 0 where
  pub rows : List Row
  pub room : ℕ
  pub settings : Settings
  pub securities : List Admitted
  pub orders : List (Option Live)
  pub last_order : ℕ
  pub last_trade : ℕ

-- the state of a new engine over a store: nothing is admitted, ordered or traded yet
abbrev pub begin : List Row → ℕ → Settings → State
begin rows room settings = record { rows = rows; room = room; settings = settings; securities = []; orders = replicate MOST_ORDERS None; last_order = 0; last_trade = 0 }

-- a state with other parts
abbrev pub with_rows : State → List Row → State
with_rows s rs = record s { rows = rs }

abbrev pub with_securities : State → List Admitted → State
with_securities s ss = record s { securities = ss }

abbrev pub with_orders : State → List (Option Live) → State
with_orders s os = record s { orders = os }

abbrev pub with_last_order : State → ℕ → State
with_last_order s n = record s { last_order = n }

abbrev pub with_last_trade : State → ℕ → State
with_last_trade s n = record s { last_trade = n }

-- a plan of this level
abbrev pub Step : Type 0
Step = Result (Plan ℤ State) Refusal
