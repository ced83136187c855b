-- The worked examples, in one table: what the constants and the definitions give, beside what they should give.
use Rattle.std.specs.Prelude.{ℕ, Bool, true, ◌&&◌, List, [], ◌∷◌, ℤ, pos, negsuc, Some, None, Ok, Err, Option, Result, ◌==◌, int_le, slice_index_or}
use Rattle.std.specs.List.{slice_get}
use Rattle.registers.specs.declared.row.Row.{Row}
use Rattle.registers.specs.declared.amounts.TheConstants.{MONEY_DIVISOR, RISK_DIVISOR}
use Rattle.registers.specs.declared.ranges.TheConstants.{MOST_PRICE, MOST_QUANTITY, MOST_RATIO}
use Rattle.registers.specs.declared.store.TheConstants.{MOST_ROWS}
use Rattle.registers.specs.Amounts.{money_of, risk_of}
use Rattle.plans.specs.declared.refusal.Refusal.{Refusal}
use Rattle.plans.specs.Refusals.{number_of}
use Rattle.plans.specs.Plans.{Plan, left_by}
use Rattle.full.specs.declared.side.Side.{Side}
use Rattle.full.specs.declared.side.Side.TheVariants.{Buy, Sell}
use Rattle.full.specs.declared.book.TheConstants.{MOST_ORDERS}
use Rattle.full.specs.declared.keys.TheConstants.{ACCOUNTS_EACH}
use Rattle.full.specs.declared.ranges.TheConstants.{LEAST_ACCOUNT, MOST_ACCOUNT, MOST_LIMIT, MOST_SECURITY}
use Rattle.full.specs.declared.securities.TheConstants.{MOST_SECURITIES}
use Rattle.full.specs.State.{State, Step}
use Rattle.full.specs.Calls.{announce_of}
use Rattle.full.specs.Trades.{trade_of}
use Rattle.partial.specs.declared.limits.TheConstants.{MOST_PARTICIPANT}
use Rattle.partial.specs.declared.obligation.Obligation.{Obligation}
use Rattle.partial.specs.declared.obligations.TheConstants.{MOST_OBLIGATIONS}
use Rattle.partial.specs.declared.stage.Stage.TheVariants.{BothOwed}
use Rattle.partial.specs.State as two_state
use Rattle.partial.specs.Calls as two
use Rattle.pool.specs.State as three_state
use Rattle.pool.specs.Calls as three

pub data Example : Type 0 where
  amount : ℕ → ℕ → Example
  figure : ℤ → ℤ → Example

abbrev pub holds : Example → Bool
holds (amount got want) = got == want
holds (figure got want) = int_le got want && int_le want got

abbrev pub all_hold : List Example → Bool
all_hold [] = true
all_hold (e ∷ es) = holds e && all_hold es

abbrev register : ℕ → ℕ → ℕ → ℕ → Row
register kind code security limit = record { key = record { kind = kind; code = code; security = security }; figures = record { limit = pos limit; blocked = pos 0; third = pos 0 } }

-- security 5 is admitted, and the reserve is 200
abbrev standing : List Row → ℕ → State
standing rows room =
    record {
      rows = rows;
      room = room;
      settings = record { reserve = 200 };
      securities = record { number = 5; ratio = 1000 } ∷ [];
      orders = None ∷ None ∷ [];
      last_order = 0;
      last_trade = 0;
    }

-- a state to deal in: account 701 buys with a cash limit of its own, 802 sells
abbrev pub start : ℕ → State
start limit = standing (register 1 701 0 limit ∷ register 2 701 5 0 ∷ register 1 802 0 0 ∷ register 2 802 5 1000 ∷ []) 4

-- order 1 is a purchase, order 2 a sale at 1
abbrev pub buying : ℕ → ℕ → State → Step
buying q p s = announce_of s (record { side = Buy; mode = 1; number = 1; account = 701; security = 5; quantity = q; price = p })

abbrev pub selling : ℕ → State → Step
selling q s = announce_of s (record { side = Sell; mode = 1; number = 2; account = 802; security = 5; quantity = q; price = 1 })

abbrev pub trading : ℕ → ℕ → ℕ → State → Step
trading n q t s = trade_of s (record { number = n; buy = 1; sell = 2; quantity = q; price = t })

abbrev bought : ℕ → ℕ → State → State
bought q p s = left_by s (buying q p s)

abbrev sold : ℕ → State → State
sold q s = left_by s (selling q s)

abbrev traded : ℕ → ℕ → ℕ → State → State
traded n q t s = left_by s (trading n q t s)

-- the number of a refusal, and 0 where the call is accepted
abbrev pub refusal_in : {S : Type 0} → Result (Plan ℤ S) Refusal → ℕ
refusal_in (Ok p) = 0
refusal_in (Err e) = number_of e

-- the answer of a call, and −1 where it is refused
abbrev pub answer_in : {S : Type 0} → Result (Plan ℤ S) Refusal → ℤ
answer_in (Ok p) = p.answer
answer_in (Err e) = negsuc 0

-- the figures of a row
abbrev limit_in : Option Row → ℤ
limit_in None = pos 0
limit_in (Some r) = r.figures.limit

abbrev blocked_in : Option Row → ℤ
blocked_in None = pos 0
blocked_in (Some r) = r.figures.blocked

abbrev third_in : Option Row → ℤ
third_in None = pos 0
third_in (Some r) = r.figures.third

-- the buyer's cash
abbrev pub limit : State → ℤ
limit s = limit_in (slice_get s.rows 0)

abbrev pub blocked : State → ℤ
blocked s = blocked_in (slice_get s.rows 0)

-- Level Two: accounts 701 and 702 are participant 7's, and have nothing; then the participant's limit is opened
abbrev house : two_state.State
house =
    record {
      base = standing (register 1 701 0 0 ∷ register 2 701 5 0 ∷ register 1 702 0 0 ∷ register 2 702 5 0 ∷ []) 5;
      obligations = None ∷ None ∷ [];
    }

abbrev pub opened : ℕ → ℕ → two_state.State
opened limit margin = left_by house (two.open_of house (record { kind = 3; code = 7; security = 0; limit = limit; margin = margin }))

abbrev pub debiting : ℕ → two_state.State → two_state.Step
debiting m s = two.debit_of s 7 m

abbrev debited : ℕ → two_state.State → two_state.State
debited m s = left_by s (debiting m s)

-- an order of 2 with partial collateral
abbrev ordered : Side → ℕ → ℕ → ℕ → two_state.State → two_state.State
ordered side number account p s = left_by s (two.announce_of s (record { side = side; mode = 2; number = number; account = account; security = 5; quantity = 2; price = p }))

-- 701 buys at 1500, and 702 sells at 500
abbrev pub facing : two_state.State
facing = ordered Sell 2 702 500 (ordered Buy 1 701 1500 (opened 1000 0))

-- one of the two is traded, at a price between
abbrev drawn : ℕ → two_state.State → two_state.State
drawn n s = left_by s (two.trade_of s (record { number = n; buy = 1; sell = 2; quantity = 1; price = 1450 }))

-- the participant's limit
abbrev pub participant_limit : two_state.State → ℤ
participant_limit s = limit_in (slice_get s.base.rows 4)

abbrev pub participant_blocked : two_state.State → ℤ
participant_blocked s = blocked_in (slice_get s.base.rows 4)

abbrev pub collateral : two_state.State → ℤ
collateral s = third_in (slice_get s.base.rows 4)

-- the obligation at the first place
abbrev quantity_in : Option Obligation → ℕ
quantity_in None = 0
quantity_in (Some o) = o.quantity

abbrev money_in : Option Obligation → ℕ
money_in None = 0
money_in (Some o) = o.money

abbrev pub quantity_owed : two_state.State → ℕ
quantity_owed s = quantity_in (slice_index_or s.obligations 0 None)

abbrev pub money_owed : two_state.State → ℕ
money_owed s = money_in (slice_index_or s.obligations 0 None)

-- Level Three: account 802 owes 701 8 of security 5; of the 10 that it has, 4 are blocked
abbrev pub owing : three_state.State
owing =
    record {
      base = standing (record { key = record { kind = 2; code = 802; security = 5 }; figures = record { limit = pos 10; blocked = pos 4; third = pos 0 } } ∷ register 2 701 5 0 ∷ []) 2;
      obligations = Some (record { number = 1; seller = 802; buyer = 701; security = 5; quantity = 8; money = 116; stage = BothOwed }) ∷ None ∷ [];
    }

abbrev pub earmarking : three_state.State → three_state.Step
earmarking s = three.earmark_of s 802 5

abbrev pub earmarked : three_state.State → three_state.State
earmarked s = left_by s (earmarking s)

-- 802's holding
abbrev pub holding_limit : three_state.State → ℤ
holding_limit s = limit_in (slice_get s.base.rows 0)

abbrev pub holding_third : three_state.State → ℤ
holding_third s = third_in (slice_get s.base.rows 0)

abbrev pub examples : List Example
examples =
    amount MONEY_DIVISOR 100
    ∷ amount RISK_DIVISOR 1000000
    ∷ amount MOST_PRICE 100000000
    ∷ amount MOST_QUANTITY 1000000
    ∷ amount MOST_RATIO 10000
    ∷ amount MOST_ROWS 4096
    ∷ amount LEAST_ACCOUNT 100
    ∷ amount MOST_ACCOUNT 999999
    ∷ amount ACCOUNTS_EACH 100
    ∷ amount MOST_SECURITY 9999
    ∷ amount MOST_LIMIT 100000000000000
    ∷ amount MOST_SECURITIES 64
    ∷ amount MOST_ORDERS 256
    ∷ amount MOST_PARTICIPANT 9999
    ∷ amount MOST_OBLIGATIONS 128
    ∷ amount (money_of 1 49) 0
    ∷ amount (money_of 1 50) 1
    ∷ amount (money_of 3 50) 2
    ∷ amount (risk_of 10 123456 1000) 1235
    ∷ amount (refusal_in (buying 2 50 (start 201))) 0
    ∷ amount (refusal_in (buying 2 50 (start 200))) 10
    ∷ figure (blocked (bought 2 50 (start 1000))) (pos 1)
    ∷ figure (blocked (traded 1 1 50 (sold 2 (bought 2 50 (start 1000))))) (pos 0)
    ∷ figure (blocked (traded 2 1 50 (traded 1 1 50 (sold 2 (bought 2 50 (start 1000)))))) (negsuc 0)
    ∷ figure (limit (traded 1 100 9900 (sold 100 (bought 100 10000 (start 10200))))) (pos 300)
    ∷ figure (blocked (traded 1 100 9900 (sold 100 (bought 100 10000 (start 10200))))) (pos 0)
    ∷ figure (participant_limit (opened 1000 400)) (pos 1000)
    ∷ figure (participant_blocked (opened 1000 400)) (pos 400)
    ∷ figure (collateral (opened 1000 400)) (pos 1000)
    ∷ amount (refusal_in (debiting 600 (opened 1000 400))) 21
    ∷ amount (refusal_in (debiting 599 (opened 1000 400))) 0
    ∷ figure (participant_limit (debited 599 (opened 1000 400))) (pos 401)
    ∷ figure (participant_blocked (debited 599 (opened 1000 400))) (pos 400)
    ∷ figure (collateral (debited 599 (opened 1000 400))) (pos 401)
    ∷ figure (participant_blocked facing) (pos 4)
    ∷ figure (participant_limit (drawn 1 facing)) (pos 998)
    ∷ figure (participant_blocked (drawn 1 facing)) (pos 1)
    ∷ figure (participant_limit (drawn 2 (drawn 1 facing))) (pos 996)
    ∷ figure (participant_blocked (drawn 2 (drawn 1 facing))) (negsuc 1)
    ∷ figure (collateral (drawn 2 (drawn 1 facing))) (pos 1000)
    ∷ amount (quantity_owed (drawn 1 facing)) 1
    ∷ amount (money_owed (drawn 1 facing)) 15
    ∷ figure (answer_in (earmarking owing)) (pos 6)
    ∷ figure (holding_limit (earmarked owing)) (pos 4)
    ∷ figure (holding_third (earmarked owing)) (pos 6)
    ∷ figure (answer_in (earmarking (earmarked owing))) (pos 0)
    ∷ amount (refusal_in (three.deliver_of (earmarked owing) 1)) 24
    ∷ []
