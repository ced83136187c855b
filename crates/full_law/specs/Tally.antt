-- The tally: a second account of a run, fed only with each call's arguments and whether the call was
-- accepted. It never looks at the engine.
use Rattle.std.specs.Prelude.{ℕ, ◌+◌, ◌-◌, if◌then◌else◌, List, [], ◌∷◌, ◌++◌, Some, None, Option, ◌==◌, nat_lt, count_by, sum_by}
use Rattle.std.specs.Option.{unwrap_or}
use Rattle.registers.specs.declared.key.Key.{Key}
use Rattle.registers.specs.Registers.{same_key}
use Rattle.full.specs.declared.mode.Mode.TheVariants.{Full}
use Rattle.full.specs.declared.announcement.Announcement.{Announcement}
use Rattle.full.specs.Orders.{Live, Admitted, resting}
use Rattle.full.specs.Terms.{mode_of}
use Rattle.full.specs.Blocks.{key_of, units_of}
use Rattle.full.specs.declared.call.Call.{Call}
use Rattle.full.specs.declared.call.Call.TheVariants.{Admit, Open, Credit, Announce, Withdraw, Trade}
use Rattle.full_law.specs.Lists.{find_by, replace_by}

-- a register as it was opened
pub record Opened : Type 0 where
  pub key : Key
  pub limit : ℕ
  pub blocked : ℕ

-- an order as announced, with its whole quantity as its rest; what was traded of it and what its
-- withdrawal gave back
pub record Note : Type 0 where
  pub order : Live
  pub traded : ℕ
  pub back : ℕ

-- the ratios, the opened registers, the announced orders, and one key for each order of a trade that the
-- trade left a rest of, that of the register of the order's block
pub record Tally : Type 0 where
  pub ratios : List Admitted
  pub opened : List Opened
  pub notes : List Note
  pub trades_leaving_rest : List Key

abbrev pub empty : Tally
empty = record { ratios = []; opened = []; notes = []; trades_leaving_rest = [] }

-- a note's number, and its order's rest: the quantity less the traded parts, less what was given back
abbrev pub number : Note → ℕ
number x = x.order.number

abbrev pub rest_of : Note → ℕ
rest_of x = x.order.rest - (x.traded + x.back)

-- the order as it stands, and the register of its block
abbrev pub standing : Note → Live
standing x = resting x.order (rest_of x)

abbrev pub register_of : Note → Key
register_of x = key_of x.order

-- a note once q more of its order are traded, and once its rest is given back
abbrev pub with_traded : ℕ → Note → Note
with_traded q x = record x { traded = x.traded + q }

abbrev pub with_back : Note → Note
with_back x = record x { back = x.back + rest_of x }

-- the ratio that was noted for a security
abbrev pub ratio_noted : ℕ → List Admitted → ℕ
ratio_noted n [] = 0
ratio_noted n (a ∷ ss) = if a.number == n then a.ratio else ratio_noted n ss

-- an announcement's order
abbrev pub order_for : Announcement → ℕ → Live
order_for a k = record { number = a.number; side = a.side; mode = unwrap_or (mode_of a.mode) Full; account = a.account; security = a.security; price = a.price; ratio = k; rest = a.quantity }

-- the register of an order that a trade left a rest of, if it did
abbrev pub trade_leaving_rest : Note → List Key
trade_leaving_rest x = if nat_lt 0 (rest_of x) then register_of x ∷ [] else []

-- one order of a trade
abbrev pub traded_on : Tally → ℕ → Option Note → Tally
traded_on t q None = t
traded_on t q (Some x) = record t { notes = replace_by number (with_traded q x) t.notes; trades_leaving_rest = trade_leaving_rest (with_traded q x) ++ t.trades_leaving_rest }

abbrev pub given_back : Tally → Option Note → Tally
given_back t None = t
given_back t (Some x) = record t { notes = replace_by number (with_back x) t.notes }

-- the tally with an accepted call
abbrev pub entered : Tally → Call → Tally
entered t (Admit security ratio) = record t { ratios = t.ratios ++ record { number = security; ratio = ratio } ∷ [] }
entered t (Open o) = record t { opened = t.opened ++ record { key = record { kind = o.kind; code = o.code; security = o.security }; limit = o.limit; blocked = o.margin } ∷ [] }
entered t (Credit code security amount) = t
entered t (Announce a) = record t { notes = t.notes ++ record { order = order_for a (ratio_noted a.security t.ratios); traded = 0; back = 0 } ∷ [] }
entered t (Withdraw n) = given_back t (find_by number n t.notes)
entered t (Trade d) = let u = traded_on t d.quantity (find_by number d.buy t.notes) in traded_on u d.quantity (find_by number d.sell u.notes)

-- the blocks of the live rests on a register, and how often a trade left a rest there
abbrev pub live_block : Key → Note → ℕ
live_block k x = if same_key (register_of x) k then units_of (standing x) else 0

abbrev pub live_blocks : Key → List Note → ℕ
live_blocks k xs = sum_by (live_block k) xs

abbrev pub trades_leaving_rest_on : Key → List Key → ℕ
trades_leaving_rest_on k ks = count_by (λ j. same_key j k) ks
