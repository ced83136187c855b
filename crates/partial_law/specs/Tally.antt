-- The tally of Level Two: that of Level One, fed with the same calls, and the obligations that trades left.
use Rattle.std.specs.Prelude.{ℕ, List, [], ◌∷◌, ◌++◌, Some, None, Option}
use Rattle.registers.specs.Amounts.{money_of}
use Rattle.full.specs.declared.mode.Mode.{Mode}
use Rattle.full.specs.declared.mode.Mode.TheVariants as modes
use Rattle.full.specs.declared.deal.Deal.{Deal}
use Rattle.full.specs.declared.call.Call as one_call
use Rattle.full.specs.declared.call.Call.TheVariants as one_calls
use Rattle.full_law.specs.Lists.{find_by}
use Rattle.full_law.specs.Tally as one
use Rattle.partial.specs.declared.obligation.Obligation.{Obligation}
use Rattle.partial.specs.declared.stage.Stage.TheVariants.{BothOwed}
use Rattle.partial.specs.declared.call.Call.{Call}
use Rattle.partial.specs.declared.call.Call.TheVariants.{Full, Post, Debit}

-- an obligation's number, which is that of its trade
abbrev pub trade_number : Obligation → ℕ
trade_number o = o.number

pub record Tally : Type 0 where
  pub base : one.Tally
  pub obligations : List Obligation

abbrev pub empty : Tally
empty = record { base = one.empty; obligations = [] }

-- what a trade between two noted orders leaves owed: in partial mode the seller's account the quantity, the
-- buyer's the money at the trade's price
abbrev pub owed_after : Mode → one.Note → one.Note → Deal → List Obligation
owed_after modes.Full x y d = []
owed_after modes.Partial x y d = record { number = d.number; seller = y.order.account; buyer = x.order.account; security = x.order.security; quantity = d.quantity; money = money_of d.quantity d.price; stage = BothOwed } ∷ []

abbrev pub owed_by : Option one.Note → Option one.Note → Deal → List Obligation
owed_by None y d = []
owed_by (Some x) None d = []
owed_by (Some x) (Some y) d = owed_after x.order.mode x y d

abbrev pub owing : one.Tally → one_call.Call → List Obligation
owing t (one_calls.Admit security ratio) = []
owing t (one_calls.Open o) = []
owing t (one_calls.Credit code security amount) = []
owing t (one_calls.Announce a) = []
owing t (one_calls.Withdraw n) = []
owing t (one_calls.Trade d) = owed_by (find_by one.number d.buy t.notes) (find_by one.number d.sell t.notes) d

-- the tally with an accepted call
abbrev pub entered : Tally → Call → Tally
entered t (Full c) = record { base = one.entered t.base c; obligations = owing t.base c ++ t.obligations }
entered t (Post participant amount) = t
entered t (Debit participant amount) = t
