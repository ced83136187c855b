-- The plan of each call.
use Rattle.full.specs.State.{State, Step}
use Rattle.full.specs.Calls.{admit_of, open_of, credit_of, announce_of, withdraw_of}
use Rattle.full.specs.Trades.{trade_of}
use Rattle.full.specs.declared.call.Call.{Call}
use Rattle.full.specs.declared.call.Call.TheVariants.{Admit, Open, Credit, Announce, Withdraw, Trade}

-- a call's plan
abbrev pub call_of : State → Call → Step
call_of s (Admit security ratio) = admit_of s security ratio
call_of s (Open o) = open_of s o
call_of s (Credit code security amount) = credit_of s code security amount
call_of s (Announce a) = announce_of s a
call_of s (Withdraw number) = withdraw_of s number
call_of s (Trade d) = trade_of s d
