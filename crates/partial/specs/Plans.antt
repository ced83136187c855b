-- The plan of each call.
use Rattle.full.specs.Calls as one
use Rattle.full.specs.declared.call.Call.TheVariants as one_calls
use Rattle.partial.specs.State.{State, Step, down}
use Rattle.partial.specs.Calls.{announce_of, debit_of, open_of, post_of, trade_of}
use Rattle.partial.specs.declared.call.Call.{Call}
use Rattle.partial.specs.declared.call.Call.TheVariants.{Full, Post, Debit}

abbrev pub call_of : State → Call → Step
call_of s (Full (one_calls.Admit security ratio)) = down s (one.admit_of s.base security ratio)
call_of s (Full (one_calls.Open o)) = open_of s o
call_of s (Full (one_calls.Credit code security amount)) = down s (one.credit_of s.base code security amount)
call_of s (Full (one_calls.Announce a)) = announce_of s a
call_of s (Full (one_calls.Withdraw number)) = down s (one.withdraw_of s.base number)
call_of s (Full (one_calls.Trade d)) = trade_of s d
call_of s (Post participant amount) = post_of s participant amount
call_of s (Debit participant amount) = debit_of s participant amount
