-- The plan of each call.
use Rattle.partial.specs.Plans as two
use Rattle.pool.specs.Calls.{close_of, deliver_of, earmark_of, pay_of}
use Rattle.pool.specs.State.{State, Step}
use Rattle.pool.specs.declared.call.Call.{Call}
use Rattle.pool.specs.declared.call.Call.TheVariants.{Partial, Earmark, Deliver, Pay, Close}

abbrev pub call_of : State → Call → Step
call_of s (Partial c) = two.call_of s c
call_of s (Earmark code security) = earmark_of s code security
call_of s (Deliver number) = deliver_of s number
call_of s (Pay number) = pay_of s number
call_of s Close = close_of s
