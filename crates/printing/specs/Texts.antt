-- The text of a call and of its outcome.
use Rattle.std.specs.Prelude.{ℕ, if◌then◌else◌, List, [], ◌++◌, ℤ, Ok, Err, codes, decimal, Result, ◌==◌}
use Rattle.std.specs.Fmt.{signed_decimal}
use Rattle.plans.specs.declared.refusal.Refusal.{Refusal}
use Rattle.plans.specs.Refusals.{refusal_text}
use Rattle.full.specs.declared.side.Side.{Side}
use Rattle.full.specs.declared.side.Side.TheVariants.{Buy, Sell}
use Rattle.full.specs.declared.mode.Mode.TheVariants as modes
use Rattle.full.specs.Terms.{mode_number}
use Rattle.full.specs.declared.call.Call.{Call}
use Rattle.full.specs.declared.call.Call.TheVariants.{Admit, Open, Credit, Announce, Withdraw, Trade}
use Rattle.partial.specs.declared.call.Call.{Call as PartialCall}
use Rattle.partial.specs.declared.call.Call.TheVariants.{Full, Post, Debit}
use Rattle.pool.specs.declared.call.Call.{Call as PoolCall}
use Rattle.pool.specs.declared.call.Call.TheVariants.{Partial, Earmark, Deliver, Pay, Close}

-- the word for a side
abbrev pub side_text : Side → List ℕ
side_text Buy = codes "buy "
side_text Sell = codes "sell "

-- a call in short: its name and its arguments, without an opening's margin and an order's mode and security
abbrev pub call_text : Call → List ℕ
call_text (Admit security ratio) = codes "admit " ++ (decimal security ++ (codes " " ++ decimal ratio))
call_text (Open o) = codes "open " ++ (decimal o.kind ++ (codes " " ++ (decimal o.code ++ (codes " " ++ (decimal o.security ++ (codes " " ++ decimal o.limit))))))
call_text (Credit code security amount) = codes "credit " ++ (decimal code ++ (codes " " ++ (decimal security ++ (codes " " ++ decimal amount))))
call_text (Announce a) = side_text a.side ++ (decimal a.number ++ (codes " " ++ (decimal a.account ++ (codes " " ++ (decimal a.quantity ++ (codes " at " ++ decimal a.price))))))
call_text (Withdraw number) = codes "withdraw " ++ decimal number
call_text (Trade d) = codes "trade " ++ (decimal d.number ++ (codes " of " ++ (decimal d.buy ++ (codes " and " ++ (decimal d.sell ++ (codes ", " ++ (decimal d.quantity ++ (codes " at " ++ decimal d.price))))))))

-- what a call says of collateral beyond that: a margin that is not 0, and a mode that is not full
abbrev pub margin_text : ℕ → List ℕ
margin_text margin = if margin == 0 then [] else codes " margin " ++ decimal margin

abbrev pub mode_text : ℕ → List ℕ
mode_text mode = if mode == mode_number modes.Full then [] else codes " mode " ++ decimal mode

abbrev pub collateral_text : Call → List ℕ
collateral_text (Admit security ratio) = []
collateral_text (Open o) = margin_text o.margin
collateral_text (Credit code security amount) = []
collateral_text (Announce a) = mode_text a.mode
collateral_text (Withdraw number) = []
collateral_text (Trade d) = []

-- a call of Level Two in short: one of Level One's with its margin and its mode
abbrev pub partial_call_text : PartialCall → List ℕ
partial_call_text (Full c) = call_text c ++ collateral_text c
partial_call_text (Post participant amount) = codes "post " ++ (decimal participant ++ (codes " " ++ decimal amount))
partial_call_text (Debit participant amount) = codes "debit " ++ (decimal participant ++ (codes " " ++ decimal amount))

-- a call of Level Three in short: one of Level Two's, or one of the pool's with its arguments
abbrev pub pool_call_text : PoolCall → List ℕ
pool_call_text (Partial c) = partial_call_text c
pool_call_text (Earmark code security) = codes "earmark " ++ (decimal code ++ (codes " " ++ decimal security))
pool_call_text (Deliver number) = codes "deliver " ++ decimal number
pool_call_text (Pay number) = codes "pay " ++ decimal number
pool_call_text Close = codes "close"

-- an outcome: ok and the answer, or no and the refusal
abbrev pub outcome_text : Result ℤ Refusal → List ℕ
outcome_text (Ok answer) = codes "ok " ++ signed_decimal answer
outcome_text (Err refusal) = codes "no " ++ refusal_text refusal
