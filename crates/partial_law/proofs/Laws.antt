-- The promise gives the law, and holds of every prefix of a run.
use Rattle.std.proofs.Common.{◌≡◌, ℕ, List, [], ◌++◌, map, ℤ, Result, arith}
use Rattle.registers.specs.declared.row.Row.{Row}
use Rattle.plans.specs.declared.refusal.Refusal.{Refusal}
use Rattle.plans.specs.Runs.{outcomes_of, state_after}
use Rattle.plans.proofs.Walks.{Finished, finished}
use Rattle.full_law.proofs.Laws as one_proofs
use Rattle.full.specs.declared.settings.Settings.{Settings}
use Rattle.partial.specs.State.{State, begin}
use Rattle.partial.specs.declared.call.Call.{Call}
use Rattle.partial.specs.Plans.{call_of}
use Rattle.partial_law.specs.Tally.{Tally, trade_number, empty, entered}
use Rattle.partial_law.proofs.Owed.{all_differ}
use Rattle.partial_law.specs.Law.{Law}
use Rattle.partial.specs.declared.obligations.TheConstants.{MOST_OBLIGATIONS}
use Rattle.partial_law.proofs.Places.{none_owed, none_places}
use Rattle.partial_law.proofs.Promises.{Promise}
use Rattle.partial_law.proofs.Calls.{call_keeps}

begin_keeps : (rows : List Row) (room : ℕ) (settings : Settings) → rows ≡ [] → Promise settings.reserve empty (begin rows room settings)
begin_keeps rows room settings e = record { base = one_proofs.begin_keeps rows room settings e; owed = λ n. none_owed n MOST_OBLIGATIONS; once = λ n. omega (arith, none_places n MOST_OBLIGATIONS); falling = tt; fresh = tt }

promised : (reserve : ℕ) (t : Tally) (s : State) → Promise reserve t s → Law reserve t s
promised reserve t s h = record { base = one_proofs.promised reserve t.base s.base h.base; numbers = all_differ (map trade_number t.obligations) h.falling; owed = h.owed; owed_once = h.once }

-- what a run of Level Two comes to
pub ran : (rows : List Row) (room : ℕ) (settings : Settings) (cs : List Call) (rest : List (Result ℤ Refusal)) (s0 left : State) (outs : List (Result ℤ Refusal)) → s0 ≡ begin rows room settings → outs ≡ outcomes_of call_of s0 cs ++ rest → left ≡ state_after call_of s0 cs → Finished call_of entered (Law settings.reserve) (rows ≡ []) empty (begin rows room settings) cs rest left outs
ran rows room settings = finished call_of entered (Promise settings.reserve) (Law settings.reserve) (call_keeps settings.reserve) (promised settings.reserve) (rows ≡ []) empty (begin rows room settings) (begin_keeps rows room settings)
