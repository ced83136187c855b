-- The state of Level Two: that of Level One, and the places of the obligations.
use Rattle.std.specs.Prelude.{ℕ, List, replicate, ℤ, None, Option, Result}
use Rattle.registers.specs.declared.row.Row.{Row}
use Rattle.plans.specs.declared.refusal.Refusal.{Refusal}
use Rattle.plans.specs.Plans.{Plan, handed}
use Rattle.full.specs.State as one
use Rattle.full.specs.declared.settings.Settings.{Settings}
use Rattle.partial.specs.declared.obligation.Obligation.{Obligation}
use Rattle.partial.specs.declared.obligations.TheConstants.{MOST_OBLIGATIONS}

pub record State : Type 0 where
  pub base : one.State
  pub obligations : List (Option Obligation)

abbrev pub begin : List Row → ℕ → Settings → State
begin rows room settings = record { base = one.begin rows room settings; obligations = replicate MOST_OBLIGATIONS None }

abbrev pub with_base : State → one.State → State
with_base s b = record s { base = b }

-- a plan of this level, and one of the level below, handed down
abbrev pub Step : Type 0
Step = Result (Plan ℤ State) Refusal

abbrev pub down : State → one.Step → Step
down s r = handed (with_base s) r
