-- The stages of an obligation, and what becomes of it once a leg is settled.
use Rattle.std.specs.Prelude.{Bool, true, false, Some, None, Ok, Err, Option, Result}
use Rattle.plans.specs.declared.refusal.Refusal.{Refusal}
use Rattle.plans.specs.declared.refusal.Refusal.TheVariants.{LegSettled}
use Rattle.plans.specs.Steps.{ok_as}
use Rattle.partial.specs.declared.obligation.Obligation.{Obligation}
use Rattle.partial.specs.declared.stage.Stage.{Stage}
use Rattle.partial.specs.declared.stage.Stage.TheVariants.{BothOwed, MoneyOwed, SecuritiesOwed}
use Rattle.pool.specs.declared.leg.Leg.{Leg}
use Rattle.pool.specs.declared.leg.Leg.TheVariants.{Securities, Money}

-- the stage once a leg is settled: none after the second, and no leg is settled twice
abbrev pub stage_after : Stage → Leg → Result (Option Stage) Refusal
stage_after BothOwed Securities = Ok (Some MoneyOwed)
stage_after BothOwed Money = Ok (Some SecuritiesOwed)
stage_after MoneyOwed Securities = Err LegSettled
stage_after MoneyOwed Money = Ok None
stage_after SecuritiesOwed Securities = Ok None
stage_after SecuritiesOwed Money = Err LegSettled

-- whether a leg is owed at a stage
abbrev pub is_owed : Stage → Leg → Bool
is_owed BothOwed Securities = true
is_owed BothOwed Money = true
is_owed MoneyOwed Securities = false
is_owed MoneyOwed Money = true
is_owed SecuritiesOwed Securities = true
is_owed SecuritiesOwed Money = false

abbrev pub with_stage : Obligation → Stage → Obligation
with_stage o stage = record o { stage = stage }

abbrev pub staged : Obligation → Option Stage → Option Obligation
staged o None = None
staged o (Some stage) = Some (with_stage o stage)

-- an obligation once a leg is settled: none after the second
abbrev pub settled : Obligation → Leg → Result (Option Obligation) Refusal
settled o leg = ok_as (staged o) (stage_after o.stage leg)
