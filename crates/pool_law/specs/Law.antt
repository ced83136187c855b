-- The law over whole runs of Level Three.
use Rattle.std.specs.Prelude.{◌≡◌, ◌≢◌, ◌≤◌, ℕ, zero, suc, ◌+◌, if◌then◌else◌, ◌==◌, List, map, All, AllPairs, count_by, Some, None, Option}
use Rattle.full_law.specs.Lists.{find_by}
use Rattle.full_law.specs.Law as one
use Rattle.partial.specs.declared.obligation.Obligation.{Obligation}
use Rattle.partial.specs.declared.stage.Stage.TheVariants.{BothOwed, MoneyOwed, SecuritiesOwed}
use Rattle.partial_law.specs.Law.{owed_under, places_under}
use Rattle.partial_law.specs.Tally.{trade_number}
use Rattle.pool.specs.declared.leg.Leg.{Leg}
use Rattle.pool.specs.declared.leg.Leg.TheVariants.{Securities, Money}
use Rattle.pool.specs.Stages.{is_owed, with_stage}
use Rattle.pool.specs.State.{State}
use Rattle.pool_law.specs.Tally.{Tally, numbers_settled}

-- how often a number stands in a list
abbrev pub times : ℕ → List ℕ → ℕ
times n ns = count_by (λ m. m == n) ns

-- how often a leg was settled under a trade's number
abbrev pub times_settled : Tally → Leg → ℕ → ℕ
times_settled t leg n = times n (numbers_settled t leg)

-- how often a leg is owed, by what a table holds under a trade's number: once or not at all
abbrev pub times_owed : Leg → Option Obligation → ℕ
times_owed leg None = 0
times_owed leg (Some o) = if is_owed o.stage leg then 1 else 0

-- what is left of a noted obligation, by how often its securities and how often its money were settled: both legs
-- owed, the money alone, the securities alone, or nothing; and nothing where none was noted
abbrev pub left_of : ℕ → ℕ → Option Obligation → Option Obligation
left_of delivered paid None = None
left_of zero zero (Some o) = Some (with_stage o BothOwed)
left_of (suc delivered) zero (Some o) = Some (with_stage o MoneyOwed)
left_of zero (suc paid) (Some o) = Some (with_stage o SecuritiesOwed)
left_of (suc delivered) (suc paid) (Some o) = None

-- the law: that of Level One, of the registers of participants too, and that each leg of an obligation is owed
-- until it is settled, once
pub record Law (reserve : ℕ) (t : Tally) (s : State) : Type 0 where
  pub base : one.Law reserve t.base.base s.base
  -- no two accepted trades in partial mode bear one number
  pub numbers : AllPairs (λ (m n : ℕ). m ≢ n) (map trade_number t.base.obligations)
  -- each leg of each noted obligation either is owed or was settled, and that once
  pub legs : All (λ (o : Obligation). (leg : Leg) → times_owed leg (owed_under o.number s.obligations) + times_settled t leg o.number ≡ 1) t.base.obligations
  -- nothing else was settled
  pub nothing_else : (n : ℕ) (leg : Leg) → find_by trade_number n t.base.obligations ≡ None → times_settled t leg n ≡ 0
  -- the table holds exactly what is left of the noted obligations, each in one place
  pub owed : (n : ℕ) → owed_under n s.obligations ≡ left_of (times_settled t Securities n) (times_settled t Money n) (find_by trade_number n t.base.obligations)
  pub owed_once : (n : ℕ) → places_under n s.obligations ≤ 1
