-- The law over whole runs of Level Two.
use Rattle.std.specs.Prelude.{◌≡◌, ◌≢◌, ◌≤◌, ℕ, List, map, AllPairs, count_by, Option}
use Rattle.full_law.specs.Lists.{find_by, held_by}
use Rattle.full_law.specs.Law as one
use Rattle.partial.specs.declared.obligation.Obligation.{Obligation}
use Rattle.partial.specs.Obligations.{has_number}
use Rattle.partial.specs.State.{State}
use Rattle.partial_law.specs.Tally.{Tally, trade_number}

-- the obligation that a table holds under a trade's number, and how many places hold one
abbrev pub owed_under : ℕ → List (Option Obligation) → Option Obligation
owed_under n os = held_by (has_number n) os

abbrev pub places_under : ℕ → List (Option Obligation) → ℕ
places_under n os = count_by (has_number n) os

-- the law: that of Level One, of the registers of participants too, and that the obligations are those noted, with
-- both legs owed, each in one place
pub record Law (reserve : ℕ) (t : Tally) (s : State) : Type 0 where
  pub base : one.Law reserve t.base s.base
  -- no two accepted trades in partial mode bear one number
  pub numbers : AllPairs (λ (m n : ℕ). m ≢ n) (map trade_number t.obligations)
  pub owed : (n : ℕ) → owed_under n s.obligations ≡ find_by trade_number n t.obligations
  pub owed_once : (n : ℕ) → places_under n s.obligations ≤ 1
