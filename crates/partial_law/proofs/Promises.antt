-- What a call keeps: the law in the form that a proof by steps wants.
use Rattle.std.proofs.Common.{◌≡◌, ℕ, ◌<◌, ◌≤◌, List, [], ◌∷◌, map}
use Rattle.std.specs.List.{AllByRecursion}
use Rattle.full_law.specs.Lists.{find_by}
use Rattle.full_law.proofs.Promises as one
use Rattle.partial.specs.declared.obligation.Obligation.{Obligation}
use Rattle.partial.specs.State.{State}
use Rattle.partial_law.specs.Tally.{Tally, trade_number}
use Rattle.partial_law.specs.Law.{owed_under, places_under}

-- numbers each of which is above those after it
abbrev pub Falling : List ℕ → Type 0
Falling [] = Unit {0}
Falling (n ∷ ns) = AllByRecursion (λ (m : ℕ). m < n) ns × Falling ns

-- what a state keeps to a tally
pub record Promise (reserve : ℕ) (t : Tally) (s : State) : Type 0 where
  pub base : one.Promise reserve t.base s.base
  pub owed : (n : ℕ) → owed_under n s.obligations ≡ find_by trade_number n t.obligations
  pub once : (n : ℕ) → places_under n s.obligations ≤ 1
  pub falling : Falling (map trade_number t.obligations)
  pub fresh : AllByRecursion (λ (o : Obligation). trade_number o ≤ s.base.last_trade) t.obligations
