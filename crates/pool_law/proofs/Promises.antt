-- What a call keeps: the law in the form that a proof by steps wants.
use Rattle.std.proofs.Common.{◌≡◌, ℕ, ◌≤◌, List, map, None, Option}
use Rattle.std.specs.List.{AllByRecursion}
use Rattle.full_law.specs.Lists.{find_by}
use Rattle.full_law.proofs.Promises as one
use Rattle.partial.specs.declared.obligation.Obligation.{Obligation}
use Rattle.partial_law.specs.Law.{owed_under, places_under}
use Rattle.partial_law.specs.Tally.{trade_number}
use Rattle.partial_law.proofs.Promises.{Falling}
use Rattle.pool.specs.declared.leg.Leg.{Leg}
use Rattle.pool.specs.declared.leg.Leg.TheVariants.{Securities, Money}
use Rattle.pool.specs.State.{State}
use Rattle.pool_law.specs.Law.{left_of, times}
use Rattle.pool_law.specs.Tally.{Tally, numbers_settled}

-- the numbers under which legs of one kind were settled, beside the noted obligations
pub record Settled (xs : List Obligation) (ns : List ℕ) : Type 0 where
  pub once : (n : ℕ) → times n ns ≤ 1
  pub noted : (n : ℕ) → find_by trade_number n xs ≡ None → times n ns ≡ 0

-- the table of obligations, beside the noted ones and the numbers under which each leg was settled
pub record Legs (numbers : Leg → List ℕ) (xs : List Obligation) (os : List (Option Obligation)) : Type 0 where
  pub owed : (n : ℕ) → owed_under n os ≡ left_of (times n (numbers Securities)) (times n (numbers Money)) (find_by trade_number n xs)
  pub once : (n : ℕ) → places_under n os ≤ 1
  pub settled : (leg : Leg) → Settled xs (numbers leg)

-- what a state keeps to a tally
pub record Promise (reserve : ℕ) (t : Tally) (s : State) : Type 0 where
  pub base : one.Promise reserve t.base.base s.base
  pub falling : Falling (map trade_number t.base.obligations)
  pub fresh : AllByRecursion (λ (o : Obligation). trade_number o ≤ s.base.last_trade) t.base.obligations
  pub legs : Legs (numbers_settled t) t.base.obligations s.obligations
