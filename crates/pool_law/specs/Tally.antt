-- The tally of Level Three: that of Level Two, fed with the same calls, and the trades whose legs were settled.
use Rattle.std.specs.Prelude.{ℕ, List, [], ◌∷◌}
use Rattle.partial_law.specs.Tally as two
use Rattle.pool.specs.declared.call.Call.{Call}
use Rattle.pool.specs.declared.call.Call.TheVariants.{Partial, Earmark, Deliver, Pay, Close}
use Rattle.pool.specs.declared.leg.Leg.{Leg}
use Rattle.pool.specs.declared.leg.Leg.TheVariants.{Securities, Money}

-- the trades, by their numbers, whose securities were delivered, and those whose money was paid
pub record Tally : Type 0 where
  pub base : two.Tally
  pub deliveries : List ℕ
  pub payments : List ℕ

abbrev pub empty : Tally
empty = record { base = two.empty; deliveries = []; payments = [] }

-- the trades, by their numbers, of which a leg was settled
abbrev pub numbers_settled : Tally → Leg → List ℕ
numbers_settled t Securities = t.deliveries
numbers_settled t Money = t.payments

-- the tally with an accepted call
abbrev pub entered : Tally → Call → Tally
entered t (Partial c) = record t { base = two.entered t.base c }
entered t (Earmark code security) = t
entered t (Deliver number) = record t { deliveries = number ∷ t.deliveries }
entered t (Pay number) = record t { payments = number ∷ t.payments }
entered t Close = t
