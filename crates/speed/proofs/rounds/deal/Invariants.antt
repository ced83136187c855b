use Rattle.std.proofs.Common.{◌≡◌}
use Rattle.speed.proofs.rounds.deal.Given as goal

abbrev pub invariant-loop-round : goal.invariant-loop-round
invariant-loop-round g l = (l.purchases.made ≡ l.round) × (l.sales.made ≡ l.round) × (l.trades.made ≡ l.round)
