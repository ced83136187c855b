-- An accepted trade's number is above the last.
use Rattle.std.proofs.Common.{◌≡◌, ℕ, ◌<◌, ltb, List, Ok, Option, arith}
use Rattle.std.proofs.lemmas.Bool.{ltb-true}
use Rattle.full.specs.declared.deal.Deal.{Deal}
use Rattle.plans.specs.declared.refusal.Refusal.TheVariants.{BadValue}
use Rattle.full.specs.Orders.{Live}
use Rattle.full.specs.Terms.{bargain_of}
use Rattle.full.specs.Checks.{PairOf, pair_of}
use Rattle.plans.specs.Steps.{or_refuse}
use Rattle.plans.proofs.Keeping.{stepped}
use Rattle.plans.proofs.Passes.{passed}

pub trade_above : (os : List (Option Live)) (last : ℕ) (d : Deal) (p : PairOf) → pair_of os last d ≡ Ok p → last < d.number
unfolding pair_of
trade_above os last d p e =
    let b = stepped (or_refuse (bargain_of d) BadValue) _ p e in
    let c = passed (ltb last d.number) _ _ p b.1.1 in
    omega (arith, ltb-true last d.number c.0)
