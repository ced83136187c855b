-- Orders on their way into and out of the book, as the rules speak of them.
use Rattle.full.specs.declared.placed_order.PlacedOrder.{PlacedOrder}
use Rattle.full.specs.declared.pair.Pair.{Pair}
use Rattle.full.specs.Orders.{live_of}
use Rattle.full.specs.Checks.{PlacedOf, PairOf}

abbrev pub placed_as : PlacedOrder → PlacedOf
placed_as p = record { place = p.place; order = live_of p.order }

abbrev pub pair_as : Pair → PairOf
pair_as p = record { buy_place = p.buy_place; sell_place = p.sell_place; buy = live_of p.buy; sell = live_of p.sell; quantity = p.quantity.value; price = p.price.value }
