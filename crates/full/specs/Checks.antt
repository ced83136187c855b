-- The checks of announcements and trades up to the registers.
use Rattle.std.specs.Prelude.{ℕ, Bool, true, false, not, ◌&&◌, List, None, Ok, Option, Result, ◌==◌, nat_le, nat_lt, slice_index_or}
use Rattle.plans.specs.declared.refusal.Refusal.{Refusal}
use Rattle.plans.specs.declared.refusal.Refusal.TheVariants.{BadValue, NotAdmitted, OrderNumberNotAbove, OrdersFull, NoOrder, TradeNumberNotAbove, WrongSide, Mismatch, SameAccount, AboveRest, PriceOutside}
use Rattle.full.specs.declared.side.Side.{Side}
use Rattle.full.specs.declared.side.Side.TheVariants.{Buy, Sell}
use Rattle.full.specs.declared.mode.Mode.{Mode}
use Rattle.full.specs.declared.mode.Mode.TheVariants.{Full, Partial}
use Rattle.full.specs.declared.announcement.Announcement.{Announcement}
use Rattle.full.specs.declared.deal.Deal.{Deal}
use Rattle.full.specs.Orders.{Live, Admitted, admitted_as, place_of_order, free_place}
use Rattle.full.specs.Terms.{TermsOf, terms_of, bargain_of}
use Rattle.plans.specs.Steps.{and_then, demand, or_refuse}

-- an order and its place: the one that it has, or the one that it takes when it is announced
pub record PlacedOf : Type 0 where
  pub place : ℕ
  pub order : Live

abbrev pub announced : Announcement → TermsOf → ℕ → Live
announced a t k = record { number = a.number; side = a.side; mode = t.mode; account = a.account; security = a.security; price = t.price; ratio = k; rest = t.quantity }

-- the checks of an announcement up to the registers, for both modes: 5, 8, 7, 9
unfoldable pub ready_of : List Admitted → List (Option Live) → ℕ → Announcement → Result PlacedOf Refusal
ready_of ss os last a =
    and_then (or_refuse (terms_of a) BadValue) (λ t.
    demand (nat_lt last a.number) OrderNumberNotAbove
    (and_then (or_refuse (admitted_as ss a.security) NotAdmitted) (λ k.
    and_then (or_refuse (free_place os) OrdersFull) (λ i.
    Ok (record { place = i; order = announced a t k })))))

-- a live order and its place
unfoldable pub found_of : List (Option Live) → ℕ → Result PlacedOf Refusal
found_of os n =
    and_then (or_refuse (place_of_order n os) NoOrder) (λ i.
    and_then (or_refuse (slice_index_or os i None) NoOrder) (λ o.
    Ok (record { place = i; order = o })))

abbrev pub is_buy : Side → Bool
is_buy Buy = true
is_buy Sell = false

abbrev pub is_full : Mode → Bool
is_full Full = true
is_full Partial = false

abbrev pub same_mode : Mode → Mode → Bool
same_mode Full m = is_full m
same_mode Partial m = not (is_full m)

-- the two orders of a trade, their places, and its numbers
pub record PairOf : Type 0 where
  pub buy_place : ℕ
  pub sell_place : ℕ
  pub buy : Live
  pub sell : Live
  pub quantity : ℕ
  pub price : ℕ

-- the checks on the two orders: 13, 14, 15, 16, 17
unfoldable pub matched_of : PairOf → Result PairOf Refusal
matched_of p =
    demand (is_buy p.buy.side && not (is_buy p.sell.side)) WrongSide
    (demand (p.buy.security == p.sell.security && same_mode p.buy.mode p.sell.mode) Mismatch
    (demand (not (p.buy.account == p.sell.account)) SameAccount
    (demand (nat_le p.quantity p.buy.rest && nat_le p.quantity p.sell.rest) AboveRest
    (demand (nat_le p.price p.buy.price && nat_le p.sell.price p.price) PriceOutside
    (Ok p)))))

-- the checks of a trade up to the registers, for both modes: 5, 12, 11, and those on the orders
unfoldable pub pair_of : List (Option Live) → ℕ → Deal → Result PairOf Refusal
pair_of os last d =
    and_then (or_refuse (bargain_of d) BadValue) (λ b.
    demand (nat_lt last d.number) TradeNumberNotAbove
    (and_then (found_of os d.buy) (λ x.
    and_then (found_of os d.sell) (λ y.
    matched_of (record { buy_place = x.place; sell_place = y.place; buy = x.order; sell = y.order; quantity = b.quantity; price = b.price })))))
