-- What each call of Level Two does.
use Rattle.std.specs.Prelude.{ℕ, Bool, if◌then◌else◌, ◌&&◌, List, [], ◌∷◌, pos, ◌+ℤ◌, ◌-ℤ◌, int_le, int_lt, Some, Ok, Result, ◌==◌, slice_set}
use Rattle.registers.specs.declared.figures.Figures.{Figures}
use Rattle.registers.specs.declared.row.Row.{Row}
use Rattle.registers.specs.declared.fault.StoreFault.TheVariants.{OutOfRange}
use Rattle.registers.specs.Amounts.{money_of, risk_of}
use Rattle.registers.specs.declared.kind.RegisterKind.TheVariants.{Participant}
use Rattle.registers.specs.Registers.{in_range, kind_number}
use Rattle.plans.specs.declared.refusal.Refusal.{Refusal}
use Rattle.plans.specs.declared.refusal.Refusal.TheVariants.{AboveCollateral, BadValue, LeavesRange, MarginCall, NotSpared, ObligationsFull, Store}
use Rattle.full.specs.declared.announcement.Announcement.{Announcement}
use Rattle.full.specs.declared.deal.Deal.{Deal}
use Rattle.full.specs.declared.mode.Mode.TheVariants.{Partial}
use Rattle.full.specs.declared.opening.Opening.{Opening}
use Rattle.full.specs.Checks.{PairOf, is_full, pair_of, ready_of}
use Rattle.plans.specs.Steps.{and_then, demand, or_refuse}
use Rattle.full.specs.Terms.{between, amount_ok, limit_ok, mode_number}
use Rattle.std.specs.Option.{unwrap_or}
use Rattle.full.specs.Orders.{Live, admitted_as}
use Rattle.full.specs.Blocks.{cash_key, holding_key, limit_key, participant_key}
use Rattle.full.specs.declared.open_register.OpenRegister.{OpenRegister}
use Rattle.full.specs.State.{with_last_trade, with_orders, with_rows}
use Rattle.full.specs.Trades.{changes_of, ends_in_range, in_order, lower_at, move_to, moved_all}
use Rattle.full.specs.OpenRegisters.{paid_of, register_at, moving, rows_with, with_figures_of}
use Rattle.full.specs.Calls as one
use Rattle.full.specs.Trades as one_trades
use Rattle.full.specs.State as one_state
use Rattle.partial.specs.Obligations.{free_place}
use Rattle.partial.specs.State.{State, Step, with_base, down}
use Rattle.partial.specs.declared.stage.Stage.TheVariants.{BothOwed}
use Rattle.partial.specs.declared.drawn.Drawn.{Drawn}
use Rattle.partial.specs.declared.limits.TheConstants.{MOST_PARTICIPANT}
use Rattle.partial.specs.declared.obligation.Obligation.{Obligation}

unfoldable pub participant_ok : ℕ → Bool
participant_ok n = between 1 MOST_PARTICIPANT n

-- a participant's limit as it begins: the collateral equals the limit, and the margin is blocked
unfoldable pub limit_row : Opening → Row
limit_row o = record { key = limit_key o.code; figures = record { limit = pos o.limit; blocked = pos o.margin; third = pos o.limit } }

unfoldable pub limit_opening_ok : Opening → Bool
limit_opening_ok o = o.security == 0 && (participant_ok o.code && (limit_ok o.limit && limit_ok o.margin))

-- open: 5, 7 (kind 2), 1, 2; answers the count of rows
unfoldable pub open_of : State → Opening → Step
open_of s o =
    if o.kind == kind_number Participant
    then demand (limit_opening_ok o) BadValue (down s (one.enter_of s.base (limit_row o)))
    else down s (one.open_of s.base o)

-- the register that covers an order with partial collateral is its participant's limit; the account's cash and
-- its holding have to be open too
unfoldable pub cover_at : List Row → Live → Result OpenRegister Refusal
cover_at rs o =
    and_then (register_at rs (cash_key o.account)) (λ cash.
    and_then (register_at rs (holding_key o.account o.security)) (λ holding.
    register_at rs (participant_key o.account)))

-- announce: 5, 8, 7, 9, 6, 25, 10; answers the block
unfoldable pub announce_of : State → Announcement → Step
announce_of s a =
    if a.mode == mode_number Partial
    then and_then (ready_of s.base.securities s.base.orders s.base.last_order a) (λ r.
    and_then (cover_at s.base.rows r.order) (λ h.
    down s (one.placed_of s.base r h)))
    else down s (one.announce_of s.base a)

-- what a trade moves of the limits of its two participants: each limit falls by the charge, each blocked figure by
-- the block of the quantity at the order's own price. If both are one participant's, the seller's move starts where
-- the buyer's ends
abbrev pub drawing : OpenRegister → OpenRegister → ℕ → ℕ → ℕ → Drawn
drawing a b charge buy_block sell_block =
    let bought : Figures = paid_of a.figures charge buy_block in
    let start : Figures = if a.place == b.place then bought else b.figures in
    record {
      buyer = move_to a bought;
      seller = move_to (with_figures_of b start) (paid_of start charge sell_block);
    }

-- 25 and 26, each over both
unfoldable pub drawn_from : OpenRegister → OpenRegister → ℕ → ℕ → ℕ → Result Drawn Refusal
drawn_from a b charge buy_block sell_block =
    demand (in_range a.figures && in_range b.figures) (Store OutOfRange)
    (let w : Drawn = drawing a b charge buy_block sell_block in
    demand (ends_in_range w.buyer w.seller) LeavesRange
    (Ok w))

-- the moves of a trade between two orders in partial mode, under the ratio in force: 6, 25, 26
unfoldable pub drawn_of : List Row → PairOf → ℕ → Result Drawn Refusal
drawn_of rs p ratio =
    and_then (register_at rs (participant_key p.buy.account)) (λ a.
    and_then (register_at rs (participant_key p.sell.account)) (λ b.
    drawn_from a b (risk_of p.quantity p.price ratio) (risk_of p.quantity p.buy.price p.buy.ratio) (risk_of p.quantity p.sell.price p.sell.ratio)))

-- the ratio that is in force for the orders' security; orders of a security that is not admitted, which no
-- announcement makes, have the buy order's
abbrev pub ratio_for : one_state.State → PairOf → ℕ
ratio_for s p = unwrap_or (admitted_as s.securities p.buy.security) p.buy.ratio

-- what the trade leaves owed: the seller's account the quantity, the buyer's the money at the trade's price
abbrev pub owed_of : ℕ → PairOf → Obligation
owed_of n p = record { number = n; seller = p.sell.account; buyer = p.buy.account; security = p.buy.security; quantity = p.quantity; money = money_of p.quantity p.price; stage = BothOwed }

-- a trade between two orders in partial mode: 18, 6, 25, 26; answers the money. Two moves of one participant's
-- limit are one change.
unfoldable pub partial_trade_of : State → ℕ → PairOf → Step
partial_trade_of s n p =
    and_then (or_refuse (free_place s.obligations) ObligationsFull) (λ i.
    and_then (drawn_of s.base.rows p (ratio_for s.base p)) (λ w.
    Ok (record {
      answer = pos (money_of p.quantity p.price);
      changes = changes_of (in_order (w.buyer ∷ w.seller ∷ []));
      next = record {
        base = with_last_trade (with_orders (with_rows s.base (moved_all s.base.rows (w.buyer ∷ w.seller ∷ []))) (lower_at (lower_at s.base.orders p.buy_place p.quantity) p.sell_place p.quantity)) n;
        obligations = slice_set s.obligations i (Some (owed_of n p));
      };
    })))

-- trade: 5, 12, 11, 13 to 17, and then as the mode says
unfoldable pub trade_of : State → Deal → Step
trade_of s d =
    and_then (pair_of s.base.orders s.base.last_trade d) (λ p.
    if is_full p.buy.mode then down s (one_trades.trade_of s.base d) else partial_trade_of s d.number p)

-- limit and collateral rise
unfoldable pub posted : Figures → ℕ → Figures
posted f m = record f { limit = f.limit +ℤ pos m; third = f.third +ℤ pos m }

unfoldable pub post_on : OpenRegister → ℕ → Result OpenRegister Refusal
post_on h m =
    demand (in_range h.figures) (Store OutOfRange)
    (demand (in_range (posted h.figures m)) LeavesRange
    (Ok (with_figures_of h (posted h.figures m))))

-- post: 5, 6, 25, 26; answers the new limit
unfoldable pub post_of : State → ℕ → ℕ → Step
post_of s participant amount =
    demand (participant_ok participant && amount_ok amount) BadValue
    (and_then (register_at s.base.rows (limit_key participant)) (λ h.
    and_then (post_on h amount) (λ c.
    Ok (record { answer = c.figures.limit; changes = moving h.place h.figures c.figures; next = with_base s (with_rows s.base (rows_with s.base.rows c)) }))))

-- limit and collateral fall
unfoldable pub debited : Figures → ℕ → Figures
debited f m = record f { limit = f.limit -ℤ pos m; third = f.third -ℤ pos m }

-- 20, 19, 21
unfoldable pub spared : Figures → ℕ → Result Figures Refusal
spared f m =
    demand (int_le (pos m) f.third) AboveCollateral
    (demand (int_le f.blocked f.limit) MarginCall
    (demand (int_lt f.blocked (debited f m).limit) NotSpared
    (Ok (debited f m))))

unfoldable pub debit_on : OpenRegister → ℕ → Result OpenRegister Refusal
debit_on h m =
    demand (in_range h.figures) (Store OutOfRange)
    (and_then (spared h.figures m) (λ f.
    Ok (with_figures_of h f)))

-- debit: 5, 6, 25, 20, 19, 21; answers the new limit
unfoldable pub debit_of : State → ℕ → ℕ → Step
debit_of s participant amount =
    demand (participant_ok participant && amount_ok amount) BadValue
    (and_then (register_at s.base.rows (limit_key participant)) (λ h.
    and_then (debit_on h amount) (λ c.
    Ok (record { answer = c.figures.limit; changes = moving h.place h.figures c.figures; next = with_base s (with_rows s.base (rows_with s.base.rows c)) }))))
