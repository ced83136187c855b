-- What a trade does: its checks in their order, the registers that it moves, and the state it leaves.
use Rattle.std.specs.Prelude.{◌≡◌, ℕ, ◌<◌, Bool, if◌then◌else◌, ◌&&◌, ◌||◌, List, [], ◌∷◌, ◌++◌, pos, None, Ok, Option, Result, ◌==◌, nat_lt, slice_index_or, slice_set}
use Rattle.std.specs.List.{AllByRecursion, list_all}
use Rattle.registers.specs.declared.figures.Figures.{Figures}
use Rattle.registers.specs.declared.row.Row.{Row}
use Rattle.registers.specs.declared.fault.StoreFault.TheVariants.{OutOfRange}
use Rattle.registers.specs.Amounts.{money_of}
use Rattle.registers.specs.Registers.{in_range}
use Rattle.registers.specs.Stores.{put_row}
use Rattle.registers.specs.Changes.{Change}
use Rattle.plans.specs.declared.refusal.Refusal.{Refusal}
use Rattle.plans.specs.declared.refusal.Refusal.TheVariants.{BadValue, LeavesRange, Store}
use Rattle.full.specs.declared.register_move.Move.{Move}
use Rattle.full.specs.declared.trade_registers.TradeRegisters.{TradeRegisters}
use Rattle.full.specs.declared.open_register.OpenRegister.{OpenRegister}
use Rattle.full.specs.declared.deal.Deal.{Deal}
use Rattle.full.specs.Orders.{Live, lowered}
use Rattle.full.specs.State.{State, Step, with_rows, with_orders, with_last_trade}
use Rattle.plans.specs.Steps.{and_then, demand}
use Rattle.full.specs.OpenRegisters.{register_at, FiguresAt, moving, replaced, replacing, paid_of, limit_raised}
use Rattle.full.specs.Blocks.{cash_key, holding_key}
use Rattle.full.specs.Checks.{PairOf, is_full, pair_of}

-- the four registers of a trade with full collateral: the buyer's cash, the seller's cash, the
-- buyer's holding and the seller's; check 6 runs over all of them
unfoldable pub trade_registers_of : List Row → ℕ → ℕ → ℕ → Result TradeRegisters Refusal
trade_registers_of rs buyer seller security =
    and_then (register_at rs (cash_key buyer)) (λ a.
    and_then (register_at rs (cash_key seller)) (λ b.
    and_then (register_at rs (holding_key buyer security)) (λ c.
    and_then (register_at rs (holding_key seller security)) (λ d.
    Ok (record { buyer_cash = a; seller_cash = b; buyer_holding = c; seller_holding = d })))))

abbrev pub move_to : OpenRegister → Figures → Move
move_to h f = record { place = h.place; before = h.figures; after = f }

-- whether the registers of two moves end in range: where both are of one, it ends where the second move does
abbrev pub ends_in_range : Move → Move → Bool
ends_in_range m n = in_range n.after && (m.place == n.place || in_range m.after)

-- the moves of a trade: each register's, in the order above
abbrev pub moves_of : TradeRegisters → ℕ → ℕ → ℕ → List Move
moves_of r q value block =
    move_to r.buyer_cash (paid_of r.buyer_cash.figures value block)
    ∷ move_to r.seller_cash (limit_raised r.seller_cash.figures value)
    ∷ move_to r.buyer_holding (limit_raised r.buyer_holding.figures q)
    ∷ move_to r.seller_holding (paid_of r.seller_holding.figures q q)
    ∷ []

-- checks 25 and 26, each over all four
unfoldable pub ended_of : TradeRegisters → ℕ → ℕ → ℕ → Result (List Move) Refusal
ended_of r q value block =
    demand (list_all in_range (r.buyer_cash.figures ∷ r.seller_cash.figures ∷ r.buyer_holding.figures ∷ r.seller_holding.figures ∷ [])) (Store OutOfRange)
    (demand (list_all (λ m. in_range m.after) (moves_of r q value block)) LeavesRange
    (Ok (moves_of r q value block)))

-- the rows once a move is put, and once moves are put, one after the other
abbrev pub moved : List Row → Move → List Row
moved rs m = put_row rs m.place m.after

abbrev pub moved_all : List Row → List Move → List Row
moved_all rs [] = rs
moved_all rs (m ∷ ms) = moved_all (moved rs m) ms

-- something that moves lead on, one after the other
abbrev pub folded : {X : Type 0} → (X → Move → X) → X → List Move → X
folded step x [] = x
folded step x (m ∷ ms) = folded step (step x m) ms

-- two moves of one place, the second of which starts where the first ends, as one
abbrev pub gathered : Move → Move → Move
gathered m n = record m { after = n.after }

-- the same moves, one for each place, the lowest place first
abbrev pub put_in : List Move → Move → List Move
put_in [] m = m ∷ []
put_in (n ∷ ns) m = if nat_lt n.place m.place then n ∷ put_in ns m else (if m.place == n.place then gathered n m ∷ ns else m ∷ n ∷ ns)

abbrev pub in_order : List Move → List Move
in_order ms = folded put_in [] ms

-- the changes of moves, in their order: none of a move whose figures stay
abbrev pub changes_of : List Move → List Change
changes_of [] = []
changes_of (m ∷ ms) = moving m.place m.before m.after ++ changes_of ms

-- the moves of a trade between two orders: 6, 25, 26
unfoldable pub exchange_of : List Row → PairOf → Result (List Move) Refusal
exchange_of rs p =
    and_then (trade_registers_of rs p.buy.account p.sell.account p.buy.security) (λ r.
    ended_of r p.quantity (money_of p.quantity p.price) (money_of p.quantity p.buy.price))

-- an order's rest, lowered in its place
abbrev pub lower_at : List (Option Live) → ℕ → ℕ → List (Option Live)
lower_at os i q = slice_set os i (lowered (slice_index_or os i None) q)

-- trade: 5, 12, 11, 13, 14, 15, 16, 17, 6, 25, 26; answers the money. This level answers 5 to a pair
-- of orders in partial mode, which its own announcements never make.
unfoldable pub trade_of : State → Deal → Step
trade_of s d =
    and_then (pair_of s.orders s.last_trade d) (λ p.
    demand (is_full p.buy.mode) BadValue
    (and_then (exchange_of s.rows p) (λ ms.
    Ok (record {
      answer = pos (money_of p.quantity p.price);
      changes = changes_of (in_order ms);
      next = with_last_trade (with_orders (with_rows s (moved_all s.rows ms)) (lower_at (lower_at s.orders p.buy_place p.quantity) p.sell_place p.quantity)) d.number;
    }))))

-- the rows once moves are put one after the other, whatever stands at their places, and the changes that this is
unfoldable pub replaced_all : List Row → List Move → List Row
replaced_all rs [] = rs
replaced_all rs (m ∷ ms) = replaced_all (replaced rs m.place m.before m.after) ms

unfoldable pub replacing_all : List Row → List Move → List Change
replacing_all rs [] = []
replacing_all rs (m ∷ ms) = replacing rs m.place m.before m.after ++ replacing_all (replaced rs m.place m.before m.after) ms

-- moves each of which starts from what stands once those before it are put
abbrev pub Following : List Row → List Move → Type 0
Following rs [] = Unit {0}
Following rs (m ∷ ms) = FiguresAt rs m.place m.before × Following (moved rs m) ms

-- moves each of which starts from what stands before any of them is put
abbrev pub Standing : List Row → List Move → Type 0
Standing rs ms = AllByRecursion (λ (m : Move). FiguresAt rs m.place m.before) ms

-- moves of places that rise: one for each place, the lowest place first
abbrev pub Above : ℕ → List Move → Type 0
Above n ms = AllByRecursion (λ (m : Move). n < m.place) ms

abbrev pub Rising : List Move → Type 0
Rising [] = Unit {0}
Rising (m ∷ ms) = Above m.place ms × Rising ms

-- moves in order are so, and moves that follow one another lead to the same rows in order
abbrev pub OrderedRising : Type 0
OrderedRising = (ms : List Move) → Rising (in_order ms)

abbrev pub OrderedLeads : Type 0
OrderedLeads = (rs : List Row) (ms : List Move) → Following rs ms → Following rs (in_order ms) × (moved_all rs (in_order ms) ≡ moved_all rs ms)

-- whatever stands at their places, moves lead to the same rows in order; and where each starts from what stands
-- before any of them is put, each does in order
abbrev pub OrderedSame : Type 0
OrderedSame = (rs : List Row) (ms : List Move) → moved_all rs (in_order ms) ≡ moved_all rs ms

abbrev pub OrderedStanding : Type 0
OrderedStanding = (rs : List Row) (ms : List Move) → Standing rs ms → Standing rs (in_order ms)
