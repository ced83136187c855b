-- A trade keeps the promise.
use Rattle.std.proofs.Common.{◌≡◌, ℕ, ◌-◌, ◌<◌, ◌≤◌, true, List, [], ◌∷◌, ◌++◌, length, get_or, set, pos, ◌-ℤ◌, Some, None, Ok, Option, sym, refl, ap, ◌∙◌, subst, arith, length-set}
use Rattle.std.specs.List.{list_all}
use Rattle.std.proofs.lemmas.List.{get_or-set_other}
use Rattle.registers.specs.declared.key.Key.{Key}
use Rattle.registers.specs.declared.row.Row.{Row}
use Rattle.registers.specs.Amounts.{money_of}
use Rattle.registers.specs.Registers.{in_range}
use Rattle.registers.specs.Stores.{put_row}
use Rattle.full.specs.declared.side.Side.TheVariants.{Buy, Sell}
use Rattle.full.specs.declared.mode.Mode.TheVariants.{Full}
use Rattle.full.specs.declared.deal.Deal.{Deal}
use Rattle.full.specs.Orders.{Live, has_number, lowered}
use Rattle.full.specs.Blocks.{cash_key, holding_key, block_units}
use Rattle.full.specs.Checks.{PlacedOf, found_of, PairOf, pair_of, is_buy, is_full}
use Rattle.full.specs.declared.open_register.OpenRegister.{OpenRegister}
use Rattle.full.specs.declared.trade_registers.TradeRegisters.{TradeRegisters}
use Rattle.full.specs.declared.register_move.Move.{Move}
use Rattle.full.specs.State.{State, with_rows, with_orders, with_last_trade}
use Rattle.full.specs.Trades.{trade_registers_of, ended_of, moves_of, moved_all, lower_at, exchange_of, trade_of}
use Rattle.full.proofs.Swaps.{Apart}
use Rattle.full.specs.OpenRegisters.{paid_of, limit_raised}
use Rattle.full.proofs.Places.{Stands, Parts, four_parts, four_apart}
use Rattle.full.specs.declared.call.Call.TheVariants.{Trade}
use Rattle.full_law.specs.Lists.{find_by, replace_by}
use Rattle.full_law.specs.Tally.{Tally, Note, entered, number, rest_of, standing, with_traded, register_of, trade_leaving_rest, traded_on}
use Rattle.full_law.specs.Law.{lives}
use Rattle.full_law.proofs.Promises.{Books, Orders, Promise, Whole, base_of, slack_of}
use Rattle.plans.proofs.Keeping.{Keeps, by_demand, by_step, by_steps}
use Rattle.full_law.proofs.Fairness.{covers}
use Rattle.full_law.proofs.Keys.{all_at, at_key, replaced_apart}
use Rattle.full_law.proofs.Lives.{order_changed}
use Rattle.full_law.proofs.Moves.{Passed, two_checks, raised_books, freed_books}
use Rattle.full_law.proofs.Rows.{same_key_lem}
use Rattle.full_law.proofs.Steps.{Open, found_place, noted_order}
use Rattle.full_law.proofs.Trades.{Matched, pair_matched, is_full_lem, both_full, is_buy_lem, is_sell, units_buy, units_sell, key_buy, key_sell, open_kept, traded_whole, traded_lives, traded_blocks, leaving_apart, leaving_here, slack_grows}
use Rattle.full_law.proofs.Units.{left_over, money_less}
use Rattle.full_law.proofs.Withdraws.{blocks_apart}

open_stands : (rows : List Row) (k : Key) (h : OpenRegister) → Stands rows k h → Open rows k h
open_stands rows k h s = record { row = s.row; at = s.at; key = same_key_lem s.row.key k s.bears; figures = s.figures }

ended_moves : (r : TradeRegisters) (q v b : ℕ) (ms : List Move) → ended_of r q v b ≡ Ok ms → moves_of r q v b ≡ ms
unfolding ended_of
ended_moves r q v b ms e =
    let p : Passed (list_all in_range (r.buyer_cash.figures ∷ r.seller_cash.figures ∷ r.buyer_holding.figures ∷ r.seller_holding.figures ∷ [])) (list_all (λ (m : Move). in_range m.after) (moves_of r q v b)) (moves_of r q v b) ms = two_checks _ _ _ _ _ _ e in
    p.same

-- one order of a trade: its note, and its place in the book
pub record Side-of (notes : List Note) (os : List (Option Live)) (n i : ℕ) (o : Live) (q : ℕ) : Type 0 where
  pub note : Note
  pub at_n : find_by number n notes ≡ Some note
  pub is : o ≡ standing note
  pub numbered : number note ≡ n
  pub whole : Whole note
  pub rest : q ≤ rest_of note
  pub within : i < length os
  pub holds : get_or os i None ≡ Some o
  pub bears : has_number n (get_or os i None) ≡ true

side_of : (notes : List Note) (os : List (Option Live)) (last : ℕ) (h : Orders notes os last) (n i : ℕ) (o : Live) (q : ℕ) → found_of os n ≡ Ok (record { place = i; order = o }) → q ≤ o.rest → Side-of notes os n i o q
side_of notes os last h n i o q e l =
    let pl = found_place os n (record { place = i; order = o }) e in
    let nd = noted_order notes n o os last h pl.slot in
    record {
      note = nd.note;
      at_n = nd.at_n;
      is = nd.order;
      numbered = at_key number n notes nd.note nd.at_n;
      whole = all_at number Whole n notes nd.note h.whole nd.at_n;
      rest = omega (arith, l, ap (λ (x : Live). x.rest) nd.order);
      within = pl.within;
      holds = pl.holds;
      bears = ap (has_number n) pl.holds ∙ pl.bears;
    }

-- the place of an order, lowered as its note is
lowered_place : (notes : List Note) (os : List (Option Live)) (n i : ℕ) (o : Live) (q : ℕ) (x : Side-of notes os n i o q) → lower_at os i q ≡ set os i (lives (Some (with_traded q x.note)))
lowered_place notes os n i o q x =
    ap (set os i) (ap (λ (z : Option Live). lowered z q) (x.holds ∙ ap Some x.is) ∙ traded_lives x.note q x.whole x.rest)

-- the two orders of a trade, of either mode: their notes, and the book and the tally after it
pub record Halves (t : Tally) (s : State) (d : Deal) (p : PairOf) : Type 0 where
  pub buy : Side-of t.notes s.orders d.buy p.buy_place p.buy p.quantity
  pub sell : Side-of t.notes s.orders d.sell p.sell_place p.sell p.quantity
  pub sell_noted : find_by number d.sell (replace_by number (with_traded p.quantity buy.note) t.notes) ≡ Some sell.note
  pub orders : Orders (replace_by number (with_traded p.quantity sell.note) (replace_by number (with_traded p.quantity buy.note) t.notes)) (lower_at (lower_at s.orders p.buy_place p.quantity) p.sell_place p.quantity) s.last_order
  pub tally : entered t (Trade d) ≡ record {
    ratios = t.ratios;
    opened = t.opened;
    notes = replace_by number (with_traded p.quantity sell.note) (replace_by number (with_traded p.quantity buy.note) t.notes);
    trades_leaving_rest = trade_leaving_rest (with_traded p.quantity sell.note) ++ (trade_leaving_rest (with_traded p.quantity buy.note) ++ t.trades_leaving_rest);
  }

module _ (reserve : ℕ) (t : Tally) (s : State) (h : Promise reserve t s) (d : Deal) (p : PairOf) (mp : Matched s.orders s.last_trade d p) where
  apart_sides : p.buy ≡ p.sell → ⊥
  apart_sides e =
      let a = mp.buys in
      let b = mp.sells in
      let c = ap (λ (x : Live). is_buy x.side) e in
      let z : ◌≡◌ {A = ℕ} 0 1 = cc in
      omega arith

  apart_numbers : d.buy ≡ d.sell → ⊥
  apart_numbers e =
      let f : ◌≡◌ {A = PlacedOf} (record { place = p.buy_place; order = p.buy }) (record { place = p.sell_place; order = p.sell }) = (let a = mp.buy_found in let b = mp.sell_found in let c = ap (found_of s.orders) e in cc) in
      apart_sides (ap (λ (x : PlacedOf). x.order) f)

  bx : Side-of t.notes s.orders d.buy p.buy_place p.buy p.quantity
  bx = side_of t.notes s.orders s.last_order h.orders d.buy p.buy_place p.buy p.quantity mp.buy_found mp.buy_rest

  sy : Side-of t.notes s.orders d.sell p.sell_place p.sell p.quantity
  sy = side_of t.notes s.orders s.last_order h.orders d.sell p.sell_place p.sell p.quantity mp.sell_found mp.sell_rest

  apart_places : p.buy_place ≡ p.sell_place → ⊥
  apart_places e =
      let a = bx.holds in
      let b = sy.holds in
      let c = ap (λ (i : ℕ). get_or s.orders i None) e in
      let f : p.buy ≡ p.sell = cc in
      apart_sides f

  -- the notes after each half of the trade
  abbrev x' : Note
  x' = with_traded p.quantity bx.note

  abbrev y' : Note
  y' = with_traded p.quantity sy.note

  abbrev notes1 : List Note
  notes1 = replace_by number x' t.notes

  abbrev notes2 : List Note
  notes2 = replace_by number y' notes1

  abbrev leaving1 : List Key
  leaving1 = trade_leaving_rest x' ++ t.trades_leaving_rest

  abbrev leaving2 : List Key
  leaving2 = trade_leaving_rest y' ++ leaving1

  abbrev os1 : List (Option Live)
  os1 = set s.orders p.buy_place (lives (Some x'))

  sell_noted : find_by number d.sell notes1 ≡ Some sy.note
  sell_noted = replaced_apart number d.buy x' t.notes d.sell bx.numbered (λ e. apart_numbers (sym e)) ∙ sy.at_n

  orders1 : Orders notes1 os1 s.last_order
  orders1 = order_changed t.notes s.orders s.last_order h.orders d.buy p.buy_place bx.note x' bx.at_n bx.numbered (traded_whole bx.note p.quantity bx.whole bx.rest) bx.within bx.bears

  sell_place_lem : get_or os1 p.sell_place None ≡ get_or s.orders p.sell_place None
  sell_place_lem = get_or-set_other s.orders p.buy_place p.sell_place (lives (Some x')) None (λ e. apart_places (sym e))

  orders2 : Orders notes2 (set os1 p.sell_place (lives (Some y'))) s.last_order
  orders2 =
      order_changed notes1 os1 s.last_order orders1 d.sell p.sell_place sy.note y' sell_noted sy.numbered (traded_whole sy.note p.quantity sy.whole sy.rest)
      (omega (arith, sy.within, length-set s.orders p.buy_place (lives (Some x')))) (ap (has_number d.sell) sell_place_lem ∙ sy.bears)

  same_orders : lower_at (lower_at s.orders p.buy_place p.quantity) p.sell_place p.quantity ≡ set os1 p.sell_place (lives (Some y'))
  same_orders =
      ap (λ (os : List (Option Live)). lower_at os p.sell_place p.quantity) (lowered_place t.notes s.orders d.buy p.buy_place p.buy p.quantity bx)
      ∙ ap (set os1 p.sell_place) (ap (λ (z : Option Live). lowered z p.quantity) (sell_place_lem ∙ sy.holds ∙ ap Some sy.is) ∙ traded_lives sy.note p.quantity sy.whole sy.rest)

  -- the tally's feeding comes to the same
  abbrev fed : ℕ → Option Note → Tally
  fed q o = traded_on (traded_on t q o) q (find_by number d.sell (traded_on t q o).notes)

  same_tally : entered t (Trade d) ≡ record { ratios = t.ratios; opened = t.opened; notes = notes2; trades_leaving_rest = leaving2 }
  same_tally =
      ap (λ (q : ℕ). fed q (find_by number d.buy t.notes)) (sym mp.quantity)
      ∙ ap (fed p.quantity) bx.at_n
      ∙ ap (traded_on (traded_on t p.quantity (Some bx.note)) p.quantity) sell_noted

  pub halves : Halves t s d p
  halves = record { buy = bx; sell = sy; sell_noted = sell_noted; orders = subst (λ (os : List (Option Live)). Orders notes2 os s.last_order) (sym same_orders) orders2; tally = same_tally }

  module _ (full : is_full p.buy.mode ≡ true) where
    -- modes, sides and keys of the two notes
    buy_mode : bx.note.order.mode ≡ Full
    buy_mode = sym (ap (λ (o : Live). o.mode) bx.is) ∙ is_full_lem p.buy.mode full

    buy_side : bx.note.order.side ≡ Buy
    buy_side = sym (ap (λ (o : Live). o.side) bx.is) ∙ is_buy_lem p.buy.side mp.buys

    sell_mode : sy.note.order.mode ≡ Full
    sell_mode = sym (ap (λ (o : Live). o.mode) sy.is) ∙ both_full p.buy.mode p.sell.mode (is_full_lem p.buy.mode full) mp.same_mode_lem

    sell_side : sy.note.order.side ≡ Sell
    sell_side = sym (ap (λ (o : Live). o.side) sy.is) ∙ is_sell p.sell.side mp.sells

    buy_key : cash_key p.buy.account ≡ register_of bx.note
    buy_key = ap cash_key (ap (λ (o : Live). o.account) bx.is) ∙ key_buy bx.note.order.mode bx.note.order.side bx.note.order.account bx.note.order.security buy_mode buy_side

    sell_key : holding_key p.sell.account p.buy.security ≡ register_of sy.note
    sell_key =
        ap (holding_key p.sell.account) (mp.security ∙ ap (λ (o : Live). o.security) sy.is)
        ∙ ap (λ (a : ℕ). holding_key a sy.note.order.security) (ap (λ (o : Live). o.account) sy.is)
        ∙ key_sell sy.note.order.mode sy.note.order.side sy.note.order.account sy.note.order.security sell_mode sell_side

    -- what the two blocks fall by
    abbrev buy_freed : ℕ
    buy_freed = block_units bx.note.order.mode bx.note.order.side p.quantity bx.note.order.price bx.note.order.ratio

    abbrev sell_freed : ℕ
    sell_freed = block_units sy.note.order.mode sy.note.order.side p.quantity sy.note.order.price sy.note.order.ratio

    buy_freed_lem : money_of p.quantity p.buy.price ≡ buy_freed
    buy_freed_lem = ap (money_of p.quantity) (ap (λ (o : Live). o.price) bx.is) ∙ sym (units_buy bx.note.order.mode bx.note.order.side p.quantity bx.note.order.price bx.note.order.ratio buy_mode buy_side)

    sell_freed_lem : p.quantity ≡ sell_freed
    sell_freed_lem = sym (units_sell sy.note.order.mode sy.note.order.side p.quantity sy.note.order.price sy.note.order.ratio sell_mode sell_side)

    module _ (r : TradeRegisters) (er : trade_registers_of s.rows p.buy.account p.sell.account p.buy.security ≡ Ok r) where
      abbrev value : ℕ
      value = money_of p.quantity p.price

      abbrev block : ℕ
      block = money_of p.quantity p.buy.price

      parts : Parts s.rows p.buy.account p.sell.account p.buy.security r
      parts = four_parts s.rows p.buy.account p.sell.account p.buy.security r er

      lie_apart : Apart (moves_of r p.quantity value block)
      lie_apart = four_apart s.rows p.buy.account p.sell.account p.buy.security r parts mp.accounts p.quantity value block

      abbrev rows_a : List Row
      rows_a = put_row s.rows r.buyer_cash.place (paid_of r.buyer_cash.figures value block)

      abbrev rows_b : List Row
      rows_b = put_row rows_a r.seller_cash.place (limit_raised r.seller_cash.figures value)

      abbrev rows_c : List Row
      rows_c = put_row rows_b r.buyer_holding.place (limit_raised r.buyer_holding.figures p.quantity)

      books_a : Books reserve t.opened notes1 leaving1 rows_a
      unfolding paid_of
      books_a =
          let o = traded_blocks t.notes d.buy bx.note bx.at_n p.quantity bx.whole bx.rest in
          freed_books reserve t.opened t.notes t.trades_leaving_rest s.rows h.books (register_of bx.note) r.buyer_cash
          (subst (λ (k : Key). Open s.rows k r.buyer_cash) buy_key (open_stands s.rows (cash_key p.buy.account) r.buyer_cash parts.buyer_cash))
          buy_freed value (slack_of (register_of bx.note) (left_over (rest_of bx.note - p.quantity))) notes1 leaving1
          (λ opening. covers (base_of (register_of bx.note) opening reserve) value buy_freed (omega (arith, money_less p.quantity p.price p.buy.price mp.price, buy_freed_lem)))
          (λ j off. (blocks_apart t.notes d.buy bx.note x' bx.at_n bx.numbered refl j off, leaving_apart bx.note p.quantity bx.whole bx.rest t.trades_leaving_rest j off))
          (ap (slack_of (register_of bx.note)) (leaving_here bx.note p.quantity bx.whole bx.rest t.trades_leaving_rest) ∙ slack_grows (register_of bx.note) _ _)
          o.most o.least
          (paid_of r.buyer_cash.figures value block) refl (ap (λ (u : ℕ). r.buyer_cash.figures.blocked -ℤ pos u) buy_freed_lem)

      books_b : Books reserve t.opened notes1 leaving1 rows_b
      unfolding limit_raised
      books_b =
          raised_books reserve t.opened notes1 leaving1 rows_a books_a (cash_key p.sell.account) r.seller_cash
          (open_kept s.rows (cash_key p.sell.account) r.seller_cash r.buyer_cash.place _ (lie_apart 0 1 0 (omega arith) (omega arith)) (open_stands s.rows (cash_key p.sell.account) r.seller_cash parts.seller_cash)) value (limit_raised r.seller_cash.figures value) refl refl

      books_c : Books reserve t.opened notes1 leaving1 rows_c
      unfolding limit_raised
      books_c =
          raised_books reserve t.opened notes1 leaving1 rows_b books_b (holding_key p.buy.account p.buy.security) r.buyer_holding
          (open_kept rows_a (holding_key p.buy.account p.buy.security) r.buyer_holding r.seller_cash.place _ (lie_apart 1 2 0 (omega arith) (omega arith))
          (open_kept s.rows (holding_key p.buy.account p.buy.security) r.buyer_holding r.buyer_cash.place _ (lie_apart 0 2 0 (omega arith) (omega arith)) (open_stands s.rows (holding_key p.buy.account p.buy.security) r.buyer_holding parts.buyer_holding))) p.quantity (limit_raised r.buyer_holding.figures p.quantity) refl refl

      giver_open : Open rows_c (register_of sy.note) r.seller_holding
      giver_open =
          subst (λ (k : Key). Open rows_c k r.seller_holding) sell_key
          (open_kept rows_b (holding_key p.sell.account p.buy.security) r.seller_holding r.buyer_holding.place _ (lie_apart 2 3 0 (omega arith) (omega arith))
          (open_kept rows_a (holding_key p.sell.account p.buy.security) r.seller_holding r.seller_cash.place _ (lie_apart 1 3 0 (omega arith) (omega arith))
          (open_kept s.rows (holding_key p.sell.account p.buy.security) r.seller_holding r.buyer_cash.place _ (lie_apart 0 3 0 (omega arith) (omega arith)) (open_stands s.rows (holding_key p.sell.account p.buy.security) r.seller_holding parts.seller_holding))))

      books_d : Books reserve t.opened notes2 leaving2 (moved_all s.rows (moves_of r p.quantity value block))
      unfolding paid_of
      books_d =
          let o = traded_blocks notes1 d.sell sy.note sell_noted p.quantity sy.whole sy.rest in
          freed_books reserve t.opened notes1 leaving1 rows_c books_c (register_of sy.note) r.seller_holding giver_open
          sell_freed p.quantity (slack_of (register_of sy.note) (left_over (rest_of sy.note - p.quantity))) notes2 leaving2
          (λ opening. covers (base_of (register_of sy.note) opening reserve) p.quantity sell_freed (omega (arith, sell_freed_lem)))
          (λ j off. (blocks_apart notes1 d.sell sy.note y' sell_noted sy.numbered refl j off, leaving_apart sy.note p.quantity sy.whole sy.rest leaving1 j off))
          (ap (slack_of (register_of sy.note)) (leaving_here sy.note p.quantity sy.whole sy.rest leaving1) ∙ slack_grows (register_of sy.note) _ _)
          o.most o.least
          (paid_of r.seller_holding.figures p.quantity p.quantity) refl (ap (λ (u : ℕ). r.seller_holding.figures.blocked -ℤ pos u) sell_freed_lem)

      pub dealt : (ms : List Move) → ended_of r p.quantity value block ≡ Ok ms → Promise reserve (entered t (Trade d)) (with_last_trade (with_orders (with_rows s (moved_all s.rows ms)) (lower_at (lower_at s.orders p.buy_place p.quantity) p.sell_place p.quantity)) d.number)
      dealt ms em =
          subst (λ (u : Tally). Promise reserve u (with_last_trade (with_orders (with_rows s (moved_all s.rows ms)) (lower_at (lower_at s.orders p.buy_place p.quantity) p.sell_place p.quantity)) d.number)) (sym same_tally)
          (record {
            reserved = h.reserved;
            ratios = h.ratios;
            orders = subst (λ (os : List (Option Live)). Orders notes2 os s.last_order) (sym same_orders) orders2;
            books = subst (λ (ns : List Move). Books reserve t.opened notes2 leaving2 (moved_all s.rows ns)) (ended_moves r p.quantity value block ms em) books_d;
          })

module _ (reserve : ℕ) (t : Tally) (s : State) (h : Promise reserve t s) (d : Deal) where
  pub trade_keeps : Keeps (Promise reserve (entered t (Trade d))) (trade_of s d)
  unfolding trade_of exchange_of
  trade_keeps =
      by_step (Promise reserve (entered t (Trade d))) (pair_of s.orders s.last_trade d) _ λ p ep.
      by_demand (Promise reserve (entered t (Trade d))) (is_full p.buy.mode) _ _ λ full.
      by_steps (Promise reserve (entered t (Trade d))) (trade_registers_of s.rows p.buy.account p.sell.account p.buy.security) _ _ λ r er m em.
      dealt reserve t s h d p (pair_matched s.orders s.last_trade d p ep) full r er m em
