-- A trade between two orders in partial mode keeps Level One's promise, of its registers, its book and its tally.
use Rattle.std.proofs.Common.{◌≡◌, ℕ, ◌-◌, true, false, cond, eqb, List, [], ◌∷◌, ◌++◌, pos, ◌-ℤ◌, Ok, sym, refl, ap, ◌∙◌, subst}
use Rattle.seek.proofs.Cases.{no_case}
use Rattle.registers.specs.declared.key.Key.{Key}
use Rattle.registers.specs.declared.figures.Figures.{Figures}
use Rattle.registers.specs.declared.row.Row.{Row}
use Rattle.registers.specs.Amounts.{risk_of}
use Rattle.registers.specs.Stores.{put_row, with_figures}
use Rattle.full.specs.declared.mode.Mode.{Mode}
use Rattle.full.specs.declared.mode.Mode.TheVariants.{Full, Partial}
use Rattle.full.specs.declared.side.Side.{Side}
use Rattle.full.specs.declared.side.Side.TheVariants.{Buy, Sell}
use Rattle.full.specs.declared.deal.Deal.{Deal}
use Rattle.full.specs.Orders.{Live}
use Rattle.full.specs.Blocks.{participant_key, block_key, block_units}
use Rattle.full.specs.Checks.{PairOf, is_full, same_mode}
use Rattle.plans.proofs.Keeping.{stepped}
use Rattle.full.specs.declared.open_register.OpenRegister.{OpenRegister}
use Rattle.full.specs.State.{State, with_last_trade, with_orders, with_rows}
use Rattle.full.specs.OpenRegisters.{register_at, paid_of}
use Rattle.full.specs.Trades.{lower_at, moved_all}
use Rattle.full.specs.declared.call.Call.TheVariants.{Trade}
use Rattle.full_law.specs.Lists.{replace_by}
use Rattle.full_law.specs.Tally.{Tally, Note, entered, number, rest_of, with_traded, trade_leaving_rest, register_of}
use Rattle.full_law.proofs.Promises.{Books, Promise, base_of, slack_of}
use Rattle.full_law.proofs.Dealt.{Halves, halves}
use Rattle.full_law.proofs.Fairness.{Covers}
use Rattle.full_law.proofs.Moves.{freed_books}
use Rattle.full_law.proofs.Steps.{Open, open_at}
use Rattle.full_law.proofs.Trades.{Matched, traded_blocks, leaving_apart, leaving_here, slack_grows}
use Rattle.full_law.proofs.Units.{left_over}
use Rattle.full_law.proofs.Withdraws.{blocks_apart}
use Rattle.partial.specs.declared.drawn.Drawn.{Drawn}
use Rattle.partial.specs.Calls.{drawn_of}
use Rattle.partial.proofs.Draws.{drawn_is}
use Rattle.full.proofs.Follows.{after_put}

-- modes, keys and blocks
pub key_partial : (m : Mode) (sd : Side) (ac se : ℕ) → m ≡ Partial → participant_key ac ≡ block_key m sd ac se
key_partial Full sd ac se e = no_case (cc)
key_partial Partial Buy ac se e = refl
key_partial Partial Sell ac se e = refl

units_partial : (m : Mode) (s : Side) (q p k : ℕ) → m ≡ Partial → risk_of q p k ≡ block_units m s q p k
units_partial Full s q p k e = no_case (cc)
units_partial Partial Buy q p k e = refl
units_partial Partial Sell q p k e = refl

pub is_partial : (m : Mode) → is_full m ≡ false → m ≡ Partial
is_partial Full e = no_case (cc)
is_partial Partial e = refl

both_partial : (m n : Mode) → m ≡ Partial → same_mode m n ≡ true → n ≡ Partial
both_partial Full n e f = no_case (cc)
both_partial Partial Full e f = no_case (cc)
both_partial Partial Partial e f = refl

-- an open register after a put at a place, which may be its own
open_after_put : (rows : List Row) (k : Key) (b : OpenRegister) (i : ℕ) (f : Figures) → Open rows k b → Open (put_row rows i f) k (record { place = b.place; figures = cond (eqb i b.place) f b.figures })
open_after_put rows k b i f o =
    record {
      row = with_figures o.row (cond (eqb i b.place) f o.row.figures);
      at = after_put rows i b.place f o.row o.at;
      key = o.key;
      figures = ap (cond (eqb i b.place) f) o.figures;
    }

module _ (reserve : ℕ) (t : Tally) (s : State) (h : Promise reserve t s) (d : Deal) (p : PairOf) (mp : Matched s.orders s.last_trade d p) (partly : is_full p.buy.mode ≡ false) where
  hv : Halves t s d p
  hv = halves reserve t s h d p mp

  abbrev x : Note
  x = hv.buy.note

  abbrev y : Note
  y = hv.sell.note

  abbrev notes1 : List Note
  notes1 = replace_by number (with_traded p.quantity x) t.notes

  abbrev notes2 : List Note
  notes2 = replace_by number (with_traded p.quantity y) notes1

  abbrev leaving1 : List Key
  leaving1 = trade_leaving_rest (with_traded p.quantity x) ++ t.trades_leaving_rest

  abbrev leaving2 : List Key
  leaving2 = trade_leaving_rest (with_traded p.quantity y) ++ leaving1

  buy_mode : x.order.mode ≡ Partial
  buy_mode = sym (ap (λ (o : Live). o.mode) hv.buy.is) ∙ is_partial p.buy.mode partly

  sell_mode : y.order.mode ≡ Partial
  sell_mode = sym (ap (λ (o : Live). o.mode) hv.sell.is) ∙ both_partial p.buy.mode p.sell.mode (is_partial p.buy.mode partly) mp.same_mode_lem

  buy_key : participant_key p.buy.account ≡ register_of x
  buy_key = ap participant_key (ap (λ (o : Live). o.account) hv.buy.is) ∙ key_partial x.order.mode x.order.side x.order.account x.order.security buy_mode

  sell_key : participant_key p.sell.account ≡ register_of y
  sell_key = ap participant_key (ap (λ (o : Live). o.account) hv.sell.is) ∙ key_partial y.order.mode y.order.side y.order.account y.order.security sell_mode

  abbrev buy_freed : ℕ
  buy_freed = block_units x.order.mode x.order.side p.quantity x.order.price x.order.ratio

  abbrev sell_freed : ℕ
  sell_freed = block_units y.order.mode y.order.side p.quantity y.order.price y.order.ratio

  buy_freed_lem : risk_of p.quantity p.buy.price p.buy.ratio ≡ buy_freed
  buy_freed_lem = ap (λ (o : Live). risk_of p.quantity o.price o.ratio) hv.buy.is ∙ units_partial x.order.mode x.order.side p.quantity x.order.price x.order.ratio buy_mode

  sell_freed_lem : risk_of p.quantity p.sell.price p.sell.ratio ≡ sell_freed
  sell_freed_lem = ap (λ (o : Live). risk_of p.quantity o.price o.ratio) hv.sell.is ∙ units_partial y.order.mode y.order.side p.quantity y.order.price y.order.ratio sell_mode

  module _ (k : ℕ) (a b : OpenRegister) (ea : register_at s.rows (participant_key p.buy.account) ≡ Ok a) (eb : register_at s.rows (participant_key p.sell.account) ≡ Ok b) where
    abbrev value : ℕ
    value = risk_of p.quantity p.price k

    abbrev bought : Figures
    bought = paid_of a.figures value (risk_of p.quantity p.buy.price p.buy.ratio)

    abbrev again : OpenRegister
    again = record { place = b.place; figures = cond (eqb a.place b.place) bought b.figures }

    abbrev sold : Figures
    sold = paid_of again.figures value (risk_of p.quantity p.sell.price p.sell.ratio)

    abbrev rows1 : List Row
    rows1 = put_row s.rows a.place bought

    buyer_open : Open s.rows (participant_key p.buy.account) a
    buyer_open = open_at s.rows (participant_key p.buy.account) a ea

    seller_open : Open rows1 (participant_key p.sell.account) again
    seller_open = open_after_put s.rows (participant_key p.sell.account) b a.place bought (open_at s.rows (participant_key p.sell.account) b eb)

    books1 : Books reserve t.opened notes1 leaving1 rows1
    unfolding paid_of
    books1 =
        let o = traded_blocks t.notes d.buy x hv.buy.at_n p.quantity hv.buy.whole hv.buy.rest in
        freed_books reserve t.opened t.notes t.trades_leaving_rest s.rows h.books (register_of x) a (subst (λ (k : Key). Open s.rows k a) buy_key buyer_open)
        buy_freed value (slack_of (register_of x) (left_over (rest_of x - p.quantity))) notes1 leaving1
        (λ opening. subst (λ (k : Key). Covers (base_of k opening reserve) value buy_freed) buy_key tt)
        (λ j off. (blocks_apart t.notes d.buy x (with_traded p.quantity x) hv.buy.at_n hv.buy.numbered refl j off, leaving_apart x p.quantity hv.buy.whole hv.buy.rest t.trades_leaving_rest j off))
        (ap (slack_of (register_of x)) (leaving_here x p.quantity hv.buy.whole hv.buy.rest t.trades_leaving_rest) ∙ slack_grows (register_of x) _ _)
        o.most o.least bought refl (ap (λ (u : ℕ). a.figures.blocked -ℤ pos u) buy_freed_lem)

    books2 : Books reserve t.opened notes2 leaving2 (put_row rows1 b.place sold)
    unfolding paid_of
    books2 =
        let o = traded_blocks notes1 d.sell y hv.sell_noted p.quantity hv.sell.whole hv.sell.rest in
        freed_books reserve t.opened notes1 leaving1 rows1 books1 (register_of y) again (subst (λ (k : Key). Open rows1 k again) sell_key seller_open)
        sell_freed value (slack_of (register_of y) (left_over (rest_of y - p.quantity))) notes2 leaving2
        (λ opening. subst (λ (k : Key). Covers (base_of k opening reserve) value sell_freed) sell_key tt)
        (λ j off. (blocks_apart notes1 d.sell y (with_traded p.quantity y) hv.sell_noted hv.sell.numbered refl j off, leaving_apart y p.quantity hv.sell.whole hv.sell.rest leaving1 j off))
        (ap (slack_of (register_of y)) (leaving_here y p.quantity hv.sell.whole hv.sell.rest leaving1) ∙ slack_grows (register_of y) _ _)
        o.most o.least sold refl (ap (λ (u : ℕ). again.figures.blocked -ℤ pos u) sell_freed_lem)

  -- the state that a trade in partial mode leaves below
  abbrev pub below : Drawn → State
  below w = with_last_trade (with_orders (with_rows s (moved_all s.rows (w.buyer ∷ w.seller ∷ []))) (lower_at (lower_at s.orders p.buy_place p.quantity) p.sell_place p.quantity)) d.number

  pub partial_trade_keeps : (k : ℕ) (w : Drawn) → drawn_of s.rows p k ≡ Ok w → Promise reserve (entered t (Trade d)) (below w)
  unfolding drawn_of
  partial_trade_keeps k w e =
      let a = stepped (register_at s.rows (participant_key p.buy.account)) _ w e in
      let b = stepped (register_at s.rows (participant_key p.sell.account)) _ w a.1.1 in
      let is = drawn_is a.0 b.0 _ _ _ w b.1.1 in
      subst (λ (u : Tally). Promise reserve u (below w)) (sym hv.tally)
      (record {
        reserved = h.reserved;
        ratios = h.ratios;
        orders = hv.orders;
        books = subst (λ (z : Drawn). Books reserve t.opened notes2 leaving2 (moved_all s.rows (z.buyer ∷ z.seller ∷ []))) is (books2 k a.0 b.0 a.1.0 b.1.0);
      })
