-- A trade keeps the promise.
use Rattle.std.proofs.Common.{◌≡◌, ℕ, ◌+◌, ◌-◌, ◌<◌, ◌≤◌, Bool, true, false, cond, not, ◌&&◌, eqb, ltb, leb, List, [], ◌∷◌, ◌++◌, Some, None, Ok, Err, Option, Result, sym, refl, ap, ◌∙◌, subst, arith}
use Rattle.std.proofs.lemmas.Bool.{and_parts, leb-true, eqb-true, eqb-false, le-ltb, lt-ltb, leb-false}
use Rattle.registers.specs.declared.key.Key.{Key}
use Rattle.registers.specs.declared.figures.Figures.{Figures}
use Rattle.registers.specs.declared.row.Row.{Row}
use Rattle.registers.specs.Amounts.{money_of}
use Rattle.registers.specs.Registers.{same_key}
use Rattle.registers.specs.Stores.{put_row}
use Rattle.full.specs.declared.side.Side.{Side}
use Rattle.full.specs.declared.side.Side.TheVariants.{Buy, Sell}
use Rattle.full.specs.declared.mode.Mode.{Mode}
use Rattle.full.specs.declared.mode.Mode.TheVariants.{Full, Partial}
use Rattle.full.specs.declared.deal.Deal.{Deal}
use Rattle.plans.specs.declared.refusal.Refusal.{Refusal}
use Rattle.plans.specs.declared.refusal.Refusal.TheVariants.{BadValue, TradeNumberNotAbove}
use Rattle.full.specs.Terms.{BargainOf, bargain_of}
use Rattle.plans.specs.Steps.{and_then, demand, or_refuse}
use Rattle.full.specs.declared.open_register.OpenRegister.{OpenRegister}
use Rattle.full.specs.Orders.{Live, lowered, resting}
use Rattle.full.specs.Blocks.{cash_key, holding_key, block_key, block_units, units_of}
use Rattle.full.specs.Checks.{PlacedOf, found_of, PairOf, matched_of, pair_of, is_buy, is_full, same_mode}
use Rattle.full_law.specs.Lists.{find_by, replace_by}
use Rattle.full_law.specs.Tally.{Note, number, rest_of, standing, with_traded, register_of, trade_leaving_rest, live_blocks, trades_leaving_rest_on}
use Rattle.full_law.specs.Law.{lives}
use Rattle.full_law.proofs.Promises.{Whole, slack_of}
use Rattle.seek.proofs.Cases.{no_case}
use Rattle.full_law.proofs.Keys.{at_key}
use Rattle.plans.proofs.Passes.{passed, of_ok}
use Rattle.full_law.proofs.Rows.{key_same, put_other}
use Rattle.full_law.proofs.Slots.{one, count_cons}
use Rattle.full_law.proofs.Steps.{Open}
use Rattle.full_law.proofs.Units.{Parts, left_over, units_parts}
use Rattle.full_law.proofs.Withdraws.{owed_here}

-- a note once q of its order are traded
module _ (x : Note) (q : ℕ) (w : Whole x) (l : q ≤ rest_of x) where
  pub traded_rest : rest_of (with_traded q x) ≡ rest_of x - q
  traded_rest = omega arith

  pub traded_whole : Whole (with_traded q x)
  traded_whole = omega arith

  -- its order's place, as the engine lowers it
  pub traded_lives : lowered (Some (standing x)) q ≡ lives (Some (with_traded q x))
  traded_lives = by (leb (rest_of x) q) refl
    where
      by : (b : Bool) → leb (rest_of x) q ≡ b → cond b None (Some (resting (standing x) (rest_of x - q))) ≡ lives (Some (with_traded q x))
      by true e =
          let z : rest_of (with_traded q x) ≡ 0 = omega (arith, leb-true (rest_of x) q e) in
          sym (ap (λ (c : Bool). cond c (Some (standing (with_traded q x))) None) (le-ltb 0 (rest_of (with_traded q x)) (omega arith)))
      by false e =
          let more : q < rest_of x = leb-false (rest_of x) q e in
          let t : ltb 0 (rest_of (with_traded q x)) ≡ true = lt-ltb 0 (rest_of (with_traded q x)) (omega (arith, traded_rest)) in
          ap (λ (n : ℕ). Some (resting x.order n)) (sym traded_rest) ∙ sym (ap (λ (c : Bool). cond c (Some (standing (with_traded q x))) None) t)

  -- that a trade left its rest counts on its register alone
  pub leaving_apart : (leaving : List Key) (j : Key) → same_key (register_of x) j ≡ false → trades_leaving_rest_on j (trade_leaving_rest (with_traded q x) ++ leaving) ≡ trades_leaving_rest_on j leaving
  leaving_apart leaving j off = by (ltb 0 (rest_of (with_traded q x)))
    where
      by : (b : Bool) → trades_leaving_rest_on j (cond b (register_of x ∷ []) [] ++ leaving) ≡ trades_leaving_rest_on j leaving
      by true = let e : one (same_key (register_of x) j) ≡ 0 = ap one off in omega (arith, count_cons (λ k. same_key k j) (register_of x) leaving)
      by false = refl

  pub leaving_here : (leaving : List Key) → trades_leaving_rest_on (register_of x) (trade_leaving_rest (with_traded q x) ++ leaving) ≡ trades_leaving_rest_on (register_of x) leaving + left_over (rest_of x - q)
  leaving_here leaving = ap (λ (n : ℕ). trades_leaving_rest_on (register_of x) (cond (ltb 0 n) (register_of x ∷ []) [] ++ leaving)) traded_rest ∙ by (ltb 0 (rest_of x - q))
    where
      by : (b : Bool) → trades_leaving_rest_on (register_of x) (cond b (register_of x ∷ []) [] ++ leaving) ≡ trades_leaving_rest_on (register_of x) leaving + cond b 1 0
      by true = let e : one (same_key (register_of x) (register_of x)) ≡ 1 = ap one (key_same (register_of x) (register_of x) refl) in omega (arith, count_cons (λ k. same_key k (register_of x)) (register_of x) leaving)
      by false = omega arith

-- what may be off grows by what the trade left
pub slack_grows : (k : Key) (a b : ℕ) → slack_of k (a + b) ≡ slack_of k a + slack_of k b
slack_grows k a b = by (eqb k.kind 2)
  where
    by : (c : Bool) → cond c 0 (a + b) ≡ cond c 0 a + cond c 0 b
    by true = refl
    by false = refl

-- the blocks on its register fall by the block of the quantity, but for what may be off
module _ (notes : List Note) (n : ℕ) (x : Note) (ex : find_by number n notes ≡ Some x) (q : ℕ) (w : Whole x) (l : q ≤ rest_of x) where
  pub traded_blocks : Parts (block_units x.order.mode x.order.side q x.order.price x.order.ratio) (live_blocks (register_of x) (replace_by number (with_traded q x) notes)) (live_blocks (register_of x) notes) (slack_of (register_of x) (left_over (rest_of x - q)))
  traded_blocks =
      let o = owed_here notes n x (with_traded q x) ex (at_key number n notes x ex) refl in
      let p = units_parts x.order.mode x.order.side x.order.account x.order.security q (rest_of x) x.order.price x.order.ratio l in
      let r : units_of (standing (with_traded q x)) ≡ block_units x.order.mode x.order.side (rest_of x - q) x.order.price x.order.ratio = ap (λ (m : ℕ). block_units x.order.mode x.order.side m x.order.price x.order.ratio) (traded_rest x q w l) in
      record { most = omega (arith, o, r, p.most); least = omega (arith, o, r, p.least) }

-- the facts of a pair that passed its checks
pub record Matched (os : List (Option Live)) (last : ℕ) (d : Deal) (p : PairOf) : Type 0 where
  pub buy_found : found_of os d.buy ≡ Ok (record { place = p.buy_place; order = p.buy })
  pub sell_found : found_of os d.sell ≡ Ok (record { place = p.sell_place; order = p.sell })
  pub buys : is_buy p.buy.side ≡ true
  pub sells : is_buy p.sell.side ≡ false
  pub same_mode_lem : same_mode p.buy.mode p.sell.mode ≡ true
  pub security : p.buy.security ≡ p.sell.security
  pub accounts : p.buy.account ≡ p.sell.account → ⊥
  pub buy_rest : p.quantity ≤ p.buy.rest
  pub sell_rest : p.quantity ≤ p.sell.rest
  pub price : p.price ≤ p.buy.price
  pub quantity : p.quantity ≡ d.quantity
  pub priced : p.price ≡ d.price

bargain_by : (d : Deal) (b : BargainOf) (c : Bool) → cond c (Some (record { quantity = d.quantity; price = d.price })) None ≡ Some b → (b.quantity ≡ d.quantity) × (b.price ≡ d.price)
bargain_by d b true e = let s : ◌≡◌ {A = BargainOf} (record { quantity = d.quantity; price = d.price }) b = cc in (sym (ap (λ (x : BargainOf). x.quantity) s), sym (ap (λ (x : BargainOf). x.price) s))
bargain_by d b false e = no_case (cc)

bargain_quantity : (d : Deal) (b : BargainOf) → bargain_of d ≡ Some b → (b.quantity ≡ d.quantity) × (b.price ≡ d.price)
unfolding bargain_of
bargain_quantity d b e = bargain_by d b _ e

not_true : (b : Bool) → not b ≡ true → b ≡ false
not_true true e = no_case (cc)
not_true false e = refl

module _ (os : List (Option Live)) (last : ℕ) (d : Deal) (p : PairOf) where
  matched_pair : (b : BargainOf) (x y : PlacedOf) → (b.quantity ≡ d.quantity) × (b.price ≡ d.price) → found_of os d.buy ≡ Ok x → found_of os d.sell ≡ Ok y → matched_of (record { buy_place = x.place; sell_place = y.place; buy = x.order; sell = y.order; quantity = b.quantity; price = b.price }) ≡ Ok p → Matched os last d p
  unfolding matched_of
  matched_pair b x y bq fx fy e =
      let sides = passed (is_buy x.order.side && not (is_buy y.order.side)) _ _ p e in
      let kinds = passed (eqb x.order.security y.order.security && same_mode x.order.mode y.order.mode) _ _ p sides.1 in
      let accounts = passed (not (eqb x.order.account y.order.account)) _ _ p kinds.1 in
      let rests = passed (leb b.quantity x.order.rest && leb b.quantity y.order.rest) _ _ p accounts.1 in
      let prices = passed (leb b.price x.order.price && leb y.order.price b.price) _ _ p rests.1 in
      let c1 = and_parts _ _ sides.0 in
      let c2 = and_parts _ _ kinds.0 in
      let c4 = and_parts _ _ rests.0 in
      let c5 = and_parts _ _ prices.0 in
      subst (Matched os last d) (of_ok prices.1)
      (record {
        buy_found = fx;
        sell_found = fy;
        buys = c1.0;
        sells = not_true (is_buy y.order.side) c1.1;
        same_mode_lem = c2.1;
        security = eqb-true x.order.security y.order.security c2.0;
        accounts = eqb-false x.order.account y.order.account (not_true (eqb x.order.account y.order.account) accounts.0);
        buy_rest = leb-true b.quantity x.order.rest c4.0;
        sell_rest = leb-true b.quantity y.order.rest c4.1;
        price = leb-true b.price x.order.price c5.0;
        quantity = bq.0;
        priced = bq.1;
      })

  pair_by : (bo : Option BargainOf) (lt : Bool) (fx fy : Result PlacedOf Refusal) → bargain_of d ≡ bo → found_of os d.buy ≡ fx → found_of os d.sell ≡ fy →
      and_then (or_refuse bo BadValue) (λ b. demand lt TradeNumberNotAbove (and_then fx (λ x. and_then fy (λ y. matched_of (record { buy_place = x.place; sell_place = y.place; buy = x.order; sell = y.order; quantity = b.quantity; price = b.price }))))) ≡ Ok p → Matched os last d p
  pair_by None lt fx fy e f g z = no_case (cc)
  pair_by (Some b) false fx fy e f g z = no_case (cc)
  pair_by (Some b) true (Err r) fy e f g z = no_case (cc)
  pair_by (Some b) true (Ok x) (Err r) e f g z = no_case (cc)
  pair_by (Some b) true (Ok x) (Ok y) e f g z = matched_pair b x y (bargain_quantity d b e) f g z

  pub pair_matched : pair_of os last d ≡ Ok p → Matched os last d p
  unfolding pair_of
  pair_matched e = pair_by (bargain_of d) (ltb last d.number) (found_of os d.buy) (found_of os d.sell) refl refl refl e

-- sides and modes
pub is_full_lem : (m : Mode) → is_full m ≡ true → m ≡ Full
is_full_lem Full e = refl
is_full_lem Partial e = no_case (cc)

pub both_full : (m n : Mode) → m ≡ Full → same_mode m n ≡ true → n ≡ Full
both_full Full n e f = is_full_lem n f
both_full Partial n e f = no_case (cc)

pub is_buy_lem : (s : Side) → is_buy s ≡ true → s ≡ Buy
is_buy_lem Buy e = refl
is_buy_lem Sell e = no_case (cc)

pub is_sell : (s : Side) → is_buy s ≡ false → s ≡ Sell
is_sell Buy e = no_case (cc)
is_sell Sell e = refl

pub units_buy : (m : Mode) (s : Side) (q p k : ℕ) → m ≡ Full → s ≡ Buy → block_units m s q p k ≡ money_of q p
units_buy Full Buy q p k e f = refl
units_buy Full Sell q p k e f = no_case (cc)
units_buy Partial s q p k e f = no_case (cc)

pub units_sell : (m : Mode) (s : Side) (q p k : ℕ) → m ≡ Full → s ≡ Sell → block_units m s q p k ≡ q
units_sell Full Sell q p k e f = refl
units_sell Full Buy q p k e f = no_case (cc)
units_sell Partial s q p k e f = no_case (cc)

pub key_buy : (m : Mode) (s : Side) (a n : ℕ) → m ≡ Full → s ≡ Buy → cash_key a ≡ block_key m s a n
key_buy Full Buy a n e f = refl
key_buy Full Sell a n e f = no_case (cc)
key_buy Partial s a n e f = no_case (cc)

pub key_sell : (m : Mode) (s : Side) (a n : ℕ) → m ≡ Full → s ≡ Sell → holding_key a n ≡ block_key m s a n
key_sell Full Sell a n e f = refl
key_sell Full Buy a n e f = no_case (cc)
key_sell Partial s a n e f = no_case (cc)

-- a put elsewhere leaves a register open as it was
pub open_kept : (rows : List Row) (k : Key) (h : OpenRegister) (i : ℕ) (f : Figures) → (i ≡ h.place → ⊥) → Open rows k h → Open (put_row rows i f) k h
open_kept rows k h i f ne o = record { row = o.row; at = put_other rows i h.place f ne ∙ o.at; key = o.key; figures = o.figures }
