-- The calls of Level Two keep the promise.
use Rattle.std.proofs.Common.{◌≡◌, ℕ, ◌<◌, ◌≤◌, true, false, ◌&&◌, eqb, List, [], ◌∷◌, ◌++◌, set, arith, pos, Some, None, Ok, Err, Option, Result, int_lt, unwrap_or, sym, refl, ap, ◌∙◌, subst}
use Rattle.std.proofs.lemmas.Bool.{and_parts, eqb-true}
use Rattle.registers.specs.declared.key.Key.{Key}
use Rattle.registers.specs.declared.figures.Figures.{Figures}
use Rattle.registers.specs.declared.row.Row.{Row}
use Rattle.registers.specs.Registers.{in_range}
use Rattle.full.specs.declared.mode.Mode.TheVariants as modes
use Rattle.plans.specs.declared.refusal.Refusal.{Refusal}
use Rattle.full.specs.declared.announcement.Announcement.{Announcement}
use Rattle.full.specs.declared.opening.Opening.{Opening}
use Rattle.full.specs.Blocks.{cash_key, holding_key, participant_key, key_of, limit_key}
use Rattle.plans.specs.Steps.{and_then}
use Rattle.seek.proofs.Cases.{no_case}
use Rattle.full.specs.declared.deal.Deal.{Deal}
use Rattle.full.specs.Orders.{Live}
use Rattle.full.specs.Terms.{amount_ok, limit_ok, mode_of}
use Rattle.full.specs.Checks.{PairOf, is_full, pair_of, ready_of}
use Rattle.plans.proofs.Keeping.{Keeps, both, by_choice, by_demand, by_step, by_there, stepped}
use Rattle.plans.proofs.Handing.{keeps-handed}
use Rattle.full.specs.declared.open_register.OpenRegister.{OpenRegister}
use Rattle.full.specs.State as one_plans
use Rattle.full.specs.State.{with_rows}
use Rattle.full.specs.Calls.{enter_of}
use Rattle.full.specs.Trades as one_trades
use Rattle.full.specs.OpenRegisters.{register_at, rows_with, with_figures_of}
use Rattle.full_law.specs.Lists.{find_by}
use Rattle.full.specs.declared.call.Call as one_call
use Rattle.full.specs.declared.call.Call.TheVariants as one_calls
use Rattle.full_law.specs.Tally as one
use Rattle.full_law.proofs.Promises as one_promise
use Rattle.full.specs.Plans as one_runs
use Rattle.full_law.proofs.Announces.{place_keeps, ready_mode}
use Rattle.full_law.proofs.Laws as one_proofs
use Rattle.full_law.proofs.Dealt.{halves}
use Rattle.std.proofs.ByRecursion.{All-weaker}
use Rattle.full_law.proofs.Numbers.{trade_above}
use Rattle.full_law.proofs.Rises.{Rises, call_rises, enter_rises, placed_rises}
use Rattle.full_law.proofs.Moves.{Passed, two_checks, relimited_books}
use Rattle.plans.proofs.Passes.{passed, of_ok}
use lib.Signed.{le_z}
use Rattle.full_law.proofs.Opens.{with_opened, enter_keeps}
use Rattle.full_law.proofs.Steps.{Open, open_at, found_place, noted_order}
use Rattle.full_law.proofs.Trades.{Matched, pair_matched, is_full_lem}
use Rattle.partial.specs.declared.obligation.Obligation.{Obligation}
use Rattle.partial.specs.declared.drawn.Drawn.{Drawn}
use Rattle.partial.specs.State.{State, with_base, down}
use Rattle.partial.specs.Obligations.{free_place}
use Rattle.partial.specs.Calls.{announce_of, cover_at, drawn_of, owed_of, partial_trade_of, ratio_for, participant_ok, limit_row, limit_opening_ok, open_of, posted, post_on, post_of, debited, spared, debit_on, debit_of, trade_of}
use Rattle.partial.specs.declared.call.Call.{Call}
use Rattle.partial.specs.declared.call.Call.TheVariants.{Full, Post, Debit}
use Rattle.partial.specs.Plans.{call_of}
use Rattle.partial_law.specs.Tally.{Tally, trade_number, owed_by, entered}
use Rattle.partial_law.proofs.Promises.{Promise}
use Rattle.partial_law.proofs.Owed.{owed_more, once_more, falling_more}
use Rattle.partial_law.proofs.Parts.{below, is_partial, key_partial, partial_trade_keeps}

pub post_passed : (h c : OpenRegister) (m : ℕ) → post_on h m ≡ Ok c → with_figures_of h (posted h.figures m) ≡ c
unfolding post_on
post_passed h c m e =
    let p : Passed (in_range h.figures) (in_range (posted h.figures m)) (with_figures_of h (posted h.figures m)) c = two_checks _ _ _ _ _ _ e in
    p.same

spared_is : (f g : Figures) (m : ℕ) → spared f m ≡ Ok g → debited f m ≡ g
unfolding spared
spared_is f g m e =
    let q = passed (le_z (pos m) f.third) _ _ g e in
    let r = passed (le_z f.blocked f.limit) _ _ g q.1 in
    let s = passed (int_lt f.blocked (debited f m).limit) _ _ g r.1 in
    of_ok s.1

debit_passed : (h c : OpenRegister) (m : ℕ) → debit_on h m ≡ Ok c → with_figures_of h (debited h.figures m) ≡ c
unfolding debit_on
debit_passed h c m e =
    let p = passed (in_range h.figures) _ _ c e in
    let f = stepped (spared h.figures m) _ c p.1 in
    ap (with_figures_of h) (spared_is h.figures f.0 m f.1.0) ∙ of_ok f.1.1

partial_mode : (n : ℕ) → eqb n 2 ≡ true → unwrap_or (mode_of n) modes.Full ≡ modes.Partial
partial_mode n e = ap (λ (m : ℕ). unwrap_or (mode_of m) modes.Full) (eqb-true n 2 e)

-- the register that covers an order with partial collateral bears the key of its block
cover_from : (rows : List Row) (o : Live) (c : OpenRegister) (x y : Result OpenRegister Refusal) → o.mode ≡ modes.Partial → and_then x (λ cash. and_then y (λ holding. register_at rows (participant_key o.account))) ≡ Ok c → Open rows (key_of o) c
cover_from rows o c (Err w) y m e = no_case (cc)
cover_from rows o c (Ok x) (Err w) m e = no_case (cc)
cover_from rows o c (Ok x) (Ok y) m e = subst (λ (k : Key). Open rows k c) (key_partial o.mode o.side o.account o.security m) (open_at rows (participant_key o.account) c e)

cover_open : (rows : List Row) (o : Live) (c : OpenRegister) → o.mode ≡ modes.Partial → cover_at rows o ≡ Ok c → Open rows (key_of o) c
unfolding cover_at
cover_open rows o c m e = cover_from rows o c (register_at rows (cash_key o.account)) (register_at rows (holding_key o.account o.security)) m e

-- the obligation that the tally notes is the one that is entered
noted_owed : (d : Deal) (p : PairOf) (x y : one.Note) → x.order.mode ≡ modes.Partial → p.buy.account ≡ x.order.account → p.sell.account ≡ y.order.account → p.buy.security ≡ x.order.security → p.quantity ≡ d.quantity → p.price ≡ d.price → owed_of d.number p ∷ [] ≡ owed_by (Some x) (Some y) d
noted_owed d p x y m a b c q e = rw (m, a, b, c, q, e)

module _ (reserve : ℕ) (t : Tally) (s : State) (h : Promise reserve t s) where
  -- what Level One keeps, Level Two keeps
  abbrev with_base_of : one.Tally → Tally
  with_base_of u = record { base = u; obligations = t.obligations }

  down_keeps : (u : one.Tally) (r : one_plans.Step) → Keeps (one_promise.Promise reserve u) r → Keeps (Rises s.base) r → Keeps (Promise reserve (with_base_of u)) (down s r)
  down_keeps u r k l =
      keeps-handed (λ (n : one_plans.State). one_promise.Promise reserve u n × Rises s.base n) (Promise reserve (with_base_of u)) (with_base s) r
      (λ n p. record { base = p.0; owed = h.owed; once = h.once; falling = h.falling; fresh = All-weaker (λ (o : Obligation). trade_number o ≤ s.base.last_trade) (λ (o : Obligation). trade_number o ≤ n.last_trade) (λ o e. omega (arith, p.1)) t.obligations h.fresh })
      (both (one_promise.Promise reserve u) (Rises s.base) r k l)

  -- a call that is handed down
  handed_keeps : (c : one_call.Call) → Keeps (Promise reserve (with_base_of (one.entered t.base c))) (down s (one_runs.call_of s.base c))
  handed_keeps c = down_keeps _ _ (one_proofs.call_keeps reserve t.base s.base h.base c) (call_rises s.base c)

  open_keeps : (o : Opening) → Keeps (Promise reserve (entered t (Full (one_calls.Open o)))) (open_of s o)
  unfolding open_of limit_row limit_opening_ok
  open_keeps o =
      by_choice (Promise reserve _) (eqb o.kind 3) _ _
      (λ three.
      by_demand (Promise reserve _) (eqb o.security 0 && (participant_ok o.code && (limit_ok o.limit && limit_ok o.margin))) _ _ λ ok.
      let none = eqb-true o.security 0 (and_parts (eqb o.security 0) _ ok).0 in
      let kind = eqb-true o.kind 3 three in
      let key : limit_key o.code ≡ record { kind = o.kind; code = o.code; security = o.security } = cc in
      down_keeps _ _
      (subst (λ (k : Key). Keeps (one_promise.Promise reserve (with_opened t.base (record { key = k; limit = o.limit; blocked = o.margin }))) (enter_of s.base (limit_row o))) key
      (enter_keeps reserve t.base s.base h.base (limit_row o) o.limit o.margin refl tt)) (enter_rises s.base (limit_row o)))
      (λ _. handed_keeps (one_calls.Open o))

  announce_keeps : (a : Announcement) → Keeps (Promise reserve (entered t (Full (one_calls.Announce a)))) (announce_of s a)
  unfolding announce_of
  announce_keeps a =
      by_choice (Promise reserve _) (eqb a.mode 2) _ _
      (λ two.
      by_step (Promise reserve _) (ready_of s.base.securities s.base.orders s.base.last_order a) _ λ r e.
      by_step (Promise reserve _) (cover_at s.base.rows r.order) _ λ c ec.
      down_keeps _ _ (place_keeps reserve t.base s.base h.base a r c e (cover_open s.base.rows r.order c (ready_mode reserve t.base s.base h.base a r modes.Partial e (partial_mode a.mode two)) ec)) (placed_rises s.base r c))
      (λ _. handed_keeps (one_calls.Announce a))

  partial_trade_promise : (d : Deal) (p : PairOf) (m : Matched s.base.orders s.base.last_trade d p) (partly : is_full p.buy.mode ≡ false) (i : ℕ) → free_place s.obligations ≡ Some i → (w : Drawn) → drawn_of s.base.rows p (ratio_for s.base p) ≡ Ok w → s.base.last_trade < d.number →
      Promise reserve (entered t (Full (one_calls.Trade d))) (record { base = below reserve t.base s.base h.base d p m partly w; obligations = set s.obligations i (Some (owed_of d.number p)) })
  partial_trade_promise d p m partly i fi w ew above =
      let hv = halves reserve t.base s.base h.base d p m in
      let buy = hv.buy in
      let sell = hv.sell in
      let mode : buy.note.order.mode ≡ modes.Partial = sym (ap (λ (o : Live). o.mode) buy.is) ∙ is_partial p.buy.mode partly in
      let same : owed_of d.number p ∷ [] ≡ owed_by (find_by one.number d.buy t.base.notes) (find_by one.number d.sell t.base.notes) d =
      noted_owed d p buy.note sell.note mode (ap (λ (o : Live). o.account) buy.is) (ap (λ (o : Live). o.account) sell.is) (ap (λ (o : Live). o.security) buy.is) m.quantity m.priced
      ∙ sym (ap (λ (z : Option one.Note). owed_by z (find_by one.number d.sell t.base.notes) d) buy.at_n ∙ ap (λ (z : Option one.Note). owed_by (Some buy.note) z d) sell.at_n) in
      subst (λ (os : List Obligation). Promise reserve (record { base = one.entered t.base (one_calls.Trade d); obligations = os ++ t.obligations }) (record { base = below reserve t.base s.base h.base d p m partly w; obligations = set s.obligations i (Some (owed_of d.number p)) })) same
      (record {
        base = partial_trade_keeps reserve t.base s.base h.base d p m partly (ratio_for s.base p) w ew;
        owed = owed_more s.obligations t.obligations s.base.last_trade h.fresh h.owed (owed_of d.number p) i above fi;
        once = once_more s.obligations t.obligations s.base.last_trade h.fresh h.owed (owed_of d.number p) i above fi h.once;
        falling = falling_more (owed_of d.number p) s.base.last_trade t.obligations above h.fresh h.falling;
        fresh = (omega arith, All-weaker (λ (o : Obligation). trade_number o ≤ s.base.last_trade) (λ (o : Obligation). trade_number o ≤ d.number) (λ o e. omega arith) t.obligations h.fresh);
      })

  trade_keeps : (d : Deal) → Keeps (Promise reserve (entered t (Full (one_calls.Trade d)))) (trade_of s d)
  unfolding trade_of partial_trade_of
  trade_keeps d =
      by_step (Promise reserve _) (pair_of s.base.orders s.base.last_trade d) _ λ p ep.
      by_choice (Promise reserve _) (is_full p.buy.mode) _ _
      (λ full.
      let m = pair_matched s.base.orders s.base.last_trade d p ep in
      let n = noted_order t.base.notes d.buy p.buy s.base.orders s.base.last_order h.base.orders (found_place s.base.orders d.buy _ m.buy_found).slot in
      let mode : n.note.order.mode ≡ modes.Full = sym (ap (λ (o : Live). o.mode) n.order) ∙ is_full_lem p.buy.mode full in
      subst (λ (os : List Obligation). Keeps (Promise reserve (record { base = one.entered t.base (one_calls.Trade d); obligations = os ++ t.obligations })) (down s (one_trades.trade_of s.base d)))
      (sym (nothing_owed d n.note (find_by one.number d.sell t.base.notes) mode n.at_n)) (handed_keeps (one_calls.Trade d)))
      (λ partly.
      let m = pair_matched s.base.orders s.base.last_trade d p ep in
      by_there (Promise reserve _) (free_place s.obligations) _ _ λ i fi.
      by_step (Promise reserve _) (drawn_of s.base.rows p (ratio_for s.base p)) _ λ w ew.
      partial_trade_promise d p m partly i fi w ew (trade_above s.base.orders s.base.last_trade d p ep))
    where
      nothing_owed : (d : Deal) (x : one.Note) (y : Option one.Note) → x.order.mode ≡ modes.Full → find_by one.number d.buy t.base.notes ≡ Some x → owed_by (find_by one.number d.buy t.base.notes) y d ≡ []
      nothing_owed d x None e f = rw f
      nothing_owed d x (Some y) e f = rw (f, e)

  -- a participant's limit changes as it likes, and the blocked figure stays
  limit_promise : (participant : ℕ) (r c : OpenRegister) (f : Figures) → register_at s.base.rows (limit_key participant) ≡ Ok r → f.blocked ≡ r.figures.blocked → with_figures_of r f ≡ c → Promise reserve t (with_base s (with_rows s.base (rows_with s.base.rows c)))
  limit_promise participant r c f e eb is =
      record {
        base = record {
          reserved = h.base.reserved;
          ratios = h.base.ratios;
          orders = h.base.orders;
          books =
              subst (λ (x : OpenRegister). one_promise.Books reserve t.base.opened t.base.notes t.base.trades_leaving_rest (rows_with s.base.rows x)) is
              (relimited_books reserve t.base.opened t.base.notes t.base.trades_leaving_rest s.base.rows h.base.books (limit_key participant) r (open_at s.base.rows (limit_key participant) r e) f eb (λ opening a. tt));
        };
        owed = h.owed;
        once = h.once;
        falling = h.falling;
        fresh = h.fresh;
      }

  post_keeps : (participant amount : ℕ) → Keeps (Promise reserve t) (post_of s participant amount)
  unfolding post_of posted
  post_keeps participant amount =
      by_demand (Promise reserve t) (participant_ok participant && amount_ok amount) _ _ λ _.
      by_step (Promise reserve t) (register_at s.base.rows (limit_key participant)) _ λ r e.
      by_step (Promise reserve t) (post_on r amount) _ λ c f.
      limit_promise participant r c (posted r.figures amount) e refl (post_passed r c amount f)

  debit_keeps : (participant amount : ℕ) → Keeps (Promise reserve t) (debit_of s participant amount)
  unfolding debit_of debited
  debit_keeps participant amount =
      by_demand (Promise reserve t) (participant_ok participant && amount_ok amount) _ _ λ _.
      by_step (Promise reserve t) (register_at s.base.rows (limit_key participant)) _ λ r e.
      by_step (Promise reserve t) (debit_on r amount) _ λ c f.
      limit_promise participant r c (debited r.figures amount) e refl (debit_passed r c amount f)

-- one case for each call
pub call_keeps : (reserve : ℕ) (t : Tally) (s : State) (h : Promise reserve t s) (c : Call) → Keeps (Promise reserve (entered t c)) (call_of s c)
call_keeps reserve t s h (Full (one_calls.Admit security ratio)) = handed_keeps reserve t s h (one_calls.Admit security ratio)
call_keeps reserve t s h (Full (one_calls.Open o)) = open_keeps reserve t s h o
call_keeps reserve t s h (Full (one_calls.Credit code security amount)) = handed_keeps reserve t s h (one_calls.Credit code security amount)
call_keeps reserve t s h (Full (one_calls.Announce a)) = announce_keeps reserve t s h a
call_keeps reserve t s h (Full (one_calls.Withdraw n)) = handed_keeps reserve t s h (one_calls.Withdraw n)
call_keeps reserve t s h (Full (one_calls.Trade d)) = trade_keeps reserve t s h d
call_keeps reserve t s h (Post participant amount) = post_keeps reserve t s h participant amount
call_keeps reserve t s h (Debit participant amount) = debit_keeps reserve t s h participant amount
