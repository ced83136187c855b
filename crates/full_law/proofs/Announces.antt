-- An announcement keeps the promise.
use Rattle.std.proofs.Common.{◌≡◌, ℕ, suc, ◌+◌, ◌-◌, ◌<◌, Bool, true, false, cond, ◌&&◌, eqb, ltb, leb, List, [], ◌∷◌, ◌++◌, length, get_or, set, Some, None, Ok, Err, Option, Result, unwrap_or, is_none, sym, refl, ap, ◌∙◌, subst, arith}
use Rattle.std.specs.List.{slice_get}
use Rattle.std.specs.Option.{option_map}
use Rattle.std.proofs.lemmas.Bool.{and_parts, ltb-true, leb-true}
use Rattle.std.proofs.lemmas.List.Sums.{sum_by_push}
use Rattle.seek.proofs.Cases.{no_case}
use Rattle.seek.specs.Place.{place_of, on_by}
use Rattle.registers.specs.declared.key.Key.{Key}
use Rattle.registers.specs.declared.row.Row.{Row}
use Rattle.registers.specs.Registers.{same_key}
use Rattle.plans.specs.declared.refusal.Refusal.{Refusal}
use Rattle.plans.specs.declared.refusal.Refusal.TheVariants.{BadValue, OrderNumberNotAbove, NotAdmitted, OrdersFull}
use Rattle.full.specs.declared.announcement.Announcement.{Announcement}
use Rattle.full.specs.declared.mode.Mode.{Mode}
use Rattle.full.specs.declared.mode.Mode.TheVariants.{Full, Partial}
use Rattle.full.specs.Orders.{Live, Admitted, resting, ratio_at, admitted_as, free_place}
use Rattle.full.specs.Terms.{between, code_ok, security_ok, number_ok, mode_of, TermsOf, terms_in, terms_of}
use Rattle.plans.specs.Steps.{and_then, demand, or_refuse}
use Rattle.full.specs.Checks.{PlacedOf, announced, ready_of}
use Rattle.full.specs.declared.side.Side.{Side}
use Rattle.full.specs.declared.side.Side.TheVariants.{Buy, Sell}
use Rattle.full.specs.Blocks.{cash_key, holding_key, block_key, key_of, units_of}
use Rattle.full.specs.declared.open_register.OpenRegister.{OpenRegister}
use Rattle.full.specs.State.{State, with_rows, with_orders, with_last_order}
use Rattle.full.specs.OpenRegisters.{register_at, FiguresAt, block_on, floor_of, covered, replaced}
use Rattle.full.specs.Calls.{announce_of, cover_at, cover_of, placed_of}
use Rattle.full.specs.declared.call.Call.TheVariants.{Announce}
use Rattle.full.proofs.AsRead.{rows_read}
use Rattle.full_law.specs.Tally.{Tally, Note, entered, order_for, ratio_noted, live_block, live_blocks}
use Rattle.full_law.proofs.Promises.{Books, Promise}
use Rattle.plans.proofs.Keeping.{Keeps, by_demand, by_step}
use Rattle.full_law.proofs.Lives.{order_announced}
use Rattle.full_law.proofs.Moves.{blocked_on, blocked_books}
use Rattle.full_law.proofs.Slots.{search_at, was_none}
use Rattle.full_law.proofs.Steps.{Open, open_at}

-- the ratio that was noted is the one in force
ratio_by : (n : ℕ) (a : Admitted) (ss : List Admitted) (k : ℕ) (b : Bool) → ratio_at (a ∷ ss) (cond b (Some 0) (on_by 1 (place_of (λ (x : Admitted). eqb x.number n) ss))) ≡ Some k → (admitted_as ss n ≡ Some k → ratio_noted n ss ≡ k) → cond b a.ratio (ratio_noted n ss) ≡ k
ratio_by n a ss k true e f = cc
ratio_by n a ss k false e f = f (back (place_of (λ (x : Admitted). eqb x.number n) ss) e)
  where
    back : (o : Option ℕ) → ratio_at (a ∷ ss) (on_by 1 o) ≡ Some k → ratio_at ss o ≡ Some k
    back None g = g
    back (Some i) g = ap (λ (j : ℕ). option_map (λ (x : Admitted). x.ratio) (slice_get (a ∷ ss) j)) (let z : suc i ≡ 1 + i = omega arith in z) ∙ g

pub ratio_noted_lem : (n : ℕ) (ss : List Admitted) (k : ℕ) → admitted_as ss n ≡ Some k → ratio_noted n ss ≡ k
ratio_noted_lem n [] k e = no_case (cc)
ratio_noted_lem n (a ∷ ss) k e = ratio_by n a ss k (eqb a.number n) e (ratio_noted_lem n ss k)

-- what a ready order is
pub record Readied (ss : List Admitted) (os : List (Option Live)) (last : ℕ) (a : Announcement) (r : PlacedOf) : Type 0 where
  pub above : last < r.order.number
  pub rests : 0 < r.order.rest
  pub within : r.place < length os
  pub free : get_or os r.place None ≡ None
  pub order : r.order ≡ order_for a (ratio_noted a.security ss)

-- the parts of an announcement in range
pub record TermsInRange (a : Announcement) (t : TermsOf) : Type 0 where
  pub mode : mode_of a.mode ≡ Some t.mode
  pub quantity : t.quantity ≡ a.quantity
  pub price : t.price ≡ a.price
  pub least : 0 < a.quantity

terms_by : (a : Announcement) (t : TermsOf) (m : Mode) (n c s q p : Bool) → (q ≡ true → 0 < a.quantity) → mode_of a.mode ≡ Some m → cond (n && (c && (s && (q && p)))) (Some (record { mode = m; quantity = a.quantity; price = a.price })) None ≡ Some t → TermsInRange a t
terms_by a t m true true true true true l e f =
    let g : ◌≡◌ {A = TermsOf} (record { mode = m; quantity = a.quantity; price = a.price }) t = cc in
    record { mode = e ∙ ap (λ (x : TermsOf). Some x.mode) g; quantity = sym (ap (λ (x : TermsOf). x.quantity) g); price = sym (ap (λ (x : TermsOf). x.price) g); least = l refl }
terms_by a t m true true true true false l e f = no_case (cc)
terms_by a t m true true true false p l e f = no_case (cc)
terms_by a t m true true false q p l e f = no_case (cc)
terms_by a t m true false s q p l e f = no_case (cc)
terms_by a t m false c s q p l e f = no_case (cc)

terms_mode : (a : Announcement) (t : TermsOf) (o : Option Mode) → mode_of a.mode ≡ o → terms_in o a ≡ Some t → TermsInRange a t
terms_mode a t None e f = no_case (cc)
terms_mode a t (Some m) e f =
    terms_by a t m (number_ok a.number) (code_ok a.account) (security_ok a.security) (between 1 1000000 a.quantity) (between 1 100000000 a.price)
    (λ g. let x = and_parts (leb 1 a.quantity) (leb a.quantity 1000000) g in omega (arith, leb-true 1 a.quantity x.0)) e f

pub terms_range : (a : Announcement) (t : TermsOf) → terms_of a ≡ Some t → TermsInRange a t
unfolding terms_of
terms_range a t e = terms_mode a t (mode_of a.mode) refl e

live_of_lem : {n n' ac ac' se se' pr pr' ra ra' re re' : ℕ} {si si' : Side} {mo mo' : Mode} → n ≡ n' → si ≡ si' → mo ≡ mo' → ac ≡ ac' → se ≡ se' → pr ≡ pr' → ra ≡ ra' → re ≡ re' → ◌≡◌ {A = Live} (record { number = n; side = si; mode = mo; account = ac; security = se; price = pr; ratio = ra; rest = re }) (record { number = n'; side = si'; mode = mo'; account = ac'; security = se'; price = pr'; ratio = ra'; rest = re' })
live_of_lem a b c d e f g h = cc

module _ (ss : List Admitted) (os : List (Option Live)) (last : ℕ) (a : Announcement) (r : PlacedOf) where
  ready_by : (t : Option TermsOf) (b : Bool) (k i : Option ℕ) → terms_of a ≡ t → ltb last a.number ≡ b → admitted_as ss a.security ≡ k → free_place os ≡ i →
      and_then (or_refuse t BadValue) (λ t. demand b OrderNumberNotAbove (and_then (or_refuse k NotAdmitted) (λ k. and_then (or_refuse i OrdersFull) (λ i. Ok (record { place = i; order = announced a t k }))))) ≡ Ok r → Readied ss os last a r
  ready_by None b k i e f g h z = absurd (let y : ◌≡◌ {A = ℕ} 0 1 = cc in omega arith)
  ready_by (Some t) false k i e f g h z = absurd (let y : ◌≡◌ {A = ℕ} 0 1 = cc in omega arith)
  ready_by (Some t) true None i e f g h z = absurd (let y : ◌≡◌ {A = ℕ} 0 1 = cc in omega arith)
  ready_by (Some t) true (Some k) None e f g h z = absurd (let y : ◌≡◌ {A = ℕ} 0 1 = cc in omega arith)
  ready_by (Some t) true (Some k) (Some i) e f g h z =
      let s : ◌≡◌ {A = PlacedOf} (record { place = i; order = announced a t k }) r = cc in
      let tr = terms_range a t e in
      let fp = search_at is_none os i h in
      let pi : i ≡ r.place = ap (λ (x : PlacedOf). x.place) s in
      let po : announced a t k ≡ r.order = ap (λ (x : PlacedOf). x.order) s in
      let nu : r.order.number ≡ a.number = sym (ap (λ (x : Live). x.number) po) in
      let re : r.order.rest ≡ t.quantity = sym (ap (λ (x : Live). x.rest) po) in
      record {
        above = omega (arith, ltb-true last a.number f);
        rests = omega (arith, tr.quantity, tr.least);
        within = omega (arith, fp.0);
        free = ap (λ (j : ℕ). get_or os j None) (sym pi) ∙ was_none (get_or os i None) fp.1;
        order = sym po ∙ live_of_lem refl refl (mode_of_lem (mode_of a.mode) tr.mode) refl refl tr.price (sym (ratio_noted_lem a.security ss k g)) tr.quantity;
      }
    where
      mode_of_lem : (o : Option Mode) → o ≡ Some t.mode → t.mode ≡ unwrap_or o Full
      mode_of_lem None e = absurd (let y : ◌≡◌ {A = ℕ} 0 1 = cc in omega arith)
      mode_of_lem (Some m) e = cc

  pub ready_readied : ready_of ss os last a ≡ Ok r → Readied ss os last a r
  unfolding ready_of
  ready_readied e = ready_by (terms_of a) (ltb last a.number) (admitted_as ss a.security) (free_place os) refl refl refl refl e

-- the register that covers an order with full collateral bears the key of its block
cover_by : (rows : List Row) (c d : OpenRegister) (m : Mode) (sd : Side) (ac se : ℕ) → m ≡ Full → Open rows (cash_key ac) c → Open rows (holding_key ac se) d → Open rows (block_key m sd ac se) (cond (eqb (block_key m sd ac se).kind 1) c d)
cover_by rows c d Full Buy ac se e x y = x
cover_by rows c d Full Sell ac se e x y = y
cover_by rows c d Partial Buy ac se e x y = no_case (cc)
cover_by rows c d Partial Sell ac se e x y = no_case (cc)

cover_from : (rows : List Row) (o : Live) (c : OpenRegister) (x y : Result OpenRegister Refusal) → o.mode ≡ Full → register_at rows (cash_key o.account) ≡ x → register_at rows (holding_key o.account o.security) ≡ y → and_then x (λ cash. and_then y (λ holding. Ok (cover_of o cash holding))) ≡ Ok c → Open rows (key_of o) c
cover_from rows o c (Err w) y m e f g = no_case (cc)
cover_from rows o c (Ok x) (Err w) m e f g = no_case (cc)
cover_from rows o c (Ok x) (Ok y) m e f g =
    let s : cover_of o x y ≡ c = cc in
    subst (Open rows (key_of o)) s (cover_by rows x y o.mode o.side o.account o.security m (open_at rows (cash_key o.account) x e) (open_at rows (holding_key o.account o.security) y f))

cover_open : (rows : List Row) (o : Live) (c : OpenRegister) → o.mode ≡ Full → cover_at rows o ≡ Ok c → Open rows (key_of o) c
unfolding cover_at
cover_open rows o c m e = cover_from rows o c (register_at rows (cash_key o.account)) (register_at rows (holding_key o.account o.security)) m refl refl e

full_mode : (n : ℕ) → eqb n 1 ≡ true → unwrap_or (mode_of n) Full ≡ Full
full_mode n e = rw e

-- the notes grow by the block of an announced order
grown : (notes : List Note) (o : Live) (j : Key) → live_blocks j (notes ++ record { order = o; traded = 0; back = 0 } ∷ []) ≡ live_blocks j notes + cond (same_key (key_of o) j) (units_of o) 0
grown notes o j =
    let e : o.rest - (0 + 0) ≡ o.rest = omega arith in
    sum_by_push (live_block j) notes (record { order = o; traded = 0; back = 0 })
    ∙ ap (λ (n : ℕ). live_blocks j notes + cond (same_key (key_of o) j) (units_of (resting o n)) 0) e

module _ (reserve : ℕ) (t : Tally) (s : State) (h : Promise reserve t s) (a : Announcement) where
  abbrev with_note : Live → Tally
  with_note o = record { ratios = t.ratios; opened = t.opened; notes = t.notes ++ record { order = o; traded = 0; back = 0 } ∷ []; trades_leaving_rest = t.trades_leaving_rest }

  placed_promise : (r : PlacedOf) (c b : OpenRegister) → ready_of s.securities s.orders s.last_order a ≡ Ok r → Open s.rows (key_of r.order) c → block_on c (units_of r.order) (floor_of s.settings.reserve (key_of r.order)) ≡ Ok b →
      Promise reserve (entered t (Announce a)) (with_last_order (with_orders (with_rows s (replaced s.rows c.place c.figures b.figures)) (set s.orders r.place (Some r.order))) r.order.number)
  placed_promise r c b e op eb =
      let rd = ready_readied s.securities s.orders s.last_order a r e in
      let is : r.order ≡ order_for a (ratio_noted a.security t.ratios) = rd.order ∙ ap (λ (ss : List Admitted). order_for a (ratio_noted a.security ss)) h.ratios in
      let p = blocked_on c b (units_of r.order) (floor_of s.settings.reserve (key_of r.order)) eb in
      let at : FiguresAt s.rows c.place c.figures = ap (option_map (λ (x : Row). x.figures)) op.at ∙ ap Some op.figures in
      let cv : covered c.figures (units_of r.order) (floor_of reserve (key_of r.order)) ≡ true = ap (λ (n : ℕ). covered c.figures (units_of r.order) (floor_of n (key_of r.order))) (sym h.reserved) ∙ p.second in
      let bk = blocked_books reserve t.opened t.notes t.trades_leaving_rest s.rows h.books (key_of r.order) c op (units_of r.order) (with_note r.order).notes (grown t.notes r.order) cv in
      subst (λ (o : Live). Promise reserve (with_note o) (with_last_order (with_orders (with_rows s (replaced s.rows c.place c.figures b.figures)) (set s.orders r.place (Some r.order))) r.order.number)) is
      (record {
        reserved = h.reserved;
        ratios = h.ratios;
        orders = order_announced t.notes s.orders s.last_order h.orders r.order r.place rd.above rd.rests rd.within rd.free;
        books = subst (λ (x : OpenRegister). Books reserve t.opened (with_note r.order).notes t.trades_leaving_rest (replaced s.rows c.place c.figures x.figures)) p.same
            (subst (Books reserve t.opened (with_note r.order).notes t.trades_leaving_rest) (sym (rows_read s.rows c.place c.figures _ at)) bk);
      })

  pub place_keeps : (r : PlacedOf) (c : OpenRegister) → ready_of s.securities s.orders s.last_order a ≡ Ok r → Open s.rows (key_of r.order) c → Keeps (Promise reserve (entered t (Announce a))) (placed_of s r c)
  unfolding placed_of
  place_keeps r c e op =
      by_step (Promise reserve (entered t (Announce a))) (block_on c (units_of r.order) (floor_of s.settings.reserve (key_of r.order))) _ λ b eb.
      placed_promise r c b e op eb

  pub ready_mode : (r : PlacedOf) (m : Mode) → ready_of s.securities s.orders s.last_order a ≡ Ok r → unwrap_or (mode_of a.mode) Full ≡ m → r.order.mode ≡ m
  ready_mode r m e f = ap (λ (o : Live). o.mode) (ready_readied s.securities s.orders s.last_order a r e).order ∙ f

  pub announce_keeps : Keeps (Promise reserve (entered t (Announce a))) (announce_of s a)
  unfolding announce_of
  announce_keeps =
      by_demand (Promise reserve (entered t (Announce a))) (eqb a.mode 1) _ _ λ m.
      by_step (Promise reserve (entered t (Announce a))) (ready_of s.securities s.orders s.last_order a) _ λ r e.
      by_step (Promise reserve (entered t (Announce a))) (cover_at s.rows r.order) _ λ c ec.
      place_keeps r c e (cover_open s.rows r.order c (ready_mode r Full e (full_mode a.mode m)) ec)
