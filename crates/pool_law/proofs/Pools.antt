-- The calls of the pool keep the promise.
use Rattle.std.proofs.Common.{◌≡◌, ℕ, Bool, true, false, cond, not, ◌&&◌, ◌||◌, eqb, List, [], ◌∷◌, map, ℤ, pos, ◌-ℤ◌, ◌≤ℤ◌, int_lt, Ok, Option, sym, refl, ap, ◌∙◌, subst, arith}
use Rattle.std.specs.List.{list_all}
use Rattle.std.specs.Ordering.{int_eq}
use Rattle.std.proofs.lemmas.Bool.{and_parts}
use Rattle.std.proofs.lemmas.Int.{ints}
use Rattle.registers.specs.declared.figures.Figures.{Figures}
use Rattle.registers.specs.declared.row.Row.{Row}
use Rattle.registers.specs.Registers.{in_range}
use Rattle.registers.specs.Stores.{put_row, with_figures}
use Rattle.full.specs.declared.asset.Asset.{Asset}
use Rattle.full.specs.declared.open_register.OpenRegister.{OpenRegister}
use Rattle.full.specs.Assets.{asset_key, asset_named}
use Rattle.full.specs.OpenRegisters.{FiguresAt, floor_of, register_at}
use Rattle.full.specs.State.{with_rows}
use Rattle.full.specs.Terms.{asset_ok}
use Rattle.full.specs.Trades.{Following, moved_all}
use Rattle.full_law.proofs.Fairness.{above_more}
use Rattle.full_law.proofs.Moves.{base_floor, relimited_books}
use Rattle.full_law.proofs.Promises as one
use Rattle.full_law.proofs.Promises.{Above, Books, base_of}
use Rattle.full_law.proofs.Steps.{open_at}
use Rattle.full.proofs.Places.{held_figures, held_stands}
use Rattle.partial.specs.State.{with_base}
use Rattle.partial.proofs.Falls.{parts}
use Rattle.plans.proofs.Keeping.{Keeps, by_demand, by_step, stepped}
use Rattle.plans.proofs.Passes.{passed, of_ok}
use Rattle.pool.specs.declared.earmark.Earmark.{Earmark}
use Rattle.pool.specs.declared.leg.Leg.{Leg}
use Rattle.pool.specs.declared.passing.Passed.{Passed}
use Rattle.pool.specs.Calls.{close_of, earmark_at, earmark_of, earmarked, earmarked_amount, found_of, free_of, is_pooled, may_sweep, need_of, passed_from, passed_of, passing, returned, settle_of, smaller, swept, third_lowered, third_raised}
use Rattle.pool.specs.Debts.{debt_of, owed_over}
use Rattle.pool.specs.Stages.{settled}
use Rattle.pool.specs.State.{State}
use Rattle.pool.proofs.Follows.{passed_follow, passed_is}
use Rattle.pool_law.specs.Tally.{Tally, numbers_settled}
use Rattle.pool_law.proofs.Legs.{legs_settled, numbers_with, settled_with}
use Rattle.pool_law.proofs.Promises.{Promise}
use Rattle.pool_law.proofs.Raised.{Raised, RowRaised, row_same, put_raised, raised_books}

-- what is earmarked leaves a limit above the base: nothing moves, or no more than is free above the floor
smaller_most : (x y : ℤ) (b : Bool) → int_lt x y ≡ b → cond b x y ≤ℤ y
smaller_most x y true e = omega (arith, ints, e)
smaller_most x y false e = omega (arith, ints)

leaves_by : (base : Option ℤ) (l blocked z : ℤ) (floor : ℕ) (b : Bool) → z ≤ℤ (l -ℤ blocked -ℤ pos floor) → Above base (l -ℤ blocked) → Above base (pos floor) → Above base (l -ℤ cond b z (pos 0) -ℤ blocked)
leaves_by base l blocked z floor true most a f = above_more base (pos floor) (l -ℤ z -ℤ blocked) (omega (arith, ints, most)) f
leaves_by base l blocked z floor false most a f = above_more base (l -ℤ blocked) (l -ℤ pos 0 -ℤ blocked) (omega (arith, ints)) a

leaves : (base : Option ℤ) (f : Figures) (owed floor : ℕ) → Above base (f.limit -ℤ f.blocked) → Above base (pos floor) → Above base (f.limit -ℤ earmarked_amount owed floor f -ℤ f.blocked)
unfolding earmarked_amount
leaves base f owed floor a g =
    let z : ℤ = smaller (need_of owed f) (free_of floor f) in
    leaves_by base f.limit f.blocked z floor (int_lt (pos 0) z) (smaller_most (need_of owed f) (free_of floor f) (int_lt (need_of owed f) (free_of floor f)) refl) a g

-- what an earmark moves, on an open register of the asset
abbrev earmark_on : OpenRegister → ℕ → ℕ → Earmark
earmark_on h owed floor = record { register = h; after = earmarked h.figures (earmarked_amount owed floor h.figures); amount = earmarked_amount owed floor h.figures }

earmark_passed : (rows : List Row) (account : ℕ) (asset : Asset) (owed floor : ℕ) (e : Earmark) → earmark_at rows account asset owed floor ≡ Ok e → (h : OpenRegister) × ((register_at rows (asset_key asset account) ≡ Ok h) × (earmark_on h owed floor ≡ e))
unfolding earmark_at
earmark_passed rows account asset owed floor e g =
    let h = stepped (register_at rows (asset_key asset account)) _ e g in
    let p = passed (in_range h.0.figures) _ _ e h.1.1 in
    (h.0, (h.1.0, of_ok (passed (in_range (earmarked h.0.figures (earmarked_amount owed floor h.0.figures))) _ _ e p.1).1))

-- a row that close sweeps
swept_by : (r : Row) (pooled other : Bool) → is_pooled r ≡ pooled → (not pooled || in_range r.figures) ≡ true → RowRaised r (cond (pooled && other) (with_figures r (returned r.figures)) r)
unfolding returned
swept_by r true true p e = record { key = refl; blocked = refl; limit = omega (arith, ints, (parts r.figures e).least) }
swept_by r true false p e = row_same r
swept_by r false other p e = row_same r

all_swept : (rs : List Row) → list_all may_sweep rs ≡ true → Raised rs (map swept rs)
all_swept [] h = tt
all_swept (r ∷ rs) h =
    let p = and_parts (may_sweep r) (list_all may_sweep rs) h in
    (swept_by r (is_pooled r) (not (int_eq r.figures.third (pos 0))) refl p.0, all_swept rs p.1)

module _ (reserve : ℕ) (t : Tally) (s : State) (h : Promise reserve t s) where
  abbrev FairRows : List Row → Type 0
  FairRows rows = Books reserve t.base.base.opened t.base.base.notes t.base.base.trades_leaving_rest rows

  base_with : (rows : List Row) → FairRows rows → one.Promise reserve t.base.base (with_rows s.base rows)
  base_with rows b = record { reserved = h.base.reserved; ratios = h.base.ratios; orders = h.base.orders; books = b }

  rows_promise : (rows : List Row) → FairRows rows → Promise reserve t (with_base s (with_rows s.base rows))
  rows_promise rows b = record { base = base_with rows b; falling = h.falling; fresh = h.fresh; legs = h.legs }

  earmark_books : (code : ℕ) (asset : Asset) (owed : ℕ) (r : OpenRegister) → register_at s.base.rows (asset_key asset code) ≡ Ok r → FairRows (put_row s.base.rows r.place (earmarked r.figures (earmarked_amount owed (floor_of s.base.settings.reserve (asset_key asset code)) r.figures)))
  unfolding earmarked
  earmark_books code asset owed r e =
      let k = asset_key asset code in
      relimited_books reserve t.base.base.opened t.base.base.notes t.base.base.trades_leaving_rest s.base.rows h.base.books k r (open_at s.base.rows k r e) _ refl
      (λ opening a. leaves (base_of k opening reserve) r.figures owed (floor_of s.base.settings.reserve k) a
      (subst (λ (n : ℕ). Above (base_of k opening reserve) (pos n)) (ap (λ (n : ℕ). floor_of n k) (sym h.base.reserved)) (base_floor k opening reserve)))

  pub earmark_keeps : (code security : ℕ) → Keeps (Promise reserve t) (earmark_of s code security)
  unfolding earmark_of
  earmark_keeps code security =
      let asset : Asset = asset_named security in
      let owed : ℕ = owed_over code asset s.obligations in
      let floor : ℕ = floor_of s.base.settings.reserve (asset_key asset code) in
      by_demand (Promise reserve t) (asset_ok code security) _ _ λ _.
      by_step (Promise reserve t) (earmark_at s.base.rows code asset owed floor) _ λ e ee.
      let p = earmark_passed s.base.rows code asset owed floor e ee in
      rows_promise _ (subst (λ (x : Earmark). FairRows (put_row s.base.rows x.register.place x.after)) p.1.1 (earmark_books code asset owed p.0 p.1.0))

  pub close_keeps : Keeps (Promise reserve t) (close_of s)
  unfolding close_of
  close_keeps =
      by_demand (Promise reserve t) (list_all may_sweep s.base.rows) _ _ λ may.
      rows_promise (map swept s.base.rows) (raised_books reserve _ _ _ s.base.rows (map swept s.base.rows) (all_swept s.base.rows may) h.base.books)

  -- both moves of a settled leg leave limits and blocked figures
  passed_books : (a b : OpenRegister) (m : ℕ) (w : Passed) → FiguresAt s.base.rows a.place a.figures → FiguresAt s.base.rows b.place b.figures → passed_from a b m ≡ Ok w → FairRows (moved_all s.base.rows (w.debtor ∷ w.creditor ∷ []))
  unfolding third_lowered third_raised
  passed_books a b m w x y e =
      let f = passed_follow s.base.rows a b m x y (Ok w) (sym e) in
      let is : passing a b m ≡ w = passed_is a b m w e in
      let moved : Following s.base.rows ((passing a b m).debtor ∷ (passing a b m).creditor ∷ []) = subst (λ (z : Passed). Following s.base.rows (z.debtor ∷ z.creditor ∷ [])) (sym is) f in
      subst (λ (z : Passed). FairRows (moved_all s.base.rows (z.debtor ∷ z.creditor ∷ []))) is
      (raised_books reserve _ _ _ _ _ (put_raised _ b.place _ _ moved.1.0 refl refl) (raised_books reserve _ _ _ s.base.rows _ (put_raised s.base.rows a.place _ _ moved.0 refl refl) h.base.books))

  pub settle_keeps : (leg : Leg) (n : ℕ) → Keeps (Promise reserve (settled_with leg n t)) (settle_of s leg n)
  unfolding settle_of passed_of
  settle_keeps leg n =
      by_step (Promise reserve _) (found_of s.obligations n) _ λ f ef.
      by_step (Promise reserve _) (settled f.obligation leg) _ λ left el.
      by_step (Promise reserve _) (passed_of s.base.rows (debt_of f.obligation leg)) _ λ w ew.
      let d = debt_of f.obligation leg in
      let a = stepped (register_at s.base.rows (asset_key d.asset d.debtor)) _ w ew in
      let b = stepped (register_at s.base.rows (asset_key d.asset d.creditor)) _ w a.1.1 in
      record {
        base = base_with _ (passed_books a.0 b.0 d.amount w (held_figures s.base.rows _ a.0 (held_stands s.base.rows _ a.0 a.1.0)) (held_figures s.base.rows _ b.0 (held_stands s.base.rows _ b.0 b.1.0)) b.1.1);
        falling = h.falling;
        fresh = h.fresh;
        legs = legs_settled (numbers_settled t) (numbers_settled (settled_with leg n t)) t.base.obligations s.obligations h.legs leg n (numbers_with leg n t) f ef left el;
      }
