-- A withdrawal keeps the promise.
use Rattle.std.proofs.Common.{◌≡◌, ℕ, ◌+◌, ◌*◌, Bool, false, cond, List, set, pos, ◌-ℤ◌, Some, None, Ok, Option, sym, refl, ap, ◌∙◌, subst, zero-mul, arith, lit<}
use Rattle.std.proofs.lemmas.Int.{ints}
use Rattle.std.proofs.lemmas.Bool.{le-ltb}
use Rattle.registers.specs.declared.key.Key.{Key}
use Rattle.registers.specs.Amounts.{rounded}
use Rattle.registers.specs.Registers.{same_key}
use Rattle.registers.proofs.Rounding.{rounded_none}
use Rattle.full.specs.declared.side.Side.{Side}
use Rattle.full.specs.declared.side.Side.TheVariants.{Buy, Sell}
use Rattle.full.specs.declared.mode.Mode.{Mode}
use Rattle.full.specs.declared.mode.Mode.TheVariants.{Full, Partial}
use Rattle.full.specs.Orders.{Live, has_number}
use Rattle.full.specs.Blocks.{block_units, key_of, units_of}
use Rattle.full.specs.Checks.{PlacedOf, found_of}
use Rattle.full.specs.declared.open_register.OpenRegister.{OpenRegister}
use Rattle.full.specs.State.{State, with_rows, with_orders}
use Rattle.full.specs.OpenRegisters.{register_at, release_on, rows_with, with_blocked}
use Rattle.full.specs.Calls.{withdraw_of}
use Rattle.full.specs.declared.call.Call.TheVariants.{Withdraw}
use Rattle.full_law.specs.Lists.{find_by, replace_by}
use Rattle.full_law.specs.Tally.{Tally, Note, entered, given_back, number, rest_of, standing, with_back, register_of, live_block, live_blocks}
use Rattle.full_law.specs.Law.{lives}
use Rattle.full_law.proofs.Promises.{Books, Orders, Promise, Whole, base_of}
use Rattle.plans.proofs.Keeping.{Keeps, by_step}
use Rattle.full_law.proofs.Fairness.{covers}
use Rattle.full_law.proofs.Keys.{all_at, at_key, replaced_sum}
use Rattle.full_law.proofs.Lives.{order_changed}
use Rattle.full_law.proofs.Moves.{released, freed_books}
use Rattle.full_law.proofs.Rows.{key_same}
use Rattle.full_law.proofs.Steps.{Open, open_at, found_place, noted_order}

-- the block of nothing
pub units_none : (m : Mode) (s : Side) (p k : ℕ) → block_units m s 0 p k ≡ 0
units_none Full Buy p k = ap (rounded 100) (zero-mul p) ∙ rounded_none 100 (lit< tt)
units_none Full Sell p k = refl
units_none Partial Buy p k = ap (λ (n : ℕ). rounded 1000000 (n * k)) (zero-mul p) ∙ ap (rounded 1000000) (zero-mul k) ∙ rounded_none 1000000 (lit< tt)
units_none Partial Sell p k = ap (λ (n : ℕ). rounded 1000000 (n * k)) (zero-mul p) ∙ ap (rounded 1000000) (zero-mul k) ∙ rounded_none 1000000 (lit< tt)

-- what one note's change does to the blocks on its register, and on others
module _ (notes : List Note) (n : ℕ) (x y : Note) (ex : find_by number n notes ≡ Some x) (ny : number y ≡ n) (same : register_of y ≡ register_of x) where
  pub owed_here : live_blocks (register_of x) (replace_by number y notes) + units_of (standing x) ≡ live_blocks (register_of x) notes + units_of (standing y)
  owed_here =
      let e = replaced_sum number (live_block (register_of x)) n y notes x ny ex in
      let a : live_block (register_of x) x ≡ units_of (standing x) = ap (λ (b : Bool). let k : ℕ = cond b (units_of (standing x)) 0 in k) (key_same (register_of x) (register_of x) refl) in
      let b : live_block (register_of x) y ≡ units_of (standing y) = ap (λ (b : Bool). let k : ℕ = cond b (units_of (standing y)) 0 in k) (key_same (register_of y) (register_of x) same) in
      omega (arith, e, a, b)

  pub blocks_apart : (j : Key) → same_key (register_of x) j ≡ false → live_blocks j (replace_by number y notes) ≡ live_blocks j notes
  blocks_apart j off =
      let e = replaced_sum number (live_block j) n y notes x ny ex in
      let a : live_block j x ≡ 0 = ap (λ (b : Bool). let k : ℕ = cond b (units_of (standing x)) 0 in k) off in
      let b : live_block j y ≡ 0 = ap (λ (b : Bool). let k : ℕ = cond b (units_of (standing y)) 0 in k) (ap (λ (z : Key). same_key z j) same ∙ off) in
      omega (arith, e, a, b)

-- nothing rests once the rest was given back
none_rests : (x : Note) → Whole x → rest_of (with_back x) ≡ 0
none_rests x w = omega arith

module _ (reserve : ℕ) (t : Tally) (s : State) (h : Promise reserve t s) (n : ℕ) where
  withdrawn : (f : PlacedOf) (r c : OpenRegister) → found_of s.orders n ≡ Ok f → register_at s.rows (key_of f.order) ≡ Ok r → release_on r (units_of f.order) ≡ Ok c → Promise reserve (entered t (Withdraw n)) (with_orders (with_rows s (rows_with s.rows c)) (set s.orders f.place None))
  withdrawn f r c ef er ec =
      let pl = found_place s.orders n f ef in
      let nd = noted_order t.notes n f.order s.orders s.last_order h.orders pl.slot in
      let x : Note = nd.note in
      let y : Note = with_back x in
      let wx : Whole x = all_at number Whole n t.notes x h.orders.whole nd.at_n in
      let nx : number x ≡ n = at_key number n t.notes x nd.at_n in
      let zero : rest_of y ≡ 0 = none_rests x wx in
      let gone : lives (Some y) ≡ None = ap (λ (b : Bool). cond b (Some (standing y)) None) (le-ltb 0 (rest_of y) (omega arith)) in
      let ko : key_of f.order ≡ register_of x = ap key_of nd.order in
      let mo : units_of f.order ≡ units_of (standing x) = ap units_of nd.order in
      let no : units_of (standing y) ≡ 0 = ap (λ (q : ℕ). block_units x.order.mode x.order.side q x.order.price x.order.ratio) zero ∙ units_none x.order.mode x.order.side x.order.price x.order.ratio in
      let op : Open s.rows (register_of x) r = subst (λ (k : Key). Open s.rows k r) ko (open_at s.rows (key_of f.order) r er) in
      let oh = owed_here t.notes n x y nd.at_n nx refl in
      let bk =
      freed_books reserve t.opened t.notes t.trades_leaving_rest s.rows h.books (register_of x) r op (units_of (standing x)) 0 0 (replace_by number y t.notes) t.trades_leaving_rest (λ opening. covers (base_of (register_of x) opening reserve) 0 (units_of (standing x)) (omega arith))
      (λ j off. (blocks_apart t.notes n x y nd.at_n nx refl j off, refl)) (omega arith) (omega arith) (omega arith)
      (with_blocked r.figures (r.figures.blocked -ℤ pos (units_of f.order))) (omega (arith, ints)) (ap (λ (u : ℕ). r.figures.blocked -ℤ pos u) mo) in
      subst (λ (o : Option Note). Promise reserve (given_back t o) (with_orders (with_rows s (rows_with s.rows c)) (set s.orders f.place None))) (sym nd.at_n)
      (record {
        reserved = h.reserved;
        ratios = h.ratios;
        orders =
            subst (λ (z : Option Live). Orders (replace_by number y t.notes) (set s.orders f.place z) s.last_order) gone
            (order_changed t.notes s.orders s.last_order h.orders n f.place x y nd.at_n nx (omega arith) pl.within (ap (has_number n) pl.holds ∙ pl.bears));
        books = subst (λ (z : OpenRegister). Books reserve t.opened (replace_by number y t.notes) t.trades_leaving_rest (rows_with s.rows z)) (released r c (units_of f.order) ec) bk;
      })

  pub withdraw_keeps : Keeps (Promise reserve (entered t (Withdraw n))) (withdraw_of s n)
  unfolding withdraw_of
  withdraw_keeps =
      by_step (Promise reserve (entered t (Withdraw n))) (found_of s.orders n) _ λ f ef.
      by_step (Promise reserve (entered t (Withdraw n))) (register_at s.rows (key_of f.order)) _ λ r er.
      by_step (Promise reserve (entered t (Withdraw n))) (release_on r (units_of f.order)) _ λ c ec.
      withdrawn f r c ef er ec
