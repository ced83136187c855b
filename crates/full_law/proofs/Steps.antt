-- What an open register and a found order are, for the calls.
use Rattle.std.proofs.Common.{◌≡◌, ℕ, ◌<◌, Bool, true, false, cond, ltb, List, length, get_or, Some, None, Ok, Option, Result, sym, refl, ap, ◌∙◌, arith}
use Rattle.std.proofs.lemmas.Bool.{ltb-true}
use Rattle.std.specs.List.{slice_get}
use Rattle.seek.proofs.Cases.{no_case}
use Rattle.registers.specs.declared.key.Key.{Key}
use Rattle.registers.specs.declared.row.Row.{Row}
use Rattle.plans.specs.declared.refusal.Refusal.{Refusal}
use Rattle.plans.specs.Steps.{and_then, or_refuse}
use Rattle.plans.proofs.Passes.{of_ok}
use Rattle.full.specs.Orders.{Live, has_number, place_of_order}
use Rattle.full.specs.Checks.{PlacedOf, found_of}
use Rattle.full.specs.declared.open_register.OpenRegister.{OpenRegister}
use Rattle.full.specs.OpenRegisters.{register_at}
use Rattle.full.proofs.Places.{held_stands}
use Rattle.full_law.specs.Lists.{find_by}
use Rattle.full_law.specs.Tally.{Note, number, standing, rest_of}
use Rattle.full_law.specs.Law.{slot_for, lives}
use Rattle.full_law.proofs.Promises.{Orders}
use Rattle.full_law.proofs.Rows.{same_key_lem}
use Rattle.full_law.proofs.Slots.{held_at, search_at}

-- an open register: the row at its place, which bears the key
pub record Open (rows : List Row) (k : Key) (h : OpenRegister) : Type 0 where
  pub row : Row
  pub at : slice_get rows h.place ≡ Some row
  pub key : row.key ≡ k
  pub figures : row.figures ≡ h.figures

pub open_at : (rows : List Row) (k : Key) (h : OpenRegister) → register_at rows k ≡ Ok h → Open rows k h
open_at rows k h e =
    let s = held_stands rows k h e in
    record { row = s.row; at = s.at; key = same_key_lem s.row.key k s.bears; figures = s.figures }

-- what came of a step that asks for a value that has to be there
pub stepped_there : {X Y : Type 0} (o : Option X) (e : Refusal) (k : X → Result Y Refusal) (y : Y) → and_then (or_refuse o e) k ≡ Ok y → (x : X) × ((o ≡ Some x) × (k x ≡ Ok y))
stepped_there None e k y h = no_case (cc)
stepped_there (Some x) e k y h = (x, (refl, h))

-- a found order: its place holds it, and it bears the number
pub record Place (os : List (Option Live)) (n : ℕ) (f : PlacedOf) : Type 0 where
  pub within : f.place < length os
  pub holds : get_or os f.place None ≡ Some f.order
  pub bears : has_number n (Some f.order) ≡ true
  pub slot : slot_for n os ≡ Some f.order

module _ (os : List (Option Live)) (n : ℕ) (f : PlacedOf) where
  place_at : (i : ℕ) (o : Live) → place_of_order n os ≡ Some i → get_or os i None ≡ Some o → ◌≡◌ {A = PlacedOf} (record { place = i; order = o }) f → Place os n f
  place_at i o p e s =
      let a = search_at (has_number n) os i p in
      let pi : i ≡ f.place = ap (λ (x : PlacedOf). x.place) s in
      let po : o ≡ f.order = ap (λ (x : PlacedOf). x.order) s in
      let h : get_or os f.place None ≡ Some f.order = ap (λ (j : ℕ). get_or os j None) (sym pi) ∙ e ∙ ap Some po in
      let b : has_number n (Some f.order) ≡ true = ap (has_number n) (sym (e ∙ ap Some po)) ∙ a.1 in
      record { within = omega (arith, a.0); holds = h; bears = b; slot = held_at (has_number n) os i p ∙ e ∙ ap Some po }

  pub found_place : found_of os n ≡ Ok f → Place os n f
  unfolding found_of
  found_place e =
      let i = stepped_there (place_of_order n os) _ _ f e in
      let o = stepped_there (get_or os i.0 None) _ _ f i.1.1 in
      place_at i.0 o.0 i.1.0 o.1.0 (of_ok o.1.1)

-- its note: the order as it stands, with a rest
pub record Noted (notes : List Note) (n : ℕ) (o : Live) : Type 0 where
  pub note : Note
  pub at_n : find_by number n notes ≡ Some note
  pub order : o ≡ standing note
  pub rests : 0 < rest_of note

module _ (notes : List Note) (n : ℕ) (o : Live) where
  by_lives : (x : Note) (b : Bool) → ltb 0 (rest_of x) ≡ b → find_by number n notes ≡ Some x → cond b (Some (standing x)) None ≡ Some o → Noted notes n o
  by_lives x true t e f = record { note = x; at_n = e; order = sym (let s : standing x ≡ o = cc in s); rests = ltb-true 0 (rest_of x) t }
  by_lives x false t e f = no_case (cc)

  by_note : (m : Option Note) → find_by number n notes ≡ m → lives m ≡ Some o → Noted notes n o
  by_note None e f = no_case (cc)
  by_note (Some x) e f = by_lives x (ltb 0 (rest_of x)) refl e f

  pub noted_order : (os : List (Option Live)) (last : ℕ) → Orders notes os last → slot_for n os ≡ Some o → Noted notes n o
  noted_order os last h e = by_note (find_by number n notes) refl (sym (h.live n) ∙ e)
