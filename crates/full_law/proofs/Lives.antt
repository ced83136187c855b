-- The orders beside the notes: one order's rest changes, or a new one is announced.
use Rattle.std.proofs.Common.{◌≡◌, ℕ, ◌<◌, ◌≤◌, Bool, true, false, cond, eqb, ltb, List, [], ◌∷◌, ◌++◌, length, get_or, set, Some, None, Option, sym, refl, ap, ◌∙◌, subst, ⊎_elim, arith}
use Rattle.std.specs.List.{AllByRecursion}
use Rattle.std.proofs.lemmas.Bool.{cases_eq, eqb-true, eq-eqb, ne_eqb, lt-ltb}
use Rattle.std.proofs.ByRecursion.{All-push, All-weaker}
use Rattle.full.specs.Orders.{Live, has_number, resting}
use Rattle.full_law.specs.Lists.{find_by, replace_by}
use Rattle.full_law.specs.Tally.{Note, number, rest_of, standing}
use Rattle.full_law.specs.Law.{slot_for, places_of, lives}
use Rattle.full_law.proofs.Promises.{Whole, Orders, Rising}
use Rattle.full_law.proofs.Rising.{numbers_replaced, rising_more}
use Rattle.full_law.proofs.Keys.{replaced_here, replaced_apart, push_here, push_apart, replaced_all, all_at, at_key}
use Rattle.full_law.proofs.Slots.{one, one_most, count_set, held_here, held_other, uncounted}

-- a place that holds one number holds no other
other_number : (m n : ℕ) (x : Option Live) → (m ≡ n → ⊥) → has_number n x ≡ true → has_number m x ≡ false
other_number m n None ne e = refl
other_number m n (Some o) ne e = ne_eqb o.number m (λ s. ne (sym s ∙ eqb-true o.number n e))

-- what a note's order leaves in its place
kept_number : (n : ℕ) (y : Note) (b : Bool) → number y ≡ n → cond (has_number n (cond b (Some (standing y)) None)) (cond b (Some (standing y)) None) None ≡ cond b (Some (standing y)) None
kept_number n y true e = rw (eq-eqb (number y) n e)
kept_number n y false e = refl

not_other : (m n : ℕ) (y : Note) (b : Bool) → number y ≡ n → (m ≡ n → ⊥) → has_number m (cond b (Some (standing y)) None) ≡ false
not_other m n y true e ne = ne_eqb (number y) m (λ s. ne (sym s ∙ e))
not_other m n y false e ne = refl

each_number : (P : ℕ → Type 0) (n : ℕ) → P n → ((m : ℕ) → (m ≡ n → ⊥) → P m) → (m : ℕ) → P m
each_number P n here there m = ⊎_elim (λ e. subst P (sym e) here) (there m) (cases_eq m n)

module _ (notes : List Note) (os : List (Option Live)) (last : ℕ) (h : Orders notes os last) where
  -- the note of a live order changes, and its place with it
  pub order_changed : (n i : ℕ) (x y : Note) → find_by number n notes ≡ Some x → number y ≡ n → Whole y → i < length os → has_number n (get_or os i None) ≡ true → Orders (replace_by number y notes) (set os i (lives (Some y))) last
  order_changed n i x y ex ny wy li hn =
      record {
        whole = replaced_all number Whole y notes wy h.whole;
        fresh = replaced_all number (λ (z : Note). number z ≤ last) y notes (subst (λ (k : ℕ). k ≤ last) (at_number ∙ sym ny) (all_at number (λ (z : Note). number z ≤ last) n notes x h.fresh ex)) h.fresh;
        rising = subst Rising (sym (numbers_replaced y notes)) h.rising;
        live = each_number (λ m. slot_for m (set os i (lives (Some y))) ≡ lives (find_by number m (replace_by number y notes))) n
            (held_here (has_number n) os i (lives (Some y)) (omega (arith, h.once n, ap one hn)) li ∙ kept_number n y (ltb 0 (rest_of y)) ny ∙ ap lives (sym (replaced_here number n y notes x ny ex)))
            (λ m ne. held_other (has_number m) os i (lives (Some y)) (other_number m n (get_or os i None) ne hn) (not_other m n y (ltb 0 (rest_of y)) ny ne) ∙ h.live m ∙ ap lives (sym (replaced_apart number n y notes m ny ne)));
        once = each_number (λ m. places_of m (set os i (lives (Some y))) ≤ 1) n
            (omega (arith, count_set (has_number n) os i (lives (Some y)) li, ap one hn, one_most (has_number n (lives (Some y))), h.once n))
            (λ m ne. omega (arith, count_set (has_number m) os i (lives (Some y)) li, ap one (not_other m n y (ltb 0 (rest_of y)) ny ne), h.once m));
      }
    where
      at_number : number x ≡ n
      at_number = at_key number n notes x ex

  -- no note bears a number above the last
  none_above : (n : ℕ) (xs : List Note) → last < n → AllByRecursion (λ (x : Note). number x ≤ last) xs → find_by number n xs ≡ None
  none_above n [] l f = refl
  none_above n (x ∷ xs) l f =
      let e : eqb n (number x) ≡ false = ne_eqb n (number x) (λ s. omega (arith, f.0)) in
      rw e (none_above n xs l f.1)

  -- an order is announced, under a number above the last, in a free place
  pub order_announced : (o : Live) (i : ℕ) → last < o.number → 0 < o.rest → i < length os → get_or os i None ≡ None → Orders (notes ++ record { order = o; traded = 0; back = 0 } ∷ []) (set os i (Some o)) o.number
  order_announced o i l r li free =
      record {
        whole = All-push Whole notes x h.whole (omega arith);
        fresh = All-push (λ (z : Note). number z ≤ o.number) notes x (All-weaker (λ (z : Note). number z ≤ last) (λ (z : Note). number z ≤ o.number) (λ z e. omega arith) notes h.fresh) (omega arith);
        rising = rising_more last x notes h.rising h.fresh l;
        live = each_number (λ m. slot_for m (set os i (Some o)) ≡ lives (find_by number m (notes ++ x ∷ []))) o.number
            (held_here (has_number o.number) os i (Some o) (omega (arith, nowhere)) li ∙ ap (λ (b : Bool). cond b (Some o) None) mine ∙ sym alive ∙ ap lives (sym (push_here number o.number x notes refl none)))
            (λ m ne. held_other (has_number m) os i (Some o) (ap (has_number m) free) (ne_eqb o.number m (λ s. ne (sym s))) ∙ h.live m ∙ ap lives (sym (push_apart number o.number x notes m refl ne)));
        once = each_number (λ m. places_of m (set os i (Some o)) ≤ 1) o.number
            (omega (arith, count_set (has_number o.number) os i (Some o) li, one_most (has_number o.number (Some o)), nowhere))
            (λ m ne. omega (arith, count_set (has_number m) os i (Some o) li, ap one (ne_eqb o.number m (λ s. ne (sym s))), h.once m));
      }
    where
      x : Note
      x = record { order = o; traded = 0; back = 0 }

      none : find_by number o.number notes ≡ None
      none = none_above o.number notes l h.fresh

      mine : has_number o.number (Some o) ≡ true
      mine = eq-eqb o.number o.number refl

      absent : slot_for o.number os ≡ None
      absent = h.live o.number ∙ ap lives none

      nowhere : places_of o.number os ≡ 0
      nowhere = uncounted (has_number o.number) refl os absent

      alive : lives (Some x) ≡ Some o
      alive =
          let e : rest_of x ≡ o.rest = omega arith in
          let t : ltb 0 (rest_of x) ≡ true = lt-ltb 0 (rest_of x) (omega arith) in
          ap (λ (b : Bool). cond b (Some (standing x)) None) t ∙ ap (λ (k : ℕ). Some (resting o k)) e
