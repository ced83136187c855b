-- The least place at which a record passes a test.
use Rattle.std.proofs.Common.{◌≡◌, ℕ, zero, suc, ◌+◌, ◌<◌, ◌≤◌, Bool, true, false, cond, List, [], ◌∷◌, length, map, Some, None, Option, sym, refl, ap, ◌∙◌, arith}
use Rattle.std.specs.List.{slice_get, position_from}
use Rattle.std.specs.Option.{MatchOption, IfSome}
use Rattle.seek.proofs.Cases.{no_case}
use Rattle.seek.specs.Place.{place_of, on_by, passes, BearsAt}

on_by_one : (i : ℕ) (o : Option ℕ) → on_by (i + 1) o ≡ on_by i (on_by 1 o)
on_by_one i None = refl
on_by_one i (Some n) = let e : i + 1 + n ≡ i + (1 + n) = omega arith in ap Some e

-- a search over what the records of a list show
pub place_of_map : {X Y : Type 0} (f : X → Y) (p : Y → Bool) (xs : List X) → place_of p (map f xs) ≡ place_of (λ x. p (f x)) xs
place_of_map f p [] = refl
place_of_map f p (x ∷ xs) = ap (λ (o : Option ℕ). cond (p (f x)) (Some 0) (on_by 1 o)) (place_of_map f p xs)

module _ {X : Type 0} (p : X → Bool) where
  -- std's search, which counts as it goes
  at_front : (i : ℕ) (b : Bool) (o : Option ℕ) → cond b (Some i) (on_by (i + 1) o) ≡ on_by i (cond b (Some 0) (on_by 1 o))
  at_front i true o = let e : i ≡ i + 0 = omega arith in ap Some e
  at_front i false o = on_by_one i o

  counted : (i : ℕ) (xs : List X) → position_from p i xs ≡ on_by i (place_of p xs)
  counted i [] = refl
  counted i (x ∷ xs) = ap (cond (p x) (Some i)) (counted (i + 1) xs) ∙ at_front i (p x) (place_of p xs)

  on_by_none : (o : Option ℕ) → on_by 0 o ≡ o
  on_by_none None = refl
  on_by_none (Some n) = let e : 0 + n ≡ n = omega arith in ap Some e

  pub place_counted : (xs : List X) → position_from p 0 xs ≡ place_of p xs
  place_counted xs = counted 0 xs ∙ on_by_none (place_of p xs)

  -- a place that passes, and none before it does
  first : (xs : List X) (i : ℕ) → passes p (slice_get xs i) ≡ true → ((k : ℕ) → k < i → passes p (slice_get xs k) ≡ false) → place_of p xs ≡ Some i
  first [] i t f = no_case (cc)
  first (x ∷ xs) zero t f = ap (λ (b : Bool). cond b (Some 0) (on_by 1 (place_of p xs))) t
  first (x ∷ xs) (suc i) t f =
      let e : 1 + i ≡ suc i = omega arith in
      ap (λ (b : Bool). cond b (Some 0) (on_by 1 (place_of p xs))) (f 0 (omega arith))
      ∙ ap (on_by 1) (first xs i t (λ k h. f (suc k) (omega arith)))
      ∙ ap Some e

  nowhere : (xs : List X) → ((k : ℕ) → k < length xs → passes p (slice_get xs k) ≡ false) → place_of p xs ≡ None
  nowhere [] f = refl
  nowhere (x ∷ xs) f =
      ap (λ (b : Bool). cond b (Some 0) (on_by 1 (place_of p xs))) (f 0 (omega arith))
      ∙ ap (on_by 1) (nowhere xs (λ k h. f (suc k) (omega arith)))

  -- the record at a place that passes
  bears : (xs : List X) (i : ℕ) → passes p (slice_get xs i) ≡ true → BearsAt p xs i
  bears [] i t d = no_case (cc)
  bears (x ∷ xs) zero t d = t
  bears (x ∷ xs) (suc i) t d = bears xs i t d

  -- what a search by place answers, of n records
  abbrev pub Found : List X → ℕ → Option ℕ → Type 0
  Found xs n r = MatchOption r ((k : ℕ) → 0 ≤ k → k < n → passes p (slice_get xs k) ≡ false) (λ i. (0 ≤ i) × (i < n) × (passes p (slice_get xs i) ≡ true) × ((k : ℕ) → 0 ≤ k → k < i → passes p (slice_get xs k) ≡ false))

  pub place_found : (xs : List X) (n : ℕ) (r : Option ℕ) → n ≡ length xs → Found xs n r → r ≡ place_of p xs
  place_found xs n None e m = sym (nowhere xs (λ k h. m k (omega arith) (omega arith)))
  place_found xs n (Some i) e m = sym (first xs i m.2 (λ k h. m.3 k (omega arith) h))

  pub found_within : (xs : List X) (n : ℕ) (r : Option ℕ) → n ≡ length xs → Found xs n r → IfSome r (λ i. i < length xs)
  found_within xs n None e m = tt
  found_within xs n (Some i) e m = omega arith

  pub borne_there : (xs : List X) (n : ℕ) (r : Option ℕ) → Found xs n r → IfSome r (BearsAt p xs)
  borne_there xs n None m = tt
  borne_there xs n (Some i) m = bears xs i m.2
