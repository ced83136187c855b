-- Lists of places, looked up by a test, after one place changes, and what a search in them found.
use Rattle.std.proofs.Common.{◌≡◌, ℕ, zero, suc, ◌+◌, ◌<◌, ◌≤◌, Bool, true, false, cond, List, [], ◌∷◌, length, get_or, set, replicate, count_by, Some, None, Option, is_none, refl, ap, ◌∙◌, subst, arith}
use Rattle.std.proofs.lemmas.List.Recursion.{found_set_other}
use Rattle.std.proofs.lemmas.List.Sums.{sum_by-cons, sum_by-set, get_or-le-sum_by}
use Rattle.seek.proofs.Cases.{no_case}
use Rattle.seek.specs.Place.{place_of, on_by}
use Rattle.full_law.specs.Lists.{held_by}

-- one, where a test holds
abbrev pub one : Bool → ℕ
one b = cond b 1 0

pub one_most : (b : Bool) → one b ≤ 1
one_most true = omega arith
one_most false = omega arith

-- a free place holds nothing
pub was_none : {X : Type 0} (x : Option X) → is_none x ≡ true → x ≡ None
was_none None e = refl
was_none (Some y) e = no_case (cc)

-- a test that counts nothing does not hold
pub off : (b : Bool) → one b ≤ 0 → b ≡ false
off true h = absurd (omega arith)
off false h = refl

pub count_cons : {X : Type 0} (p : X → Bool) (x : X) (xs : List X) → count_by p (x ∷ xs) ≡ one (p x) + count_by p xs
count_cons p x xs = sum_by-cons (λ y. one (p y)) x xs

module _ {X : Type 0} (p : Option X → Bool) where
  -- where no place passes, nothing is held
  pub unheld : (os : List (Option X)) → count_by p os ≡ 0 → held_by p os ≡ None
  unheld [] e = refl
  unheld (x ∷ os) e =
      let c = count_cons p x os in
      let f : p x ≡ false = off (p x) (omega arith) in
      rw f (unheld os (omega arith))

  -- how many places pass, after a change
  pub count_set : (os : List (Option X)) (i : ℕ) (x : Option X) → i < length os → count_by p (set os i x) + one (p (get_or os i None)) ≡ count_by p os + one (p x)
  count_set os i x h = sum_by-set (λ y. one (p y)) os i x None h

  -- a change of a place that does not pass, and does not after it
  pub held_other : (os : List (Option X)) (i : ℕ) (x : Option X) → p (get_or os i None) ≡ false → p x ≡ false → held_by p (set os i x) ≡ held_by p os
  held_other os i x e f = found_set_other (held_by p) p (λ y. y) None refl (λ _ _. refl) os i x None e f

  -- a change of a place that alone may pass
  pub held_here : (os : List (Option X)) (i : ℕ) (x : Option X) → count_by p os ≤ one (p (get_or os i None)) → i < length os → held_by p (set os i x) ≡ cond (p x) x None
  held_here [] i x l h = absurd (omega arith)
  held_here (y ∷ os) zero x l h = ap (λ (z : Option X). cond (p x) x z) (unheld os (omega (arith, count_cons p y os)))
  held_here (y ∷ os) (suc i) x l h =
      let c = count_cons p y os in
      let m = get_or-le-sum_by (λ z. one (p z)) os i None (omega arith) in
      let f : p y ≡ false = off (p y) (omega arith) in
      rw f (held_here os i x (omega arith) (omega arith))

-- where a free place does not pass
module _ {X : Type 0} (p : Option X → Bool) (free : p None ≡ false) where
  passes_not : (x rest : Option X) (b : Bool) → p x ≡ b → cond b x rest ≡ None → (p x ≡ false) × (rest ≡ None)
  passes_not None rest true e f = no_case (cc)
  passes_not (Some y) rest true e f = no_case (cc)
  passes_not x rest false e f = (e, f)

  -- where nothing is held, no place passes
  pub uncounted : (os : List (Option X)) → held_by p os ≡ None → count_by p os ≡ 0
  uncounted [] e = refl
  uncounted (x ∷ os) e =
      let n = passes_not x (held_by p os) (p x) refl e in
      omega (arith, count_cons p x os, ap one n.0, uncounted os n.1)

  -- nothing is held in a list of free places
  pub none_held : (k : ℕ) → held_by p (replicate k None) ≡ None
  none_held zero = refl
  none_held (suc k) = rw free (none_held k)

  pub none_counted : (k : ℕ) → count_by p (replicate k None) ≡ 0
  none_counted k = uncounted (replicate k None) (none_held k)

-- what is so of the first place of a list, if that passes, and of a later one, if it is so in the rest, is so of the
-- place that a search found
module _ {X : Type 0} (p : X → Bool) (P : List X → ℕ → Type 0) (first : (x : X) (xs : List X) → p x ≡ true → P (x ∷ xs) 0) (later : (x : X) (xs : List X) (i : ℕ) → p x ≡ false → P xs i → P (x ∷ xs) (suc i)) where
  by_rest : (x : X) (xs : List X) (i : ℕ) (o : Option ℕ) → p x ≡ false → on_by 1 o ≡ Some i → ((j : ℕ) → o ≡ Some j → P xs j) → P (x ∷ xs) i
  by_rest x xs i None e f rest = no_case (cc)
  by_rest x xs i (Some j) e f rest =
      let s : suc j ≡ i = let k : 1 + j ≡ i = cc in omega arith in
      subst (P (x ∷ xs)) s (later x xs j e (rest j refl))

  by_test : (x : X) (xs : List X) (i : ℕ) (b : Bool) → p x ≡ b → cond b (Some 0) (on_by 1 (place_of p xs)) ≡ Some i → ((j : ℕ) → place_of p xs ≡ Some j → P xs j) → P (x ∷ xs) i
  by_test x xs i true e f rest = let s : 0 ≡ i = cc in subst (P (x ∷ xs)) s (first x xs e)
  by_test x xs i false e f rest = by_rest x xs i (place_of p xs) e f rest

  found : (xs : List X) (i : ℕ) → place_of p xs ≡ Some i → P xs i
  found [] i e = no_case (cc)
  found (x ∷ xs) i e = by_test x xs i (p x) refl e (λ j f. found xs j f)

module _ {X : Type 0} (p : Option X → Bool) where
  pub search_at : (os : List (Option X)) (i : ℕ) → place_of p os ≡ Some i → (i < length os) × (p (get_or os i None) ≡ true)
  search_at os i e = found p (λ xs j. (j < length xs) × (p (get_or xs j None) ≡ true)) (λ x xs t. (omega arith, t)) (λ x xs j t h. (omega (arith, h.0), h.1)) os i e

  -- it is the place that is held
  pub held_at : (os : List (Option X)) (i : ℕ) → place_of p os ≡ Some i → held_by p os ≡ get_or os i None
  held_at os i e = found p (λ xs j. held_by p xs ≡ get_or xs j None) (λ x xs t. ap (λ (b : Bool). cond b x (held_by p xs)) t) (λ x xs j t h. ap (λ (b : Bool). cond b x (held_by p xs)) t ∙ h) os i e
