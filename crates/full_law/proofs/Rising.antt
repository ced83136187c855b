-- The numbers of notes rise, so that each note is the one that its number names.
use Rattle.std.proofs.Common.{◌≡◌, ◌≢◌, ℕ, ◌<◌, ◌≤◌, Bool, true, false, cond, eqb, List, [], ◌∷◌, ◌++◌, map, Some, refl, ap, arith}
use Rattle.std.specs.List.{AllByRecursion, AllPairs}
use Rattle.std.proofs.lemmas.Bool.{eqb-true, eq-eqb, ne_eqb}
use Rattle.std.proofs.lemmas.List.Elements.{All-from_recursion}
use Rattle.std.proofs.lemmas.List.Kept.{AllPairs-cons}
use Rattle.full_law.specs.Lists.{find_by, replace_by}
use Rattle.full_law.specs.Tally.{Note, number}
use Rattle.full_law.proofs.Promises.{Rising}

-- a note in place of another of its number leaves the numbers
numbers_by : (y z : Note) (zs ys : List Note) (b : Bool) → eqb (number y) (number z) ≡ b → map number ys ≡ map number zs → map number (cond b (y ∷ zs) (z ∷ ys)) ≡ map number (z ∷ zs)
numbers_by y z zs ys true e h = ap (λ (n : ℕ). n ∷ map number zs) (eqb-true (number y) (number z) e)
numbers_by y z zs ys false e h = ap (λ (ns : List ℕ). number z ∷ ns) h

pub numbers_replaced : (y : Note) (xs : List Note) → map number (replace_by number y xs) ≡ map number xs
numbers_replaced y [] = refl
numbers_replaced y (z ∷ zs) = numbers_by y z zs (replace_by number y zs) (eqb (number y) (number z)) refl (numbers_replaced y zs)

-- a number above the last goes behind them
above_more : (n : ℕ) (x : Note) (xs : List Note) → AllByRecursion (λ (m : ℕ). n < m) (map number xs) → n < number x → AllByRecursion (λ (m : ℕ). n < m) (map number (xs ++ x ∷ []))
above_more n x [] a l = (l, tt)
above_more n x (z ∷ zs) a l = (a.0, above_more n x zs a.1 l)

pub rising_more : (last : ℕ) (x : Note) (xs : List Note) → Rising (map number xs) → AllByRecursion (λ (z : Note). number z ≤ last) xs → last < number x → Rising (map number (xs ++ x ∷ []))
rising_more last x [] r f l = (tt, tt)
rising_more last x (z ∷ zs) r f l = (above_more (number z) x zs r.0 (omega (arith, f.0)), rising_more last x zs r.1 f.1 l)

-- each note is found under its number
found_behind : (z : Note) (zs ys : List Note) → AllByRecursion (λ (m : ℕ). number z < m) (map number ys) → AllByRecursion (λ (y : Note). find_by number (number y) zs ≡ Some y) ys → AllByRecursion (λ (y : Note). find_by number (number y) (z ∷ zs) ≡ Some y) ys
found_behind z zs [] a f = tt
found_behind z zs (y ∷ ys) a f =
    let e : eqb (number y) (number z) ≡ false = ne_eqb (number y) (number z) (λ s. omega (arith, a.0)) in
    (rw e f.0, found_behind z zs ys a.1 f.1)

pub each_found : (xs : List Note) → Rising (map number xs) → AllByRecursion (λ (x : Note). find_by number (number x) xs ≡ Some x) xs
each_found [] r = tt
each_found (z ∷ zs) r =
    let e : eqb (number z) (number z) ≡ true = eq-eqb (number z) (number z) refl in
    (rw e refl, found_behind z zs zs r.0 (each_found zs r.1))

-- no two of them are the same
differ : (n : ℕ) (ns : List ℕ) → AllByRecursion (λ (m : ℕ). n < m) ns → AllByRecursion (λ (m : ℕ). n ≢ m) ns
differ n [] a = tt
differ n (m ∷ ns) a = ((λ e. omega (arith, a.0)), differ n ns a.1)

pub all_differ : (ns : List ℕ) → Rising ns → AllPairs (λ (m n : ℕ). m ≢ n) ns
all_differ [] r = λ i j d l k. absurd (omega arith)
all_differ (n ∷ ns) r = AllPairs-cons (λ (m k : ℕ). m ≢ k) n ns (All-from_recursion (λ (m : ℕ). n ≢ m) ns (differ n ns r.0)) (all_differ ns r.1)
