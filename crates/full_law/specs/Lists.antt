-- Lists whose elements bear a number as their key, and lists of places, each of which holds something or is free.
use Rattle.std.specs.Prelude.{ℕ, Bool, if◌then◌else◌, List, [], ◌∷◌, Some, None, Option, ◌==◌}

-- the first element that bears a key
abbrev pub find_by : {X : Type 0} → (X → ℕ) → ℕ → List X → Option X
find_by key n [] = None
find_by key n (x ∷ xs) = if n == key x then Some x else find_by key n xs

-- y in place of the first element that bears its key
abbrev pub replace_by : {X : Type 0} → (X → ℕ) → X → List X → List X
replace_by key y [] = []
replace_by key y (x ∷ xs) = if key y == key x then y ∷ xs else x ∷ replace_by key y xs

-- what the first place holds that passes a test
abbrev pub held_by : {X : Type 0} → (Option X → Bool) → List (Option X) → Option X
held_by p [] = None
held_by p (x ∷ os) = if p x then x else held_by p os
