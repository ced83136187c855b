-- Where in a list of records a key is borne.
use Rattle.std.specs.Prelude.{◌≡◌, ℕ, ◌+◌, Bool, true, false, if◌then◌else◌, List, [], ◌∷◌, Some, None, Option, slice_index_or}

-- a place moved on by n
abbrev pub on_by : ℕ → Option ℕ → Option ℕ
on_by n None = None
on_by n (Some i) = Some (n + i)

-- the least place in a list whose record passes the test
abbrev pub place_of : {R : Type 0} → (R → Bool) → List R → Option ℕ
place_of p [] = None
place_of p (x ∷ xs) = if p x then Some 0 else on_by 1 (place_of p xs)

-- whether there is a record and it passes the test
abbrev pub passes : {R : Type 0} → (R → Bool) → Option R → Bool
passes p None = false
passes p (Some x) = p x

-- the record at a place passes the test
abbrev pub BearsAt : {R : Type 0} → (R → Bool) → List R → ℕ → Type 0
BearsAt {R = R} p xs i = (d : R) → p (slice_index_or xs i d) ≡ true
