-- What a store of rows means: a list of rows, and what each of its functions does to it.
use Rattle.std.specs.Prelude.{ℕ, zero, suc, if◌then◌else◌, List, [], ◌∷◌, ◌++◌, length, Ok, Err, Option, Result, nat_lt}
use Rattle.seek.specs.Place.{place_of}
use Rattle.registers.specs.declared.key.Key.{Key}
use Rattle.registers.specs.declared.figures.Figures.{Figures}
use Rattle.registers.specs.declared.row.Row.{Row}
use Rattle.registers.specs.declared.fault.StoreFault.{StoreFault}
use Rattle.registers.specs.declared.fault.StoreFault.TheVariants.{Full, NotOpen}
use Rattle.registers.specs.Registers.{same_key}

-- the least place that bears a key
abbrev pub place_for : Key → List Row → Option ℕ
place_for k rs = place_of (λ r. same_key r.key k) rs

-- a row with other figures
abbrev pub with_figures : Row → Figures → Row
with_figures r f = record r { figures = f }

-- the rows with other figures at a place; past the last, the same rows
abbrev pub put_row : List Row → ℕ → Figures → List Row
put_row [] n f = []
put_row (r ∷ rs) zero f = with_figures r f ∷ rs
put_row (r ∷ rs) (suc n) f = r ∷ put_row rs n f

-- a put refuses only a place beyond the last
abbrev pub put_answer : List Row → ℕ → Result Unit StoreFault
put_answer rs n = if nat_lt n (length rs) then Ok tt else Err NotOpen

-- an add appends a row, and refuses only where the count equals the room
abbrev pub add_row : List Row → ℕ → Row → List Row
add_row rs room r = if nat_lt (length rs) room then rs ++ r ∷ [] else rs

abbrev pub add_answer : List Row → ℕ → Result Unit StoreFault
add_answer rs room = if nat_lt (length rs) room then Ok tt else Err Full
