-- Open registers: how calls read them, change their figures, and put them back.
use Rattle.std.specs.Prelude.{◌≡◌, ℕ, Bool, if◌then◌else◌, ◌&&◌, List, [], ◌∷◌, ℤ, pos, ◌+ℤ◌, ◌-ℤ◌, Some, None, Ok, Err, Option, Result, ◌==◌, int_le}
use Rattle.std.specs.List.{slice_get}
use Rattle.std.specs.Option.{option_map}
use Rattle.std.specs.Ordering.{int_eq}
use Rattle.registers.specs.declared.key.Key.{Key}
use Rattle.registers.specs.declared.figures.Figures.{Figures}
use Rattle.registers.specs.declared.row.Row.{Row}
use Rattle.registers.specs.declared.fault.StoreFault.TheVariants.{NotOpen, OutOfRange}
use Rattle.registers.specs.declared.kind.RegisterKind.TheVariants.{Cash}
use Rattle.registers.specs.Registers.{in_range, kind_number}
use Rattle.registers.specs.Stores.{place_for, put_row}
use Rattle.registers.specs.Changes.{Change, Put, put_changes}
use Rattle.full.specs.declared.open_register.OpenRegister.{OpenRegister}
use Rattle.plans.specs.declared.refusal.Refusal.{Refusal}
use Rattle.plans.specs.declared.refusal.Refusal.TheVariants.{Store, NotCovered, LeavesRange}
use Rattle.plans.specs.Steps.{demand}

-- an open register: its place and its figures
abbrev pub register_in : ℕ → Option Row → Result OpenRegister Refusal
register_in n None = Err (Store NotOpen)
register_in n (Some r) = Ok (record { place = n; figures = r.figures })

abbrev pub register_from : List Row → Option ℕ → Result OpenRegister Refusal
register_from rs None = Err (Store NotOpen)
register_from rs (Some n) = register_in n (slice_get rs n)

unfoldable pub register_at : List Row → Key → Result OpenRegister Refusal
register_at rs k = register_from rs (place_for k rs)

-- the figures that stand at a place
abbrev pub FiguresAt : List Row → ℕ → Figures → Type 0
FiguresAt rs i f = option_map (λ r. r.figures) (slice_get rs i) ≡ Some f

-- figures of 0
abbrev pub no_figures : Figures
no_figures = record { limit = pos 0; blocked = pos 0; third = pos 0 }

-- figures with another limit, and with another blocked figure
abbrev pub with_limit : Figures → ℤ → Figures
with_limit f z = record f { limit = z }

abbrev pub with_blocked : Figures → ℤ → Figures
with_blocked f z = record f { blocked = z }

abbrev pub with_figures_of : OpenRegister → Figures → OpenRegister
with_figures_of h f = record h { figures = f }

-- covered: the limit less the raised blocked figure leaves the floor, which is the reserve for cash
-- and 0 elsewhere
abbrev pub floor_of : ℕ → Key → ℕ
floor_of reserve k = if k.kind == kind_number Cash then reserve else 0

unfoldable pub covered : Figures → ℕ → ℕ → Bool
covered f units floor = int_le (pos floor) (f.limit -ℤ (f.blocked +ℤ pos units))

-- figures with the limit raised, and figures with the limit lowered by a value and the blocked figure by a block
unfoldable pub limit_raised : Figures → ℕ → Figures
limit_raised f units = record f { limit = f.limit +ℤ pos units }

unfoldable pub paid_of : Figures → ℕ → ℕ → Figures
paid_of f value block = record f { limit = f.limit -ℤ pos value; blocked = f.blocked -ℤ pos block }

-- blocking units on a register
unfoldable pub block_on : OpenRegister → ℕ → ℕ → Result OpenRegister Refusal
block_on h units floor =
    demand (in_range h.figures) (Store OutOfRange)
    (demand (covered h.figures units floor) NotCovered
    (Ok (with_figures_of h (with_blocked h.figures (h.figures.blocked +ℤ pos units)))))

-- releasing units on a register
unfoldable pub release_on : OpenRegister → ℕ → Result OpenRegister Refusal
release_on h units =
    demand (in_range h.figures) (Store OutOfRange)
    (demand (in_range (with_blocked h.figures (h.figures.blocked -ℤ pos units))) LeavesRange
    (Ok (with_figures_of h (with_blocked h.figures (h.figures.blocked -ℤ pos units)))))

-- raising the limit of a register
unfoldable pub credit_on : OpenRegister → ℕ → Result OpenRegister Refusal
credit_on h units =
    demand (in_range h.figures) (Store OutOfRange)
    (demand (in_range (with_limit h.figures (h.figures.limit +ℤ pos units))) LeavesRange
    (Ok (with_figures_of h (with_limit h.figures (h.figures.limit +ℤ pos units)))))

-- the rows once a register is put back
abbrev pub rows_with : List Row → OpenRegister → List Row
rows_with rs h = put_row rs h.place h.figures

-- the change that takes a register from figures to others: none where they are the same
abbrev pub same_figures : Figures → Figures → Bool
same_figures f g = int_eq f.limit g.limit && (int_eq f.blocked g.blocked && int_eq f.third g.third)

abbrev pub moving : ℕ → Figures → Figures → List Change
moving n f g = if same_figures f g then [] else Put n g ∷ []

-- the rows once figures g come in place of figures f that were read at a place, whatever stands there, and the changes
-- that this is: where the two are the same, the same rows and no change
unfoldable pub replaced : List Row → ℕ → Figures → Figures → List Row
replaced rs n f g = if same_figures f g then rs else put_row rs n g

unfoldable pub replacing : List Row → ℕ → Figures → Figures → List Change
replacing rs n f g = if same_figures f g then [] else put_changes rs n g

-- a figure that is raised stays so if it is confirmed, and else is as it was
abbrev pub after_guard : Bool → ℤ → ℤ → ℤ
after_guard confirmed raised old = if confirmed then raised else old
