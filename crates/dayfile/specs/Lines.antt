-- What comes of a day: each record is one call, and one line of the listing.
use Rattle.std.specs.Prelude.{◌≡◌, ℕ, ◌+◌, List, [], ◌∷◌, map, ℤ, Ok, Err, Result}
use Rattle.registers.specs.declared.row.Row.{Row}
use Rattle.plans.specs.declared.refusal.Refusal.{Refusal}
use Rattle.partial.specs.State.{State, begin}
use Rattle.partial.specs.declared.call.Call.{Call}
use Rattle.registers.specs.Changes.{Change}
use Rattle.plans.specs.Plans.{EngineView, changes_by}
use Rattle.plans.specs.Runs.{outcome, next}
use Rattle.full.specs.declared.settings.Settings.{Settings}
use Rattle.partial.specs.Plans.{call_of}
use Rattle.day_records.specs.declared.fault.FileFault.{FileFault}
use Rattle.day_records.specs.declared.kind.RecordKind.{RecordKind}
use Rattle.day_records.specs.Items.{Item, Seen, Bad, header_of, items_of}
use Rattle.dayfile.specs.declared.line.Line.{Line}
use Rattle.dayfile.specs.declared.line.Line.TheVariants.{Record, Fault, End, Register}
use Rattle.dayfile.specs.declared.refusal.LineRefusal.{LineRefusal}
use Rattle.dayfile.specs.declared.refusal.LineRefusal.TheVariants.{Engine, File}
use Rattle.dayfile.specs.Calls.{call_for}

-- the engine's refusal within the line's
abbrev pub as_line : Result ℤ Refusal → Result ℤ LineRefusal
as_line (Ok answer) = Ok answer
as_line (Err refusal) = Err (Engine refusal)

-- what comes of a call, if there is one, and the state that it leaves
abbrev pub outcome_of : State → Result Call FileFault → Result ℤ LineRefusal
outcome_of s (Ok c) = as_line (outcome call_of s c)
outcome_of s (Err fault) = Err (File fault)

abbrev pub left_of : State → Result Call FileFault → State
left_of s (Ok c) = next call_of s c
left_of s (Err fault) = s

-- the changes that it makes to the store
abbrev pub changes_in : State → Result Call FileFault → List Change
changes_in s (Ok c) = changes_by (call_of s c)
changes_in s (Err fault) = []

-- a record was carried out
pub record Carried {K : Type 0} (made : K → List Change → K → Type 0) (k : RecordKind) (body : List ℕ) (before after : EngineView K State) (r : Result ℤ LineRefusal) : Type 0 where
  pub answer : r ≡ outcome_of before.state (call_for k body)
  pub left : after.state ≡ left_of before.state (call_for k body)
  pub changes : made before.store (changes_in before.state (call_for k body)) after.store

-- the lines of the items of a file, from a state on, once some records were read: a line for each item,
-- the end with the count of the records, and the registers as they then stand
abbrev pub lines_from : State → ℕ → List Item → List Line
lines_from s count [] = End count ∷ map Register s.base.rows
lines_from s count (Bad fault place ∷ items) = Fault (count + 1) (File fault) place ∷ lines_from s count items
lines_from s count (Seen k body place ∷ items) = Record (count + 1) k (outcome_of s (call_for k body)) ∷ lines_from (left_of s (call_for k body)) (count + 1) items

-- the settings of a day's engine: the reserve that the header has; a file that cannot be read has none
abbrev pub settings_in : Result ℕ FileFault → Settings
settings_in (Ok reserve) = record { reserve = reserve }
settings_in (Err fault) = record { reserve = 0 }

-- the listing of a day file over a store with rows and a room
abbrev pub lines_of : List Row → ℕ → List ℕ → List Line
lines_of rows room file = lines_from (begin rows room (settings_in (header_of file))) 0 (items_of file)
