-- The lines of a day that are still to be told.
use Rattle.std.specs.Prelude.{◌≡◌, ℕ, List, [], ◌∷◌, ◌++◌, map, drop, Some, None, Option, Ok, Err, Result}
use Rattle.std.specs.Iterator.{YieldsFirst}
use Rattle.registers.specs.declared.store.Store.{Ghosts}
use Rattle.registers.specs.Changes.{Change}
use Rattle.plans.specs.Runs.{state_after, changes_over}
use Rattle.partial.specs.declared.call.Call.{Call}
use Rattle.partial.specs.State.{State}
use Rattle.partial.specs.Plans.{call_of}
use Rattle.day_records.specs.Items.{Item, Seen, Bad}
use Rattle.day_records.specs.Views.{items_left, item_next}
use Rattle.dayfile.specs.declared.listing_stage.ListingStage.{ListingStage}
use Rattle.dayfile.specs.declared.listing_stage.ListingStage.TheVariants.{Header, Records, Registers}
use Rattle.dayfile.specs.declared.day.Day.{Day}
use Rattle.dayfile.specs.declared.line.Line.{Line}
use Rattle.dayfile.specs.declared.line.Line.TheVariants.{Fault, Register}
use Rattle.day_records.specs.declared.fault.FileFault.{FileFault}
use Rattle.dayfile.specs.declared.refusal.LineRefusal.TheVariants.{File}
use Rattle.dayfile.specs.Calls.{call_for}
use Rattle.dayfile.specs.Lines.{lines_from, left_of, changes_in}

-- the calls that items ask for, in their order: a record whose fields are cut short asks for none
abbrev pub with_call : Result Call FileFault → List Call → List Call
with_call (Ok c) cs = c ∷ cs
with_call (Err e) cs = cs

abbrev pub calls_in : List Item → List Call
calls_in [] = []
calls_in (Bad fault place ∷ items) = calls_in items
calls_in (Seen k body place ∷ items) = with_call (call_for k body) (calls_in items)

-- what is told at each stage, from a state on, once some records were read
abbrev pub told : ListingStage → State → ℕ → List Item → List Line
told (Header fault) s count items = Fault 1 (File fault) 0 ∷ lines_from s count items
told Records s count items = lines_from s count items
told (Registers place) s count items = map Register (drop place s.base.rows)

abbrev pub lines_left : {S : Type 0} {members : Ghosts S} → Day S members → List Line
lines_left d = told d.stage d.engine.state d.count (items_left d.records)

-- the calls that are still to be made at each stage
abbrev pub called : ListingStage → List Item → List Call
called (Header fault) items = calls_in items
called Records items = calls_in items
called (Registers place) items = []

abbrev pub calls_left : {S : Type 0} {members : Ghosts S} → Day S members → List Call
calls_left d = called d.stage (items_left d.records)

-- what the next line carries out: of a record that is read, the call that it asks for; of any other line, nothing
abbrev pub carried_out : ListingStage → Option Item → Option (Result Call FileFault)
carried_out Records (Some (Seen k body place)) = Some (call_for k body)
carried_out Records (Some (Bad fault place)) = None
carried_out Records None = None
carried_out (Header fault) item = None
carried_out (Registers place) item = None

abbrev pub carried_next : {S : Type 0} {members : Ghosts S} → Day S members → Option (Result Call FileFault)
carried_next d = carried_out d.stage (item_next d.records)

-- the state behind it, its changes to the store, and the calls that were left before it
abbrev pub state_behind : Option (Result Call FileFault) → State → State
state_behind (Some r) s = left_of s r
state_behind None s = s

abbrev pub changes_behind : Option (Result Call FileFault) → State → List Change
changes_behind (Some r) s = changes_in s r
changes_behind None s = []

abbrev pub calls_before : Option (Result Call FileFault) → List Call → List Call
calls_before (Some r) cs = with_call r cs
calls_before None cs = cs

-- how one line moves the engine's state, its store, and the calls that are left
pub record Advances {S : Type 0} {store : Ghosts S} (before after : Day S store) : Type 0 where
  pub state : after.engine.state ≡ state_behind (carried_next before) before.engine.state
  pub changes : store.made before.engine.store (changes_behind (carried_next before) before.engine.state) after.engine.store
  pub calls : calls_left before ≡ calls_before (carried_next before) (calls_left after)

-- one call of a day: it tells the first of the lines that were left, and leaves the others
pub record Tells {S : Type 0} {store : Ghosts S} (before : Day S store) (r : Option Line) (after : Day S store) : Type 0 where
  pub lines : YieldsFirst lines_left before r after
  pub advances : Advances before after

-- a day that has gone on by some of its lines: what is left leads where all that was left led
pub record GoesOn {S : Type 0} {store : Ghosts S} (before after : Day S store) : Type 0 where
  pub lines : (ls : List Line) × (lines_left before ≡ ls ++ lines_left after)
  pub state : state_after call_of after.engine.state (calls_left after) ≡ state_after call_of before.engine.state (calls_left before)
  pub changes : (end : S) → store.made after.engine.store (changes_over call_of after.engine.state (calls_left after)) end
      → store.made before.engine.store (changes_over call_of before.engine.state (calls_left before)) end
