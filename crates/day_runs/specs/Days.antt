-- What a whole day comes to: the calls that a file asks for, on a new engine over a store.
use Rattle.std.specs.Prelude.{◌≡◌, ℕ, zero, suc, List, [], ◌∷◌, take, ℤ, Result}
use Rattle.registers.specs.declared.row.Row.{Row}
use Rattle.registers.specs.Changes.{Change}
use Rattle.plans.specs.Runs.{outcomes_of, state_after, changes_over, tallied}
use Rattle.partial.specs.declared.call.Call.{Call}
use Rattle.full.specs.declared.settings.Settings.{Settings}
use Rattle.partial.specs.State.{State, begin}
use Rattle.partial.specs.Plans.{call_of}
use Rattle.partial_law.specs.Tally.{empty, entered}
use Rattle.partial_law.specs.Law.{Law}
use Rattle.day_records.specs.Items.{header_of, items_of}
use Rattle.dayfile.specs.declared.line.Line.{Line}
use Rattle.dayfile.specs.declared.line.Line.TheVariants.{Record, Fault, End, Register}
use Rattle.dayfile.specs.declared.refusal.LineRefusal.{LineRefusal}
use Rattle.dayfile.specs.Lines.{lines_of, settings_in}
use Rattle.dayfile.specs.Days.{calls_in}

-- the calls that a file asks for, in their order, the settings that it has, and a new engine with them
abbrev pub calls_of : List ℕ → List Call
calls_of file = calls_in (items_of file)

abbrev pub settings_of : List ℕ → Settings
settings_of file = settings_in (header_of file)

abbrev pub begin_of : List Row → ℕ → List ℕ → State
begin_of rows room file = begin rows room (settings_of file)

-- what came of the records that lines tell of
abbrev pub told_by : List Line → List (Result ℤ LineRefusal)
told_by [] = []
told_by (Record number kind outcome ∷ ls) = outcome ∷ told_by ls
told_by (Fault number refusal place ∷ ls) = told_by ls
told_by (End count ∷ ls) = told_by ls
told_by (Register row ∷ ls) = told_by ls

-- a list with others written into it from a place on, as many as there are places for
abbrev pub overwritten : {X : Type 0} → List X → ℕ → List X → List X
overwritten [] n xs = []
overwritten (o ∷ os) (suc n) xs = o ∷ overwritten os n xs
overwritten (o ∷ os) zero [] = o ∷ os
overwritten (o ∷ os) zero (x ∷ xs) = x ∷ overwritten os zero xs

-- the outcomes before and after, and the state at the end, of a day
pub record RanDay (rows : List Row) (room : ℕ) (file : List ℕ) (old new : List (Result ℤ LineRefusal)) (left : State) : Type 0 where
  -- what came of each record is told in its place, as the listing tells it; places behind the records stay
  pub told : new ≡ overwritten old 0 (told_by (lines_of rows room file))
  -- the state is the one that the plans of the calls leave, one after the other
  pub state : left ≡ state_after call_of (begin_of rows room file) (calls_of file)
  -- if the store was empty, the law holds after each call that the file asks for, also where some are refused
  pub law : rows ≡ [] → (n : ℕ) →
      Law (settings_of file).reserve (tallied entered empty (take n (calls_of file)) (outcomes_of call_of (begin_of rows room file) (calls_of file))) (state_after call_of (begin_of rows room file) (take n (calls_of file)))
  -- and so at the end
  pub law_at_end : rows ≡ [] → Law (settings_of file).reserve (tallied entered empty (calls_of file) (outcomes_of call_of (begin_of rows room file) (calls_of file))) left

-- the changes that the calls make to the store, in their order
abbrev pub changes_of_day : List Row → ℕ → List ℕ → List Change
changes_of_day rows room file = changes_over call_of (begin_of rows room file) (calls_of file)
