-- A day whose records are told.
use Rattle.std.proofs.Common.{◌≡◌, ℕ, List, [], ◌∷◌, map, drop, Some, None, Option, IfSome, IfNone, refl, ap, ◌∙◌}
use Rattle.registers.specs.declared.store.Store.{Ghosts}
use Rattle.registers.specs.declared.row.Row.{Row}
use Rattle.partial.specs.State.{State}
use Rattle.day_records.specs.Items.{Item}
use Rattle.dayfile.specs.declared.day.Day.{Day}
use Rattle.dayfile.specs.declared.line.Line.{Line}
use Rattle.dayfile.specs.declared.line.Line.TheVariants.{Register}
use Rattle.dayfile.specs.declared.listing_stage.ListingStage.{ListingStage}
use Rattle.dayfile.specs.declared.listing_stage.ListingStage.TheVariants.{Registers}
use Rattle.dayfile.specs.Days.{told, called, lines_left, calls_left, Tells}
use Rattle.dayfile.proofs.NextLine.{none_left}
use Rattle.day_runs.specs.Days.{told_by}

-- the lines of registers tell of no record
none_told : (rows : List Row) → told_by (map Register rows) ≡ []
none_told [] = refl
none_told (row ∷ rows) = none_told rows

-- at the registers no record is left to tell, and no call to make
module _ (stage : ListingStage) (place : ℕ) (at : stage ≡ Registers place) where
  pub registers_told : (s : State) (count : ℕ) (items : List Item) → told_by (told stage s count items) ≡ []
  registers_told s count items = ap (λ (x : ListingStage). told_by (told x s count items)) at ∙ none_told (drop place s.base.rows)

  pub registers_called : (items : List Item) → called stage items ≡ []
  registers_called items = ap (λ (x : ListingStage). called x items) at

-- what a call of `next_line` says of the line, and of the records and the calls where there is none
module _ {S : Type 0} {store : Ghosts S} (before after : Day S store) where
  pub line_told : (r : Option Line) → Tells before r after → IfSome r (λ l. lines_left before ≡ l ∷ lines_left after)
  line_told None tells = tt
  line_told (Some l) tells = tells.lines

  pub all_told : (r : Option Line) → Tells before r after → IfNone r (told_by (lines_left before) ≡ [])
  all_told None tells = ap told_by tells.lines.0
  all_told (Some l) tells = tt

  pub all_called : (r : Option Line) → Tells before r after → IfNone r (calls_left after ≡ [])
  all_called None tells = none_left before after tells.advances tells.lines.0
  all_called (Some l) tells = tt
