-- How many rows the two stores hold: never more than there is room for, and 4,096 at most. These are lemmas, and stand
-- here since each store cites them in its law `bounded`.
use Rattle.std.proofs.Common.{◌≡◌, ℕ, zero, suc, ◌+◌, ◌≤◌, min, Bool, true, false, if◌then◌else◌, List, length, refl, ap, ◌∙◌, arith, length-take}
use Rattle.registers.specs.declared.row.Row.{Row}
use Rattle.registers.specs.declared.image.TheConstants.{HEADER, ROW}
use Rattle.registers.specs.declared.store.TheConstants.{MOST_ROWS}
use Rattle.registers.specs.Images.{marked, room_of, count_of, rows_from, image_rows}
use Rattle.registers.specs.Tables.{table_room, table_rows}

pub length-rows_from : (n at : ℕ) (s : List ℕ) → length (rows_from n at s) ≡ n
length-rows_from zero at s = refl
length-rows_from (suc n) at s = ap suc (length-rows_from n (at + ROW) s)

pub length-image_rows : (s : List ℕ) → length (image_rows s) ≡ count_of s
length-image_rows s = length-rows_from (count_of s) HEADER s

few : (b : Bool) (n : ℕ) → (if b then min n MOST_ROWS else 0) ≤ MOST_ROWS
few true n = omega arith
few false n = omega arith

pub room_small : (s : List ℕ) → room_of s ≤ MOST_ROWS
room_small s = few (marked s) _

pub image_bounded : (s : List ℕ) → (length (image_rows s) ≤ room_of s) × (room_of s ≤ MOST_ROWS)
image_bounded s = (omega (arith, length-image_rows s), room_small s)

pub length-table_rows : (t : List Row) (filled : ℕ) → filled ≤ table_room t → length (table_rows t filled) ≡ filled
length-table_rows t filled h = length-take filled t ∙ omega arith

pub table_bounded : (t : List Row) (filled : ℕ) → filled ≤ table_room t → (length (table_rows t filled) ≤ table_room t) × (table_room t ≤ MOST_ROWS)
table_bounded t filled h = (omega (arith, length-table_rows t filled h), omega arith)
