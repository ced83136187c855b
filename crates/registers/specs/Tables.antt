-- A table of rows, of which the first hold a store.
use Rattle.std.specs.Prelude.{ℕ, ◌+◌, min, List, length, take, slice_set}
use Rattle.registers.specs.declared.row.Row.{Row}
use Rattle.registers.specs.declared.store.TheConstants.{MOST_ROWS}
use Rattle.registers.specs.Changes.{Change, Put, Add}
use Rattle.registers.specs.Stores.{put_row}

-- how many rows a table has room for
abbrev pub table_room : List Row → ℕ
table_room t = min (length t) MOST_ROWS

-- the rows, of which so many are taken
abbrev pub table_rows : List Row → ℕ → List Row
table_rows t filled = take filled t

-- a table that is lent, and how many of its rows are taken
pub record Lent : Type 0 where
  pub table : List Row
  pub filled : ℕ

abbrev pub lent : List Row → ℕ → Lent
lent t n = record { table = t; filled = n }

-- what a change makes of it: one row is written, and every other row of the table stays
abbrev pub change_table : Lent → Change → Lent
change_table l (Put i f) = lent (put_row l.table i f) l.filled
change_table l (Add r) = lent (slice_set l.table l.filled r) (l.filled + 1)
