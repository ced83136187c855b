-- What the reader answers, as the definitions speak of it.
use Rattle.std.specs.Prelude.{◌≡◌, ℕ, ◌^◌, ◌<◌, ◌≤◌, ⊤, List, length, drop, OnSome, Ok, Err, Option, Result}
use Rattle.std.specs.Iterator.{YieldsFirstBy}
use Rattle.std.specs.Option.{option_map}
use Rattle.day_records.specs.declared.day_file.DayFile.{DayFile}
use Rattle.day_records.specs.declared.reader.Reader.{Reader}
use Rattle.day_records.specs.declared.fault.FileFault.{FileFault}
use Rattle.day_records.specs.declared.misread.Misread.{Misread}
use Rattle.day_records.specs.declared.placed_record.PlacedRecord.{PlacedRecord}
use Rattle.day_records.specs.Kinds.{kind_of, body_of}
use Rattle.day_records.specs.Items.{Item, Seen, Bad, header_length, item_at, place_after, items_from}

-- the header's reserve or fault
abbrev pub header_as : Result DayFile FileFault → Result ℕ FileFault
header_as (Ok d) = Ok d.reserve
header_as (Err f) = Err f

-- records are read from the file itself, behind its header
abbrev pub IsBehindHeader : Result DayFile FileFault → List ℕ → Type 0
IsBehindHeader (Ok d) s = (d.records.bytes.now ≡ s) × (d.records.place ≡ header_length)
IsBehindHeader (Err f) s = ⊤

-- a record, and an answer, as an item of the file
abbrev pub seen_as : PlacedRecord → Item
seen_as p = Seen (kind_of p.«record») (body_of p.«record») p.place

abbrev pub item_as : Result PlacedRecord Misread → Item
item_as (Ok p) = seen_as p
item_as (Err m) = Bad m.fault m.place

abbrev pub told_as : Option (Result PlacedRecord Misread) → Option Item
told_as o = option_map item_as o

-- the items that a reader still gives, and the first of them
abbrev pub items_left : Reader → List Item
items_left r = items_from 0 r.place (drop r.place r.bytes.now)

abbrev pub item_next : Reader → Option Item
item_next r = item_at r.place (drop r.place r.bytes.now)

-- one call of a reader: it answers the first of the items that were left, and leaves the others
pub record Reads (before : Reader) (r : Option (Result PlacedRecord Misread)) (after : Reader) : Type 0 where
  pub items : YieldsFirstBy item_as items_left before r after
  pub answer : told_as r ≡ item_next before
  pub left : after.place ≡ place_after (told_as r) before.place (length before.bytes.now)
  pub same : after.bytes.now ≡ before.bytes.now
  pub ends : OnSome r ((before.place < after.place) × (after.place ≤ length before.bytes.now) × (length before.bytes.now < 2 ^ 64))
