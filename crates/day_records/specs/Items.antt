-- What the bytes of a day file hold: a header, and records one behind the other.
use Rattle.std.specs.Prelude.{ℕ, zero, suc, ◌+◌, ◌^◌, Bool, if◌then◌else◌, ◌&&◌, List, [], ◌∷◌, length, take, drop, Some, None, Ok, Err, Option, Result, ◌==◌, nat_le, nat_lt, slice_index}
use Rattle.byte_fields.specs.Fields.{be, part}
use Rattle.day_records.specs.declared.fault.FileFault.{FileFault}
use Rattle.day_records.specs.declared.fault.FileFault.TheVariants.{TooLong, UnknownLetter, CutShort, BadHeader}
use Rattle.day_records.specs.declared.kind.RecordKind.{RecordKind}
use Rattle.day_records.specs.Kinds.{kind_for, length_of}

-- what stands at a place: a record with its kind and its fields, or a fault
pub data Item : Type 0 where
  Seen : RecordKind → List ℕ → ℕ → Item
  Bad : FileFault → ℕ → Item

-- what begins with a letter at a place, given the bytes behind it
abbrev pub begun : Option RecordKind → ℕ → List ℕ → Item
begun None place bs = Bad UnknownLetter place
begun (Some k) place bs = if nat_lt (length bs) (length_of k) then Bad CutShort place else Seen k (take (length_of k) bs) place

-- the first item of the bytes from a place on, None where there are none
abbrev pub item_at : ℕ → List ℕ → Option Item
item_at place [] = None
item_at place (b ∷ bs) = Some (begun (kind_for b) place bs)

-- the place behind it, in a file of a length: past the record, or at the file's end after a fault
abbrev pub place_after : Option Item → ℕ → ℕ → ℕ
place_after None p all = p
place_after (Some (Seen k body place)) p all = p + 1 + length_of k
place_after (Some (Bad fault place)) p all = all

-- an item, followed by what stands behind its fields, if it is a record
abbrev pub followed : Item → (ℕ → List Item) → List Item
followed (Bad fault place) more = Bad fault place ∷ []
followed (Seen k body place) more = Seen k body place ∷ more (length_of k)

-- the items of the bytes that begin at a place; the first of the bytes, as many as are told, still belong to
-- the record before
abbrev pub items_from : ℕ → ℕ → List ℕ → List Item
items_from fields place [] = []
items_from (suc fields) place (b ∷ bs) = items_from fields (place + 1) bs
items_from zero place (b ∷ bs) = followed (begun (kind_for b) place bs) (λ n. items_from n (place + 1) bs)

-- how many bytes a header has: the mark, the version and the reserve
abbrev pub header_length : ℕ
header_length = 3 + 2 + 2

-- how many bytes a file may have: so many that two bytes tell each place in it
abbrev pub greatest_length : ℕ
greatest_length = 2 ^ 16

-- whether there is a header with the mark LRD and version 1
abbrev pub headed : List ℕ → Bool
headed s = nat_le header_length (length s) && (slice_index s 0 == 76 && (slice_index s 1 == 82 && (slice_index s 2 == 68 && (slice_index s 3 == 0 && slice_index s 4 == 1))))

-- the reserve, or what is wrong with the file as a whole
abbrev pub header_of : List ℕ → Result ℕ FileFault
header_of s = if nat_lt greatest_length (length s) then Err TooLong else (if headed s then Ok (be (part 2 5 s)) else Err BadHeader)

-- all items of a file: the fault of its header, or what stands behind the header
abbrev pub items_behind : Result ℕ FileFault → List ℕ → List Item
items_behind (Ok reserve) s = items_from 0 header_length (drop header_length s)
items_behind (Err fault) s = Bad fault 0 ∷ []

abbrev pub items_of : List ℕ → List Item
items_of s = items_behind (header_of s) s
