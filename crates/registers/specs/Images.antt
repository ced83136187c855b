-- An image of a store, byte by byte: the letters LRI, a version of 2 bytes, a count of 2 bytes, and
-- then 31 bytes a row: kind 1, code 4, security 2, and three figures of 8 in two's complement.
use Rattle.std.specs.Prelude.{ℕ, zero, suc, ◌+◌, ◌-◌, ◌*◌, ◌/◌, min, Bool, if◌then◌else◌, ◌&&◌, List, [], ◌∷◌, ◌++◌, length, map, ◌==◌, nat_le, nat_lt, slice_index}
use Rattle.byte_fields.specs.Fields.{be, signed_be, bytes_of, signed_bytes_of, part, spliced}
use Rattle.registers.specs.declared.key.Key.{Key}
use Rattle.registers.specs.declared.figures.Figures.{Figures}
use Rattle.registers.specs.declared.row.Row.{Row}
use Rattle.registers.specs.declared.image.TheConstants.{HEADER, COUNT_PLACE, KEY, FIGURES, ROW}
use Rattle.registers.specs.declared.store.TheConstants.{MOST_ROWS}
use Rattle.registers.specs.Changes.{Change, Put, Add}

-- whether there is a header with the mark and version 1
abbrev pub marked : List ℕ → Bool
marked s = nat_le HEADER (length s) && (slice_index s 0 == 76 && (slice_index s 1 == 82 && (slice_index s 2 == 73 && (slice_index s 3 == 0 && slice_index s 4 == 1))))

-- how many rows there may be, and how many there are: a count above the room reads as the room
abbrev pub room_of : List ℕ → ℕ
room_of s = if marked s then min ((length s - HEADER) / ROW) MOST_ROWS else 0

abbrev pub count_of : List ℕ → ℕ
count_of s = min (be (part 2 COUNT_PLACE s)) (room_of s)

-- the row whose bytes begin at a place
unfoldable pub key_at : ℕ → List ℕ → Key
key_at at s = record { kind = be (part 1 at s); code = be (part 4 (at + 1) s); security = be (part 2 (at + 5) s) }

unfoldable pub figures_at : ℕ → List ℕ → Figures
figures_at at s = record { limit = signed_be (part 8 at s); blocked = signed_be (part 8 (at + 8) s); third = signed_be (part 8 (at + 16) s) }

abbrev pub row_at : ℕ → List ℕ → Row
row_at at s = record { key = key_at at s; figures = figures_at (at + KEY) s }

-- n rows, one after the other from a place on
abbrev pub rows_from : ℕ → ℕ → List ℕ → List Row
rows_from zero at s = []
rows_from (suc n) at s = row_at at s ∷ rows_from n (at + ROW) s

-- the rows of an image
abbrev pub image_rows : List ℕ → List Row
image_rows s = rows_from (count_of s) HEADER s

-- their keys
abbrev pub image_keys : List ℕ → List Key
image_keys s = map (λ r. r.key) (image_rows s)

-- the bytes of figures and of a row
unfoldable pub key_bytes : Key → List ℕ
key_bytes k = (bytes_of 1 k.kind ++ bytes_of 4 k.code) ++ bytes_of 2 k.security

unfoldable pub figure_bytes : Figures → List ℕ
figure_bytes f = (signed_bytes_of f.limit ++ signed_bytes_of f.blocked) ++ signed_bytes_of f.third

abbrev pub row_bytes : Row → List ℕ
row_bytes r = key_bytes r.key ++ figure_bytes r.figures

-- where the bytes of row i begin
abbrev pub row_place : ℕ → ℕ
row_place i = HEADER + i * ROW

-- all bytes after a put: the 24 of one row's figures are written, and every other byte stays
abbrev pub put_bytes : List ℕ → ℕ → Figures → List ℕ
put_bytes s i f = if nat_lt i (count_of s) then spliced FIGURES (row_place i + KEY) (figure_bytes f) s else s

-- all bytes after an add: the 31 past the last row and the 2 of the count are written, and every
-- other byte stays
abbrev pub add_bytes : List ℕ → Row → List ℕ
add_bytes s r = if nat_lt (count_of s) (room_of s) then spliced 2 COUNT_PLACE (bytes_of 2 (count_of s + 1)) (spliced ROW (row_place (count_of s)) (row_bytes r) s) else s

abbrev pub change_bytes : List ℕ → Change → List ℕ
change_bytes s (Put i f) = put_bytes s i f
change_bytes s (Add r) = add_bytes s r

-- all bytes after formatting: the header of an empty store, and every other byte stays
abbrev pub header : List ℕ
header = 76 ∷ 82 ∷ 73 ∷ 0 ∷ 1 ∷ 0 ∷ 0 ∷ []

abbrev pub formatted : List ℕ → List ℕ
formatted s = if nat_le HEADER (length s) then spliced HEADER 0 header s else s
