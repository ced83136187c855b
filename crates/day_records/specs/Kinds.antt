-- The kinds of records: their letters, the lengths of their bodies, and the numbers of faults.
use Rattle.std.specs.Prelude.{ℕ, if◌then◌else◌, List, [], ◌∷◌, ◌++◌, Some, None, Option, ◌==◌}
use Rattle.std.specs.Option.{option_map}
use Rattle.byte_fields.specs.Fields.{bytes_of}
use Rattle.day_records.specs.declared.fault.FileFault.{FileFault}
use Rattle.day_records.specs.declared.fault.FileFault.TheVariants.{TooLong, UnknownLetter, CutShort, BadHeader}
use Rattle.day_records.specs.declared.kind.RecordKind.{RecordKind}
use Rattle.day_records.specs.declared.kind.RecordKind.TheVariants.{Admit, Open, Credit, Post, Buy, Sell, Withdraw, Trade, Debit}
use Rattle.day_records.specs.declared.shape.Shape.{Shape}
use Rattle.day_records.specs.declared.record.Record.{Record}
use Rattle.day_records.specs.declared.record.Record.TheVariants as records

-- A, O, C, H, B, S, W, T and D
abbrev pub letter_of : RecordKind → ℕ
letter_of Admit = 65
letter_of Open = 79
letter_of Credit = 67
letter_of Post = 72
letter_of Buy = 66
letter_of Sell = 83
letter_of Withdraw = 87
letter_of Trade = 84
letter_of Debit = 68

-- how many bytes of fields follow the letter
abbrev pub length_of : RecordKind → ℕ
length_of Admit = 4
length_of Open = 23
length_of Credit = 14
length_of Post = 10
length_of Buy = 19
length_of Sell = 19
length_of Withdraw = 4
length_of Trade = 20
length_of Debit = 10

-- the kind whose letter a byte is
abbrev pub among : List RecordKind → ℕ → Option RecordKind
among [] b = None
among (k ∷ ks) b = if b == letter_of k then Some k else among ks b

abbrev pub kind_for : ℕ → Option RecordKind
kind_for b = among (Admit ∷ Open ∷ Credit ∷ Post ∷ Buy ∷ Sell ∷ Withdraw ∷ Trade ∷ Debit ∷ []) b

abbrev pub shaped : RecordKind → Shape
shaped k = record { kind = k; length = length_of k }

abbrev pub shape_of : ℕ → Option Shape
shape_of b = option_map shaped (kind_for b)

-- the kind of a record
abbrev pub kind_of : Record → RecordKind
kind_of (records.Admit security rest) = Admit
kind_of (records.Open kind rest) = Open
kind_of (records.Credit code rest) = Credit
kind_of (records.Post participant rest) = Post
kind_of (records.Buy mode rest) = Buy
kind_of (records.Sell mode rest) = Sell
kind_of (records.Withdraw number rest) = Withdraw
kind_of (records.Trade number rest) = Trade
kind_of (records.Debit participant rest) = Debit

-- the bytes of its fields: those of the first field, and behind them the rest
abbrev pub body_of : Record → List ℕ
body_of (records.Admit security rest) = bytes_of 2 security ++ rest.now
body_of (records.Open kind rest) = bytes_of 1 kind ++ rest.now
body_of (records.Credit code rest) = bytes_of 4 code ++ rest.now
body_of (records.Post participant rest) = bytes_of 2 participant ++ rest.now
body_of (records.Buy mode rest) = bytes_of 1 mode ++ rest.now
body_of (records.Sell mode rest) = bytes_of 1 mode ++ rest.now
body_of (records.Withdraw number rest) = bytes_of 4 number ++ rest.now
body_of (records.Trade number rest) = bytes_of 4 number ++ rest.now
body_of (records.Debit participant rest) = bytes_of 2 participant ++ rest.now

-- all bytes of a record: its letter and its fields
abbrev pub record_bytes : Record → List ℕ
record_bytes r = letter_of (kind_of r) ∷ body_of r

-- the refusal number of each fault
abbrev pub fault_number : FileFault → ℕ
fault_number TooLong = 30
fault_number UnknownLetter = 31
fault_number CutShort = 32
fault_number BadHeader = 33
