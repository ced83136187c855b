-- A record as a call of the engine, and the refusals of a line.
use Rattle.std.specs.Prelude.{ℕ, if◌then◌else◌, List, length, Some, None, Option, Result, nat_le, slice_index}
use Rattle.std.specs.Option.{ok_or}
use Rattle.byte_fields.specs.Fields.{be, part}
use Rattle.full.specs.declared.side.Side.{Side}
use Rattle.full.specs.declared.side.Side.TheVariants as sides
use Rattle.plans.specs.declared.layer.Layer.{Layer}
use Rattle.plans.specs.declared.layer.Layer.TheVariants as layers
use Rattle.plans.specs.Refusals.{number_of, layer_of}
use Rattle.full.specs.declared.call.Call.TheVariants as one_calls
use Rattle.partial.specs.declared.call.Call.{Call}
use Rattle.partial.specs.declared.call.Call.TheVariants as calls
use Rattle.day_records.specs.declared.fault.FileFault.{FileFault}
use Rattle.day_records.specs.declared.fault.FileFault.TheVariants.{CutShort}
use Rattle.day_records.specs.declared.kind.RecordKind.{RecordKind}
use Rattle.day_records.specs.declared.kind.RecordKind.TheVariants.{Admit, Open, Credit, Post, Buy, Sell, Withdraw, Trade, Debit}
use Rattle.day_records.specs.Kinds.{fault_number, length_of}
use Rattle.dayfile.specs.declared.refusal.LineRefusal.{LineRefusal}
use Rattle.dayfile.specs.declared.refusal.LineRefusal.TheVariants.{Engine, File}

-- the number in the k bytes from a place of a record's fields on
abbrev pub field : ℕ → ℕ → List ℕ → ℕ
field k at body = be (part k at body)

-- the calls, their arguments in the order of the fields
abbrev pub admit_in : List ℕ → Call
admit_in b = calls.Full (one_calls.Admit (field 2 0 b) (field 2 2 b))

abbrev pub open_in : List ℕ → Call
open_in b = calls.Full (one_calls.Open (record { kind = slice_index b 0; code = field 4 1 b; security = field 2 5 b; limit = field 8 7 b; margin = field 8 15 b }))

abbrev pub credit_in : List ℕ → Call
credit_in b = calls.Full (one_calls.Credit (field 4 0 b) (field 2 4 b) (field 8 6 b))

abbrev pub announce_in : Side → List ℕ → Call
announce_in side b =
    calls.Full (one_calls.Announce (record { side = side; mode = slice_index b 0; number = field 4 1 b; account = field 4 5 b; security = field 2 9 b; quantity = field 4 11 b; price = field 4 15 b }))

abbrev pub withdraw_in : List ℕ → Call
withdraw_in b = calls.Full (one_calls.Withdraw (field 4 0 b))

abbrev pub trade_in : List ℕ → Call
trade_in b = calls.Full (one_calls.Trade (record { number = field 4 0 b; buy = field 4 4 b; sell = field 4 8 b; quantity = field 4 12 b; price = field 4 16 b }))

abbrev pub post_in : List ℕ → Call
post_in b = calls.Post (field 2 0 b) (field 8 2 b)

abbrev pub debit_in : List ℕ → Call
debit_in b = calls.Debit (field 2 0 b) (field 8 2 b)

-- a call, if its fields are there in full
abbrev pub full_length : ℕ → List ℕ → Call → Option Call
full_length n b c = if nat_le n (length b) then Some c else None

-- fields that are cut short give no call
abbrev pub or_cut_short : Option Call → Result Call FileFault
or_cut_short o = ok_or o CutShort

-- the call that a record asks for
abbrev pub call_for : RecordKind → List ℕ → Result Call FileFault
call_for Admit b = or_cut_short (full_length (length_of Admit) b (admit_in b))
call_for Open b = or_cut_short (full_length (length_of Open) b (open_in b))
call_for Credit b = or_cut_short (full_length (length_of Credit) b (credit_in b))
call_for Post b = or_cut_short (full_length (length_of Post) b (post_in b))
call_for Buy b = or_cut_short (full_length (length_of Buy) b (announce_in sides.Buy b))
call_for Sell b = or_cut_short (full_length (length_of Sell) b (announce_in sides.Sell b))
call_for Withdraw b = or_cut_short (full_length (length_of Withdraw) b (withdraw_in b))
call_for Trade b = or_cut_short (full_length (length_of Trade) b (trade_in b))
call_for Debit b = or_cut_short (full_length (length_of Debit) b (debit_in b))

-- the number and the layer of a line's refusal
abbrev pub line_number : LineRefusal → ℕ
line_number (Engine refusal) = number_of refusal
line_number (File fault) = fault_number fault

abbrev pub line_layer : LineRefusal → Layer
line_layer (Engine refusal) = layer_of refusal
line_layer (File fault) = layers.File
