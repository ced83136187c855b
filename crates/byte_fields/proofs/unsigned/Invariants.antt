use Rattle.std.proofs.Common.{◌≡◌, ◌^◌, ◌<◌, take}
use Rattle.byte_fields.specs.Fields.{be}
use Rattle.byte_fields.proofs.unsigned.Given as goal

abbrev pub invariant-loop-b : goal.invariant-loop-b
invariant-loop-b l = (l.n ≡ be (take l.b-index l.field)) × (l.n < 256 ^ l.b-index)
