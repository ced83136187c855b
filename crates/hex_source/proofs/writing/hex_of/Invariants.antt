use Rattle.std.proofs.Common.{◌≡◌, ◌++◌, drop, string_bytes}
use Rattle.hex_source.specs.Letters.{plain}
use Rattle.hex_source.proofs.writing.hex_of.Given as goal

abbrev pub invariant-loop-byte : goal.invariant-loop-byte
invariant-loop-byte l = string_bytes l.text ++ plain (drop l.byte-index l.bytes) ≡ plain l.bytes
