use Rattle.std.proofs.Common.{◌≡◌, ◌+◌, ◌≤◌, drop}
use Rattle.hex_source.specs.Spelling.{behind, spelled, spelled_from, HoldsDigit}
use Rattle.hex_source.proofs.reading.read.Given as goal

abbrev pub invariant-loop-letter : goal.invariant-loop-letter
invariant-loop-letter l = record {
  read : spelled l.source ≡ behind l.bytes.items (spelled_from l.standing l.line (drop l.letter-index l.source));
  held : HoldsDigit l.standing;
  numbered : l.line ≤ l.letter-index + 1;
}
