use Rattle.std.proofs.Common.{ℕ, List, length, Option}
use Rattle.std.specs.Io.KnownBytes.{Appends}
use Rattle.dayfile.specs.Days.{lines_left, GoesOn}
use Rattle.dayfile.specs.Texts.{listing_text}
use Rattle.dayfile.proofs.writing.write_lines.Given as goal

-- to write what is left from here on is to write all lines from the beginning
abbrev pub invariant-loop-line : goal.invariant-loop-line
invariant-loop-line g l =
    record {
      written : (end : Option (List ℕ)) → Appends (g.W.Write.contents l.out) end (listing_text (lines_left l.day)) → Appends (g.W.Write.contents l.initial.out) end (listing_text (lines_left l.initial.day));
      goes_on : GoesOn l.initial.day l.day;
    }

abbrev pub decreases-loop-line : goal.decreases-loop-line
decreases-loop-line g l = length (lines_left l.day)
