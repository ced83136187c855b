use Rattle.std.proofs.Common.{◌≡◌, ◌++◌, string_bytes}
use Rattle.dayfile.specs.Days.{lines_left}
use Rattle.dayfile.specs.Texts.{listing_text}
use Rattle.dayfile.proofs.listing.listing.Given as goal

-- the text so far, and then what is left to tell, is the whole listing
abbrev pub invariant-loop-line : goal.invariant-loop-line
invariant-loop-line g l =
    string_bytes l.text ++ listing_text (lines_left l.line-iterator) ≡ listing_text (lines_left l.initial.line-iterator)
