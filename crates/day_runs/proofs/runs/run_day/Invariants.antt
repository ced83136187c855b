use Rattle.std.proofs.Common.{◌≡◌, length}
use Rattle.dayfile.specs.Days.{lines_left, GoesOn}
use Rattle.day_runs.specs.Days.{overwritten, told_by}
use Rattle.day_runs.proofs.runs.run_day.Given as goal

-- what is still to come leads from here to where the whole day leads
abbrev pub invariant-loop-line : goal.invariant-loop-line
invariant-loop-line g l =
    record {
      told : overwritten l.outcomes l.next (told_by (lines_left l.day)) ≡ overwritten l.initial.outcomes 0 (told_by (lines_left l.initial.day));
      goes_on : GoesOn l.initial.day l.day;
    }

abbrev pub decreases-loop-line : goal.decreases-loop-line
decreases-loop-line g l = length (lines_left l.day)
