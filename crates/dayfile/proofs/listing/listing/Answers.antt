use Rattle.std.proofs.Common.{rules, append_assoc}
use Rattle.dayfile.proofs.listing.listing.Goals as goal

pub loop-line-preserved : goal.loop-line-preserved
loop-line-preserved g c = search (rules, append_assoc)
