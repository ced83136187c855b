use Rattle.std.proofs.Common.{◌∙◌}
use Rattle.registers.proofs.Images.{place_of_key}
use Rattle.registers.proofs.image.find_in.Goals as goal

pub returns : goal.returns
returns c = c.find_in.ensures.place ∙ place_of_key c.args.bytes.now c.args.key
