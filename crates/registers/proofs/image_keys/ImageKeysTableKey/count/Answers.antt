use Rattle.std.proofs.Common.{◌∙◌}
use Rattle.registers.proofs.Images.{length-image_keys}
use Rattle.registers.proofs.image_keys.ImageKeysTableKey.count.Goals as goal

pub returns : goal.returns
returns c = c.args.self.now.counted ∙ length-image_keys c.args.self.now.bytes.now
