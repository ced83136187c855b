use Rattle.std.proofs.Common.{sym, ◌∙◌, arith}
use Rattle.registers.proofs.Images.{nth_key, no_key}
use Rattle.registers.proofs.image_keys.ImageKeysTableKey.record.Goals as goal

pub returns-then-place-self : goal.returns-then-place-self
returns-then-place-self c = sym (no_key c.args.self.now.bytes.now c.args.place (omega (arith, c.args.self.now.counted)))

pub returns : goal.returns
returns c = c.key_at.ensures ∙ sym (nth_key c.args.self.now.bytes.now c.args.place (omega (arith, c.args.self.now.counted)))
