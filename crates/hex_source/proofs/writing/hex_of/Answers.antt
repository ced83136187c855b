use Rattle.std.proofs.Common.{◌≡◌, ap, ◌∙◌, arith, string_bytes}
use Rattle.std.proofs.lemmas.Grind.{common_steps}
use Rattle.hex_source.specs.Letters.{plain}
use Rattle.hex_source.specs.Spelling.{spelled}
use Rattle.hex_source.proofs.Plainly.{spelled-plain}
use Rattle.hex_source.proofs.writing.hex_of.Goals as goal

pub returns-clause-read_back : goal.returns-clause-read_back
returns-clause-read_back c =
    let all : string_bytes c.loop-byte.text ≡ plain c.args.bytes.now = grind (arith, common_steps) in
    ap spelled all ∙ spelled-plain c.args.bytes.now (λ i. omega (arith, c.type_inv.bytes i))
