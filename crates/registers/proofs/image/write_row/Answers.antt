use Rattle.std.proofs.Common.{◌+◌, ap, ◌∙◌, arith}
use Rattle.byte_fields.specs.Fields.{spliced}
use Rattle.byte_fields.proofs.Widths.{spliced-spliced}
use Rattle.registers.specs.Images.{key_bytes, figure_bytes}
use Rattle.registers.proofs.Images.{length-key_bytes}
use Rattle.registers.proofs.image.write_row.Goals as goal

pub returns : goal.returns
returns c =
    c.write_figures.ensures
    ∙ ap (spliced 24 (c.args.at + 7) (figure_bytes c.args.row.figures)) c.write_key.ensures
    ∙ spliced-spliced 7 24 c.args.at (key_bytes c.args.row.key) (figure_bytes c.args.row.figures) c.args.bytes.now (omega arith) (length-key_bytes c.args.row.key)
