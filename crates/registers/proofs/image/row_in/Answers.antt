use Rattle.std.proofs.Common.{sym, ◌∙◌, arith}
use Rattle.std.proofs.lemmas.Option.{slice_get_past}
use Rattle.registers.specs.Images.{count_of, image_rows}
use Rattle.registers.specs.Bounds.{length-image_rows}
use Rattle.registers.proofs.Images.{nth_rows_from}
use Rattle.registers.proofs.image.row_in.Goals as goal

pub returns-then-place-count_of : goal.returns-then-place-count_of
returns-then-place-count_of c = sym (slice_get_past (image_rows c.args.bytes.now) c.args.place (omega (arith, length-image_rows c.args.bytes.now)))

pub returns : goal.returns
returns c = c.row_at.ensures ∙ sym (nth_rows_from (count_of c.args.bytes.now) c.args.place 7 c.args.bytes.now (omega arith))
