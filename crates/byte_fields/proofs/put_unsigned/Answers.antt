use Rattle.std.proofs.Common.{◌-◌, ◌∙◌, length, arith}
use Rattle.byte_fields.proofs.Widths.{low_bytes, eight_bytes}
use Rattle.byte_fields.proofs.put_unsigned.Goals as goal

pub returns : goal.returns
returns c =
    low_bytes (length c.args.field.now) (8 - length c.args.field.now) c.args.value c.to_be_bytes-all.result _ (omega arith) (c.to_be_bytes-all.ensures ∙ eight_bytes c.args.value) c.copy_from_slice.ensures.after
