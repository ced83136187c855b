use Rattle.std.proofs.Common.{◌≡◌, ℕ, List, ◌++◌, ◌∙◌, arith}
use Rattle.byte_fields.specs.Fields.{bytes_of, spliced}
use Rattle.byte_fields.proofs.Widths.{written_within, written_behind}
use Rattle.registers.specs.Images.{key_bytes}
use Rattle.registers.proofs.image.write_key.Goals as goal

pub returns : goal.returns
unfolding key_bytes
returns c =
    let s : List ℕ = c.args.bytes.now in
    let k : List ℕ = bytes_of 1 c.args.key.kind in
    let m : List ℕ = bytes_of 4 c.args.key.code in
    let first : c.write.new.bytes ≡ spliced 1 c.args.at k s = c.write.ensures.after ∙ written_within 1 c.args.at k s (omega arith) in
    let second : c.write-2.new.bytes ≡ spliced 5 c.args.at (k ++ m) s = c.write-2.ensures.after ∙ written_behind 1 4 c.args.at k m s c.write.new.bytes first (omega arith) (omega arith) in
    c.write-3.ensures.after ∙ written_behind 5 2 c.args.at (k ++ m) (bytes_of 2 c.args.key.security) s c.write-2.new.bytes second (omega arith) (omega arith)
