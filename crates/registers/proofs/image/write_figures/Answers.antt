use Rattle.std.proofs.Common.{◌≡◌, ℕ, ◌+◌, List, ◌++◌, ℤ, ap, ◌∙◌, arith, w64, SFits, rules}
use Rattle.std.proofs.lemmas.Int.{to_z-of_z}
use Rattle.byte_fields.specs.Fields.{signed_bytes_of, spliced, written_at}
use Rattle.byte_fields.proofs.Widths.{written_within, written_behind}
use Rattle.registers.specs.Images.{figure_bytes}
use Rattle.registers.proofs.image.write_figures.Goals as goal

pub returns : goal.returns
unfolding figure_bytes
returns c =
    let s : List ℕ = c.args.bytes.now in
    let f : SFits w64 c.args.figures.limit = search rules in
    let g : SFits w64 c.args.figures.blocked = search rules in
    let h : SFits w64 c.args.figures.third = search rules in
    let k : List ℕ = signed_bytes_of c.args.figures.limit in
    let m : List ℕ = signed_bytes_of c.args.figures.blocked in
    let first : c.write.new.bytes ≡ spliced 8 c.args.at k s =
    c.write.ensures.after
    ∙ ap (λ (z : ℤ). written_at 8 c.args.at (signed_bytes_of z) s) (to_z-of_z w64 _ f)
    ∙ written_within 8 c.args.at k s (omega arith) in
    let second : c.write-2.new.bytes ≡ spliced 16 c.args.at (k ++ m) s =
    c.write-2.ensures.after
    ∙ ap (λ (z : ℤ). written_at 8 (c.args.at + 8) (signed_bytes_of z) c.write.new.bytes) (to_z-of_z w64 _ g)
    ∙ written_behind 8 8 c.args.at k m s c.write.new.bytes first (omega arith) (omega arith) in
    c.write-3.ensures.after
    ∙ ap (λ (z : ℤ). written_at 8 (c.args.at + 16) (signed_bytes_of z) c.write-2.new.bytes) (to_z-of_z w64 _ h)
    ∙ written_behind 16 8 c.args.at (k ++ m) (signed_bytes_of c.args.figures.third) s c.write-2.new.bytes second (omega arith) (omega arith)
