use Rattle.std.proofs.Common.{◌≡◌, ℕ, ◌+◌, ap, ◌∙◌, arith, rules}
use Rattle.byte_fields.specs.Fields.{spliced, put_at}
use Rattle.registers.specs.Images.{count_of, row_place, row_bytes}
use Rattle.registers.proofs.Images.{KeyFits, FiguresFit, add_done, add_not}
use Rattle.registers.proofs.image.add_bytes.Goals as goal

pub returns-then-count-room_of : goal.returns-then-count-room_of
returns-then-count-room_of c =
    let d = add_not c.args.bytes.now c.args.row (omega arith) in
    record { answer = d.answered; after = d.rows; same_room = d.room; bytes = d.bytes }

pub returns : goal.returns
returns c =
    let kf : KeyFits c.args.row.key = record { kind = omega arith; code = omega arith; security = omega arith } in
    let ff : FiguresFit c.args.row.figures = record { limit = search rules; blocked = search rules; third = search rules } in
    let n : c.count_of-count.result ≡ count_of c.args.bytes.now = c.count_of-count.ensures in
    let u = c.write_row.ensures ∙ ap (λ (k : ℕ). spliced 31 (row_place k) (row_bytes c.args.row) c.args.bytes.now) n in
    let t = c.write.ensures.after ∙ ap (λ (k : ℕ). put_at 2 5 (k + 1) c.write_row.new.bytes) n in
    let d = add_done c.args.bytes.now c.write_row.new.bytes c.write.new.bytes c.args.row kf ff (omega arith) u t in
    record { answer = d.answered; after = d.rows; same_room = d.room; bytes = d.bytes }
