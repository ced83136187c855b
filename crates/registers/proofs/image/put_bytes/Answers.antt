use Rattle.std.proofs.Common.{arith, rules}
use Rattle.registers.proofs.Images.{FiguresFit, put_done, put_not}
use Rattle.registers.proofs.image.put_bytes.Goals as goal

pub returns-then-place-count_of : goal.returns-then-place-count_of
returns-then-place-count_of c =
    let d = put_not c.args.bytes.now c.args.place c.args.figures (omega arith) in
    record { answer = d.answered; after = d.rows; same_room = d.room; bytes = d.bytes }

pub returns : goal.returns
returns c =
    let ff : FiguresFit c.args.figures = record { limit = search rules; blocked = search rules; third = search rules } in
    let d = put_done c.args.bytes.now c.write_figures.new.bytes c.args.place c.args.figures ff (omega arith) c.write_figures.ensures in
    record { answer = d.answered; after = d.rows; same_room = d.room; bytes = d.bytes }
