use Rattle.std.proofs.Common.{◌≡◌, List, length, sym, ap, subst}
use Rattle.std.proofs.lemmas.Iterator.{YieldsList}
use Rattle.std.proofs.lemmas.Iterator.Consumers.{YieldsList-from_shown, map_from_collect}
use Rattle.day_records.specs.declared.reader.Reader.{Reader}
use Rattle.day_records.specs.Items.{Item, items_of}
use Rattle.day_records.specs.Views.{item_as, items_left, Reads}
use Rattle.day_records.proofs.whole_file.read_all.Goals as goal

pub returns-in-Ok : goal.returns-in-Ok
returns-in-Ok c =
    let s : Reader = c.in-Ok.day.records in
    let all : items_left s ≡ items_of c.args.file.now = rw (sym c.in-Ok.ensures.header, c.in-Ok.ensures.records.0, c.in-Ok.ensures.records.1) in
    map_from_collect _ c.collect.ensures.ran (subst (λ (items : List Item). YieldsList Reads item_as s items) all (YieldsList-from_shown Reads item_as items_left (λ t u h. ap length h.items.0) (λ t x u h. h.items) s))
