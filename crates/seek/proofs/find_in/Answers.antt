use Rattle.std.proofs.Common.{rules, ◌≡◌, true, false}
use borrow.Author.Tests.{tests}
use Rattle.std.specs.List.{slice_get}
use Rattle.std.proofs.lemmas.Iterator.{first_from_Range}
use Rattle.seek.specs.Place.{passes}
use Rattle.seek.proofs.Places.{Found, place_found, borne_there, found_within}
use Rattle.seek.proofs.find_in.Goals as goal

pub returns : goal.returns
returns g c =
    let f : Found (λ t. g.R.Keyed.bears t c.args.key) (g.S.Table.records c.args.table.now) c.count.result c.find.result =
    first_from_Range _ _ _ _ (λ i. passes (λ t. g.R.Keyed.bears t c.args.key) (slice_get (g.S.Table.records c.args.table.now) i) ≡ true) (λ i. passes (λ t. g.R.Keyed.bears t c.args.key) (slice_get (g.S.Table.records c.args.table.now) i) ≡ false) c.find.ensures.ran (λ x q k. search (rules, tests)) (λ x q k. search (rules, tests)) in
    record {
      place = place_found (λ t. g.R.Keyed.bears t c.args.key) (g.S.Table.records c.args.table.now) c.count.result c.find.result c.count.ensures f;
      within = found_within (λ t. g.R.Keyed.bears t c.args.key) (g.S.Table.records c.args.table.now) c.count.result c.find.result c.count.ensures f;
      borne = borne_there (λ t. g.R.Keyed.bears t c.args.key) (g.S.Table.records c.args.table.now) c.count.result c.find.result f;
    }
