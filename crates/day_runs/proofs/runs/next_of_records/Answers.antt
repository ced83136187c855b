use Rattle.day_records.specs.Views.{items_left}
use Rattle.dayfile.proofs.NextLine.{goes_on-none, goes_on-next}
use Rattle.day_runs.proofs.RecordsTold.{registers_told, registers_called, line_told, all_told, all_called}
use Rattle.day_runs.proofs.runs.next_of_records.Goals as goal

pub returns-in-Registers : goal.returns-in-Registers
returns-in-Registers g c =
    let day = c.args.day.now in
    record {
      line = tt;
      told = registers_told day.stage _ c.in-Registers.is day.engine.state day.count (items_left day.records);
      called = registers_called day.stage _ c.in-Registers.is (items_left day.records);
      goes_on = goes_on-none day;
    }

pub returns-in-Header : goal.returns-in-Header
returns-in-Header g c = record {
  line = line_told _ _ _ c.next_line.ensures;
  told = all_told _ _ _ c.next_line.ensures;
  called = all_called _ _ _ c.next_line.ensures;
  goes_on = goes_on-next g.met.S.Store.joined _ _ _ c.next_line.ensures;
}
