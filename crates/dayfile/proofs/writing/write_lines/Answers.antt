use Rattle.dayfile.proofs.LinesWritten.{wrote_line, all_written}
use Rattle.dayfile.proofs.NextLine.{none_left, goes_on-none, goes_on-then, goes_on-next}
use Rattle.dayfile.proofs.writing.write_lines.Goals as goal

pub loop-line-init : goal.loop-line-init
loop-line-init g c = record { written = λ end others. others; goes_on = goes_on-none c.args.day.now }

pub loop-line-preserved : goal.loop-line-preserved
loop-line-preserved g c = record {
  written = λ end others. c.loop-line.invariant.written end (wrote_line _ _ end _ _ c.in-Some.line c.in-Some.ensures.lines c.in_ok-write_line.ensures others);
  goes_on = goes_on-then _ _ _ c.loop-line.invariant.goes_on (goes_on-next g.met.S.Store.joined _ _ _ c.next_line.ensures);
}

pub returns : goal.returns
returns g c = record {
  written = c.loop-line.invariant.written (g.W.Write.contents c.loop-line.out) (all_written (g.W.Write.contents c.loop-line.out) _ c.in_default.ensures.lines.0);
  told = c.in_default.ensures.lines.1;
  called = none_left _ _ c.next_line.ensures.advances c.in_default.ensures.lines.0;
  goes_on = goes_on-then _ _ _ c.loop-line.invariant.goes_on (goes_on-next g.met.S.Store.joined _ _ _ c.next_line.ensures);
}

pub returns-in_err-write_line-clause-goes_on : goal.returns-in_err-write_line-clause-goes_on
returns-in_err-write_line-clause-goes_on g c = goes_on-then _ _ _ c.loop-line.invariant.goes_on (goes_on-next g.met.S.Store.joined _ _ _ c.next_line.ensures)
