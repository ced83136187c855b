use Rattle.std.proofs.Common.{◌≡◌, List, [], refl, sym, ap, ◌∙◌, subst}
use Rattle.registers.specs.Changes.{Change}
use Rattle.plans.specs.Runs.{state_after, changes_over}
use Rattle.plans.specs.Plans.{EngineView}
use Rattle.partial.specs.declared.call.Call.{Call}
use Rattle.partial.specs.State.{State}
use Rattle.partial.specs.Plans.{call_of}
use Rattle.dayfile.specs.declared.line.Line.{Line}
use Rattle.dayfile.specs.Days.{lines_left, calls_left, GoesOn}
use Rattle.dayfile.proofs.NextLine.{goes_on-none, goes_on-then}
use Rattle.day_runs.specs.Days.{begin_of, calls_of, changes_of_day, overwritten, told_by}
use Rattle.day_runs.proofs.Ends.{ruled}
use Rattle.day_runs.proofs.Overwritten.{overwritten-none}
use Rattle.day_runs.proofs.runs.run_day.Goals as goal

pub loop-line-init : goal.loop-line-init
loop-line-init g c = record { told = refl; goes_on = goes_on-none c.new-day.result }

pub loop-line-preserved : goal.loop-line-preserved
loop-line-preserved g c =
    let after = c.next_of_records.new.day in
    record {
      told = c.tell-next.ensures (lines_left after) ∙ ap (λ (ls : List Line). overwritten c.loop-line.outcomes c.loop-line.next (told_by ls)) (sym c.in-Some.ensures.line) ∙ c.loop-line.invariant.told;
      goes_on = goes_on-then _ _ _ c.loop-line.invariant.goes_on c.next_of_records.ensures.goes_on;
    }

-- the records are told: no call is left behind them
pub returns : goal.returns
returns g c =
    let first = c.new-day.result in
    let after = c.next_of_records.new.day in
    let rows = g.S.Store.rows c.args.store in
    let room = g.S.Store.capacity c.args.store in
    let file = c.args.file.now in
    let none : calls_left after ≡ [] = c.in_default.ensures.called in
    let whole : GoesOn first after = goes_on-then _ _ _ c.loop-line.invariant.goes_on c.next_of_records.ensures.goes_on in
    let left : c.into_engine.result.state ≡ state_after call_of (begin_of rows room file) (calls_of file) =
    ap (λ (e : EngineView g.row.S.Denot State). e.state) c.into_engine.ensures
    ∙ sym (ap (state_after call_of after.engine.state) none)
    ∙ whole.state
    ∙ ap (λ (s : State). state_after call_of s (calls_left first)) c.new-day.ensures.state
    ∙ ap (state_after call_of (begin_of rows room file)) c.new-day.ensures.calls in
    let r = ruled rows room file c.into_engine.result.state left in
    let made : g.S.Store.made first.engine.store (changes_over call_of first.engine.state (calls_left first)) after.engine.store =
    whole.changes after.engine.store
    (subst (λ (cs : List Call). g.S.Store.made after.engine.store (changes_over call_of after.engine.state cs) after.engine.store) (sym none) (g.met.S.Store.unchanged after.engine.store)) in
    let changes : changes_over call_of first.engine.state (calls_left first) ≡ changes_of_day rows room file =
    ap (λ (s : State). changes_over call_of s (calls_left first)) c.new-day.ensures.state
    ∙ ap (changes_over call_of (begin_of rows room file)) c.new-day.ensures.calls in
    record {
      ran = record {
        told =
            sym (overwritten-none c.loop-line.outcomes c.loop-line.next)
            ∙ sym (ap (overwritten c.loop-line.outcomes c.loop-line.next) c.in_default.ensures.told)
            ∙ c.loop-line.invariant.told
            ∙ ap (λ (ls : List Line). overwritten c.args.outcomes.now 0 (told_by ls)) c.new-day.ensures.lines;
        state = left;
        law = r.law;
        law_at_end = r.law_at_end;
      };
      changes =
          subst (λ (e : EngineView g.row.S.Denot State). g.S.Store.made c.args.store (changes_of_day rows room file) e.store) (sym c.into_engine.ensures)
          (subst (λ (x : g.row.S.Denot). g.S.Store.made x (changes_of_day rows room file) after.engine.store) c.new-day.ensures.store
          (subst (λ (xs : List Change). g.S.Store.made first.engine.store xs after.engine.store) changes made));
    }
