use Rattle.std.proofs.Common.{rules, ◌≡◌, false, ◌<◌, length, sym, ap, ◌∙◌, arith}
use Rattle.std.specs.List.{list_all}
use Rattle.pool.specs.Calls.{may_sweep}
use Rattle.pool.proofs.Sweeps.{demanded, refused, fine_more, fine_not, not_absent, read_same}
use Rattle.pool.proofs.sweep.all_may_sweep.Goals as goal

pub returns-in_err-may_sweep-clause-answer : goal.returns-in_err-may_sweep-clause-answer
returns-in_err-may_sweep-clause-answer g c =
    let at = read_same _ _ c.loop-place.place c.in-Some.row _ c.loop-place.invariant.asked.same_rows c.row.ensures.answer c.in-Some.is in
    let no = refused (may_sweep c.in-Some.row) _ _ (sym c.may_sweep.ensures ∙ c.in_err-may_sweep.was) in
    let not : list_all may_sweep (g.S.Store.rows c.args.store.now) ≡ false = fine_not (g.S.Store.rows c.args.store.now) c.loop-place.place c.in-Some.row at no in
    search rules

pub loop-place-preserved : goal.loop-place-preserved
loop-place-preserved g c =
    let at = read_same _ _ c.loop-place.place c.in-Some.row _ c.loop-place.invariant.asked.same_rows c.row.ensures.answer c.in-Some.is in
    record {
      asked = record {
        same_rows = c.row.ensures.asked.same_rows ∙ c.loop-place.invariant.asked.same_rows;
        same_room = c.row.ensures.asked.same_room ∙ c.loop-place.invariant.asked.same_room;
        changes = g.met.S.Store.asked_first _ _ _ _ c.loop-place.invariant.asked.changes c.row.ensures.asked.changes;
      };
      fine = fine_more (g.S.Store.rows c.args.store.now) c.loop-place.place c.in-Some.row at (demanded (may_sweep c.in-Some.row) _ _ (sym c.may_sweep.ensures ∙ c.in_ok-may_sweep.was)) c.loop-place.invariant.fine;
    }

pub returns-in_default-clause-answer : goal.returns-in_default-clause-answer
returns-in_default-clause-answer g c =
    let there : c.loop-place.place < length (g.S.Store.rows c.loop-place.store) = omega (arith, c.count-place-end.ensures.answer, ap length c.loop-place.invariant.asked.same_rows, c.loop-place-test.true) in
    absurd (not_absent (g.S.Store.rows c.loop-place.store) c.loop-place.place there (sym c.row.ensures.answer ∙ c.in_default.is))
