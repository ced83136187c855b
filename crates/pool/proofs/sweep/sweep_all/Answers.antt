use Rattle.std.proofs.Common.{◌≡◌, ℕ, suc, ◌<◌, ◌+◌, List, length, refl, sym, ap, ◌∙◌, subst, arith}
use Rattle.registers.specs.declared.row.Row.{Row}
use Rattle.registers.specs.Changes.{Change}
use Rattle.registers.specs.Stores.{put_row}
use Rattle.pool.specs.Calls.{may_sweep, returns, swept}
use Rattle.pool.proofs.Sweeps.{swept_to, read_swept, next_swept, all_swept, length_swept, changes_more, count_more, few_more, fine_at, not_absent}
use Rattle.pool.proofs.sweep.sweep_all.Goals as goal

pub sweep_row-count-requires-clause-in_range : goal.sweep_row-count-requires-clause-in_range
sweep_row-count-requires-clause-in_range g c =
    let rows = g.S.Store.rows c.args.store.now in
    let at = read_swept rows _ c.loop-place.place c.in-Some.row _ c.loop-place.invariant.rows c.row.ensures.answer c.in-Some.is in
    fine_at rows c.loop-place.place c.in-Some.row (may_sweep c.in-Some.row) refl c.requires at

pub loop-place-preserved : goal.loop-place-preserved
loop-place-preserved g c =
    let rows = g.S.Store.rows c.args.store.now in
    let i = c.loop-place.place in
    let r = c.in-Some.row in
    let next : suc i ≡ i + 1 = omega arith in
    let at = read_swept rows _ i r _ c.loop-place.invariant.rows c.row.ensures.answer c.in-Some.is in
    record {
      rows = c.sweep_row-count.ensures.after ∙ ap (λ (rs : List Row). put_row rs i (swept r).figures) (c.row.ensures.asked.same_rows ∙ c.loop-place.invariant.rows) ∙ next_swept i rows r at ∙ ap (λ (n : ℕ). swept_to n rows) next;
      same_room = c.sweep_row-count.ensures.same_room ∙ c.row.ensures.asked.same_room ∙ c.loop-place.invariant.same_room;
      changes =
          subst (λ (cs : List Change). g.S.Store.made c.args.store.now cs c.sweep_row-count.new.store) (sym (changes_more rows i r at))
          (g.met.S.Store.joined _ _ _ _ _ c.loop-place.invariant.changes (g.met.S.Store.asked_first _ _ _ _ c.row.ensures.asked.changes c.sweep_row-count.ensures.changes));
      count = omega (arith, c.loop-place.invariant.count, c.sweep_row-count.ensures.count, count_more rows i r at);
      few = omega (arith, c.loop-place.invariant.few, c.sweep_row-count.ensures.count, few_more (returns r));
    }

pub returns-after-loop-place-clause-after : goal.returns-after-loop-place-clause-after
returns-after-loop-place-clause-after g c =
    c.loop-place.invariant.rows ∙ all_swept c.loop-place.place (g.S.Store.rows c.args.store.now) (omega arith)

pub returns-in_default : goal.returns-in_default
returns-in_default g c =
    let there : c.loop-place.place < length (g.S.Store.rows c.loop-place.store) = omega (arith, c.count-place-end.ensures.answer, ap length c.loop-place.invariant.rows, length_swept c.loop-place.place (g.S.Store.rows c.args.store.now), c.loop-place-test.true) in
    absurd (not_absent (g.S.Store.rows c.loop-place.store) c.loop-place.place there (sym c.row.ensures.answer ∙ c.in_default.is))

pub returns-after-loop-place-clause-few : goal.returns-after-loop-place-clause-few
returns-after-loop-place-clause-few g c = let b = g.met.S.Store.bounded c.args.store.now in omega (arith, c.loop-place.invariant.few, c.count-place-end.ensures.answer, b)
