use Rattle.std.proofs.Common.{◌≡◌, ◌<◌, ◌≤◌, get_or, set, length, sym, ap, ◌∙◌, arith, ltb-true, ltb-false}
use Rattle.std.proofs.lemmas.List.{set-get_or}
use Rattle.plans.specs.Runs.{outcome, next}
use Rattle.plans.proofs.Prefixes.{Progress, told_none, told_more, told_all, more_changes, all_changes}
use Rattle.plans.proofs.machine.carry_all.Goals as goal

pub loop-i-init : goal.loop-i-init
loop-i-init g c = record { told = told_none g.M.Machine.plan _ _ _; within = omega arith; changes = g.met.M.Machine.unchanged (g.M.Machine.view c.args.machine.now).store }

pub loop-i-preserved : goal.loop-i-preserved
loop-i-preserved g c =
    let there : c.loop-i.i < length c.args.calls.now = ltb-true _ _ (sym c.in-Some.ensures.lookup.0) in
    let call : c.in-Some.call.now ≡ get_or c.args.calls.now c.loop-i.i c.in-Some.call.now = c.in-Some.ensures.lookup.1 in
    record {
      told =
          told_more g.M.Machine.plan (g.M.Machine.view c.args.machine.now).state c.args.calls.now c.args.outcomes.now c.loop-i.i (g.M.Machine.view c.loop-i.machine).state (g.M.Machine.view c.carry_out.new.self).state c.loop-i.outcomes
          c.in-Some.call.now c.carry_out.result there (omega arith)
          (c.carry_out.ensures.answer ∙ ap (outcome g.M.Machine.plan (g.M.Machine.view c.loop-i.machine).state) call) (c.carry_out.ensures.left ∙ ap (next g.M.Machine.plan (g.M.Machine.view c.loop-i.machine).state) call) c.loop-i.invariant.told;
      within = omega arith;
      changes =
          more_changes g.M.Machine.plan g.M.Machine.made g.met.M.Machine.joined (g.M.Machine.view c.args.machine.now).store (g.M.Machine.view c.loop-i.machine).store (g.M.Machine.view c.carry_out.new.self).store
          (g.M.Machine.view c.args.machine.now).state c.args.calls.now c.loop-i.i (g.M.Machine.view c.loop-i.machine).state
          c.in-Some.call.now there call c.loop-i.invariant.told.state c.loop-i.invariant.changes c.carry_out.ensures.changes;
    }

pub returns-after-loop-i : goal.returns-after-loop-i
returns-after-loop-i g c =
    let t = told_all g.M.Machine.plan (g.M.Machine.view c.args.machine.now).state c.args.calls.now c.args.outcomes.now c.loop-i.i (g.M.Machine.view c.loop-i.machine).state c.loop-i.outcomes (omega (arith, c.loop-i.invariant.within)) c.loop-i.invariant.told in
    record {
      told = t.0;
      left = t.1;
      changes = all_changes g.M.Machine.plan g.M.Machine.made _ _ _ c.args.calls.now c.args.outcomes.now c.loop-i.i (omega (arith, c.loop-i.invariant.within)) c.loop-i.invariant.changes;
    }

pub returns-in_default : goal.returns-in_default
returns-in_default g c =
    let past : length c.args.calls.now ≤ c.loop-i.i = ltb-false _ _ (sym c.in_default.ensures.lookup.0) in
    let same = set-get_or c.loop-i.outcomes c.loop-i.i c.index-outcomes-i.result in
    let told : Progress g.M.Machine.plan (g.M.Machine.view c.args.machine.now).state c.args.calls.now c.args.outcomes.now c.loop-i.i (g.M.Machine.view c.loop-i.machine).state (set c.loop-i.outcomes c.loop-i.i (get_or c.loop-i.outcomes c.loop-i.i c.index-outcomes-i.result)) =
    record { state = c.loop-i.invariant.told.state; told = same ∙ c.loop-i.invariant.told.told } in
    let t = told_all g.M.Machine.plan (g.M.Machine.view c.args.machine.now).state c.args.calls.now c.args.outcomes.now c.loop-i.i (g.M.Machine.view c.loop-i.machine).state _ (omega (arith, c.loop-i.invariant.within)) told in
    record {
      told = t.0;
      left = t.1;
      changes = all_changes g.M.Machine.plan g.M.Machine.made _ _ _ c.args.calls.now c.args.outcomes.now c.loop-i.i (omega (arith, c.loop-i.invariant.within)) c.loop-i.invariant.changes;
    }
