use Rattle.std.proofs.Common.{◌≤◌, length, take}
use Rattle.plans.specs.Runs.{changes_over}
use Rattle.plans.proofs.Prefixes.{Progress}
use Rattle.plans.proofs.machine.carry_all.Given as goal

abbrev pub invariant-loop-i : goal.invariant-loop-i
invariant-loop-i g l =
    record {
      told : Progress g.M.Machine.plan (g.M.Machine.view l.initial.machine).state l.calls l.initial.outcomes l.i (g.M.Machine.view l.machine).state l.outcomes;
      within : l.i ≤ length l.calls;
      changes : g.M.Machine.made (g.M.Machine.view l.initial.machine).store (changes_over g.M.Machine.plan (g.M.Machine.view l.initial.machine).state (take l.i l.calls)) (g.M.Machine.view l.machine).store;
    }
