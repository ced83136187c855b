use Rattle.std.proofs.Common.{length, take, drop}
use Rattle.plans.proofs.Prefixes.{changes_from}
use Rattle.partial.specs.Plans.{call_of}
use Rattle.partial_law.proofs.Laws.{ran}
use Rattle.partial_law.proofs.runs.run.Goals as goal

pub returns : goal.returns
returns g c =
    let f = ran (g.S.Store.rows c.args.store) (g.S.Store.capacity c.args.store) c.args.settings (take (length c.args.outcomes.now) c.args.calls.now) (drop (length c.args.calls.now) c.args.outcomes.now)
    c.new-engine.result.state c.carry_all.new.machine.state c.carry_all.new.outcomes c.new-engine.ensures.state c.carry_all.ensures.told c.carry_all.ensures.left in
    record {
      ran = record { told = f.told; state = f.state; law = f.law; law_at_end = f.law_at_end };
      changes = changes_from call_of g.S.Store.made c.new-engine.result.store c.args.store c.carry_all.new.machine.store c.new-engine.result.state _ (take (length c.args.outcomes.now) c.args.calls.now) c.new-engine.ensures.store c.new-engine.ensures.state c.carry_all.ensures.changes;
    }
