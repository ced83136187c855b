use Rattle.std.proofs.Common.{length, take, drop}
use Rattle.plans.proofs.Prefixes.{changes_from}
use Rattle.pool.specs.Plans.{call_of}
use Rattle.pool_law.proofs.Laws.{ran}
use Rattle.pool_law.proofs.runs.run.Goals as goal

pub returns : goal.returns
returns g c =
    let f = ran (g.S.Store.rows c.args.store) (g.S.Store.capacity c.args.store) c.args.settings (take (length c.args.outcomes.now) c.args.calls.now) (drop (length c.args.calls.now) c.args.outcomes.now)
    c.new.result.state c.carry_all.new.machine.engine.state c.carry_all.new.outcomes c.new.ensures.state c.carry_all.ensures.told c.carry_all.ensures.left in
    record {
      ran = record { told = f.told; state = f.state; law = f.law; law_at_end = f.law_at_end };
      changes = changes_from call_of g.S.Store.made c.new.result.store c.args.store c.carry_all.new.machine.engine.store c.new.result.state _ (take (length c.args.outcomes.now) c.args.calls.now) c.new.ensures.store c.new.ensures.state c.carry_all.ensures.changes;
    }
