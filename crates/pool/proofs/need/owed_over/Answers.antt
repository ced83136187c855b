use Rattle.std.proofs.Common.{ap, ◌∙◌, arith, refl, sum_by, None}
use Rattle.std.proofs.lemmas.List.{take_all}
use Rattle.std.proofs.lemmas.List.Sums.{sum_by_more}
use Rattle.pool.specs.Debts.{owed_in, owed_over}
use Rattle.pool.proofs.need.owed_over.Goals as goal

pub loop-slot-init : goal.loop-slot-init
loop-slot-init c = record { owed = refl; most = omega arith }

pub overflow_add-owed : goal.overflow_add-owed
overflow_add-owed c = omega (arith, c.loop-slot.invariant.most, c.owed_in-owed.ensures.most)

pub loop-slot-preserved : goal.loop-slot-preserved
loop-slot-preserved c =
    record {
      owed = omega (arith, c.loop-slot.invariant.owed, c.owed_in-owed.ensures.owed, sum_by_more (owed_in c.args.account c.args.asset) c.args.table.now c.loop-slot.slot-index None c.loop-slot-test.true);
      most = omega (arith, c.loop-slot.invariant.most, c.owed_in-owed.ensures.most);
    }

pub returns-clause-owed : goal.returns-clause-owed
unfolding owed_over
returns-clause-owed c =
    c.loop-slot.invariant.owed ∙ ap (sum_by (owed_in c.args.account c.args.asset)) (take_all c.loop-slot.slot-index c.args.table.now (omega arith))

pub returns-clause-most : goal.returns-clause-most
returns-clause-most c = omega (arith, c.loop-slot.invariant.most)
