use Rattle.std.proofs.Common.{List, sym, subst}
use Rattle.registers.specs.Changes.{Change}
use Rattle.full.proofs.AsRead.{stays_read, put_read}
use Rattle.full.proofs.open_register.put_register.Goals as goal

pub returns-then-eq-clause-after_as_read : goal.returns-then-eq-clause-after_as_read
returns-then-eq-clause-after_as_read g c = λ at. stays_read _ _ _ _ (sym c.if-eq.ensures) at

pub returns-clause-changes_as_read : goal.returns-clause-changes_as_read
returns-clause-changes_as_read g c = λ at. subst (λ (xs : List Change). g.S.Store.made c.args.store.now xs c.put.new.self) (put_read _ _ _ _ (sym c.if-eq.ensures) at) c.put.ensures.changes
