-- What a settled leg moves stands in the rows, the creditor's move once the debtor's is put.
use Rattle.std.proofs.Common.{◌≡◌, ℕ, ◌&&◌, List, [], ◌∷◌, IfOk, pos, Ok, Err, Result, sym, subst}
use Rattle.std.specs.Prelude.{int_le}
use Rattle.registers.specs.declared.row.Row.{Row}
use Rattle.registers.specs.Registers.{in_range}
use Rattle.plans.specs.declared.refusal.Refusal.{Refusal}
use Rattle.plans.proofs.Passes.{passed, of_ok}
use Rattle.full.specs.declared.open_register.OpenRegister.{OpenRegister}
use Rattle.full.specs.OpenRegisters.{FiguresAt}
use Rattle.full.specs.Trades.{Following, ends_in_range}
use Rattle.full.proofs.Follows.{figures_after_put}
use Rattle.pool.specs.declared.passing.Passed.{Passed}
use Rattle.pool.specs.Calls.{passing, passed_from, third_lowered}

pub passed_is : (a b : OpenRegister) (m : ℕ) (w : Passed) → passed_from a b m ≡ Ok w → passing a b m ≡ w
unfolding passed_from
passed_is a b m w e =
    let p = passed (in_range a.figures && in_range b.figures) _ _ w e in
    let q = passed (int_le (pos m) a.figures.third) _ _ w p.1 in
    let r = passed (ends_in_range (passing a b m).debtor (passing a b m).creditor) _ _ w q.1 in
    of_ok r.1

module _ (rs : List Row) (a b : OpenRegister) (m : ℕ) (x : FiguresAt rs a.place a.figures) (y : FiguresAt rs b.place b.figures) where
  follow_by : (r : Result Passed Refusal) → passed_from a b m ≡ r → IfOk r (λ w. Following rs (w.debtor ∷ w.creditor ∷ []))
  follow_by (Err e) h = tt
  follow_by (Ok w) h =
      subst (λ (z : Passed). Following rs (z.debtor ∷ z.creditor ∷ [])) (passed_is a b m w h)
      (x, (figures_after_put rs a.place b.place (third_lowered a.figures m) b.figures y, tt))

  pub passed_follow : (r : Result Passed Refusal) → r ≡ passed_from a b m → IfOk r (λ w. Following rs (w.debtor ∷ w.creditor ∷ []))
  passed_follow r h = follow_by r (sym h)
