-- What a partial trade moves stands in the rows, the seller's move once the buyer's is put.
use Rattle.std.proofs.Common.{◌≡◌, ℕ, ◌&&◌, List, [], ◌∷◌, IfOk, Ok, Err, Result, sym, subst}
use Rattle.registers.specs.declared.row.Row.{Row}
use Rattle.registers.specs.Registers.{in_range}
use Rattle.plans.specs.declared.refusal.Refusal.{Refusal}
use Rattle.plans.proofs.Passes.{passed, of_ok}
use Rattle.full.specs.declared.open_register.OpenRegister.{OpenRegister}
use Rattle.full.specs.OpenRegisters.{FiguresAt, paid_of}
use Rattle.full.specs.Trades.{Following, ends_in_range}
use Rattle.full.proofs.Follows.{figures_after_put}
use Rattle.partial.specs.declared.drawn.Drawn.{Drawn}
use Rattle.partial.specs.Calls.{drawing, drawn_from}

pub drawn_is : (a b : OpenRegister) (v k l : ℕ) (w : Drawn) → drawn_from a b v k l ≡ Ok w → drawing a b v k l ≡ w
unfolding drawn_from
drawn_is a b v k l w e =
    let p = passed (in_range a.figures && in_range b.figures) _ _ w e in
    let q = passed (ends_in_range (drawing a b v k l).buyer (drawing a b v k l).seller) _ _ w p.1 in
    of_ok q.1

module _ (rs : List Row) (a b : OpenRegister) (v k l : ℕ) (x : FiguresAt rs a.place a.figures) (y : FiguresAt rs b.place b.figures) where
  follow_by : (r : Result Drawn Refusal) → drawn_from a b v k l ≡ r → IfOk r (λ w. Following rs (w.buyer ∷ w.seller ∷ []))
  follow_by (Err e) h = tt
  follow_by (Ok w) h =
      subst (λ (z : Drawn). Following rs (z.buyer ∷ z.seller ∷ [])) (drawn_is a b v k l w h)
      (x, (figures_after_put rs a.place b.place (paid_of a.figures v k) b.figures y, tt))

  pub drawn_follow : (r : Result Drawn Refusal) → r ≡ drawn_from a b v k l → IfOk r (λ w. Following rs (w.buyer ∷ w.seller ∷ []))
  drawn_follow r h = follow_by r (sym h)
