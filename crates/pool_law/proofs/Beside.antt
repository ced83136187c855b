-- Two plans beside each other: the second is accepted where the first is, and a relation holds between the states that
-- they leave.
use Rattle.std.proofs.Common.{◌≡◌, Bool, true, false, cond, Some, None, Ok, Err, Option, Result, refl}
use Rattle.plans.specs.declared.refusal.Refusal.{Refusal}
use Rattle.plans.specs.Plans.{Plan}
use Rattle.plans.specs.Steps.{and_then, demand, or_refuse}
use Rattle.plans.proofs.Keeping.{Keeps}

abbrev pub Beside : {A S : Type 0} → (S → S → Type 0) → Result (Plan A S) Refusal → Result (Plan A S) Refusal → Type 0
Beside R (Err e) r = Unit {0}
Beside R (Ok p) (Err e) = ⊥
Beside R (Ok p) (Ok q) = R p.next q.next

module _ {A S : Type 0} (R : S → S → Type 0) where
  pub beside_demand : (b : Bool) (e : Refusal) (x y : Result (Plan A S) Refusal) → Beside R x y → Beside R (demand b e x) (demand b e y)
  beside_demand true e x y h = h
  beside_demand false e x y h = tt

  pub beside_choice : (b : Bool) (x y v w : Result (Plan A S) Refusal) → Beside R x v → Beside R y w → Beside R (cond b x y) (cond b v w)
  beside_choice true x y v w f g = f
  beside_choice false x y v w f g = g

  pub beside_step : {X : Type 0} (r : Result X Refusal) (k l : X → Result (Plan A S) Refusal) → ((x : X) → Beside R (k x) (l x)) → Beside R (and_then r k) (and_then r l)
  beside_step (Err e) k l h = tt
  beside_step (Ok x) k l h = h x

  pub beside_there : {X : Type 0} (o : Option X) (e : Refusal) (k : X → Result (Plan A S) Refusal) (y : Result (Plan A S) Refusal) → ((x : X) → o ≡ Some x → Beside R (k x) y) → Beside R (and_then (or_refuse o e) k) y
  beside_there None e k y h = tt
  beside_there (Some x) e k y h = h x refl

  -- what the second keeps is kept by the first too
  pub beside_keeps : (P Q : S → Type 0) → ((x y : S) → R x y → P y → Q x) → (r q : Result (Plan A S) Refusal) → Beside R r q → Keeps P q → Keeps Q r
  beside_keeps P Q f (Err e) q b k = tt
  beside_keeps P Q f (Ok p) (Err e) b k = absurd b
  beside_keeps P Q f (Ok p) (Ok q) b k = f p.next q.next b k
