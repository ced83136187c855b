-- A property of a plan, step by step through its checks; a refusal has nothing to keep.
use Rattle.std.proofs.Common.{◌≡◌, Bool, true, false, cond, Some, None, Ok, Err, Option, Result, refl}
use Rattle.plans.specs.declared.refusal.Refusal.{Refusal}
use Rattle.seek.proofs.Cases.{no_case}
use Rattle.plans.specs.Steps.{and_then, demand, or_refuse}
use Rattle.plans.specs.Plans.{Plan}

-- an accepted call leaves a state of which P holds; a refused one has nothing to keep
abbrev pub Keeps : {A S : Type 0} → (S → Type 0) → Result (Plan A S) Refusal → Type 0
Keeps P (Ok p) = P p.next
Keeps P (Err e) = Unit {0}

module _ {A S : Type 0} (P : S → Type 0) where
  pub by_demand : (b : Bool) (e : Refusal) (rest : Result (Plan A S) Refusal) → (b ≡ true → Keeps P rest) → Keeps P (demand b e rest)
  by_demand true e rest h = h refl
  by_demand false e rest h = tt

  pub by_choice : (b : Bool) (x y : Result (Plan A S) Refusal) → (b ≡ true → Keeps P x) → (b ≡ false → Keeps P y) → Keeps P (cond b x y)
  by_choice true x y f g = f refl
  by_choice false x y f g = g refl

  pub by_step : {X : Type 0} (r : Result X Refusal) (k : X → Result (Plan A S) Refusal) → ((x : X) → r ≡ Ok x → Keeps P (k x)) → Keeps P (and_then r k)
  by_step (Err e) k h = tt
  by_step (Ok x) k h = h x refl

  pub by_there : {X : Type 0} (o : Option X) (e : Refusal) (k : X → Result (Plan A S) Refusal) → ((x : X) → o ≡ Some x → Keeps P (k x)) → Keeps P (and_then (or_refuse o e) k)
  by_there None e k h = tt
  by_there (Some x) e k h = h x refl

  -- a step of two
  pub by_steps : {X Y : Type 0} (r : Result X Refusal) (f : X → Result Y Refusal) (k : Y → Result (Plan A S) Refusal) → ((x : X) → r ≡ Ok x → (y : Y) → f x ≡ Ok y → Keeps P (k y)) → Keeps P (and_then (and_then r f) k)
  by_steps (Err e) f k h = tt
  by_steps (Ok x) f k h = by_step (f x) k (h x refl)

-- what came of a step that did not refuse
pub stepped : {X Y : Type 0} (r : Result X Refusal) (k : X → Result Y Refusal) (y : Y) → and_then r k ≡ Ok y → (x : X) × ((r ≡ Ok x) × (k x ≡ Ok y))
stepped (Err e) k y h = no_case (cc)
stepped (Ok x) k y h = (x, (refl, h))

-- two properties at once
pub both : {A S : Type 0} (P Q : S → Type 0) (r : Result (Plan A S) Refusal) → Keeps P r → Keeps Q r → Keeps (λ (s : S). P s × Q s) r
both P Q (Ok p) h k = (h, k)
both P Q (Err e) h k = tt
