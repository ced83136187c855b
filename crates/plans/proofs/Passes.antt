-- What passes a check.
use Rattle.std.proofs.Common.{◌≡◌, Bool, true, false, Ok, Result, refl}
use Rattle.seek.proofs.Cases.{no_case}
use Rattle.plans.specs.declared.refusal.Refusal.{Refusal}
use Rattle.plans.specs.Steps.{demand}

pub of_ok : {X : Type 0} {x y : X} → ◌≡◌ {A = Result X Refusal} (Ok x) (Ok y) → x ≡ y
of_ok e = cc

-- the check holds, and the rest gives the same
pub passed : {X : Type 0} (b : Bool) (e : Refusal) (rest : Result X Refusal) (x : X) → demand b e rest ≡ Ok x → (b ≡ true) × (rest ≡ Ok x)
passed true e rest x h = (refl, h)
passed false e rest x h = no_case (cc)
