-- Steps of a definition: what may be refused, and what comes after.
use Rattle.std.specs.Prelude.{Bool, true, false, Some, None, Ok, Err, Option, Result}
use Rattle.plans.specs.declared.refusal.Refusal.{Refusal}

-- one step and then another, a check that has to hold, and a value that has to be there
abbrev pub and_then : {X Y : Type 0} → Result X Refusal → (X → Result Y Refusal) → Result Y Refusal
and_then (Err e) k = Err e
and_then (Ok x) k = k x

abbrev pub demand : {Y : Type 0} → Bool → Refusal → Result Y Refusal → Result Y Refusal
demand true e rest = rest
demand false e rest = Err e

abbrev pub or_refuse : {X : Type 0} → Option X → Refusal → Result X Refusal
or_refuse None e = Err e
or_refuse (Some x) e = Ok x

-- the value of an Ok, seen by a function
abbrev pub ok_as : {X Y : Type 0} → (X → Y) → Result X Refusal → Result Y Refusal
ok_as f (Ok x) = Ok (f x)
ok_as f (Err e) = Err e
