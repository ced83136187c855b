-- A call that is handed down: what the level below planned, done and kept, in this level's state.
use Rattle.std.proofs.Common.{◌≡◌, Ok, Err, Result, refl}
use Rattle.plans.specs.declared.refusal.Refusal.{Refusal}
use Rattle.plans.specs.Plans.{Plan, answer_of, left_by, changes_by, handed}
use Rattle.plans.proofs.Keeping.{Keeps}

pub answer_of-handed : {A S T : Type 0} (f : S → T) (r : Result (Plan A S) Refusal) → answer_of (handed f r) ≡ answer_of r
answer_of-handed f (Ok p) = refl
answer_of-handed f (Err e) = refl

pub changes_by-handed : {A S T : Type 0} (f : S → T) (r : Result (Plan A S) Refusal) → changes_by (handed f r) ≡ changes_by r
changes_by-handed f (Ok p) = refl
changes_by-handed f (Err e) = refl

-- `f` puts the state below into its place
pub left_by-handed : {A S T : Type 0} (f : S → T) (s : S) (t : T) (r : Result (Plan A S) Refusal) → t ≡ f s → left_by t (handed f r) ≡ f (left_by s r)
left_by-handed f s t (Ok p) e = refl
left_by-handed f s t (Err x) e = e

pub keeps-handed : {A S T : Type 0} (P : S → Type 0) (Q : T → Type 0) (f : S → T) (r : Result (Plan A S) Refusal) → ((s : S) → P s → Q (f s)) → Keeps P r → Keeps Q (handed f r)
keeps-handed P Q f (Ok p) g k = g p.next k
keeps-handed P Q f (Err e) g k = tt

pub ruleset handing = (answer_of-handed, left_by-handed, changes_by-handed)
