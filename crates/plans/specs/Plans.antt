-- A call's plan: what it answers, the changes that it makes to the store and the state that it leaves, or
-- why it is refused.
use Rattle.std.specs.Prelude.{◌≡◌, List, [], Ok, Err, Result}
use Rattle.registers.specs.Changes.{Change}
use Rattle.plans.specs.declared.refusal.Refusal.{Refusal}

pub record Plan (A S : Type 0) : Type 0 where
  pub answer : A
  pub changes : List Change
  pub next : S

-- what contracts see of an engine: its store, and the state
pub record EngineView (S T : Type 0) : Type 0 where
  pub store : S
  pub state : T

-- a plan's answer, and the state that it leaves: a refusal leaves it as it stood
abbrev pub answer_of : {A S : Type 0} → Result (Plan A S) Refusal → Result A Refusal
answer_of (Ok p) = Ok p.answer
answer_of (Err e) = Err e

abbrev pub left_by : {A S : Type 0} → S → Result (Plan A S) Refusal → S
left_by s (Ok p) = p.next
left_by s (Err e) = s

-- the changes that it makes, in their order: a refusal makes none
abbrev pub changes_by : {A S : Type 0} → Result (Plan A S) Refusal → List Change
changes_by (Ok p) = p.changes
changes_by (Err e) = []

-- a call answered as planned, left the state as planned, and made the planned changes to the store
pub record Done {A K T : Type 0} (made : K → List Change → K → Type 0) (plan : Result (Plan A T) Refusal) (before after : EngineView K T) (r : Result A Refusal) : Type 0 where
  pub answer : r ≡ answer_of plan
  pub left : after.state ≡ left_by before.state plan
  pub changes : made before.store (changes_by plan) after.store

-- a plan of the level below, whose state is a part of this level's, and whose store is this level's
abbrev pub handed : {A S T : Type 0} → (S → T) → Result (Plan A S) Refusal → Result (Plan A T) Refusal
handed f (Ok p) = Ok (record { answer = p.answer; changes = p.changes; next = f p.next })
handed f (Err e) = Err e
