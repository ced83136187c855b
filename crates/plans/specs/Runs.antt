-- Runs: a list of calls, one after the other, and the tally that is fed with them.
use Rattle.std.specs.Prelude.{◌≡◌, ℕ, Bool, true, false, List, [], ◌∷◌, ◌++◌, length, take, drop, Result, is_ok}
use Rattle.registers.specs.Changes.{Change}
use Rattle.plans.specs.declared.refusal.Refusal.{Refusal}
use Rattle.plans.specs.Plans.{Plan, answer_of, left_by, changes_by}

module _ {A S C : Type 0} (call_of : S → C → Result (Plan A S) Refusal) where
  -- what a call answers, and the state that it leaves
  abbrev pub outcome : S → C → Result A Refusal
  outcome s c = answer_of (call_of s c)

  abbrev pub next : S → C → S
  next s c = left_by s (call_of s c)

  -- the outcomes of a list of calls, and the state after the last
  abbrev pub outcomes_of : S → List C → List (Result A Refusal)
  outcomes_of s [] = []
  outcomes_of s (c ∷ cs) = outcome s c ∷ outcomes_of (next s c) cs

  abbrev pub state_after : S → List C → S
  state_after s [] = s
  state_after s (c ∷ cs) = state_after (next s c) cs

  -- the changes that they make to the store, in their order
  abbrev pub changes_over : S → List C → List Change
  changes_over s [] = []
  changes_over s (c ∷ cs) = changes_by (call_of s c) ++ changes_over (next s c) cs

module _ {T C : Type 0} (entered : T → C → T) where
  -- a tally with a call and whether it was accepted
  abbrev pub noted : T → C → Bool → T
  noted t c true = entered t c
  noted t c false = t

-- the tally of a list of calls, fed with each call and its outcome
abbrev pub tallied : {A T C : Type 0} → (T → C → T) → T → List C → List (Result A Refusal) → T
tallied entered t [] rs = t
tallied entered t (c ∷ cs) [] = t
tallied entered t (c ∷ cs) (r ∷ rs) = tallied entered (noted entered t c (is_ok r)) cs rs

-- what a run comes to, of as many calls as there are places for outcomes: the outcomes before and after, and the
-- state at the end. `begin` is the state of a new engine, `nothing` the tally of no calls; `Empty` says that the
-- store was empty.
pub record Ran {A S C T : Type 0} (call_of : S → C → Result (Plan A S) Refusal) (entered : T → C → T) (Law : T → S → Type 0) (Empty : Type 0) (nothing : T) (begin : S)
    (calls : List C) (old new : List (Result A Refusal)) (left : S) : Type 0 where
  -- each outcome is told in its place, as the plan of its call says, and places behind them stay
  pub told : new ≡ outcomes_of call_of begin (take (length old) calls) ++ drop (length calls) old
  -- the state is the one that the plans leave, one after the other
  pub state : left ≡ state_after call_of begin (take (length old) calls)
  -- if the store was empty, the law holds after each call, also where some are refused
  pub law : Empty → (n : ℕ) → Law (tallied entered nothing (take n (take (length old) calls)) new) (state_after call_of begin (take n (take (length old) calls)))
  -- and so at the end
  pub law_at_end : Empty → Law (tallied entered nothing (take (length old) calls) new) left

-- the changes that the calls make to the store, in their order
abbrev pub changes_of_run : {A S C : Type 0} → (S → C → Result (Plan A S) Refusal) → S → List C → List (Result A Refusal) → List Change
changes_of_run call_of begin calls old = changes_over call_of begin (take (length old) calls)
