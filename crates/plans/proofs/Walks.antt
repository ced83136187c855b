-- What each call keeps, every prefix of a run keeps.
use Rattle.std.proofs.Common.{◌≡◌, ℕ, zero, suc, List, [], ◌∷◌, ◌++◌, length, take, is_ok, Ok, Err, Result, sym, ap, ◌∙◌, subst, arith}
use Rattle.std.proofs.lemmas.List.{take_all}
use Rattle.plans.specs.declared.refusal.Refusal.{Refusal}
use Rattle.plans.specs.Plans.{Plan, answer_of, left_by}
use Rattle.plans.proofs.Keeping.{Keeps}
use Rattle.plans.specs.Runs.{outcome, next, outcomes_of, state_after, noted, tallied}

module _ {A S C T : Type 0} (call_of : S → C → Result (Plan A S) Refusal) (entered : T → C → T) (Promise : T → S → Type 0)
    (each : (t : T) (s : S) → Promise t s → (c : C) → Keeps (Promise (entered t c)) (call_of s c)) where
  step_by : (t : T) (s : S) (c : C) (r : Result (Plan A S) Refusal) → Promise t s → Keeps (Promise (entered t c)) r → Promise (noted entered t c (is_ok (answer_of r))) (left_by s r)
  step_by t s c (Err e) h k = h
  step_by t s c (Ok p) h k = k

  pub step_keeps : (t : T) (s : S) (c : C) → Promise t s → Promise (noted entered t c (is_ok (outcome call_of s c))) (next call_of s c)
  step_keeps t s c h = step_by t s c (call_of s c) h (each t s h c)

  pub run_keeps : (cs : List C) (rest : List (Result A Refusal)) (n : ℕ) (t : T) (s : S) → Promise t s → Promise (tallied entered t (take n cs) (outcomes_of call_of s cs ++ rest)) (state_after call_of s (take n cs))
  run_keeps [] rest zero t s h = h
  run_keeps [] rest (suc n) t s h = h
  run_keeps (c ∷ cs) rest zero t s h = h
  run_keeps (c ∷ cs) rest (suc n) t s h = run_keeps cs rest n (noted entered t c (is_ok (outcome call_of s c))) (next call_of s c) (step_keeps t s c h)

-- what a run from a state comes to: the outcomes told, the state left, and, if the store was empty, the law
-- for every prefix and at the end
pub record Finished {A S C T : Type 0} (call_of : S → C → Result (Plan A S) Refusal) (entered : T → C → T) (Law : T → S → Type 0) (Empty : Type 0) (nothing : T) (begin : S)
    (cs : List C) (rest : List (Result A Refusal)) (left : S) (outs : List (Result A Refusal)) : Type 0 where
  pub told : outs ≡ outcomes_of call_of begin cs ++ rest
  pub state : left ≡ state_after call_of begin cs
  pub law : Empty → (n : ℕ) → Law (tallied entered nothing (take n cs) outs) (state_after call_of begin (take n cs))
  pub law_at_end : Empty → Law (tallied entered nothing cs outs) left

module _ {A S C T : Type 0} (call_of : S → C → Result (Plan A S) Refusal) (entered : T → C → T) (Promise Law : T → S → Type 0)
    (each : (t : T) (s : S) → Promise t s → (c : C) → Keeps (Promise (entered t c)) (call_of s c))
    (promised : (t : T) (s : S) → Promise t s → Law t s)
    (Empty : Type 0) (nothing : T) (begin : S) (begun : Empty → Promise nothing begin) where
  pub finished : (cs : List C) (rest : List (Result A Refusal)) (s0 left : S) (outs : List (Result A Refusal)) → s0 ≡ begin → outs ≡ outcomes_of call_of s0 cs ++ rest → left ≡ state_after call_of s0 cs → Finished call_of entered Law Empty nothing begin cs rest left outs
  finished cs rest s0 left outs b told state =
      let told' : outs ≡ outcomes_of call_of begin cs ++ rest = told ∙ ap (λ (s : S). outcomes_of call_of s cs ++ rest) b in
      let state' : left ≡ state_after call_of begin cs = state ∙ ap (λ (s : S). state_after call_of s cs) b in
      let law : Empty → (n : ℕ) → Law (tallied entered nothing (take n cs) outs) (state_after call_of begin (take n cs)) =
      λ e n.
      subst (λ (os : List (Result A Refusal)). Law (tallied entered nothing (take n cs) os) (state_after call_of begin (take n cs))) (sym told')
      (promised _ _ (run_keeps call_of entered Promise each cs rest n nothing begin (begun e))) in
      let whole : take (length cs) cs ≡ cs = take_all (length cs) cs (omega arith) in
      record {
        told = told';
        state = state';
        law = law;
        law_at_end = λ e. subst (λ (s : S). Law (tallied entered nothing cs outs) s) (sym state') (subst (λ (ds : List C). Law (tallied entered nothing ds outs) (state_after call_of begin ds)) whole (law e (length cs)));
      }
