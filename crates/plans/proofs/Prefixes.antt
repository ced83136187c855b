-- A run, one call more.
use Rattle.std.proofs.Common.{◌≡◌, ℕ, suc, ◌+◌, ◌<◌, min, List, [], ◌∷◌, ◌++◌, length, get_or, take, drop, set, Result, sym, refl, ap, ◌∙◌, subst, ⊎_elim, arith, length-take}
use Rattle.std.proofs.lemmas.List.{take_more, drop_more, set_at, append_assoc, append-nil, take_all, drop_all}
use Rattle.std.proofs.lemmas.Bool.{cases_lt}
use Rattle.plans.specs.declared.refusal.Refusal.{Refusal}
use Rattle.registers.specs.Changes.{Change}
use Rattle.plans.specs.Plans.{Plan, changes_by}
use Rattle.plans.specs.Runs.{outcome, next, outcomes_of, state_after, changes_over}

module _ {A S C : Type 0} (call_of : S → C → Result (Plan A S) Refusal) where
  pub state_after-push : (s : S) (cs : List C) (c : C) → state_after call_of s (cs ++ c ∷ []) ≡ next call_of (state_after call_of s cs) c
  state_after-push s [] c = refl
  state_after-push s (d ∷ cs) c = state_after-push (next call_of s d) cs c

  pub outcomes_of-push : (s : S) (cs : List C) (c : C) → outcomes_of call_of s (cs ++ c ∷ []) ≡ outcomes_of call_of s cs ++ outcome call_of (state_after call_of s cs) c ∷ []
  outcomes_of-push s [] c = refl
  outcomes_of-push s (d ∷ cs) c = ap (λ (x : List (Result A Refusal)). outcome call_of s d ∷ x) (outcomes_of-push (next call_of s d) cs c)

  pub length-outcomes_of : (s : S) (cs : List C) → length (outcomes_of call_of s cs) ≡ length cs
  length-outcomes_of s [] = refl
  length-outcomes_of s (c ∷ cs) = ap suc (length-outcomes_of (next call_of s c) cs)

  pub changes_over-push : (s : S) (cs : List C) (c : C) → changes_over call_of s (cs ++ c ∷ []) ≡ changes_over call_of s cs ++ changes_by (call_of (state_after call_of s cs) c)
  changes_over-push s [] c = append-nil (changes_by (call_of s c))
  changes_over-push s (d ∷ cs) c =
      ap (λ (x : List Change). changes_by (call_of s d) ++ x) (changes_over-push (next call_of s d) cs c)
      ∙ sym (append_assoc (changes_by (call_of s d)) (changes_over call_of (next call_of s d) cs) _)

-- after i calls: the state, and what was told of them
pub record Progress {A S C : Type 0} (call_of : S → C → Result (Plan A S) Refusal) (s0 : S) (calls : List C) (old : List (Result A Refusal)) (i : ℕ) (s : S) (outs : List (Result A Refusal)) : Type 0 where
  pub state : s ≡ state_after call_of s0 (take i calls)
  pub told : outs ≡ outcomes_of call_of s0 (take i calls) ++ drop i old

module _ {A S C : Type 0} (call_of : S → C → Result (Plan A S) Refusal) (s0 : S) (calls : List C) (old : List (Result A Refusal)) where
  pub told_none : Progress call_of s0 calls old 0 s0 old
  told_none = record { state = refl; told = refl }

  pub told_more : (i : ℕ) (s t : S) (outs : List (Result A Refusal)) (d : C) (r : Result A Refusal) → i < length calls → i < length old → r ≡ outcome call_of s (get_or calls i d) → t ≡ next call_of s (get_or calls i d) → Progress call_of s0 calls old i s outs → Progress call_of s0 calls old (i + 1) t (set outs i r)
  told_more i s t outs d r h k answered left inv =
      let c : C = get_or calls i d in
      let one : take (i + 1) calls ≡ take i calls ++ get_or calls i d ∷ [] = take_more calls i d h in
      let l : length (outcomes_of call_of s0 (take i calls)) ≡ i = length-outcomes_of call_of s0 (take i calls) ∙ length-take i calls ∙ omega arith in
      let o : r ≡ outcome call_of (state_after call_of s0 (take i calls)) c = answered ∙ ap (λ (x : S). outcome call_of x c) inv.state in
      let rest : drop i old ≡ get_or old i r ∷ drop (i + 1) old = drop_more old i r k in
      record {
        state = left ∙ ap (λ (x : S). next call_of x c) inv.state ∙ sym (ap (state_after call_of s0) one ∙ state_after-push call_of s0 (take i calls) c);
        told =
            ap (λ (x : List (Result A Refusal)). set x i r) inv.told
            ∙ ap (λ (x : List (Result A Refusal)). set (outcomes_of call_of s0 (take i calls) ++ x) i r) rest
            ∙ set_at (outcomes_of call_of s0 (take i calls)) (get_or old i r) (drop (i + 1) old) r i l
            ∙ sym (append_assoc (outcomes_of call_of s0 (take i calls)) (r ∷ []) (drop (i + 1) old))
            ∙ ap (λ (x : Result A Refusal). (outcomes_of call_of s0 (take i calls) ++ x ∷ []) ++ drop (i + 1) old) o
            ∙ ap (λ (x : List (Result A Refusal)). x ++ drop (i + 1) old) (sym (ap (outcomes_of call_of s0) one ∙ outcomes_of-push call_of s0 (take i calls) c));
      }

  -- after as many calls as there are places
  pub same_calls : (i : ℕ) → i ≡ min (length calls) (length old) → take i calls ≡ take (length old) calls
  same_calls i e =
      ⊎_elim
      (λ h. let f : i ≡ length calls = omega arith in ap (λ (n : ℕ). take n calls) f ∙ take_all (length calls) calls (omega arith) ∙ sym (take_all (length old) calls (omega arith)))
      (λ h. let f : i ≡ length old = omega arith in ap (λ (n : ℕ). take n calls) f)
      (cases_lt (length calls) (length old))

  same_rest : (i : ℕ) → i ≡ min (length calls) (length old) → drop i old ≡ drop (length calls) old
  same_rest i e =
      ⊎_elim
      (λ h. let f : i ≡ length calls = omega arith in ap (λ (n : ℕ). drop n old) f)
      (λ h. let f : i ≡ length old = omega arith in ap (λ (n : ℕ). drop n old) f ∙ drop_all (length old) old (omega arith) ∙ sym (drop_all (length calls) old (omega arith)))
      (cases_lt (length calls) (length old))

  pub told_all : (i : ℕ) (s : S) (outs : List (Result A Refusal)) → i ≡ min (length calls) (length old) → Progress call_of s0 calls old i s outs → (outs ≡ outcomes_of call_of s0 (take (length old) calls) ++ drop (length calls) old) × (s ≡ state_after call_of s0 (take (length old) calls))
  told_all i s outs e inv = (
    inv.told ∙ ap (λ (x : List C). outcomes_of call_of s0 x ++ drop i old) (same_calls i e) ∙ ap (λ (x : List (Result A Refusal)). outcomes_of call_of s0 (take (length old) calls) ++ x) (same_rest i e),
    inv.state ∙ ap (state_after call_of s0) (same_calls i e),
  )

-- the changes of one call more, and of as many calls as there are places
module _ {A S C K : Type 0} (call_of : S → C → Result (Plan A S) Refusal) (made : K → List Change → K → Type 0) where
  pub more_changes : ((a b c : K) (xs ys : List Change) → made a xs b → made b ys c → made a (xs ++ ys) c) →
      (old now new : K) (s0 : S) (calls : List C) (i : ℕ) (s : S) (c : C) → i < length calls → c ≡ get_or calls i c → s ≡ state_after call_of s0 (take i calls) →
      made old (changes_over call_of s0 (take i calls)) now → made now (changes_by (call_of s c)) new → made old (changes_over call_of s0 (take (i + 1) calls)) new
  more_changes joined old now new s0 calls i s c h is left p q =
      let e : changes_over call_of s0 (take i calls) ++ changes_by (call_of s c) ≡ changes_over call_of s0 (take (i + 1) calls) =
      ap (λ (x : S). changes_over call_of s0 (take i calls) ++ changes_by (call_of x c)) left
      ∙ ap (λ (x : C). changes_over call_of s0 (take i calls) ++ changes_by (call_of (state_after call_of s0 (take i calls)) x)) is
      ∙ sym (ap (changes_over call_of s0) (take_more calls i c h) ∙ changes_over-push call_of s0 (take i calls) (get_or calls i c)) in
      subst (λ (xs : List Change). made old xs new) e (joined old now new _ _ p q)

  pub all_changes : (old now : K) (s0 : S) (calls : List C) (outs : List (Result A Refusal)) (i : ℕ) → i ≡ min (length calls) (length outs) →
      made old (changes_over call_of s0 (take i calls)) now → made old (changes_over call_of s0 (take (length outs) calls)) now
  all_changes old now s0 calls outs i n p = subst (λ (cs : List C). made old (changes_over call_of s0 cs) now) (same_calls call_of s0 calls outs i n) p

  -- of a run that begins with what was built
  pub changes_from : (built given left : K) (s0 begin : S) (cs : List C) → built ≡ given → s0 ≡ begin → made built (changes_over call_of s0 cs) left → made given (changes_over call_of begin cs) left
  changes_from built given left s0 begin cs e f p =
      subst (λ (x : K). made x (changes_over call_of begin cs) left) e (subst (λ (s : S). made built (changes_over call_of s cs) left) f p)
