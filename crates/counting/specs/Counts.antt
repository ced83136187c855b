-- What a call's changes make of a count, and of the bytes of an image.
use Rattle.std.proofs.Common.{◌≡◌, ℕ, ◌+◌, ◌≤◌, min, List, [], ◌++◌, length, Result, arith, length-append}
use Rattle.registers.specs.Changes.{Change, changed}
use Rattle.registers.specs.Images.{change_bytes}
use Rattle.plans.specs.declared.refusal.Refusal.{Refusal}
use Rattle.plans.specs.Plans.{Plan, changes_by}
use Rattle.counting.specs.declared.counting.TheConstants.{MOST_CHANGES}

-- a count of changes that goes on with more of them; it stays at the greatest number that it may be
abbrev pub counted_on : ℕ → List Change → ℕ
counted_on n xs = min (n + length xs) MOST_CHANGES

pub counted-none : (n : ℕ) → n ≤ MOST_CHANGES → n ≡ counted_on n []
counted-none n h = omega arith

pub counted-joined : (a b c : ℕ) (xs ys : List Change)
    → b ≡ counted_on a xs → c ≡ counted_on b ys → c ≡ counted_on a (xs ++ ys)
counted-joined a b c xs ys p q = omega (arith, length-append xs ys)

-- the count after a call of this plan, and the bytes of an image after it
abbrev pub count_after : {A S : Type 0} → ℕ → Result (Plan A S) Refusal → ℕ
count_after n plan = counted_on n (changes_by plan)

abbrev pub bytes_after : {A S : Type 0} → List ℕ → Result (Plan A S) Refusal → List ℕ
bytes_after s plan = changed change_bytes s (changes_by plan)
