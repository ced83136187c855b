-- The changes that a store of rows carries out, and what comes of something that each of them changes.
use Rattle.std.proofs.Common.{◌≡◌, ℕ, if◌then◌else◌, List, [], ◌∷◌, ◌++◌, length, refl, ap, ◌∙◌}
use Rattle.std.specs.Prelude.{nat_lt}
use Rattle.registers.specs.declared.figures.Figures.{Figures}
use Rattle.registers.specs.declared.row.Row.{Row}

-- a put and an add that were carried out
pub data Change : Type 0 where
  Put : (place : ℕ) (figures : Figures) → Change
  Add : (row : Row) → Change

-- the changes of a put and of an add: none where it is refused
abbrev pub put_changes : List Row → ℕ → Figures → List Change
put_changes rs n f = if nat_lt n (length rs) then Put n f ∷ [] else []

abbrev pub add_changes : List Row → ℕ → Row → List Change
add_changes rs room r = if nat_lt (length rs) room then Add r ∷ [] else []

-- what is left once the changes are made, one after the other
abbrev pub changed : {X : Type 0} → (X → Change → X) → X → List Change → X
changed step x [] = x
changed step x (c ∷ cs) = changed step (step x c) cs

pub changed-append : {X : Type 0} (step : X → Change → X) (x : X) (xs ys : List Change) → changed step (changed step x xs) ys ≡ changed step x (xs ++ ys)
changed-append step x [] ys = refl
changed-append step x (c ∷ xs) ys = changed-append step (step x c) xs ys

-- two parts of a store: one that changes lead on, and one that stays
pub record Led {X N : Type 0} (step : X → Change → X) (old : X) (name : N) (xs : List Change) (new : X) (name' : N) : Type 0 where
  pub now : new ≡ changed step old xs
  pub lent : name' ≡ name

pub led-none : {X N : Type 0} (step : X → Change → X) (x : X) (n : N) → Led step x n [] x n
led-none step x n = record { now = refl; lent = refl }

pub led-joined : {X N : Type 0} (step : X → Change → X) (a b c : X) (l m n : N) (xs ys : List Change) → Led step a l xs b m → Led step b m ys c n → Led step a l (xs ++ ys) c n
led-joined step a b c l m n xs ys p q = record {
  now = q.now ∙ ap (λ (x : _). changed step x ys) p.now ∙ changed-append step a xs ys;
  lent = q.lent ∙ p.lent;
}

-- a store that was only asked: its rows, its room and what its changes lead on are as they were
pub record OnlyAsked {S : Type 0} (rows : S → List Row) (room : S → ℕ) (made : S → List Change → S → Type 0) (old new : S) : Type 0 where
  pub same_rows : rows new ≡ rows old
  pub same_room : room new ≡ room old
  pub changes : made old [] new
