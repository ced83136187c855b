-- The table of obligations, looked up by trade number, after one place changes.
use Rattle.std.proofs.Common.{◌≡◌, ℕ, ◌+◌, ◌<◌, ◌≤◌, false, cond, List, length, get_or, set, replicate, Some, None, Option, refl}
pub use Rattle.full_law.proofs.Slots.{off, was_none}
use Rattle.full_law.proofs.Slots.{one, count_set, held_at, held_here, held_other, none_counted, none_held, uncounted, unheld}
use Rattle.partial.specs.declared.obligation.Obligation.{Obligation}
use Rattle.partial.specs.Obligations.{has_number, place_of_obligation}
use Rattle.partial_law.specs.Law.{owed_under, places_under}

module _ (n : ℕ) where
  -- a table of free places
  pub none_owed : (k : ℕ) → owed_under n (replicate k None) ≡ None
  none_owed = none_held (has_number n) refl

  pub none_places : (k : ℕ) → places_under n (replicate k None) ≡ 0
  none_places = none_counted (has_number n) refl

  -- under a number that no place holds nothing is owed, and the other way round
  pub unplaced : (os : List (Option Obligation)) → places_under n os ≡ 0 → owed_under n os ≡ None
  unplaced = unheld (has_number n)

  pub unowed : (os : List (Option Obligation)) → owed_under n os ≡ None → places_under n os ≡ 0
  unowed = uncounted (has_number n) refl

  -- how many places hold the number, after a change
  pub places_set : (os : List (Option Obligation)) (i : ℕ) (x : Option Obligation) → i < length os → places_under n (set os i x) + one (has_number n (get_or os i None)) ≡ places_under n os + one (has_number n x)
  places_set = count_set (has_number n)

  -- a change that has to do with other numbers
  pub under_other : (os : List (Option Obligation)) (i : ℕ) (x : Option Obligation) → has_number n (get_or os i None) ≡ false → has_number n x ≡ false → owed_under n (set os i x) ≡ owed_under n os
  under_other = held_other (has_number n)

  -- a change of a place that alone may hold the number
  pub under_here : (os : List (Option Obligation)) (i : ℕ) (x : Option Obligation) → places_under n os ≤ one (has_number n (get_or os i None)) → i < length os → owed_under n (set os i x) ≡ cond (has_number n x) x None
  under_here = held_here (has_number n)

  -- the place of the number, where one place at most holds it
  pub found_under : (os : List (Option Obligation)) (i : ℕ) → places_under n os ≤ 1 → place_of_obligation n os ≡ Some i → owed_under n os ≡ get_or os i None
  found_under os i once = held_at (has_number n) os i
