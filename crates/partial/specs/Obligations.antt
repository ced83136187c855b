-- Obligations, and the table that holds them.
use Rattle.std.specs.Prelude.{ℕ, Bool, false, List, is_none, Some, None, Option, ◌==◌}
use Rattle.seek.specs.Place.{place_of}
use Rattle.partial.specs.declared.obligation.Obligation.{Obligation}

-- whether a place of the table holds the obligation of a trade's number
abbrev pub has_number : ℕ → Option Obligation → Bool
has_number n None = false
has_number n (Some o) = o.number == n

abbrev pub place_of_obligation : ℕ → List (Option Obligation) → Option ℕ
place_of_obligation n os = place_of (has_number n) os

abbrev pub free_place : List (Option Obligation) → Option ℕ
free_place os = place_of is_none os
