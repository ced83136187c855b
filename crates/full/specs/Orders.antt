-- The engine's state, as the rules speak of it.
use Rattle.std.specs.Prelude.{ℕ, ◌-◌, Bool, false, if◌then◌else◌, List, map, take, min, is_none, Some, None, Option, ◌==◌, nat_eq, nat_le}
use Rattle.std.specs.List.{slice_get}
use Rattle.std.specs.Option.{option_map}
use Rattle.seek.specs.Place.{place_of}
use Rattle.full.specs.declared.side.Side.{Side}
use Rattle.full.specs.declared.mode.Mode.{Mode}
use Rattle.full.specs.declared.order.Order.{Order}
use Rattle.full.specs.declared.book.Book.{Book}
use Rattle.full.specs.declared.security.Security.{Security}
use Rattle.full.specs.declared.securities.Securities.{Securities}
use Rattle.full.specs.declared.securities.TheConstants.{MOST_SECURITIES}

-- an admitted security and its market risk ratio
pub record Admitted : Type 0 where
  pub number : ℕ
  pub ratio : ℕ

-- a live order; its ratio is that of its security when it was announced
pub record Live : Type 0 where
  pub number : ℕ
  pub side : Side
  pub mode : Mode
  pub account : ℕ
  pub security : ℕ
  pub price : ℕ
  pub ratio : ℕ
  pub rest : ℕ

-- what the engine's tables hold
abbrev pub live_of : Order → Live
live_of o = record { number = o.number; side = o.side; mode = o.mode; account = o.account; security = o.security; price = o.price.value; ratio = o.ratio.value; rest = o.rest.value }

abbrev pub slot_of : Option Order → Option Live
slot_of o = option_map live_of o

abbrev pub slots_of : Book → List (Option Live)
slots_of b = map slot_of b.orders

abbrev pub admitted_of : Security → Admitted
admitted_of s = record { number = s.number; ratio = s.ratio.value }

abbrev pub list_of : Securities → List Admitted
list_of s = map admitted_of (take (min s.filled MOST_SECURITIES) s.table)

-- whether a place of the book holds the order of a number
abbrev pub has_number : ℕ → Option Live → Bool
has_number n None = false
has_number n (Some o) = o.number == n

abbrev pub place_of_order : ℕ → List (Option Live) → Option ℕ
place_of_order n os = place_of (has_number n) os

abbrev pub free_place : List (Option Live) → Option ℕ
free_place os = place_of is_none os

-- an order with another rest, and its place once q of it are traded: free where nothing is left
abbrev pub resting : Live → ℕ → Live
resting o n = record o { rest = n }

abbrev pub lowered : Option Live → ℕ → Option Live
lowered None q = None
lowered (Some o) q = if nat_le o.rest q then None else Some (resting o (o.rest - q))

-- the ratio of an admitted security
abbrev pub ratio_at : List Admitted → Option ℕ → Option ℕ
ratio_at ss None = None
ratio_at ss (Some i) = option_map (λ a. a.ratio) (slice_get ss i)

abbrev pub admitted_as : List Admitted → ℕ → Option ℕ
admitted_as ss n = ratio_at ss (place_of (λ a. nat_eq a.number n) ss)
