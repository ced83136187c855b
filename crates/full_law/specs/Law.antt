-- The law over whole runs.
use Rattle.std.specs.Prelude.{◌≡◌, ◌≢◌, ℕ, ◌+◌, ◌≤◌, true, if◌then◌else◌, List, map, All, AllPairs, count_by, pos, ◌+ℤ◌, ◌≤ℤ◌, Some, None, Option, nat_lt}
use Rattle.std.specs.List.{slice_get}
use Rattle.std.specs.Int.{int_min}
use Rattle.registers.specs.declared.row.Row.{Row}
use Rattle.registers.specs.declared.kind.RegisterKind.TheVariants.{Cash, Holding}
use Rattle.registers.specs.Registers.{kind_number, same_key}
use Rattle.full.specs.Orders.{Live, has_number}
use Rattle.full.specs.State.{State}
use Rattle.full_law.specs.Lists.{find_by, held_by}
use Rattle.full_law.specs.Tally.{Opened, Note, Tally, number, rest_of, standing, live_blocks, trades_leaving_rest_on}

-- the live order of a number, and how many places hold it
abbrev pub slot_for : ℕ → List (Option Live) → Option Live
slot_for n os = held_by (has_number n) os

abbrev pub places_of : ℕ → List (Option Live) → ℕ
places_of n os = count_by (has_number n) os

-- a note's order lives while it has a rest, as announced and with that rest
abbrev pub lives : Option Note → Option Live
lives None = None
lives (Some x) = if nat_lt 0 (rest_of x) then Some (standing x) else None

-- the rest of a live order, 0 where there is none
abbrev pub live_rest : Option Live → ℕ
live_rest None = 0
live_rest (Some o) = o.rest

-- the law, in the subject's words: the state beside the tally
pub record Law (reserve : ℕ) (t : Tally) (s : State) : Type 0 where
  -- no two accepted orders bear one number
  pub numbers : AllPairs (λ (m n : ℕ). m ≢ n) (map number t.notes)
  -- of each order no more was traded and given back than was announced, so that no rest is below 0
  pub rests : All (λ (x : Note). x.traded + x.back ≤ x.order.rest) t.notes
  -- each accepted order's quantity is its traded parts, plus what its withdrawal gave back, plus its live rest
  pub quantities : All (λ (x : Note). x.order.rest ≡ x.traded + x.back + live_rest (slot_for (number x) s.orders)) t.notes
  -- live orders are exactly those with a rest above 0, as announced and with that rest, each in one place
  pub live : (n : ℕ) → slot_for n s.orders ≡ lives (find_by number n t.notes)
  pub lives_once : (n : ℕ) → places_of n s.orders ≤ 1
  -- the rows bear exactly the opened keys, each once
  pub keys : map (λ (r : Row). r.key) s.rows ≡ map (λ (o : Opened). o.key) t.opened
  pub keys_once : (i j : ℕ) (r q : Row) → slice_get s.rows i ≡ Some r → slice_get s.rows j ≡ Some q → same_key r.key q.key ≡ true → i ≡ j
  -- each blocked figure is its opening figure plus the blocks of its live rests, but for at most one kopeck for
  -- each time that a trade left a rest of an order there
  pub blocked : (i : ℕ) (r : Row) (o : Opened) → slice_get s.rows i ≡ Some r → slice_get t.opened i ≡ Some o →
      (r.figures.blocked ≤ℤ pos (o.blocked + live_blocks o.key t.notes + trades_leaving_rest_on o.key t.trades_leaving_rest))
      × (pos (o.blocked + live_blocks o.key t.notes) ≤ℤ (r.figures.blocked +ℤ pos (trades_leaving_rest_on o.key t.trades_leaving_rest)))
  -- securities agree exactly, and no securities limit is below its blocked figure
  pub securities : (i : ℕ) (r : Row) (o : Opened) → slice_get s.rows i ≡ Some r → slice_get t.opened i ≡ Some o → o.key.kind ≡ kind_number Holding →
      (r.figures.blocked ≡ pos (o.blocked + live_blocks o.key t.notes)) × (r.figures.blocked ≤ℤ r.figures.limit)
  -- no cash limit is below the smaller of its opening limit and the reserve, but for one kopeck for each such time
  pub cash : (i : ℕ) (r : Row) (o : Opened) → slice_get s.rows i ≡ Some r → slice_get t.opened i ≡ Some o → o.key.kind ≡ kind_number Cash →
      int_min (pos o.limit) (pos reserve) ≤ℤ (r.figures.limit +ℤ pos (trades_leaving_rest_on o.key t.trades_leaving_rest))
