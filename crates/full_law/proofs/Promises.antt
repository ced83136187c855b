-- What a call keeps: the law in the form that a proof by steps wants.
use Rattle.std.proofs.Common.{◌≡◌, ℕ, ◌+◌, ◌<◌, ◌≤◌, true, List, [], ◌∷◌, map, ℤ, pos, ◌+ℤ◌, ◌-ℤ◌, ◌≤ℤ◌, Some, None, Option}
use Rattle.std.specs.Prelude.{if◌then◌else◌, ◌==◌, ◌≢◌}
use Rattle.std.specs.List.{slice_get, AllByRecursion}
use Rattle.std.specs.Int.{int_min}
use Rattle.registers.specs.declared.key.Key.{Key}
use Rattle.registers.specs.declared.figures.Figures.{Figures}
use Rattle.registers.specs.declared.row.Row.{Row}
use Rattle.registers.specs.declared.kind.RegisterKind.TheVariants.{Cash, Holding}
use Rattle.registers.specs.Registers.{kind_number, same_key}
use Rattle.full.specs.Orders.{Live}
use Rattle.full.specs.State.{State}
use Rattle.full_law.specs.Lists.{find_by}
use Rattle.full_law.specs.Tally.{Opened, Note, Tally, number, live_blocks, trades_leaving_rest_on}
use Rattle.full_law.specs.Law.{slot_for, places_of, lives}

-- no more was traded and given back than was announced
abbrev pub Whole : Note → Type 0
Whole x = x.traded + x.back ≤ x.order.rest

-- numbers each of which is below those after it
abbrev pub Rising : List ℕ → Type 0
Rising [] = Unit {0}
Rising (n ∷ ns) = AllByRecursion (λ (m : ℕ). n < m) ns × Rising ns

-- how far a blocked figure may be off: not at all for securities, else by one for each trade that left a
-- rest
abbrev pub slack_of : Key → ℕ → ℕ
slack_of k trades = if k.kind == kind_number Holding then 0 else trades

-- what a limit, less its blocked figure, never falls below: the smaller of opening limit and reserve for
-- cash, 0 for securities; a participant's limit may
abbrev pub base_of : Key → ℕ → ℕ → Option ℤ
base_of k opening reserve = if k.kind == kind_number Cash then Some (int_min (pos opening) (pos reserve)) else (if k.kind == kind_number Holding then Some (pos 0) else None)

abbrev pub Above : Option ℤ → ℤ → Type 0
Above None z = Unit {0}
Above (Some b) z = b ≤ℤ z

-- a register's figures beside what the tally knows of it
pub record Fair (base : Option ℤ) (limit blocked opening : ℤ) (live slack : ℕ) : Type 0 where
  pub most : blocked ≤ℤ (opening +ℤ pos (live + slack))
  pub least : (opening +ℤ pos live) ≤ℤ (blocked +ℤ pos slack)
  pub free : Above base (limit -ℤ blocked)

abbrev pub FairIn : ℕ → List Note → List Key → Figures → Opened → Type 0
FairIn reserve notes trades f o =
    Fair (base_of o.key o.limit reserve) f.limit f.blocked (pos o.blocked) (live_blocks o.key notes) (slack_of o.key (trades_leaving_rest_on o.key trades))

-- the orders of a state, beside the notes
pub record Orders (notes : List Note) (orders : List (Option Live)) (last : ℕ) : Type 0 where
  -- of each order, no more was traded and given back than was announced
  pub whole : AllByRecursion Whole notes
  -- numbers rise, and the last is the greatest
  pub fresh : AllByRecursion (λ (x : Note). number x ≤ last) notes
  pub rising : Rising (map number notes)
  -- the live orders are those with a rest, as announced and with that rest, each in one place
  pub live : (n : ℕ) → slot_for n orders ≡ lives (find_by number n notes)
  pub once : (n : ℕ) → places_of n orders ≤ 1

-- the rows of a state, beside the openings, the notes and the trades that left a rest
pub record Books (reserve : ℕ) (opened : List Opened) (notes : List Note) (trades : List Key) (rows : List Row) : Type 0 where
  -- the rows bear exactly the opened keys, each once
  pub keys : map (λ (r : Row). r.key) rows ≡ map (λ (o : Opened). o.key) opened
  pub apart : (i j : ℕ) (r q : Row) → slice_get rows i ≡ Some r → slice_get rows j ≡ Some q → same_key r.key q.key ≡ true → i ≡ j
  -- the figures of each are fair
  pub fair : (i : ℕ) (r : Row) (o : Opened) → slice_get rows i ≡ Some r → slice_get opened i ≡ Some o → FairIn reserve notes trades r.figures o
  -- of a register that is not open the tally knows nothing
  pub blank : (k : Key) → ((i : ℕ) (r : Row) → slice_get rows i ≡ Some r → same_key r.key k ≢ true) → (live_blocks k notes ≡ 0) × (trades_leaving_rest_on k trades ≡ 0)

-- what a state keeps to a tally
pub record Promise (reserve : ℕ) (t : Tally) (s : State) : Type 0 where
  pub reserved : s.settings.reserve ≡ reserve
  pub ratios : s.securities ≡ t.ratios
  pub orders : Orders t.notes s.orders s.last_order
  pub books : Books reserve t.opened t.notes t.trades_leaving_rest s.rows
