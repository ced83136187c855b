-- What each call does: its checks in their order, its answer, and the state that it leaves.
use Rattle.std.specs.Prelude.{ℕ, ◌+◌, if◌then◌else◌, not, ◌&&◌, ◌||◌, List, [], ◌∷◌, ◌++◌, length, pos, is_some, Some, None, Ok, Option, Result, ◌==◌, nat_lt, slice_set}
use Rattle.registers.specs.declared.key.Key.{Key}
use Rattle.registers.specs.declared.row.Row.{Row}
use Rattle.registers.specs.declared.fault.StoreFault.TheVariants as faults
use Rattle.registers.specs.declared.kind.RegisterKind.TheVariants.{Cash, Holding}
use Rattle.registers.specs.Registers.{kind_number}
use Rattle.registers.specs.Stores.{place_for}
use Rattle.registers.specs.Changes.{Add}
use Rattle.plans.specs.declared.refusal.Refusal.{Refusal}
use Rattle.plans.specs.declared.refusal.Refusal.TheVariants.{RegisterOpen, SecurityAdmitted, SecuritiesFull, BadValue, NotAdmitted, Store}
use Rattle.full.specs.declared.open_register.OpenRegister.{OpenRegister}
use Rattle.registers.specs.declared.ranges.TheConstants.{MOST_RATIO}
use Rattle.full.specs.declared.securities.TheConstants.{MOST_SECURITIES}
use Rattle.full.specs.declared.announcement.Announcement.{Announcement}
use Rattle.full.specs.declared.mode.Mode.TheVariants.{Full}
use Rattle.full.specs.declared.opening.Opening.{Opening}
use Rattle.full.specs.Orders.{Live, admitted_as}
use Rattle.full.specs.Terms.{between, code_ok, security_ok, asset_ok, amount_ok, limit_ok, mode_number}
use Rattle.full.specs.State.{State, Step, with_rows, with_securities, with_orders, with_last_order}
use Rattle.full.specs.Checks.{PlacedOf, ready_of, found_of}
use Rattle.plans.specs.Steps.{and_then, demand, or_refuse}
use Rattle.full.specs.OpenRegisters.{register_at, block_on, release_on, credit_on, rows_with, floor_of, moving, replaced, replacing}
use Rattle.full.specs.Assets.{asset_named, asset_key}
use Rattle.full.specs.Blocks.{cash_key, holding_key, key_of, units_of}

-- admit: 5, 3, 4; answers the count of securities
unfoldable pub admit_of : State → ℕ → ℕ → Step
admit_of s security ratio =
    demand (security_ok security && between 1 MOST_RATIO ratio) BadValue
    (demand (not (is_some (admitted_as s.securities security))) SecurityAdmitted
    (demand (nat_lt (length s.securities) MOST_SECURITIES) SecuritiesFull
    (Ok (record {
      answer = pos (length s.securities + 1);
      changes = [];
      next = with_securities s (s.securities ++ record { number = security; ratio = ratio } ∷ []);
    }))))

-- the register that an opening names, if its arguments lie in their ranges: cash (kind 1) has
-- security 0, a holding (kind 2) one from 1 to 9,999; margins are 0
unfoldable pub opening_key : Opening → Option Key
opening_key o =
    if code_ok o.code && (limit_ok o.limit && o.margin == 0)
    then (if o.kind == kind_number Cash && o.security == 0 then Some (cash_key o.code)
    else (if o.kind == kind_number Holding && security_ok o.security then Some (holding_key o.code o.security) else None))
    else None

-- a register as it begins: blocked and third figure 0
abbrev pub beginning : Key → ℕ → Row
beginning k limit = record { key = k; figures = record { limit = pos limit; blocked = pos 0; third = pos 0 } }

-- a register enters the store: 1, 2; answers the count of rows
unfoldable pub enter_of : State → Row → Step
enter_of s r =
    demand (not (is_some (place_for r.key s.rows))) RegisterOpen
    (demand (nat_lt (length s.rows) s.room) (Store faults.Full)
    (Ok (record {
      answer = pos (length s.rows + 1);
      changes = Add r ∷ [];
      next = with_rows s (s.rows ++ r ∷ []);
    })))

-- open: 5, 7 (kind 2), 1, 2; answers the count of rows
unfoldable pub open_of : State → Opening → Step
open_of s o =
    and_then (or_refuse (opening_key o) BadValue) (λ k.
    demand (k.kind == kind_number Cash || is_some (admitted_as s.securities k.security)) NotAdmitted
    (enter_of s (beginning k o.limit)))

-- credit: 5, 6, 25, 26; answers the new limit
unfoldable pub credit_of : State → ℕ → ℕ → ℕ → Step
credit_of s code security amount =
    demand (asset_ok code security && amount_ok amount) BadValue
    (and_then (register_at s.rows (asset_key (asset_named security) code)) (λ h.
    and_then (credit_on h amount) (λ c.
    Ok (record { answer = c.figures.limit; changes = moving h.place h.figures c.figures; next = with_rows s (rows_with s.rows c) }))))

-- the register that covers an order with full collateral, of the account's two
abbrev pub cover_of : Live → OpenRegister → OpenRegister → OpenRegister
cover_of o cash holding = if (key_of o).kind == kind_number Cash then cash else holding

-- both have to be open
unfoldable pub cover_at : List Row → Live → Result OpenRegister Refusal
cover_at rs o =
    and_then (register_at rs (cash_key o.account)) (λ cash.
    and_then (register_at rs (holding_key o.account o.security)) (λ holding.
    Ok (cover_of o cash holding)))

-- an order takes its place, and its block lies on a register, by its figures as they were read: 25, 10; answers the
-- block
unfoldable pub placed_of : State → PlacedOf → OpenRegister → Step
placed_of s r h =
    and_then (block_on h (units_of r.order) (floor_of s.settings.reserve (key_of r.order))) (λ b.
    Ok (record {
      answer = pos (units_of r.order);
      changes = replacing s.rows h.place h.figures b.figures;
      next = with_last_order (with_orders (with_rows s (replaced s.rows h.place h.figures b.figures)) (slice_set s.orders r.place (Some r.order))) r.order.number;
    }))

-- announce: 5, 8, 7, 9, 6, 25, 10; answers the block. This level answers 5 to partial mode.
unfoldable pub announce_of : State → Announcement → Step
announce_of s a =
    demand (a.mode == mode_number Full) BadValue
    (and_then (ready_of s.securities s.orders s.last_order a) (λ r.
    and_then (cover_at s.rows r.order) (λ h.
    placed_of s r h)))

-- withdraw: 11, 6, 25, 26; answers the amount released
unfoldable pub withdraw_of : State → ℕ → Step
withdraw_of s n =
    and_then (found_of s.orders n) (λ f.
    and_then (register_at s.rows (key_of f.order)) (λ h.
    and_then (release_on h (units_of f.order)) (λ r.
    Ok (record {
      answer = pos (units_of f.order);
      changes = moving h.place h.figures r.figures;
      next = with_orders (with_rows s (rows_with s.rows r)) (slice_set s.orders f.place None);
    }))))
