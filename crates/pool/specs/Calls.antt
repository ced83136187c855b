-- What each call of Level Three does.
use Rattle.std.specs.Prelude.{ℕ, suc, Bool, if◌then◌else◌, not, ◌&&◌, ◌||◌, List, [], ◌∷◌, ◌++◌, map, ℤ, pos, ◌+ℤ◌, ◌-ℤ◌, int_le, int_lt, None, Ok, Option, Result, ◌==◌, slice_index_or, slice_set, sum_by}
use Rattle.std.specs.List.{list_all}
use Rattle.std.specs.Ordering.{int_eq}
use Rattle.registers.specs.declared.figures.Figures.{Figures}
use Rattle.registers.specs.declared.row.Row.{Row}
use Rattle.registers.specs.declared.fault.StoreFault.TheVariants.{OutOfRange}
use Rattle.registers.specs.declared.kind.RegisterKind.TheVariants.{Cash, Holding}
use Rattle.registers.specs.Changes.{Change, Put}
use Rattle.registers.specs.Registers.{in_range, kind_number}
use Rattle.registers.specs.Stores.{put_row, with_figures}
use Rattle.plans.specs.declared.refusal.Refusal.{Refusal}
use Rattle.plans.specs.declared.refusal.Refusal.TheVariants.{BadValue, LeavesRange, NoObligation, Store, ThirdBelow}
use Rattle.plans.specs.Steps.{and_then, demand, or_refuse}
use Rattle.full.specs.declared.asset.Asset.{Asset}
use Rattle.full.specs.declared.open_register.OpenRegister.{OpenRegister}
use Rattle.full.specs.Assets.{asset_key, asset_named}
use Rattle.full.specs.OpenRegisters.{floor_of, moving, register_at, with_figures_of}
use Rattle.full.specs.State.{with_rows}
use Rattle.full.specs.Terms.{asset_ok}
use Rattle.full.specs.Trades.{changes_of, ends_in_range, in_order, move_to, moved_all}
use Rattle.partial.specs.declared.obligation.Obligation.{Obligation}
use Rattle.partial.specs.Obligations.{place_of_obligation}
use Rattle.partial.specs.State.{with_base}
use Rattle.pool.specs.declared.debt.Debt.{Debt}
use Rattle.pool.specs.declared.earmark.Earmark.{Earmark}
use Rattle.pool.specs.declared.leg.Leg.{Leg}
use Rattle.pool.specs.declared.leg.Leg.TheVariants.{Money, Securities}
use Rattle.pool.specs.declared.passing.Passed.{Passed}
use Rattle.pool.specs.declared.placed_obligation.PlacedObligation.{PlacedObligation}
use Rattle.pool.specs.Debts.{debt_of, owed_over}
use Rattle.pool.specs.Stages.{settled}
use Rattle.pool.specs.State.{State, Step}

-- what a register needs: what is owed, less its third figure. What is free on it: limit less blocked, for cash less the
-- reserve too
abbrev pub need_of : ℕ → Figures → ℤ
need_of owed f = pos owed -ℤ f.third

abbrev pub free_of : ℕ → Figures → ℤ
free_of floor f = f.limit -ℤ f.blocked -ℤ pos floor

-- the smaller of the two, if that is above zero
abbrev pub smaller : ℤ → ℤ → ℤ
smaller x y = if int_lt x y then x else y

abbrev pub if_above_zero : ℤ → ℤ
if_above_zero z = if int_lt (pos 0) z then z else pos 0

unfoldable pub earmarked_amount : ℕ → ℕ → Figures → ℤ
earmarked_amount owed floor f = if_above_zero (smaller (need_of owed f) (free_of floor f))

-- an amount moves from limit to third
unfoldable pub earmarked : Figures → ℤ → Figures
earmarked f m = record f { limit = f.limit -ℤ m; third = f.third +ℤ m }

-- what an account earmarks of an asset, of which it owes an amount and a floor has to be left: 6, 25, 26
unfoldable pub earmark_at : List Row → ℕ → Asset → ℕ → ℕ → Result Earmark Refusal
earmark_at rs account asset owed floor =
    and_then (register_at rs (asset_key asset account)) (λ h.
    demand (in_range h.figures) (Store OutOfRange)
    (demand (in_range (earmarked h.figures (earmarked_amount owed floor h.figures))) LeavesRange
    (Ok (record { register = h; after = earmarked h.figures (earmarked_amount owed floor h.figures); amount = earmarked_amount owed floor h.figures }))))

-- earmark: 5, 6, 25, 26; answers the amount moved, or 0
unfoldable pub earmark_of : State → ℕ → ℕ → Step
earmark_of s code security =
    demand (asset_ok code security) BadValue
    (and_then (earmark_at s.base.rows code (asset_named security) (owed_over code (asset_named security) s.obligations) (floor_of s.base.settings.reserve (asset_key (asset_named security) code))) (λ e.
    Ok (record {
      answer = e.amount;
      changes = moving e.register.place e.register.figures e.after;
      next = with_base s (with_rows s.base (put_row s.base.rows e.register.place e.after));
    })))

-- the third figure lowered and raised by an amount
unfoldable pub third_lowered : Figures → ℕ → Figures
third_lowered f m = record f { third = f.third -ℤ pos m }

unfoldable pub third_raised : Figures → ℕ → Figures
third_raised f m = record f { third = f.third +ℤ pos m }

-- what a settled leg moves: the debtor's third figure falls by the amount, the creditor's rises. If both are one
-- register, the creditor's move starts where the debtor's ends.
abbrev pub passing : OpenRegister → OpenRegister → ℕ → Passed
passing a b m =
    let given : Figures = third_lowered a.figures m in
    let start : Figures = if a.place == b.place then given else b.figures in
    record {
      debtor = move_to a given;
      creditor = move_to (with_figures_of b start) (third_raised start m);
    }

-- 25 over both, 24 of the debtor's, 26 over both
unfoldable pub passed_from : OpenRegister → OpenRegister → ℕ → Result Passed Refusal
passed_from a b m =
    demand (in_range a.figures && in_range b.figures) (Store OutOfRange)
    (demand (int_le (pos m) a.figures.third) ThirdBelow
    (let w : Passed = passing a b m in
    demand (ends_in_range w.debtor w.creditor) LeavesRange
    (Ok w)))

-- 6 over both, and then as above
unfoldable pub passed_of : List Row → Debt → Result Passed Refusal
passed_of rs d =
    and_then (register_at rs (asset_key d.asset d.debtor)) (λ a.
    and_then (register_at rs (asset_key d.asset d.creditor)) (λ b.
    passed_from a b d.amount))

-- the obligation of a trade's number, with its place
unfoldable pub found_of : List (Option Obligation) → ℕ → Result PlacedObligation Refusal
found_of os n =
    and_then (or_refuse (place_of_obligation n os) NoObligation) (λ i.
    and_then (or_refuse (slice_index_or os i None) NoObligation) (λ o.
    Ok (record { place = i; obligation = o })))

-- a leg is settled: 22, 23, 6, 25, 24, 26; answers the amount. After its second leg the obligation leaves the table.
unfoldable pub settle_of : State → Leg → ℕ → Step
settle_of s leg n =
    and_then (found_of s.obligations n) (λ f.
    and_then (settled f.obligation leg) (λ left.
    and_then (passed_of s.base.rows (debt_of f.obligation leg)) (λ w.
    Ok (record {
      answer = pos (debt_of f.obligation leg).amount;
      changes = changes_of (in_order (w.debtor ∷ w.creditor ∷ []));
      next = record {
        base = with_rows s.base (moved_all s.base.rows (w.debtor ∷ w.creditor ∷ []));
        obligations = slice_set s.obligations f.place left;
      };
    }))))

abbrev pub deliver_of : State → ℕ → Step
deliver_of s n = settle_of s Securities n

abbrev pub pay_of : State → ℕ → Step
pay_of s n = settle_of s Money n

-- the registers of the pool are those of cash and of holdings
abbrev pub is_pooled : Row → Bool
is_pooled r = r.key.kind == kind_number Cash || r.key.kind == kind_number Holding

-- the third figure joins the limit
unfoldable pub returned : Figures → Figures
returned f = record f { limit = f.limit +ℤ f.third; third = pos 0 }

-- whether a row has a third figure to return, and what close leaves of it
abbrev pub returns : Row → Bool
returns r = is_pooled r && not (int_eq r.figures.third (pos 0))

abbrev pub swept : Row → Row
swept r = if returns r then with_figures r (returned r.figures) else r

-- the changes of rows from a place on: one for each that has a third figure to return, the lowest place first
abbrev pub sweeping : ℕ → Row → List Change
sweeping n r = if returns r then Put n (returned r.figures) ∷ [] else []

abbrev pub sweeps_from : ℕ → List Row → List Change
sweeps_from n [] = []
sweeps_from n (r ∷ rs) = sweeping n r ++ sweeps_from (suc n) rs

abbrev pub count_returning : List Row → ℕ
count_returning rs = sum_by (λ r. if returns r then 1 else 0) rs

-- whether a row's figures may be read: those of participants are not looked at
abbrev pub may_sweep : Row → Bool
may_sweep r = not (is_pooled r) || in_range r.figures

-- close: 25 over every row of the pool; answers how many third figures were not zero
unfoldable pub close_of : State → Step
close_of s =
    demand (list_all may_sweep s.base.rows) (Store OutOfRange)
    (Ok (record {
      answer = pos (count_returning s.base.rows);
      changes = sweeps_from 0 s.base.rows;
      next = with_base s (with_rows s.base (map swept s.base.rows));
    }))
