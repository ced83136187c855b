-- Admissions and credits keep the promise.
use Rattle.std.proofs.Common.{ℕ, not, ◌&&◌, ltb, List, [], ◌∷◌, ◌++◌, length, pos, ◌+ℤ◌, is_some, refl, ap, subst}
use Rattle.full.specs.Orders.{Admitted, admitted_as}
use Rattle.full.specs.Terms.{between, security_ok, asset_ok, amount_ok}
use Rattle.full.specs.declared.open_register.OpenRegister.{OpenRegister}
use Rattle.full.specs.State.{State}
use Rattle.full.specs.OpenRegisters.{register_at, credit_on, rows_with, with_limit}
use Rattle.full.specs.Assets.{asset_named, asset_key}
use Rattle.full.specs.Calls.{admit_of, credit_of}
use Rattle.full.specs.declared.call.Call.TheVariants.{Admit, Credit}
use Rattle.full_law.specs.Tally.{Tally, entered}
use Rattle.full_law.proofs.Promises.{Books, Promise}
use Rattle.plans.proofs.Keeping.{Keeps, by_demand, by_step}
use Rattle.full_law.proofs.Moves.{credited, raised_books}
use Rattle.full_law.proofs.Steps.{open_at}

module _ (reserve : ℕ) (t : Tally) (s : State) (h : Promise reserve t s) where
  pub admit_keeps : (n k : ℕ) → Keeps (Promise reserve (entered t (Admit n k))) (admit_of s n k)
  unfolding admit_of
  admit_keeps n k =
      by_demand (Promise reserve (entered t (Admit n k))) (security_ok n && between 1 10000 k) _ _ λ _.
      by_demand (Promise reserve (entered t (Admit n k))) (not (is_some (admitted_as s.securities n))) _ _ λ _.
      by_demand (Promise reserve (entered t (Admit n k))) (ltb (length s.securities) 64) _ _ λ _.
      record { reserved = h.reserved; ratios = ap (λ (ss : List Admitted). ss ++ record { number = n; ratio = k } ∷ []) h.ratios; orders = h.orders; books = h.books }

  pub credit_keeps : (code security amount : ℕ) → Keeps (Promise reserve (entered t (Credit code security amount))) (credit_of s code security amount)
  unfolding credit_of
  credit_keeps code security amount =
      by_demand (Promise reserve t) (asset_ok code security && amount_ok amount) _ _ λ _.
      by_step (Promise reserve t) (register_at s.rows (asset_key (asset_named security) code)) _ λ r e.
      by_step (Promise reserve t) (credit_on r amount) _ λ c f.
      record {
        reserved = h.reserved;
        ratios = h.ratios;
        orders = h.orders;
        books =
            subst (λ (x : OpenRegister). Books reserve t.opened t.notes t.trades_leaving_rest (rows_with s.rows x)) (credited r c amount f)
            (raised_books reserve t.opened t.notes t.trades_leaving_rest s.rows h.books (asset_key (asset_named security) code) r (open_at s.rows (asset_key (asset_named security) code) r e) amount (with_limit r.figures (r.figures.limit +ℤ pos amount)) refl refl);
      }
