-- What stands at a place once figures are put there or elsewhere.
use Rattle.std.proofs.Common.{◌≡◌, ℕ, zero, suc, cond, eqb, List, [], ◌∷◌, Some, None, Option, refl, ap, ◌∙◌}
use Rattle.std.specs.List.{slice_get}
use Rattle.std.specs.Option.{option_map}
use Rattle.std.proofs.Math.Dec.{eqb-suc-suc, eqb-suc-zero, eqb-zero-suc}
use Rattle.seek.proofs.Cases.{no_case}
use Rattle.registers.specs.declared.figures.Figures.{Figures}
use Rattle.registers.specs.declared.row.Row.{Row}
use Rattle.registers.specs.Stores.{put_row, with_figures}
use Rattle.full.specs.OpenRegisters.{FiguresAt}

pub after_put : (rs : List Row) (i j : ℕ) (f : Figures) (r : Row) → slice_get rs j ≡ Some r → slice_get (put_row rs i f) j ≡ Some (with_figures r (cond (eqb i j) f r.figures))
after_put [] i j f r e = no_case (cc)
after_put (q ∷ rs) zero zero f r e = let s : q ≡ r = cc in ap (λ (x : Row). Some (with_figures x f)) s
after_put (q ∷ rs) zero (suc j) f r e = rw eqb-zero-suc e
after_put (q ∷ rs) (suc i) zero f r e = rw eqb-suc-zero e
after_put (q ∷ rs) (suc i) (suc j) f r e = rw eqb-suc-suc (after_put rs i j f r e)

figures_by : (rs : List Row) (i j : ℕ) (f g : Figures) (x : Option Row) → slice_get rs j ≡ x → option_map (λ (r : Row). r.figures) x ≡ Some g → FiguresAt (put_row rs i f) j (cond (eqb i j) f g)
figures_by rs i j f g None s e = no_case (cc)
figures_by rs i j f g (Some r) s e =
    let h : r.figures ≡ g = cc in
    ap (option_map (λ (q : Row). q.figures)) (after_put rs i j f r s) ∙ ap (λ (x : Figures). Some (cond (eqb i j) f x)) h

pub figures_after_put : (rs : List Row) (i j : ℕ) (f g : Figures) → FiguresAt rs j g → FiguresAt (put_row rs i f) j (cond (eqb i j) f g)
figures_after_put rs i j f g e = figures_by rs i j f g (slice_get rs j) refl e
