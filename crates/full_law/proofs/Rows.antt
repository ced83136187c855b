-- Rows by their places, and their keys.
use Rattle.std.proofs.Common.{◌≡◌, ℕ, zero, suc, true, ◌&&◌, eqb, List, [], ◌∷◌, map, Some, refl, ap}
use Rattle.std.specs.List.{slice_get}
use Rattle.std.proofs.lemmas.Bool.{and_parts, eqb-true, eq-eqb}
use Rattle.seek.proofs.Cases.{no_case}
use Rattle.registers.proofs.Images.{key_of_parts}
use Rattle.registers.specs.declared.key.Key.{Key}
use Rattle.registers.specs.declared.figures.Figures.{Figures}
use Rattle.registers.specs.declared.row.Row.{Row}
use Rattle.registers.specs.Registers.{same_key}
use Rattle.registers.specs.Stores.{put_row, with_figures}

-- keys that are the same
pub same_key_lem : (a b : Key) → same_key a b ≡ true → a ≡ b
same_key_lem a b e =
    let x = and_parts (eqb a.kind b.kind) (eqb a.code b.code && eqb a.security b.security) e in
    let y = and_parts (eqb a.code b.code) (eqb a.security b.security) x.1 in
    key_of_parts (eqb-true _ _ x.0) (eqb-true _ _ y.0) (eqb-true _ _ y.1)

pub key_same : (a b : Key) → a ≡ b → same_key a b ≡ true
key_same a b e =
    let x = eq-eqb a.kind b.kind (ap (λ (k : Key). k.kind) e) in
    let y = eq-eqb a.code b.code (ap (λ (k : Key). k.code) e) in
    let z = eq-eqb a.security b.security (ap (λ (k : Key). k.security) e) in
    rw (x, y, z)

-- a put at a place
pub put_nth : (rs : List Row) (i : ℕ) (f : Figures) (r : Row) → slice_get rs i ≡ Some r → slice_get (put_row rs i f) i ≡ Some (with_figures r f)
put_nth [] i f r e = no_case (cc)
put_nth (q ∷ rs) zero f r e = let s : q ≡ r = cc in ap (λ (x : Row). Some (with_figures x f)) s
put_nth (q ∷ rs) (suc i) f r e = put_nth rs i f r e

pub put_other : (rs : List Row) (i j : ℕ) (f : Figures) → (i ≡ j → ⊥) → slice_get (put_row rs i f) j ≡ slice_get rs j
put_other [] i j f ne = refl
put_other (q ∷ rs) zero zero f ne = absurd (ne refl)
put_other (q ∷ rs) zero (suc j) f ne = refl
put_other (q ∷ rs) (suc i) zero f ne = refl
put_other (q ∷ rs) (suc i) (suc j) f ne = put_other rs i j f (λ e. ne (ap suc e))

pub put_keys : (rs : List Row) (i : ℕ) (f : Figures) → map (λ (r : Row). r.key) (put_row rs i f) ≡ map (λ (r : Row). r.key) rs
put_keys [] i f = refl
put_keys (q ∷ rs) zero f = refl
put_keys (q ∷ rs) (suc i) f = ap (λ (x : List Key). q.key ∷ x) (put_keys rs i f)

-- what stands at a place bears the key of that place
pub nth_map : {X Y : Type 0} (g : X → Y) (xs : List X) (i : ℕ) (x : X) → slice_get xs i ≡ Some x → slice_get (map g xs) i ≡ Some (g x)
nth_map g [] i x e = no_case (cc)
nth_map g (y ∷ ys) zero x e = let s : y ≡ x = cc in ap (λ (w : _). Some (g w)) s
nth_map g (y ∷ ys) (suc i) x e = nth_map g ys i x e
