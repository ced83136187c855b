-- Rows that are swept one after the other.
use Rattle.std.proofs.Common.{◌≡◌, ℕ, zero, suc, ◌+◌, ◌<◌, ◌≤◌, Bool, true, false, cond, ◌&&◌, List, [], ◌∷◌, ◌++◌, map, length, get_or, take, Some, None, Option, Ok, Err, length-take, sym, refl, ap, ◌∙◌, arith}
use Rattle.std.specs.List.{list_all, slice_get}
use Rattle.std.specs.Option.{option_map}
use Rattle.std.proofs.Math.Bool.{and-false}
use Rattle.std.proofs.lemmas.Bool.{lt-ltb}
use Rattle.std.proofs.lemmas.Option.{slice_get-get_or, slice_get_within}
use Rattle.std.proofs.lemmas.List.Folds.{list_all_more}
use Rattle.std.proofs.lemmas.List.Sums.{sum_by_more}
use Rattle.std.proofs.lemmas.List.{append-nil, append_assoc, take_more}
use Rattle.seek.proofs.Cases.{no_case}
use Rattle.registers.specs.declared.row.Row.{Row}
use Rattle.registers.specs.Changes.{Change, put_changes}
use Rattle.registers.specs.Stores.{put_row, with_figures}
use Rattle.plans.specs.declared.refusal.Refusal.{Refusal}
use Rattle.plans.specs.Steps.{demand}
use Rattle.full.specs.OpenRegisters.{FiguresAt}
use Rattle.full.proofs.Swaps.{put_row_same}
use Rattle.pool.specs.Calls.{returned, returns, swept, sweeping, sweeps_from, count_returning, may_sweep}

-- the rows once the first few are swept
abbrev pub swept_to : ℕ → List Row → List Row
swept_to zero rs = rs
swept_to (suc i) [] = []
swept_to (suc i) (r ∷ rs) = swept r ∷ swept_to i rs

-- the next row stands as it did
pub next_stands : (i : ℕ) (rs : List Row) → slice_get (swept_to i rs) i ≡ slice_get rs i
next_stands zero rs = refl
next_stands (suc i) [] = refl
next_stands (suc i) (r ∷ rs) = next_stands i rs

pub length_swept : (i : ℕ) (rs : List Row) → length (swept_to i rs) ≡ length rs
length_swept zero rs = refl
length_swept (suc i) [] = refl
length_swept (suc i) (r ∷ rs) = ap suc (length_swept i rs)

same_key_figures : (r : Row) (b : Bool) → returns r ≡ b → with_figures r (swept r).figures ≡ swept r
same_key_figures r true e = rw e refl
same_key_figures r false e = rw e refl

-- and is swept by a put
pub next_swept : (i : ℕ) (rs : List Row) (r : Row) → slice_get rs i ≡ Some r → put_row (swept_to i rs) i (swept r).figures ≡ swept_to (suc i) rs
next_swept zero [] r e = no_case (cc)
next_swept zero (x ∷ rs) r e =
    let f : x ≡ r = cc in
    ap (λ (y : Row). y ∷ rs) (ap (λ (y : Row). with_figures y (swept r).figures) f ∙ same_key_figures r (returns r) refl ∙ ap swept (sym f))
next_swept (suc i) [] r e = no_case (cc)
next_swept (suc i) (x ∷ rs) r e = ap (λ (y : List Row). swept x ∷ y) (next_swept i rs r e)

pub all_swept : (i : ℕ) (rs : List Row) → length rs ≤ i → swept_to i rs ≡ map swept rs
all_swept zero [] l = refl
all_swept zero (r ∷ rs) l = absurd (omega arith)
all_swept (suc i) [] l = refl
all_swept (suc i) (r ∷ rs) l = ap (λ (y : List Row). swept r ∷ y) (all_swept i rs (omega arith))

-- the changes and the count, one row more
sweeps_more : (n : ℕ) (rs : List Row) (r : Row) → sweeps_from n (rs ++ r ∷ []) ≡ sweeps_from n rs ++ sweeping (n + length rs) r
sweeps_more n [] r = append-nil (sweeping n r) ∙ ap (λ (k : ℕ). sweeping k r) (omega arith)
sweeps_more n (x ∷ rs) r =
    ap (λ (y : List Change). sweeping n x ++ y) (sweeps_more (suc n) rs r ∙ ap (λ (k : ℕ). sweeps_from (suc n) rs ++ sweeping k r) (omega arith))
    ∙ sym (append_assoc (sweeping n x) (sweeps_from (suc n) rs) (sweeping (n + suc (length rs)) r))

-- a row that has nothing to return, and one that has
pub stays : (rs : List Row) (i : ℕ) (r : Row) → slice_get rs i ≡ Some r → returns r ≡ false → rs ≡ put_row rs i (swept r).figures
stays rs i r e n =
    let at : FiguresAt rs i r.figures = ap (option_map (λ (x : Row). x.figures)) e in
    put_row_same rs i r.figures at ∙ ap (λ (b : Bool). put_row rs i (cond b (with_figures r (returned r.figures)) r).figures) (sym n)

pub put_sweeps : (rs : List Row) (i : ℕ) (r : Row) → slice_get rs i ≡ Some r → returns r ≡ true → put_changes rs i (returned r.figures) ≡ sweeping i r
put_sweeps rs i r e n = rw (lt-ltb i (length rs) (slice_get_within rs i r e), n) refl

-- the row that stands at a place within the rows
read_at : (rs : List Row) (i : ℕ) (r : Row) → slice_get rs i ≡ Some r → (i < length rs) × (get_or rs i r ≡ r)
read_at rs i r e =
    let l = slice_get_within rs i r e in
    let x : Some (get_or rs i r) ≡ Some r = sym (slice_get-get_or rs i r l) ∙ e in
    (l, cc)

-- whether every row may be swept, one row after the other
pub fine_more : (rs : List Row) (i : ℕ) (r : Row) → slice_get rs i ≡ Some r → may_sweep r ≡ true → list_all may_sweep (take i rs) ≡ true → list_all may_sweep (take (i + 1) rs) ≡ true
fine_more rs i r e f h =
    let a = read_at rs i r e in
    list_all_more may_sweep rs i r a.0 ∙ ap (λ (b : Bool). b && may_sweep (get_or rs i r)) h ∙ ap may_sweep a.1 ∙ f

pub fine_not : (rs : List Row) (i : ℕ) (r : Row) → slice_get rs i ≡ Some r → may_sweep r ≡ false → list_all may_sweep rs ≡ false
fine_not [] i r e f = no_case (cc)
fine_not (x ∷ rs) zero r e f = let g : x ≡ r = cc in ap (λ (b : Bool). b && list_all may_sweep rs) (ap may_sweep g ∙ f)
fine_not (x ∷ rs) (suc i) r e f = ap (λ (b : Bool). may_sweep x && b) (fine_not rs i r e f) ∙ and-false (may_sweep x)

pub fine_at : (rs : List Row) (i : ℕ) (r : Row) (b : Bool) → may_sweep r ≡ b → list_all may_sweep rs ≡ true → slice_get rs i ≡ Some r → b ≡ true
fine_at rs i r true f h e = refl
fine_at rs i r false f h e = no_case (let g = fine_not rs i r e f in cc)

-- the row that is read at a place, where the rows stand as before the sweep, or are swept up to that place
pub read_same : (rs now : List Row) (i : ℕ) (r : Row) (read : Option Row) → now ≡ rs → read ≡ slice_get now i → read ≡ Some r → slice_get rs i ≡ Some r
read_same rs now i r read e f g = ap (λ (xs : List Row). slice_get xs i) (sym e) ∙ sym f ∙ g

pub read_swept : (rs now : List Row) (i : ℕ) (r : Row) (read : Option Row) → now ≡ swept_to i rs → read ≡ slice_get now i → read ≡ Some r → slice_get rs i ≡ Some r
read_swept rs now i r read e f g = sym (next_stands i rs) ∙ read_same (swept_to i rs) now i r read e f g

-- at each place within the rows a row stands
pub not_absent : (rs : List Row) (i : ℕ) → i < length rs → slice_get rs i ≡ None → ⊥
not_absent [] i l e = omega arith
not_absent (x ∷ rs) zero l e = no_case (cc)
not_absent (x ∷ rs) (suc i) l e = not_absent rs i (omega arith) e

-- what was demanded of a row that passed, and of one that did not
pub demanded : (b : Bool) (e : Refusal) (u : Unit {0}) → demand b e (Ok tt) ≡ Ok u → b ≡ true
demanded true e u h = refl
demanded false e u h = no_case (cc)

pub refused : (b : Bool) (e f : Refusal) → demand {Y = Unit {0}} b e (Ok tt) ≡ Err f → b ≡ false
refused true e f h = no_case (cc)
refused false e f h = refl

-- changes and count, one row more
pub changes_more : (rs : List Row) (i : ℕ) (r : Row) → slice_get rs i ≡ Some r → sweeps_from 0 (take (i + 1) rs) ≡ sweeps_from 0 (take i rs) ++ sweeping i r
changes_more rs i r e =
    let a = read_at rs i r e in
    ap (sweeps_from 0) (take_more rs i r a.0 ∙ ap (λ (x : Row). take i rs ++ x ∷ []) a.1)
    ∙ sweeps_more 0 (take i rs) r
    ∙ ap (λ (k : ℕ). sweeps_from 0 (take i rs) ++ sweeping k r) (omega (arith, a.0, length-take i rs))

pub count_more : (rs : List Row) (i : ℕ) (r : Row) → slice_get rs i ≡ Some r → count_returning (take (i + 1) rs) ≡ count_returning (take i rs) + cond (returns r) 1 0
count_more rs i r e =
    let a = read_at rs i r e in
    sum_by_more (λ (x : Row). cond (returns x) 1 0) rs i r a.0 ∙ ap (λ (x : Row). count_returning (take i rs) + cond (returns x) 1 0) a.1

pub few_more : (b : Bool) → cond b 1 0 ≤ 1
few_more true = omega arith
few_more false = omega arith
