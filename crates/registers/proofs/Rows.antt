-- What a put and an add do to a list of rows, for every store.
use Rattle.std.proofs.Common.{◌≡◌, ℕ, zero, suc, ◌+◌, ◌<◌, ◌≤◌, List, [], ◌∷◌, ◌++◌, length, get_or, take, set, Ok, Err, refl, ap, ◌∙◌, arith, length-set, le-ltb, lt-ltb}
use Rattle.std.proofs.lemmas.List.{take_more_set}
use Rattle.registers.specs.declared.figures.Figures.{Figures}
use Rattle.registers.specs.declared.row.Row.{Row}
use Rattle.registers.specs.declared.fault.StoreFault.TheVariants.{Full, NotOpen}
use Rattle.registers.specs.Stores.{put_row, put_answer, add_row, add_answer, with_figures}
use Rattle.registers.specs.Bounds.{length-table_rows}
use Rattle.registers.specs.Tables.{table_room, table_rows, lent, change_table}
use Rattle.registers.specs.Changes.{changed, put_changes, add_changes}

pub length-put_row : (rs : List Row) (i : ℕ) (f : Figures) → length (put_row rs i f) ≡ length rs
length-put_row [] i f = refl
length-put_row (r ∷ rs) zero f = refl
length-put_row (r ∷ rs) (suc i) f = ap suc (length-put_row rs i f)

pub put_row_past : (rs : List Row) (i : ℕ) (f : Figures) → length rs ≤ i → put_row rs i f ≡ rs
put_row_past [] i f h = refl
put_row_past (r ∷ rs) zero f h = absurd (omega arith)
put_row_past (r ∷ rs) (suc i) f h = ap (λ (x : List Row). r ∷ x) (put_row_past rs i f (omega arith))

-- what a store answers
pub put_accepted : (rs : List Row) (i : ℕ) → i < length rs → Ok tt ≡ put_answer rs i
put_accepted rs i h = let e = lt-ltb i (length rs) h in rw e

pub put_refused : (rs : List Row) (i : ℕ) → length rs ≤ i → Err NotOpen ≡ put_answer rs i
put_refused rs i h = let e = le-ltb i (length rs) h in rw e

pub add_accepted : (rs : List Row) (room : ℕ) (r : Row) → length rs < room → (Ok tt ≡ add_answer rs room) × (rs ++ r ∷ [] ≡ add_row rs room r)
add_accepted rs room r h = let e = lt-ltb (length rs) room h in (rw e, rw e)

pub add_refused : (rs : List Row) (room : ℕ) (r : Row) → room ≤ length rs → (Err Full ≡ add_answer rs room) × (rs ≡ add_row rs room r)
add_refused rs room r h = let e = le-ltb (length rs) room h in (rw e, rw e)

-- new figures at a place before the n-th row
put_front : (t : List Row) (n i : ℕ) (d : Row) (f : Figures) → i < n → n ≤ length t → take n (set t i (with_figures (get_or t i d) f)) ≡ put_row (take n t) i f
put_front [] n i d f h l = absurd (omega arith)
put_front (r ∷ t) zero i d f h l = absurd (omega arith)
put_front (r ∷ t) (suc n) zero d f h l = refl
put_front (r ∷ t) (suc n) (suc i) d f h l = ap (λ (x : List Row). r ∷ x) (put_front t n i d f (omega arith) (omega arith))

-- a list that is as long has the same room
pub table_room_lem : (t : List Row) (i : ℕ) (r : Row) → table_room (set t i r) ≡ table_room t
table_room_lem t i r = simp length-set

pub table_put : (t : List Row) (filled i : ℕ) (d : Row) (f : Figures) → i < filled → filled ≤ table_room t → table_rows (set t i (with_figures (get_or t i d) f)) filled ≡ put_row (table_rows t filled) i f
table_put t filled i d f h l = put_front t filled i d f h (omega arith)

-- a row past those that are taken
pub table_added : (t : List Row) (filled : ℕ) (r : Row) → filled < table_room t → (Ok tt ≡ add_answer (table_rows t filled) (table_room t)) × (table_rows (set t filled r) (filled + 1) ≡ add_row (table_rows t filled) (table_room t) r)
table_added t filled r h =
    let a = add_accepted (table_rows t filled) (table_room t) r (omega (arith, length-table_rows t filled (omega arith))) in
    (a.0, take_more_set t filled r (omega arith) ∙ a.1)

-- the whole table after a put and after an add that are accepted
put_whole : (t : List Row) (i : ℕ) (d : Row) (f : Figures) → i < length t → set t i (with_figures (get_or t i d) f) ≡ put_row t i f
put_whole [] i d f h = absurd (omega arith)
put_whole (r ∷ t) zero d f h = refl
put_whole (r ∷ t) (suc i) d f h = ap (λ (x : List Row). r ∷ x) (put_whole t i d f (omega arith))

pub put_changed : (t : List Row) (filled i : ℕ) (d : Row) (f : Figures) → i < filled → filled ≤ table_room t → lent (set t i (with_figures (get_or t i d) f)) filled ≡ changed change_table (lent t filled) (put_changes (table_rows t filled) i f)
put_changed t filled i d f h l =
    let e = lt-ltb i (length (table_rows t filled)) (omega (arith, length-table_rows t filled l)) in
    rw e (ap (λ (x : List Row). lent x filled) (put_whole t i d f (omega arith)))

pub add_changed : (t : List Row) (filled : ℕ) (r : Row) → filled < table_room t → lent (set t filled r) (filled + 1) ≡ changed change_table (lent t filled) (add_changes (table_rows t filled) (table_room t) r)
add_changed t filled r h =
    let e = lt-ltb (length (table_rows t filled)) (table_room t) (omega (arith, length-table_rows t filled (omega arith))) in
    rw e
