-- The rows of an image, and what a write into one of them, or past the last, leaves.
use Rattle.std.proofs.Common.{◌≡◌, ℕ, zero, suc, ◌+◌, ◌-◌, ◌*◌, ◌/◌, ◌^◌, ◌<◌, ◌≤◌, min, Bool, true, false, cond, ltb, ◌⊎◌, List, [], ◌∷◌, ◌++◌, length, get_or, take, drop, ℤ, Some, None, Ok, Err, Result, sym, refl, ap, ◌∙◌, inl, inr, ⊎_elim, arith, length-append, w64, SFits, le-ltb, lt-ltb}
use Rattle.std.proofs.lemmas.List.{length-map, take_at, drop_at, take_all, append_assoc, get_or-take}
use Rattle.std.proofs.lemmas.Bool.{cases_order}
use Rattle.std.specs.List.{slice_get}
use Rattle.std.specs.Option.{option_map}
use Rattle.std.proofs.lemmas.Option.{slice_get-map, slice_get_past}
use Rattle.seek.specs.Place.{place_of}
use Rattle.seek.proofs.Places.{place_of_map}
use Rattle.registers.specs.Registers.{same_key}
use Rattle.byte_fields.specs.Fields.{be, bytes_of, part, spliced, signed_be, signed_bytes_of, put_at}
use Rattle.byte_fields.proofs.Widths.{be-bytes_of, signed_back, length-spliced, part_same, part_apart, part_inside, spliced-spliced, written_within}
use Rattle.registers.specs.declared.key.Key.{Key}
use Rattle.registers.specs.declared.figures.Figures.{Figures}
use Rattle.registers.specs.declared.row.Row.{Row}
use Rattle.registers.specs.declared.fault.StoreFault.{StoreFault}
use Rattle.registers.specs.declared.fault.StoreFault.TheVariants.{Full, NotOpen}
use Rattle.registers.specs.Stores.{put_row, put_answer, add_row, add_answer, place_for, with_figures}
use Rattle.registers.proofs.Rows.{put_accepted, put_refused, put_row_past, add_accepted, add_refused}
use Rattle.registers.specs.Bounds.{length-image_rows, room_small}
use Rattle.registers.specs.Images.{marked, room_of, count_of, key_at, figures_at, row_at, rows_from, image_rows, image_keys, key_bytes, figure_bytes, row_bytes, row_place, put_bytes, add_bytes, change_bytes}
use Rattle.registers.specs.Changes as changes
use Rattle.registers.specs.Changes.{changed, put_changes, add_changes}

-- keys, figures and rows are their parts
pub key_of_parts : {a b c a' b' c' : ℕ} → a ≡ a' → b ≡ b' → c ≡ c' → ◌≡◌ {A = Key} (record { kind = a; code = b; security = c }) (record { kind = a'; code = b'; security = c' })
key_of_parts p q r = cc

same_figures : {a b c a' b' c' : ℤ} → a ≡ a' → b ≡ b' → c ≡ c' → ◌≡◌ {A = Figures} (record { limit = a; blocked = b; third = c }) (record { limit = a'; blocked = b'; third = c' })
same_figures p q r = cc

same_row : {k k' : Key} {f f' : Figures} → k ≡ k' → f ≡ f' → ◌≡◌ {A = Row} (record { key = k; figures = f }) (record { key = k'; figures = f' })
same_row p q = cc

-- three fields, one behind the other, each taken out again
module _ (a b c : List ℕ) (i j k : ℕ) (p : length a ≡ i) (q : length b ≡ j) (r : length c ≡ k) where
  pub first_part : part i 0 ((a ++ b) ++ c) ≡ a
  first_part = ap (take i) (append_assoc a b c) ∙ take_at a (b ++ c) i p

  pub second_part : part j i ((a ++ b) ++ c) ≡ b
  second_part = ap (λ (x : List ℕ). take j (drop i x)) (append_assoc a b c) ∙ ap (take j) (drop_at a (b ++ c) i p) ∙ take_at b c j q

  pub third_part : part k (i + j) ((a ++ b) ++ c) ≡ c
  third_part = ap (take k) (drop_at (a ++ b) c (i + j) (simp length-append (omega arith))) ∙ take_all k c (omega arith)

pub length-key_bytes : (k : Key) → length (key_bytes k) ≡ 7
unfolding key_bytes
length-key_bytes k = simp length-append

pub length-figure_bytes : (f : Figures) → length (figure_bytes f) ≡ 24
unfolding figure_bytes
length-figure_bytes f = simp length-append

pub length-row_bytes : (r : Row) → length (row_bytes r) ≡ 31
length-row_bytes r = length-append (key_bytes r.key) (figure_bytes r.figures) ∙ omega (arith, length-key_bytes r.key, length-figure_bytes r.figures)

-- numbers that fit their fields
pub record KeyFits (k : Key) : Type 0 where
  pub kind : k.kind < 2 ^ 8
  pub code : k.code < 2 ^ 32
  pub security : k.security < 2 ^ 16

pub record FiguresFit (f : Figures) : Type 0 where
  pub limit : SFits w64 f.limit
  pub blocked : SFits w64 f.blocked
  pub third : SFits w64 f.third

-- a key and figures that were written are read back
pub key_written : (at : ℕ) (s : List ℕ) (k : Key) → KeyFits k → 7 + at ≤ length s → key_at at (spliced 7 at (key_bytes k) s) ≡ k
unfolding key_at key_bytes
key_written at s k fits h =
    let a : List ℕ = bytes_of 1 k.kind in
    let b : List ℕ = bytes_of 4 k.code in
    let c : List ℕ = bytes_of 2 k.security in
    let l = length-key_bytes k in
    let z : at + 0 ≡ at = omega arith in
    let x : part 1 at (spliced 7 at (key_bytes k) s) ≡ a = ap (λ (n : ℕ). part 1 n (spliced 7 at (key_bytes k) s)) (sym z) ∙ part_inside 7 at 1 0 (key_bytes k) s h l (omega arith) ∙ first_part a b c 1 4 2 refl refl refl in
    let y : part 4 (at + 1) (spliced 7 at (key_bytes k) s) ≡ b = part_inside 7 at 4 1 (key_bytes k) s h l (omega arith) ∙ second_part a b c 1 4 2 refl refl refl in
    let w : part 2 (at + 5) (spliced 7 at (key_bytes k) s) ≡ c = part_inside 7 at 2 5 (key_bytes k) s h l (omega arith) ∙ third_part a b c 1 4 2 refl refl refl in
    key_of_parts (ap be x ∙ be-bytes_of 1 k.kind fits.kind) (ap be y ∙ be-bytes_of 4 k.code fits.code) (ap be w ∙ be-bytes_of 2 k.security fits.security)

pub figures_written : (at : ℕ) (s : List ℕ) (f : Figures) → FiguresFit f → 24 + at ≤ length s → figures_at at (spliced 24 at (figure_bytes f) s) ≡ f
unfolding figures_at figure_bytes
figures_written at s f fits h =
    let a : List ℕ = signed_bytes_of f.limit in
    let b : List ℕ = signed_bytes_of f.blocked in
    let c : List ℕ = signed_bytes_of f.third in
    let l = length-figure_bytes f in
    let z : at + 0 ≡ at = omega arith in
    let x : part 8 at (spliced 24 at (figure_bytes f) s) ≡ a = ap (λ (n : ℕ). part 8 n (spliced 24 at (figure_bytes f) s)) (sym z) ∙ part_inside 24 at 8 0 (figure_bytes f) s h l (omega arith) ∙ first_part a b c 8 8 8 refl refl refl in
    let y : part 8 (at + 8) (spliced 24 at (figure_bytes f) s) ≡ b = part_inside 24 at 8 8 (figure_bytes f) s h l (omega arith) ∙ second_part a b c 8 8 8 refl refl refl in
    let w : part 8 (at + 16) (spliced 24 at (figure_bytes f) s) ≡ c = part_inside 24 at 8 16 (figure_bytes f) s h l (omega arith) ∙ third_part a b c 8 8 8 refl refl refl in
    same_figures (ap signed_be x ∙ signed_back f.limit fits.limit) (ap signed_be y ∙ signed_back f.blocked fits.blocked) (ap signed_be w ∙ signed_back f.third fits.third)

-- a write elsewhere leaves them
module _ (k b : ℕ) (ys s : List ℕ) (fits : k + b ≤ length s) (len : length ys ≡ k) where
  within_apart : (n at j o : ℕ) → o + j ≤ n → (n + at ≤ b) ⊎ (k + b ≤ at) → part j (at + o) (spliced k b ys s) ≡ part j (at + o) s
  within_apart n at j o h (inl l) = part_apart k b ys s fits len j (at + o) (inl (omega arith))
  within_apart n at j o h (inr l) = part_apart k b ys s fits len j (at + o) (inr (omega arith))

  start_apart : (n at j : ℕ) → j ≤ n → (n + at ≤ b) ⊎ (k + b ≤ at) → part j at (spliced k b ys s) ≡ part j at s
  start_apart n at j h (inl l) = part_apart k b ys s fits len j at (inl (omega arith))
  start_apart n at j h (inr l) = part_apart k b ys s fits len j at (inr (omega arith))

  pub key_apart : (at : ℕ) → (7 + at ≤ b) ⊎ (k + b ≤ at) → key_at at (spliced k b ys s) ≡ key_at at s
  unfolding key_at
  key_apart at h = key_of_parts (ap be (start_apart 7 at 1 (omega arith) h)) (ap be (within_apart 7 at 4 1 (omega arith) h)) (ap be (within_apart 7 at 2 5 (omega arith) h))

  pub figures_apart : (at : ℕ) → (24 + at ≤ b) ⊎ (k + b ≤ at) → figures_at at (spliced k b ys s) ≡ figures_at at s
  unfolding figures_at
  figures_apart at h =
      same_figures (ap signed_be (start_apart 24 at 8 (omega arith) h)) (ap signed_be (within_apart 24 at 8 8 (omega arith) h)) (ap signed_be (within_apart 24 at 8 16 (omega arith) h))

  pub row_apart : (at : ℕ) → (31 + at ≤ b) ⊎ (k + b ≤ at) → row_at at (spliced k b ys s) ≡ row_at at s
  row_apart at (inl h) = same_row (key_apart at (inl (omega arith))) (figures_apart (at + 7) (inl (omega arith)))
  row_apart at (inr h) = same_row (key_apart at (inr (omega arith))) (figures_apart (at + 7) (inr (omega arith)))

-- the row that was written, and the row whose figures were
pub row_written : (at : ℕ) (s : List ℕ) (r : Row) → KeyFits r.key → FiguresFit r.figures → 31 + at ≤ length s → row_at at (spliced 31 at (row_bytes r) s) ≡ r
row_written at s r kf ff h =
    let t : List ℕ = spliced 7 at (key_bytes r.key) s in
    let l : length t ≡ length s = length-spliced 7 at (key_bytes r.key) s (omega arith) (length-key_bytes r.key) in
    let e : spliced 24 (at + 7) (figure_bytes r.figures) t ≡ spliced 31 at (row_bytes r) s = spliced-spliced 7 24 at (key_bytes r.key) (figure_bytes r.figures) s (omega arith) (length-key_bytes r.key) in
    ap (row_at at) (sym e)
    ∙ same_row
    (key_apart 24 (at + 7) (figure_bytes r.figures) t (omega arith) (length-figure_bytes r.figures) at (inl (omega arith)) ∙ key_written at s r.key kf (omega arith))
    (figures_written (at + 7) t r.figures ff (omega arith))

pub row_put : (at : ℕ) (s : List ℕ) (f : Figures) → FiguresFit f → 31 + at ≤ length s → row_at at (spliced 24 (at + 7) (figure_bytes f) s) ≡ with_figures (row_at at s) f
row_put at s f ff h =
    same_row
    (key_apart 24 (at + 7) (figure_bytes f) s (omega arith) (length-figure_bytes f) at (inl (omega arith)))
    (figures_written (at + 7) s f ff (omega arith))

-- rows one after the other
pub nth_rows_from : (n i at : ℕ) (s : List ℕ) → i < n → slice_get (rows_from n at s) i ≡ Some (row_at (at + i * 31) s)
nth_rows_from zero i at s h = absurd (omega arith)
nth_rows_from (suc n) zero at s h = let e : at ≡ at + 0 * 31 = omega arith in ap (λ (a : ℕ). Some (row_at a s)) e
nth_rows_from (suc n) (suc i) at s h =
    let e : at + 31 + i * 31 ≡ at + suc i * 31 = omega arith in
    nth_rows_from n i (at + 31) s (omega arith) ∙ ap (λ (a : ℕ). Some (row_at a s)) e

-- the keys of an image, one by one, and where one is sought
pub length-image_keys : (s : List ℕ) → count_of s ≡ length (image_keys s)
length-image_keys s = sym (length-map (image_rows s) (λ (r : Row). r.key) ∙ length-image_rows s)

pub nth_key : (s : List ℕ) (i : ℕ) → i < count_of s → slice_get (image_keys s) i ≡ Some (key_at (row_place i) s)
nth_key s i h = slice_get-map (λ (r : Row). r.key) (image_rows s) i ∙ ap (option_map (λ (r : Row). r.key)) (nth_rows_from (count_of s) i 7 s h)

pub no_key : (s : List ℕ) (i : ℕ) → count_of s ≤ i → slice_get (image_keys s) i ≡ None
no_key s i h = slice_get_past (image_keys s) i (omega (arith, length-image_keys s))

pub place_of_key : (s : List ℕ) (k : Key) → place_of (λ (l : Key). same_key l k) (image_keys s) ≡ place_for k (image_rows s)
place_of_key s k = place_of_map (λ (r : Row). r.key) (λ (l : Key). same_key l k) (image_rows s)

module _ (s t : List ℕ) where
  -- row j from a place on is the same in both
  abbrev pub Same : ℕ → ℕ → Type 0
  Same at j = row_at (at + j * 31) t ≡ row_at (at + j * 31) s

  first_row : (at : ℕ) (r : Row) → row_at (at + 0 * 31) t ≡ r → row_at at t ≡ r
  first_row at r e = let z : at ≡ at + 0 * 31 = omega arith in ap (λ (a : ℕ). row_at a t) z ∙ e

  next_row : (at j : ℕ) → Same at (suc j) → Same (at + 31) j
  next_row at j e =
      let z : at + 31 + j * 31 ≡ at + suc j * 31 = omega arith in
      ap (λ (a : ℕ). row_at a t) z ∙ e ∙ ap (λ (a : ℕ). row_at a s) (sym z)

  pub rows_same : (n at : ℕ) → ((j : ℕ) → j < n → Same at j) → rows_from n at t ≡ rows_from n at s
  rows_same zero at same = refl
  rows_same (suc n) at same =
      let z : at + 0 * 31 ≡ at = omega arith in
      let a : row_at at t ≡ row_at at s = first_row at (row_at at s) (same 0 (omega arith) ∙ ap (λ (a : ℕ). row_at a s) z) in
      let b : rows_from n (at + 31) t ≡ rows_from n (at + 31) s = rows_same n (at + 31) (λ j h. next_row at j (same (suc j) (omega arith))) in
      ap (λ (r : Row). r ∷ rows_from n (at + 31) t) a ∙ ap (λ (rs : List Row). row_at at s ∷ rs) b

  pub rows_put : (n i at : ℕ) (f : Figures) → i < n → ((j : ℕ) → j < n → (j ≡ i → ⊥) → Same at j) → row_at (at + i * 31) t ≡ with_figures (row_at (at + i * 31) s) f → rows_from n at t ≡ put_row (rows_from n at s) i f
  rows_put zero i at f h same put = absurd (omega arith)
  rows_put (suc n) zero at f h same put =
      let z : at + 0 * 31 ≡ at = omega arith in
      let a : row_at at t ≡ with_figures (row_at at s) f = first_row at (with_figures (row_at at s) f) (put ∙ ap (λ (a : ℕ). with_figures (row_at a s) f) z) in
      let b : rows_from n (at + 31) t ≡ rows_from n (at + 31) s = rows_same n (at + 31) (λ j h. next_row at j (same (suc j) (omega arith) (λ e. omega arith))) in
      ap (λ (r : Row). r ∷ rows_from n (at + 31) t) a ∙ ap (λ (rs : List Row). with_figures (row_at at s) f ∷ rs) b
  rows_put (suc n) (suc i) at f h same put =
      let z : at + 0 * 31 ≡ at = omega arith in
      let y : at + 31 + i * 31 ≡ at + suc i * 31 = omega arith in
      let a : row_at at t ≡ row_at at s = first_row at (row_at at s) (same 0 (omega arith) (λ e. omega arith) ∙ ap (λ (a : ℕ). row_at a s) z) in
      let p : row_at (at + 31 + i * 31) t ≡ with_figures (row_at (at + 31 + i * 31) s) f = ap (λ (a : ℕ). row_at a t) y ∙ put ∙ ap (λ (a : ℕ). with_figures (row_at a s) f) (sym y) in
      let b : rows_from n (at + 31) t ≡ put_row (rows_from n (at + 31) s) i f = rows_put n i (at + 31) f (omega arith) (λ j h ne. next_row at j (same (suc j) (omega arith) (λ e. ne (omega arith)))) p in
      ap (λ (r : Row). r ∷ rows_from n (at + 31) t) a ∙ ap (λ (rs : List Row). row_at at s ∷ rs) b

  pub rows_add : (n at : ℕ) (r : Row) → ((j : ℕ) → j < n → Same at j) → row_at (at + n * 31) t ≡ r → rows_from (suc n) at t ≡ rows_from n at s ++ r ∷ []
  rows_add zero at r same new = ap (λ (x : Row). x ∷ []) (first_row at r new)
  rows_add (suc n) at r same new =
      let z : at + 0 * 31 ≡ at = omega arith in
      let y : at + 31 + n * 31 ≡ at + suc n * 31 = omega arith in
      let a : row_at at t ≡ row_at at s = first_row at (row_at at s) (same 0 (omega arith) ∙ ap (λ (a : ℕ). row_at a s) z) in
      let b : rows_from (suc n) (at + 31) t ≡ rows_from n (at + 31) s ++ r ∷ [] = rows_add n (at + 31) r (λ j h. next_row at j (same (suc j) (omega arith))) (ap (λ (a : ℕ). row_at a t) y ∙ new) in
      ap (λ (x : Row). x ∷ rows_from (suc n) (at + 31) t) a ∙ ap (λ (rs : List Row). row_at at s ∷ rs) b

-- where there is room for a row, the bytes hold all that there is room for
room_by : (b : Bool) (l i : ℕ) → i < cond b (min ((l - 7) / 31) 4096) 0 → 7 + cond b (min ((l - 7) / 31) 4096) 0 * 31 ≤ l
room_by true l i h = omega arith
room_by false l i h = absurd (omega arith)

pub room_long : (s : List ℕ) (i : ℕ) → i < room_of s → 7 + room_of s * 31 ≤ length s
room_long s i h = room_by (marked s) (length s) i h

-- the mark and the room rest on the length and the first five bytes
module _ (s t : List ℕ) (l : length t ≡ length s) (e : take 5 t ≡ take 5 s) where
  front_at : (j : ℕ) → j < 5 → get_or t j 0 ≡ get_or s j 0
  front_at j h = sym (get_or-take 5 t j 0 h) ∙ ap (λ (x : List ℕ). get_or x j 0) e ∙ get_or-take 5 s j 0 h

  marked_same : marked t ≡ marked s
  marked_same = rw (l, front_at 0 (omega arith), front_at 1 (omega arith), front_at 2 (omega arith), front_at 3 (omega arith), front_at 4 (omega arith))

  pub room_same : room_of t ≡ room_of s
  room_same = let m = marked_same in rw (m, l)

-- a write past the header leaves room and count
module _ (k b : ℕ) (ys s : List ℕ) (fits : k + b ≤ length s) (len : length ys ≡ k) (past : 7 ≤ b) where
  pub room_kept : room_of (spliced k b ys s) ≡ room_of s
  room_kept = room_same s (spliced k b ys s) (length-spliced k b ys s fits len) (part_apart k b ys s fits len 5 0 (inl (omega arith)))

  pub count_kept : count_of (spliced k b ys s) ≡ count_of s
  count_kept =
      let e : part 2 5 (spliced k b ys s) ≡ part 2 5 s = part_apart k b ys s fits len 2 5 (inl (omega arith)) in
      let r = room_kept in
      rw (e, r)

-- the figures of a row, written
pub record PutDone (s t : List ℕ) (i : ℕ) (f : Figures) : Type 0 where
  pub rows : image_rows t ≡ put_row (image_rows s) i f
  pub room : room_of t ≡ room_of s

pub image_put : (s : List ℕ) (i : ℕ) (f : Figures) → FiguresFit f → i < count_of s → PutDone s (spliced 24 (row_place i + 7) (figure_bytes f) s) i f
image_put s i f ff h =
    let b : ℕ = row_place i + 7 in
    let t : List ℕ = spliced 24 (row_place i + 7) (figure_bytes f) s in
    let whole : 7 + room_of s * 31 ≤ length s = room_long s i (omega arith) in
    let fits : 24 + (row_place i + 7) ≤ length s = omega arith in
    let len = length-figure_bytes f in
    let c : count_of t ≡ count_of s = count_kept 24 (row_place i + 7) (figure_bytes f) s fits len (omega arith) in
    let same : (j : ℕ) → j < count_of s → (j ≡ i → ⊥) → Same s t 7 j = λ j l ne. row_apart 24 (row_place i + 7) (figure_bytes f) s fits len (7 + j * 31) (apart j i ne) in
    record {
      rows = ap (λ (n : ℕ). rows_from n 7 t) c ∙ rows_put s t (count_of s) i 7 f h same (row_put (row_place i) s f ff (omega arith));
      room = room_kept 24 (row_place i + 7) (figure_bytes f) s fits len (omega arith);
    }
  where
    apart : (j i : ℕ) → (j ≡ i → ⊥) → (31 + (7 + j * 31) ≤ row_place i + 7) ⊎ (24 + (row_place i + 7) ≤ 7 + j * 31)
    apart j i ne = ⊎_elim (λ e. absurd (ne e)) (⊎_elim (λ l. inl (omega arith)) (λ l. inr (omega arith))) (cases_order j i)

-- a row past the last, written, and then the count
pub record AddDone (s t : List ℕ) (r : Row) : Type 0 where
  pub rows : image_rows t ≡ image_rows s ++ r ∷ []
  pub room : room_of t ≡ room_of s

pub image_add : (s : List ℕ) (r : Row) → KeyFits r.key → FiguresFit r.figures → count_of s < room_of s → AddDone s (spliced 2 5 (bytes_of 2 (count_of s + 1)) (spliced 31 (row_place (count_of s)) (row_bytes r) s)) r
image_add s r kf ff h =
    let n : ℕ = count_of s in
    let two : List ℕ = bytes_of 2 (count_of s + 1) in
    let u : List ℕ = spliced 31 (row_place (count_of s)) (row_bytes r) s in
    let t : List ℕ = spliced 2 5 (bytes_of 2 (count_of s + 1)) (spliced 31 (row_place (count_of s)) (row_bytes r) s) in
    let whole : 7 + room_of s * 31 ≤ length s = room_long s (count_of s) h in
    let small : room_of s ≤ 4096 = room_small s in
    let fits : 31 + row_place (count_of s) ≤ length s = omega arith in
    let len = length-row_bytes r in
    let lu : length u ≡ length s = length-spliced 31 (row_place (count_of s)) (row_bytes r) s fits len in
    let fits2 : 2 + 5 ≤ length u = omega arith in
    let lt : length t ≡ length u = length-spliced 2 5 two u fits2 refl in
    let front : take 5 t ≡ take 5 u = part_apart 2 5 two u fits2 refl 5 0 (inl (omega arith)) in
    let room : room_of t ≡ room_of s = room_same u t lt front ∙ room_kept 31 (row_place (count_of s)) (row_bytes r) s fits len (omega arith) in
    let field : be (part 2 5 t) ≡ count_of s + 1 = ap be (part_same 2 5 two u fits2 refl) ∙ be-bytes_of 2 (count_of s + 1) (omega arith) in
    let count : count_of t ≡ suc (count_of s) = omega arith in
    let behind : (j : ℕ) → row_at (7 + j * 31) t ≡ row_at (7 + j * 31) u = λ j. row_apart 2 5 two u fits2 refl (7 + j * 31) (inr (omega arith)) in
    let same : (j : ℕ) → j < count_of s → Same s t 7 j = λ j l. behind j ∙ row_apart 31 (row_place (count_of s)) (row_bytes r) s fits len (7 + j * 31) (inl (omega arith)) in
    let new : row_at (7 + count_of s * 31) t ≡ r = behind (count_of s) ∙ row_written (row_place (count_of s)) s r kf ff fits in
    record {
      rows = ap (λ (m : ℕ). rows_from m 7 t) count ∙ rows_add s t (count_of s) 7 r same new;
      room = room;
    }

-- a put and an add, as a store answers them: t is what the bytes are after the writes
pub record Put (s t : List ℕ) (i : ℕ) (f : Figures) (answer : Result Unit StoreFault) : Type 0 where
  pub answered : answer ≡ put_answer (image_rows s) i
  pub rows : image_rows t ≡ put_row (image_rows s) i f
  pub room : room_of t ≡ room_of s
  pub bytes : t ≡ put_bytes s i f

pub put_done : (s t : List ℕ) (i : ℕ) (f : Figures) → FiguresFit f → i < count_of s → t ≡ spliced 24 (row_place i + 7) (figure_bytes f) s → Put s t i f (Ok tt)
put_done s t i f ff h is =
    let d = image_put s i f ff h in
    let e : ltb i (count_of s) ≡ true = lt-ltb i (count_of s) h in
    record {
      answered = put_accepted (image_rows s) i (rw length-image_rows h);
      rows = ap image_rows is ∙ d.rows;
      room = ap room_of is ∙ d.room;
      bytes = is ∙ rw e;
    }

pub put_not : (s : List ℕ) (i : ℕ) (f : Figures) → count_of s ≤ i → Put s s i f (Err NotOpen)
put_not s i f h =
    let l : length (image_rows s) ≤ i = rw length-image_rows h in
    let e : ltb i (count_of s) ≡ false = le-ltb i (count_of s) h in
    record { answered = put_refused (image_rows s) i l; rows = sym (put_row_past (image_rows s) i f l); room = refl; bytes = rw e }

pub record Add (s t : List ℕ) (r : Row) (answer : Result Unit StoreFault) : Type 0 where
  pub answered : answer ≡ add_answer (image_rows s) (room_of s)
  pub rows : image_rows t ≡ add_row (image_rows s) (room_of s) r
  pub room : room_of t ≡ room_of s
  pub bytes : t ≡ add_bytes s r

pub add_done : (s u t : List ℕ) (r : Row) → KeyFits r.key → FiguresFit r.figures → count_of s < room_of s → u ≡ spliced 31 (row_place (count_of s)) (row_bytes r) s → t ≡ put_at 2 5 (count_of s + 1) u → Add s t r (Ok tt)
add_done s u t r kf ff h is after =
    let d = image_add s r kf ff h in
    let whole : 7 + room_of s * 31 ≤ length s = room_long s (count_of s) h in
    let l : length u ≡ length s = ap length is ∙ length-spliced 31 (row_place (count_of s)) (row_bytes r) s (omega arith) (length-row_bytes r) in
    let t_is : t ≡ spliced 2 5 (bytes_of 2 (count_of s + 1)) (spliced 31 (row_place (count_of s)) (row_bytes r) s) = after ∙ written_within 2 5 (bytes_of 2 (count_of s + 1)) u (omega arith) ∙ ap (spliced 2 5 (bytes_of 2 (count_of s + 1))) is in
    let a = add_accepted (image_rows s) (room_of s) r (rw length-image_rows h) in
    let e : ltb (count_of s) (room_of s) ≡ true = lt-ltb (count_of s) (room_of s) h in
    record {
      answered = a.0;
      rows = ap image_rows t_is ∙ d.rows ∙ a.1;
      room = ap room_of t_is ∙ d.room;
      bytes = t_is ∙ rw e;
    }

pub add_not : (s : List ℕ) (r : Row) → room_of s ≤ count_of s → Add s s r (Err Full)
add_not s r h =
    let a = add_refused (image_rows s) (room_of s) r (rw length-image_rows h) in
    let e : ltb (count_of s) (room_of s) ≡ false = le-ltb (count_of s) (room_of s) h in
    record { answered = a.0; rows = a.1; room = refl; bytes = rw e }

-- the bytes of a put and of an add are those of the change that is carried out, if one is
pub put_changed : (s : List ℕ) (i : ℕ) (f : Figures) → put_bytes s i f ≡ changed change_bytes s (put_changes (image_rows s) i f)
put_changed s i f = by (ltb i (count_of s)) refl ∙ ap (λ (n : ℕ). changed change_bytes s (cond (ltb i n) (changes.Put i f ∷ []) [])) (sym (length-image_rows s))
  where
    by : (b : Bool) → ltb i (count_of s) ≡ b → put_bytes s i f ≡ changed change_bytes s (cond b (changes.Put i f ∷ []) [])
    by true e = refl
    by false e = rw e

pub add_changed : (s : List ℕ) (r : Row) → add_bytes s r ≡ changed change_bytes s (add_changes (image_rows s) (room_of s) r)
add_changed s r = by (ltb (count_of s) (room_of s)) refl ∙ ap (λ (n : ℕ). changed change_bytes s (cond (ltb n (room_of s)) (changes.Add r ∷ []) [])) (sym (length-image_rows s))
  where
    by : (b : Bool) → ltb (count_of s) (room_of s) ≡ b → add_bytes s r ≡ changed change_bytes s (cond b (changes.Add r ∷ []) [])
    by true e = refl
    by false e = rw e
