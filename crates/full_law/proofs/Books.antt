-- The rows beside the tally: one register's figures change, and the tally changes on that register alone.
use Rattle.std.proofs.Common.{◌≡◌, ℕ, Bool, true, false, List, map, Some, sym, refl, ap, ◌∙◌, subst, ⊎_elim}
use Rattle.std.specs.List.{slice_get}
use Rattle.std.proofs.lemmas.Bool.{cases_eq}
use Rattle.registers.specs.declared.key.Key.{Key}
use Rattle.registers.specs.declared.figures.Figures.{Figures}
use Rattle.registers.specs.declared.row.Row.{Row}
use Rattle.registers.specs.Registers.{same_key}
use Rattle.registers.specs.Stores.{put_row, with_figures}
use Rattle.full_law.specs.Tally.{Opened, Note, live_blocks, trades_leaving_rest_on}
use Rattle.full_law.proofs.Promises.{FairIn, Books}
use Rattle.full_law.proofs.Rows.{put_nth, put_other, put_keys, nth_map}

-- a row and its opening bear one key
pub opened_key : (rows : List Row) (opened : List Opened) (i : ℕ) (r : Row) (o : Opened) → map (λ (x : Row). x.key) rows ≡ map (λ (x : Opened). x.key) opened → slice_get rows i ≡ Some r → slice_get opened i ≡ Some o → o.key ≡ r.key
opened_key rows opened i r o e f g =
    let x = nth_map (λ (y : Row). y.key) rows i r f in
    let y = nth_map (λ (z : Opened). z.key) opened i o g in
    let w = ap (λ (z : List Key). slice_get z i) e in
    cc

false_from : (b : Bool) → (b ≡ true → ⊥) → b ≡ false
false_from true h = absurd (h refl)
false_from false h = refl

-- the row that stands at a place after a put
after_put : (rows : List Row) (i j : ℕ) (f : Figures) (r q : Row) → slice_get rows i ≡ Some r → slice_get (put_row rows i f) j ≡ Some q → ((j ≡ i) → q ≡ with_figures r f) × ((j ≡ i → ⊥) → slice_get rows j ≡ Some q)
after_put rows i j f r q e g = (
  λ s. let h = put_nth rows i f r e in let k = ap (slice_get (put_row rows i f)) s in cc,
  λ ne. sym (put_other rows i j f (λ s. ne (sym s))) ∙ g,
)

-- the key at a place stays
key_after : (rows : List Row) (i j : ℕ) (f : Figures) (r q : Row) → slice_get rows i ≡ Some r → slice_get (put_row rows i f) j ≡ Some q → (p : Row) × ((slice_get rows j ≡ Some p) × (p.key ≡ q.key))
key_after rows i j f r q e g =
    ⊎_elim
    (λ s. (r, (ap (slice_get rows) s ∙ e, sym (ap (λ (x : Row). x.key) ((after_put rows i j f r q e g).0 s)))))
    (λ ne. (q, ((after_put rows i j f r q e g).1 ne, refl)))
    (cases_eq j i)

module _ (reserve : ℕ) (opened : List Opened) (notes notes' : List Note) (leaving leaving' : List Key) (rows : List Row) (h : Books reserve opened notes leaving rows)
    (i : ℕ) (r : Row) (at : slice_get rows i ≡ Some r) (f : Figures)
    (elsewhere : (k : Key) → same_key r.key k ≡ false → (live_blocks k notes' ≡ live_blocks k notes) × (trades_leaving_rest_on k leaving' ≡ trades_leaving_rest_on k leaving))
    (here : (o : Opened) → o.key ≡ r.key → FairIn reserve notes leaving r.figures o → FairIn reserve notes' leaving' f o) where
  keeps_fair : (j : ℕ) (q : Row) (o : Opened) → slice_get (put_row rows i f) j ≡ Some q → slice_get opened j ≡ Some o → FairIn reserve notes' leaving' q.figures o
  keeps_fair j q o g ho =
      ⊎_elim
      (λ s.
      let ri : slice_get rows j ≡ Some r = ap (slice_get rows) s ∙ at in
      let k : o.key ≡ r.key = opened_key rows opened j r o h.keys ri ho in
      let n : FairIn reserve notes' leaving' f o = here o k (h.fair j r o ri ho) in
      subst (λ (x : Row). FairIn reserve notes' leaving' x.figures o) (sym ((after_put rows i j f r q at g).0 s)) n)
      (λ ne.
      let rj : slice_get rows j ≡ Some q = (after_put rows i j f r q at g).1 ne in
      let k : o.key ≡ q.key = opened_key rows opened j q o h.keys rj ho in
      let apart : same_key r.key o.key ≡ false = false_from (same_key r.key o.key) (λ t. ne (sym (h.apart i j r q at rj (ap (same_key r.key) (sym k) ∙ t)))) in
      let same = elsewhere o.key apart in
      rw (same.0, same.1) (h.fair j q o rj ho))
      (cases_eq j i)

  pub books_change : Books reserve opened notes' leaving' (put_row rows i f)
  books_change =
      record {
        keys = put_keys rows i f ∙ h.keys;
        apart = λ j k q p e g s.
            let x = key_after rows i j f r q at e in
            let y = key_after rows i k f r p at g in
            h.apart j k x.0 y.0 x.1.0 y.1.0 (ap (λ (a : Key). same_key a y.0.key) x.1.1 ∙ ap (same_key q.key) y.1.1 ∙ s);
        fair = keeps_fair;
        blank = λ k none.
            let free : (j : ℕ) (q : Row) → slice_get rows j ≡ Some q → same_key q.key k ≡ true → ⊥ = λ j q e s. nowhere k none j q e s in
            let off : same_key r.key k ≡ false = false_from (same_key r.key k) (λ t. free i r at t) in
            let same = elsewhere k off in
            let b = h.blank k free in
            (same.0 ∙ b.0, same.1 ∙ b.1);
      }
    where
      nowhere : (k : Key) → ((j : ℕ) (q : Row) → slice_get (put_row rows i f) j ≡ Some q → same_key q.key k ≡ true → ⊥) → (j : ℕ) (q : Row) → slice_get rows j ≡ Some q → same_key q.key k ≡ true → ⊥
      nowhere k none j q e s =
          ⊎_elim
          (λ t. let m : q ≡ r = let a = ap (slice_get rows) t in let b = at in cc in none j (with_figures r f) (ap (slice_get (put_row rows i f)) t ∙ put_nth rows i f r at) (ap (λ (x : Row). same_key x.key k) (sym m) ∙ s))
          (λ ne. none j q (put_other rows i j f (λ t. ne (sym t)) ∙ e) s)
          (cases_eq j i)
