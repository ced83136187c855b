-- Rows whose limits do not fall, while keys and blocked figures stay, keep what is said of them.
use Rattle.std.proofs.Common.{◌≡◌, ℕ, zero, suc, List, [], ◌∷◌, map, pos, ◌-ℤ◌, ◌≤ℤ◌, Some, None, Option, sym, refl, ap, ◌∙◌, arith}
use Rattle.std.specs.List.{slice_get}
use Rattle.std.proofs.lemmas.Int.{ints}
use Rattle.seek.proofs.Cases.{no_case}
use Rattle.registers.specs.declared.key.Key.{Key}
use Rattle.registers.specs.declared.figures.Figures.{Figures}
use Rattle.registers.specs.declared.row.Row.{Row}
use Rattle.registers.specs.Registers.{same_key}
use Rattle.registers.specs.Stores.{put_row}
use Rattle.full.specs.OpenRegisters.{FiguresAt}
use Rattle.full_law.specs.Tally.{Opened, Note, live_blocks, trades_leaving_rest_on}
use Rattle.full_law.proofs.Fairness.{above_more, fair_limit}
use Rattle.full_law.proofs.Promises.{Books, FairIn, base_of, slack_of}

pub record RowRaised (r q : Row) : Type 0 where
  pub key : q.key ≡ r.key
  pub blocked : q.figures.blocked ≡ r.figures.blocked
  pub limit : r.figures.limit ≤ℤ q.figures.limit

abbrev pub Raised : List Row → List Row → Type 0
Raised [] [] = Unit {0}
Raised [] (q ∷ qs) = ⊥
Raised (r ∷ rs) [] = ⊥
Raised (r ∷ rs) (q ∷ qs) = RowRaised r q × Raised rs qs

pub row_same : (r : Row) → RowRaised r r
row_same r = record { key = refl; blocked = refl; limit = omega (arith, ints) }

same_rows : (rs : List Row) → Raised rs rs
same_rows [] = tt
same_rows (r ∷ rs) = (row_same r, same_rows rs)

-- a put at a place, which leaves limit and blocked figure
pub put_raised : (rs : List Row) (i : ℕ) (f g : Figures) → FiguresAt rs i f → g.limit ≡ f.limit → g.blocked ≡ f.blocked → Raised rs (put_row rs i g)
put_raised [] i f g e l b = tt
put_raised (r ∷ rs) zero f g e l b =
    let s : r.figures ≡ f = cc in
    (record { key = refl; blocked = b ∙ sym (ap (λ (x : Figures). x.blocked) s); limit = omega (arith, ints, l, ap (λ (x : Figures). x.limit) s) }, same_rows rs)
put_raised (r ∷ rs) (suc i) f g e l b = (row_same r, put_raised rs i f g e l b)

raised_keys : (rs qs : List Row) → Raised rs qs → map (λ (r : Row). r.key) qs ≡ map (λ (r : Row). r.key) rs
raised_keys [] [] h = refl
raised_keys [] (q ∷ qs) h = absurd h
raised_keys (r ∷ rs) [] h = absurd h
raised_keys (r ∷ rs) (q ∷ qs) h = let e = h.0.key in let g = raised_keys rs qs h.1 in cc

-- place by place
abbrev Beneath : Option Row → Option Row → Type 0
Beneath None None = Unit {0}
Beneath None (Some q) = ⊥
Beneath (Some r) None = ⊥
Beneath (Some r) (Some q) = RowRaised r q

raised_at : (rs qs : List Row) (i : ℕ) → Raised rs qs → Beneath (slice_get rs i) (slice_get qs i)
raised_at [] [] i h = tt
raised_at [] (q ∷ qs) i h = absurd h
raised_at (r ∷ rs) [] i h = absurd h
raised_at (r ∷ rs) (q ∷ qs) zero h = h.0
raised_at (r ∷ rs) (q ∷ qs) (suc i) h = raised_at rs qs i h.1

was_there : (x y : Option Row) (q : Row) → y ≡ Some q → Beneath x y → (r : Row) × ((x ≡ Some r) × RowRaised r q)
was_there None None q e h = no_case (cc)
was_there None (Some p) q e h = absurd h
was_there (Some r) None q e h = absurd h
was_there (Some r) (Some p) q e h = let s : p ≡ q = cc in (r, (refl, rw (← s) h))

is_there : (x y : Option Row) (r : Row) → x ≡ Some r → Beneath x y → (q : Row) × ((y ≡ Some q) × RowRaised r q)
is_there None None r e h = no_case (cc)
is_there None (Some p) r e h = absurd h
is_there (Some p) None r e h = absurd h
is_there (Some p) (Some q) r e h = let s : p ≡ r = cc in (q, (refl, rw (← s) h))

module _ (reserve : ℕ) (opened : List Opened) (notes : List Note) (leaving : List Key) (rs qs : List Row) (h : Raised rs qs) (b : Books reserve opened notes leaving rs) where
  before : (i : ℕ) (q : Row) → slice_get qs i ≡ Some q → (r : Row) × ((slice_get rs i ≡ Some r) × RowRaised r q)
  before i q e = was_there (slice_get rs i) (slice_get qs i) q e (raised_at rs qs i h)

  after : (i : ℕ) (r : Row) → slice_get rs i ≡ Some r → (q : Row) × ((slice_get qs i ≡ Some q) × RowRaised r q)
  after i r e = is_there (slice_get rs i) (slice_get qs i) r e (raised_at rs qs i h)

  fair_raised : (r q : Row) (o : Opened) → RowRaised r q → FairIn reserve notes leaving r.figures o → FairIn reserve notes leaving q.figures o
  fair_raised r q o z f =
      let base = base_of o.key o.limit reserve in
      let new = fair_limit base r.figures.limit r.figures.blocked (pos o.blocked) (live_blocks o.key notes) (slack_of o.key (trades_leaving_rest_on o.key leaving)) f q.figures.limit
      (above_more base (r.figures.limit -ℤ r.figures.blocked) (q.figures.limit -ℤ r.figures.blocked) (omega (arith, ints, z.limit)) f.free) in
      rw z.blocked new

  pub raised_books : Books reserve opened notes leaving qs
  raised_books =
      record {
        keys = raised_keys rs qs h ∙ b.keys;
        apart = λ i j q p e g s.
            let x = before i q e in
            let y = before j p g in
            b.apart i j x.0 y.0 x.1.0 y.1.0 (ap (λ (k : Key). same_key k y.0.key) (sym x.1.1.key) ∙ ap (same_key q.key) (sym y.1.1.key) ∙ s);
        fair = λ i q o e ho. let x = before i q e in fair_raised x.0 q o x.1.1 (b.fair i x.0 o x.1.0 ho);
        blank = λ k none. b.blank k (λ i r e s. let y = after i r e in none i y.0 y.1.0 (ap (λ (j : Key). same_key j k) y.1.1.key ∙ s));
      }
