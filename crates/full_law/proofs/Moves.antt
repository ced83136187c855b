-- One register moves: what the calls have in common.
use Rattle.std.proofs.Common.{◌≡◌, ℕ, ◌+◌, ◌≤◌, Bool, true, false, cond, eqb, List, ℤ, pos, ◌+ℤ◌, ◌-ℤ◌, Some, None, Option, Ok, sym, refl, ap, ◌∙◌, subst, arith}
use lib.Signed.{le_z}
use Rattle.std.specs.Int.{int_min}
use Rattle.std.proofs.lemmas.Int.{ints, clamps}
use Rattle.registers.specs.declared.key.Key.{Key}
use Rattle.registers.specs.declared.figures.Figures.{Figures}
use Rattle.registers.specs.declared.row.Row.{Row}
use Rattle.registers.specs.Registers.{same_key, in_range}
use Rattle.registers.specs.Stores.{put_row}
use Rattle.plans.specs.declared.refusal.Refusal.{Refusal}
use Rattle.plans.specs.Steps.{demand}
use Rattle.full.specs.declared.open_register.OpenRegister.{OpenRegister}
use Rattle.full.specs.OpenRegisters.{with_limit, with_blocked, with_figures_of, floor_of, covered, block_on, release_on, credit_on}
use Rattle.full_law.specs.Tally.{Opened, Note, live_blocks, trades_leaving_rest_on}
use Rattle.full_law.proofs.Promises.{Above, FairIn, Books, base_of, slack_of}
use Rattle.full_law.proofs.Books.{books_change}
use Rattle.full_law.proofs.Fairness.{above_more, Covers, fair_limit, fair_block, fair_freed}
use Rattle.plans.proofs.Passes.{passed, of_ok}
use Rattle.full_law.proofs.Rows.{key_same}
use Rattle.full_law.proofs.Steps.{Open}

-- what passes two checks
pub record Passed {X : Type 0} (a b : Bool) (x y : X) : Type 0 where
  pub first : a ≡ true
  pub second : b ≡ true
  pub same : x ≡ y

pub two_checks : {X : Type 0} (a b : Bool) (e f : Refusal) (x y : X) → demand a e (demand b f (Ok x)) ≡ Ok y → Passed a b x y
two_checks a b e f x y h =
    let p = passed a e _ y h in
    let q = passed b f _ y p.1 in
    record { first = p.0; second = q.0; same = of_ok q.1 }

pub credited : (h c : OpenRegister) (m : ℕ) → credit_on h m ≡ Ok c → with_figures_of h (with_limit h.figures (h.figures.limit +ℤ pos m)) ≡ c
unfolding credit_on
credited h c m e =
    let p : Passed (in_range h.figures) (in_range (with_limit h.figures (h.figures.limit +ℤ pos m))) (with_figures_of h (with_limit h.figures (h.figures.limit +ℤ pos m))) c = two_checks _ _ _ _ _ _ e in
    p.same

pub released : (h c : OpenRegister) (m : ℕ) → release_on h m ≡ Ok c → with_figures_of h (with_blocked h.figures (h.figures.blocked -ℤ pos m)) ≡ c
unfolding release_on
released h c m e =
    let p : Passed (in_range h.figures) (in_range (with_blocked h.figures (h.figures.blocked -ℤ pos m))) (with_figures_of h (with_blocked h.figures (h.figures.blocked -ℤ pos m))) c = two_checks _ _ _ _ _ _ e in
    p.same

pub blocked_on : (h c : OpenRegister) (m floor : ℕ) → block_on h m floor ≡ Ok c → Passed (in_range h.figures) (covered h.figures m floor) (with_figures_of h (with_blocked h.figures (h.figures.blocked +ℤ pos m))) c
unfolding block_on
blocked_on h c m floor e = two_checks _ _ _ _ _ _ e

-- the base lies below what a covered block leaves
pub base_floor : (k : Key) (opening reserve : ℕ) → Above (base_of k opening reserve) (pos (floor_of reserve k))
base_floor k opening reserve = by (eqb k.kind 1) (eqb k.kind 2)
  where
    by : (b c : Bool) → Above (cond b (Some (int_min (pos opening) (pos reserve))) (cond c (Some (pos 0)) None)) (pos (cond b reserve 0))
    by true c = omega (arith, ints, clamps)
    by false true = omega (arith, ints)
    by false false = tt

module _ (reserve : ℕ) (opened : List Opened) (notes : List Note) (leaving : List Key) (rows : List Row) (b : Books reserve opened notes leaving rows)
    (k : Key) (h : OpenRegister) (r : Open rows k h) where
  -- the limit changes and the blocked figure stays: what is left of the limit stays above the base
  pub relimited_books : (f : Figures) → f.blocked ≡ h.figures.blocked → ((opening : ℕ) → Above (base_of k opening reserve) (h.figures.limit -ℤ h.figures.blocked) → Above (base_of k opening reserve) (f.limit -ℤ h.figures.blocked)) → Books reserve opened notes leaving (put_row rows h.place f)
  relimited_books f eb leaves =
      books_change reserve opened notes notes leaving leaving rows b h.place r.row r.at f
      (λ j off. (refl, refl))
      (λ o ko g.
      let kk : k ≡ o.key = sym r.key ∙ sym ko in
      let old = subst (λ (x : Figures). FairIn reserve notes leaving x o) r.figures g in
      let left : Above (base_of o.key o.limit reserve) (f.limit -ℤ h.figures.blocked) = subst (λ (x : Key). Above (base_of x o.limit reserve) (h.figures.limit -ℤ h.figures.blocked) → Above (base_of x o.limit reserve) (f.limit -ℤ h.figures.blocked)) kk (leaves o.limit) old.free in
      let new = fair_limit (base_of o.key o.limit reserve) h.figures.limit h.figures.blocked (pos o.blocked) (live_blocks o.key notes) (slack_of o.key (trades_leaving_rest_on o.key leaving)) old f.limit left in
      rw eb new)

  -- the limit rises
  pub raised_books : (m : ℕ) (f : Figures) → f.limit ≡ h.figures.limit +ℤ pos m → f.blocked ≡ h.figures.blocked → Books reserve opened notes leaving (put_row rows h.place f)
  raised_books m f el eb = relimited_books f eb (λ opening a. above_more (base_of k opening reserve) (h.figures.limit -ℤ h.figures.blocked) (f.limit -ℤ h.figures.blocked) (omega (arith, ints)) a)

  -- a block: the notes grow by it on this register
  pub blocked_books : (m : ℕ) (notes' : List Note) → ((j : Key) → live_blocks j notes' ≡ live_blocks j notes + cond (same_key k j) m 0) → covered h.figures m (floor_of reserve k) ≡ true → Books reserve opened notes' leaving (put_row rows h.place (with_blocked h.figures (h.figures.blocked +ℤ pos m)))
  unfolding covered
  blocked_books m notes' grow cover =
      books_change reserve opened notes notes' leaving leaving rows b h.place r.row r.at (with_blocked h.figures (h.figures.blocked +ℤ pos m))
      (λ j off. (grow j ∙ ap (λ (t : Bool). live_blocks j notes + cond t m 0) (ap (λ (x : Key). same_key x j) (sym r.key) ∙ off) ∙ omega arith, refl))
      (λ o ko f.
      let kk : k ≡ o.key = sym r.key ∙ sym ko in
      let g : live_blocks o.key notes' ≡ live_blocks o.key notes + m = grow o.key ∙ ap (λ (t : Bool). live_blocks o.key notes + cond t m 0) (key_same k o.key kk) in
      let fl : Above (base_of o.key o.limit reserve) (pos (floor_of reserve k)) = subst (λ (x : Key). Above (base_of o.key o.limit reserve) (pos (floor_of reserve x))) (sym kk) (base_floor o.key o.limit reserve) in
      fair_block (base_of o.key o.limit reserve) h.figures.limit h.figures.blocked (pos o.blocked) (live_blocks o.key notes) (slack_of o.key (trades_leaving_rest_on o.key leaving))
      (subst (λ (x : Figures). FairIn reserve notes leaving x o) r.figures f) m (live_blocks o.key notes') g (leaves (base_of o.key o.limit reserve) (floor_of reserve k) m cover fl))
    where
      leaves : (base : Option ℤ) (floor u : ℕ) → le_z (pos floor) (h.figures.limit -ℤ (h.figures.blocked +ℤ pos u)) ≡ true → Above base (pos floor) → Above base (h.figures.limit -ℤ (h.figures.blocked +ℤ pos u))
      leaves base floor u c l = above_more base (pos floor) (h.figures.limit -ℤ (h.figures.blocked +ℤ pos u)) (omega (arith, ints)) l

  -- an order's rest falls: m is freed, and covers what is paid
  pub freed_books : (m paid more : ℕ) (notes' : List Note) (leaving' : List Key) → ((opening : ℕ) → Covers (base_of k opening reserve) paid m) →
      ((j : Key) → same_key k j ≡ false → (live_blocks j notes' ≡ live_blocks j notes) × (trades_leaving_rest_on j leaving' ≡ trades_leaving_rest_on j leaving)) →
      slack_of k (trades_leaving_rest_on k leaving') ≡ slack_of k (trades_leaving_rest_on k leaving) + more → live_blocks k notes' + m ≤ live_blocks k notes + more → live_blocks k notes ≤ live_blocks k notes' + m + more →
      (f : Figures) → f.limit ≡ h.figures.limit -ℤ pos paid → f.blocked ≡ h.figures.blocked -ℤ pos m → Books reserve opened notes' leaving' (put_row rows h.place f)
  freed_books m paid more notes' leaving' p elsewhere slack most least f el eb =
      books_change reserve opened notes notes' leaving leaving' rows b h.place r.row r.at f
      (λ j off. elsewhere j (ap (λ (x : Key). same_key x j) (sym r.key) ∙ off))
      (λ o ko g.
      let kk : k ≡ o.key = sym r.key ∙ sym ko in
      let old = subst (λ (x : Figures). FairIn reserve notes leaving x o) r.figures g in
      let new = fair_freed (base_of o.key o.limit reserve) h.figures.limit h.figures.blocked (pos o.blocked) (live_blocks o.key notes) (slack_of o.key (trades_leaving_rest_on o.key leaving)) old m paid (live_blocks o.key notes') more (slack_of o.key (trades_leaving_rest_on o.key leaving')) (subst (λ (x : Key). Covers (base_of x o.limit reserve) paid m) kk (p o.limit))
      (subst (λ (x : Key). slack_of x (trades_leaving_rest_on x leaving') ≡ slack_of x (trades_leaving_rest_on x leaving) + more) kk slack)
      (subst (λ (x : Key). live_blocks x notes' + m ≤ live_blocks x notes + more) kk most)
      (subst (λ (x : Key). live_blocks x notes ≤ live_blocks x notes' + m + more) kk least) in
      rw (el, eb) new)
