-- An opening keeps the promise.
use Rattle.std.proofs.Common.{◌≡◌, ℕ, zero, suc, ◌<◌, Bool, true, false, cond, not, ◌&&◌, ◌||◌, eqb, ltb, ◌⊎◌, List, [], ◌∷◌, ◌++◌, length, pos, ◌-ℤ◌, is_some, Some, None, Option, sym, refl, ap, ◌∙◌, subst, inl, inr, ⊎_elim, arith}
use lib.ListN.{length-map}
use Rattle.std.specs.List.{slice_get}
use Rattle.std.specs.Int.{int_min}
use Rattle.std.proofs.lemmas.List.{map_push}
use Rattle.std.proofs.lemmas.Int.{ints, clamps}
use Rattle.std.proofs.lemmas.Bool.{and_parts, eqb-true}
use Rattle.seek.proofs.Cases.{no_case}
use Rattle.seek.specs.Place.{place_of, on_by}
use Rattle.registers.specs.declared.key.Key.{Key}
use Rattle.registers.specs.declared.figures.Figures.{Figures}
use Rattle.registers.specs.declared.row.Row.{Row}
use Rattle.registers.specs.Registers.{same_key}
use Rattle.registers.specs.Stores.{place_for}
use Rattle.full.specs.declared.opening.Opening.{Opening}
use Rattle.full.specs.Orders.{admitted_as}
use Rattle.full.specs.Terms.{code_ok, limit_ok, security_ok}
use Rattle.full.specs.Blocks.{cash_key, holding_key}
use Rattle.full.specs.State.{State}
use Rattle.full.specs.Calls.{opening_key, enter_of, open_of, beginning}
use Rattle.full.specs.declared.call.Call.TheVariants.{Open}
use Rattle.full_law.specs.Tally.{Tally, Opened, Note, entered}
use Rattle.full_law.proofs.Promises.{Above, FairIn, Books, Promise, base_of, slack_of}
use Rattle.full_law.proofs.Fairness.{fair_open}
use Rattle.plans.proofs.Keeping.{Keeps, by_demand, by_there}
use Rattle.full_law.proofs.Rows.{same_key_lem, key_same}

-- what stands at a place of a list with one more
pub push_nth : {X : Type 0} (xs : List X) (y z : X) (i : ℕ) → slice_get (xs ++ y ∷ []) i ≡ Some z → ((i ≡ length xs) × (z ≡ y)) ⊎ (slice_get xs i ≡ Some z)
push_nth [] y z zero e = inl (refl, cc)
push_nth [] y z (suc i) e = absurd (let w : ◌≡◌ {A = ℕ} 0 1 = cc in omega arith)
push_nth (x ∷ xs) y z zero e = inr e
push_nth (x ∷ xs) y z (suc i) e = ⊎_elim (λ p. inl (ap suc p.0, p.1)) inr (push_nth xs y z i e)

pub nth_within : {X : Type 0} (xs : List X) (x : X) (i : ℕ) → slice_get xs i ≡ Some x → i < length xs
nth_within [] x i e = absurd (let w : ◌≡◌ {A = ℕ} 0 1 = cc in omega arith)
nth_within (y ∷ ys) x zero e = omega arith
nth_within (y ∷ ys) x (suc i) e = omega (arith, nth_within ys x i e)

pub nth_last : {X : Type 0} (xs : List X) (y : X) → slice_get (xs ++ y ∷ []) (length xs) ≡ Some y
nth_last [] y = refl
nth_last (x ∷ xs) y = nth_last xs y

pub nth_kept : {X : Type 0} (xs : List X) (y x : X) (i : ℕ) → slice_get xs i ≡ Some x → slice_get (xs ++ y ∷ []) i ≡ Some x
nth_kept [] y x i e = absurd (let w : ◌≡◌ {A = ℕ} 0 1 = cc in omega arith)
nth_kept (z ∷ zs) y x zero e = e
nth_kept (z ∷ zs) y x (suc i) e = nth_kept zs y x i e

-- a search that found nothing: no row bears the key
none_by : (p : Row → Bool) (r : Row) (o : Option ℕ) (b : Bool) → p r ≡ b → cond b (Some 0) (on_by 1 o) ≡ None → (p r ≡ false) × (o ≡ None)
none_by p r None false e f = (e, refl)
none_by p r (Some i) false e f = absurd (let w : ◌≡◌ {A = ℕ} 0 1 = cc in omega arith)
none_by p r o true e f = absurd (let w : ◌≡◌ {A = ℕ} 0 1 = cc in omega arith)

pub not_found : (p : Row → Bool) (rs : List Row) → place_of p rs ≡ None → (i : ℕ) (r : Row) → slice_get rs i ≡ Some r → p r ≡ true → ⊥
not_found p [] e i r f t = let w : ◌≡◌ {A = ℕ} 0 1 = cc in omega arith
not_found p (q ∷ rs) e zero r f t = let n = none_by p q (place_of p rs) (p q) refl e in let s : q ≡ r = cc in let g = n.0 in let w : ◌≡◌ {A = ℕ} 0 1 = absurd_from (ap p s) g t in omega arith
  where
    absurd_from : p q ≡ p r → p q ≡ false → p r ≡ true → ◌≡◌ {A = ℕ} 0 1
    absurd_from a b c = cc
not_found p (q ∷ rs) e (suc i) r f t = not_found p rs (none_by p q (place_of p rs) (p q) refl e).1 i r f t

pub is_none : (o : Option ℕ) → not (is_some o) ≡ true → o ≡ None
is_none None e = refl
is_none (Some i) e = absurd (let w : ◌≡◌ {A = ℕ} 0 1 = cc in omega arith)

-- the key that an opening names is made of its arguments, and is of kind 1 or 2
key_by : (o : Opening) (k : Key) (a b c : Bool) (p1 p2 : Bool) → (p1 ≡ true → (o.kind ≡ 1) × (o.security ≡ 0)) → (p2 ≡ true → o.kind ≡ 2) → cond (a && (b && c)) (cond p1 (Some (cash_key o.code)) (cond p2 (Some (holding_key o.code o.security)) None)) None ≡ Some k → k ≡ record { kind = o.kind; code = o.code; security = o.security }
key_by o k true true true true p2 f g e = let x = f refl in let y = x.0 in let z = x.1 in key_as k (cc) y z
  where
    key_as : (j : Key) → cash_key o.code ≡ j → o.kind ≡ 1 → o.security ≡ 0 → j ≡ record { kind = o.kind; code = o.code; security = o.security }
    key_as j s u v = sym s ∙ (let w : ◌≡◌ {A = Key} (record { kind = 1; code = o.code; security = 0 }) (record { kind = o.kind; code = o.code; security = o.security }) = cc in w)
key_by o k true true true false true f g e = let x = g refl in key_as k (cc) x
  where
    key_as : (j : Key) → holding_key o.code o.security ≡ j → o.kind ≡ 2 → j ≡ record { kind = o.kind; code = o.code; security = o.security }
    key_as j s u = sym s ∙ (let w : ◌≡◌ {A = Key} (record { kind = 2; code = o.code; security = o.security }) (record { kind = o.kind; code = o.code; security = o.security }) = cc in w)
key_by o k true true true false false f g e = absurd (let w : ◌≡◌ {A = ℕ} 0 1 = cc in omega arith)
key_by o k true true false p1 p2 f g e = absurd (let w : ◌≡◌ {A = ℕ} 0 1 = cc in omega arith)
key_by o k true false c p1 p2 f g e = absurd (let w : ◌≡◌ {A = ℕ} 0 1 = cc in omega arith)
key_by o k false b c p1 p2 f g e = absurd (let w : ◌≡◌ {A = ℕ} 0 1 = cc in omega arith)

pub opening_key_lem : (o : Opening) (k : Key) → opening_key o ≡ Some k → k ≡ record { kind = o.kind; code = o.code; security = o.security }
unfolding opening_key
opening_key_lem o k e =
    key_by o k (code_ok o.code) (limit_ok o.limit) (eqb o.margin 0) (eqb o.kind 1 && eqb o.security 0) (eqb o.kind 2 && security_ok o.security)
    (λ t. let p = and_parts (eqb o.kind 1) (eqb o.security 0) t in (eqb-true o.kind 1 p.0, eqb-true o.security 0 p.1))
    (λ t. let p = and_parts (eqb o.kind 2) (security_ok o.security) t in eqb-true o.kind 2 p.0) e

slack_none : (k : Key) → slack_of k 0 ≡ 0
slack_none k = by (eqb k.kind 2)
  where
    by : (b : Bool) → ◌≡◌ {A = ℕ} (cond b 0 0) 0
    by true = refl
    by false = refl

base_limit : (k : Key) (limit reserve : ℕ) → Above (base_of k limit reserve) (pos limit -ℤ pos 0)
base_limit k limit reserve = by (eqb k.kind 1) (eqb k.kind 2)
  where
    by : (b c : Bool) → Above (cond b (Some (int_min (pos limit) (pos reserve))) (cond c (Some (pos 0)) None)) (pos limit -ℤ pos 0)
    by true c = omega (arith, ints, clamps)
    by false true = omega (arith, ints)
    by false false = tt

-- margins are 0
margin_by : (k : Key) (a b c : Bool) (x : Option Key) → cond (a && (b && c)) x None ≡ Some k → c ≡ true
margin_by k true true true x e = refl
margin_by k true true false x e = no_case (cc)
margin_by k true false c x e = no_case (cc)
margin_by k false b c x e = no_case (cc)

pub margin_none : (o : Opening) (k : Key) → opening_key o ≡ Some k → o.margin ≡ 0
unfolding opening_key
margin_none o k e = eqb-true o.margin 0 (margin_by k (code_ok o.code) (limit_ok o.limit) (eqb o.margin 0) _ e)

module _ (reserve : ℕ) (opened : List Opened) (notes : List Note) (leaving : List Key) (rows : List Row) (h : Books reserve opened notes leaving rows)
    (k : Key) (limit blocked : ℕ) (absent : (i : ℕ) (r : Row) → slice_get rows i ≡ Some r → same_key r.key k ≡ true → ⊥)
    (f : Figures) (eb : f.blocked ≡ pos blocked) (leaves : Above (base_of k limit reserve) (f.limit -ℤ f.blocked)) where
  abbrev new : Opened
  new = record { key = k; limit = limit; blocked = blocked }

  abbrev begins : Row
  begins = record { key = k; figures = f }

  same_length : length rows ≡ length opened
  same_length = sym (length-map rows (λ (r : Row). r.key)) ∙ ap length h.keys ∙ length-map opened (λ (o : Opened). o.key)

  begins_fair : FairIn reserve notes leaving f new
  begins_fair =
      let b = h.blank k absent in
      rw (b.0, b.1, slack_none k) (fair_open (base_of k limit reserve) f.limit f.blocked blocked eb leaves)

  open_fair : (i : ℕ) (r : Row) (o : Opened) → slice_get (rows ++ begins ∷ []) i ≡ Some r → slice_get (opened ++ new ∷ []) i ≡ Some o → FairIn reserve notes leaving r.figures o
  open_fair i r o e f =
      ⊎_elim
      (λ p. ⊎_elim
      (λ q. subst (λ (x : Opened). FairIn reserve notes leaving r.figures x) (sym q.1) (subst (λ (x : Row). FairIn reserve notes leaving x.figures new) (sym p.1) begins_fair))
      (λ g. absurd (omega (arith, p.0, nth_within opened o i g, same_length)))
      (push_nth opened new o i f))
      (λ g. ⊎_elim
      (λ q. absurd (omega (arith, q.0, nth_within rows r i g, same_length)))
      (λ g2. h.fair i r o g g2)
      (push_nth opened new o i f))
      (push_nth rows begins r i e)

  open_apart : (i j : ℕ) (r q : Row) → slice_get (rows ++ begins ∷ []) i ≡ Some r → slice_get (rows ++ begins ∷ []) j ≡ Some q → same_key r.key q.key ≡ true → i ≡ j
  open_apart i j r q e f s =
      ⊎_elim
      (λ a. ⊎_elim
      (λ b. a.0 ∙ sym b.0)
      (λ g. absurd (absent j q g (key_same q.key k (sym (same_key_lem r.key q.key s) ∙ ap (λ (x : Row). x.key) a.1))))
      (push_nth rows begins q j f))
      (λ g. ⊎_elim
      (λ b. absurd (absent i r g (key_same r.key k (same_key_lem r.key q.key s ∙ ap (λ (x : Row). x.key) b.1))))
      (λ g2. h.apart i j r q g g2 s)
      (push_nth rows begins q j f))
      (push_nth rows begins r i e)

  pub open_books : Books reserve (opened ++ new ∷ []) notes leaving (rows ++ begins ∷ [])
  open_books =
      record {
        keys = map_push (λ (r : Row). r.key) rows begins ∙ ap (λ (ks : List Key). ks ++ k ∷ []) h.keys ∙ sym (map_push (λ (o : Opened). o.key) opened new);
        apart = open_apart;
        fair = open_fair;
        blank = λ j none. h.blank j (λ i r e s. none i r (nth_kept rows begins r i e) s);
      }

-- the tally with a register as it was opened
abbrev pub with_opened : Tally → Opened → Tally
with_opened t x = record { ratios = t.ratios; opened = t.opened ++ x ∷ []; notes = t.notes; trades_leaving_rest = t.trades_leaving_rest }

module _ (reserve : ℕ) (t : Tally) (s : State) (h : Promise reserve t s) (r : Row) (limit blocked : ℕ) (eb : r.figures.blocked ≡ pos blocked) (leaves : Above (base_of r.key limit reserve) (r.figures.limit -ℤ r.figures.blocked)) where
  pub enter_keeps : Keeps (Promise reserve (with_opened t (record { key = r.key; limit = limit; blocked = blocked }))) (enter_of s r)
  unfolding enter_of
  enter_keeps =
      by_demand (Promise reserve _) (not (is_some (place_for r.key s.rows))) _ _ λ free.
      by_demand (Promise reserve _) (ltb (length s.rows) s.room) _ _ λ _.
      record {
        reserved = h.reserved;
        ratios = h.ratios;
        orders = h.orders;
        books = open_books reserve t.opened t.notes t.trades_leaving_rest s.rows h.books r.key limit blocked (not_found (λ (q : Row). same_key q.key r.key) s.rows (is_none (place_for r.key s.rows) free)) r.figures eb leaves;
      }

module _ (reserve : ℕ) (t : Tally) (s : State) (h : Promise reserve t s) (o : Opening) where
  pub open_keeps : Keeps (Promise reserve (entered t (Open o))) (open_of s o)
  unfolding open_of
  open_keeps =
      by_there (Promise reserve (entered t (Open o))) (opening_key o) _ _ λ k ek.
      by_demand (Promise reserve (entered t (Open o))) (eqb k.kind 1 || is_some (admitted_as s.securities k.security)) _ _ λ _.
      subst (λ (j : Key). Keeps (Promise reserve (with_opened t (record { key = j; limit = o.limit; blocked = o.margin }))) (enter_of s (beginning k o.limit))) (opening_key_lem o k ek)
      (enter_keeps reserve t s h (beginning k o.limit) o.limit o.margin (ap pos (sym (margin_none o k ek))) (base_limit k o.limit reserve))
