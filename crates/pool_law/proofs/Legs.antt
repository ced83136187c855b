-- The legs of obligations stay owed until they are settled, once: what entering an obligation and settling a leg do to
-- the table, on plain tables and lists.
use Rattle.std.proofs.Common.{◌≡◌, ℕ, zero, suc, ◌+◌, ◌<◌, ◌≤◌, Bool, true, false, cond, eqb, List, ◌∷◌, length, get_or, set, Some, None, Ok, Err, Option, Result, is_none, sym, refl, ap, ◌∙◌, subst, arith}
use Rattle.std.proofs.lemmas.Bool.{eqb-true, eq-eqb}
use Rattle.seek.proofs.Cases.{no_case}
use Rattle.plans.specs.declared.refusal.Refusal.{Refusal}
use Rattle.plans.proofs.Passes.{of_ok}
use Rattle.full_law.specs.Lists.{find_by}
use Rattle.full_law.proofs.Slots.{one, count_cons, search_at}
use Rattle.full_law.proofs.Steps.{stepped_there}
use Rattle.partial.specs.declared.obligation.Obligation.{Obligation}
use Rattle.partial.specs.declared.stage.Stage.{Stage}
use Rattle.partial.specs.declared.stage.Stage.TheVariants.{BothOwed, MoneyOwed, SecuritiesOwed}
use Rattle.partial.specs.Obligations.{has_number, free_place, place_of_obligation}
use Rattle.partial_law.specs.Law.{owed_under, places_under}
use Rattle.partial_law.specs.Tally.{trade_number}
use Rattle.partial_law.proofs.Places.{off, places_set, under_here, under_other, found_under, unowed, was_none}
use Rattle.pool.specs.declared.leg.Leg.{Leg}
use Rattle.pool.specs.declared.leg.Leg.TheVariants.{Securities, Money}
use Rattle.pool.specs.declared.placed_obligation.PlacedObligation.{PlacedObligation}
use Rattle.pool.specs.Calls.{found_of}
use Rattle.pool.specs.Stages.{settled, staged, stage_after, with_stage}
use Rattle.plans.specs.Steps.{ok_as}
use Rattle.pool_law.specs.Law.{left_of, times}
use Rattle.pool_law.specs.Tally.{Tally, numbers_settled}
use Rattle.pool_law.proofs.Promises.{Legs, Settled}

-- the noted obligations come to others, under whose numbers nothing is missing that was there
settled_among : (xs ys : List Obligation) (ns : List ℕ) → ((n : ℕ) → find_by trade_number n ys ≡ None → find_by trade_number n xs ≡ None) → Settled xs ns → Settled ys ns
settled_among xs ys ns f s = record { once = s.once; noted = λ n e. s.noted n (f n e) }

pub legs_among : (numbers : Leg → List ℕ) (xs ys : List Obligation) (os : List (Option Obligation)) → ((n : ℕ) → find_by trade_number n ys ≡ find_by trade_number n xs) → Legs numbers xs os → Legs numbers ys os
legs_among numbers xs ys os f h =
    record {
      owed = λ n. h.owed n ∙ ap (left_of (times n (numbers Securities)) (times n (numbers Money))) (sym (f n));
      once = h.once;
      settled = λ leg. settled_among xs ys (numbers leg) (λ n e. sym (f n) ∙ e) (h.settled leg);
    }

-- what is left, by counts that are the same
left_same : (d e p q : ℕ) (x : Option Obligation) → d ≡ e → p ≡ q → left_of d p x ≡ left_of e q x
left_same d e p q x f g = cc

-- an obligation of a new number comes into a free place, with both legs owed
module _ (numbers : Leg → List ℕ) (xs ys : List Obligation) (os : List (Option Obligation)) (h : Legs numbers xs os) (o : Obligation) (i : ℕ)
    (fi : free_place os ≡ Some i) (both : o.stage ≡ BothOwed) (new : find_by trade_number o.number xs ≡ None)
    (f : (n : ℕ) → find_by trade_number n ys ≡ cond (eqb o.number n) (Some o) (find_by trade_number n xs)) where
  within : i < length os
  within = (search_at is_none os i fi).0

  free : get_or os i None ≡ None
  free = was_none (get_or os i None) (search_at is_none os i fi).1

  abbrev left_with : ℕ → Option Obligation → Option Obligation
  left_with n = left_of (times n (numbers Securities)) (times n (numbers Money))

  nowhere : places_under o.number os ≡ 0
  nowhere = unowed o.number os (h.owed o.number ∙ ap (left_with o.number) new)

  owed_by : (n : ℕ) (b : Bool) → eqb o.number n ≡ b → owed_under n (set os i (Some o)) ≡ left_with n (cond b (Some o) (find_by trade_number n xs))
  owed_by n true e =
      subst (λ (m : ℕ). owed_under m (set os i (Some o)) ≡ left_with m (Some o)) (eqb-true o.number n e)
      (under_here o.number os i (Some o) (omega (arith, nowhere)) within
      ∙ ap (λ (b : Bool). cond b (Some o) None) (eq-eqb o.number o.number refl)
      ∙ ap (λ (s : Stage). Some (with_stage o s)) both
      ∙ left_same 0 _ 0 _ (Some o) (sym ((h.settled Securities).noted o.number new)) (sym ((h.settled Money).noted o.number new)))
  owed_by n false e = under_other n os i (Some o) (ap (has_number n) free) e ∙ h.owed n

  once_by : (n : ℕ) (b : Bool) → eqb o.number n ≡ b → places_under n (set os i (Some o)) ≡ places_under n os + one b → places_under n (set os i (Some o)) ≤ 1
  once_by n true e p = omega (arith, p, ap (λ (m : ℕ). places_under m os) (sym (eqb-true o.number n e)) ∙ nowhere)
  once_by n false e p = omega (arith, p, h.once n)

  counted : (n : ℕ) → places_under n (set os i (Some o)) ≡ places_under n os + one (eqb o.number n)
  counted n = let a = places_set n os i (Some o) within in let b = ap (λ (x : Option Obligation). one (has_number n x)) free in omega (arith, a, b)

  still_none : (n : ℕ) (b : Bool) → cond b (Some o) (find_by trade_number n xs) ≡ None → find_by trade_number n xs ≡ None
  still_none n true e = no_case (cc)
  still_none n false e = e

  pub legs_entered : Legs numbers ys (set os i (Some o))
  legs_entered =
      record {
        owed = λ n. owed_by n (eqb o.number n) refl ∙ ap (left_with n) (sym (f n));
        once = λ n. once_by n (eqb o.number n) refl (counted n);
        settled = λ leg. settled_among xs ys (numbers leg) (λ n e. still_none n (eqb o.number n) (sym (f n) ∙ e)) (h.settled leg);
      }

-- a found obligation: its place holds it, under its number
pub record Found (os : List (Option Obligation)) (n : ℕ) (f : PlacedObligation) : Type 0 where
  pub within : f.place < length os
  pub holds : get_or os f.place None ≡ Some f.obligation
  pub bears : f.obligation.number ≡ n
  pub under : owed_under n os ≡ Some f.obligation

module _ (os : List (Option Obligation)) (n : ℕ) (f : PlacedObligation) (once : places_under n os ≤ 1) where
  found_at : (i : ℕ) (o : Obligation) → place_of_obligation n os ≡ Some i → get_or os i None ≡ Some o → ◌≡◌ {A = PlacedObligation} (record { place = i; obligation = o }) f → Found os n f
  found_at i o p e s =
      let a = search_at (has_number n) os i p in
      subst (Found os n) s (record { within = a.0; holds = e; bears = eqb-true o.number n (ap (has_number n) (sym e) ∙ a.1); under = found_under n os i once p ∙ e })

  pub found_held : found_of os n ≡ Ok f → Found os n f
  unfolding found_of
  found_held e =
      let i = stepped_there (place_of_obligation n os) _ _ f e in
      let o = stepped_there (get_or os i.0 None) _ _ f i.1.1 in
      found_at i.0 o.0 i.1.0 o.1.0 (of_ok o.1.1)

-- whether a leg is the one that is settled
abbrev is_leg : Leg → Leg → Bool
is_leg Securities Securities = true
is_leg Securities Money = false
is_leg Money Securities = false
is_leg Money Money = true

is_leg_lem : (l leg : Leg) → is_leg l leg ≡ true → l ≡ leg
is_leg_lem Securities Securities e = refl
is_leg_lem Securities Money e = no_case (cc)
is_leg_lem Money Securities e = no_case (cc)
is_leg_lem Money Money e = refl

-- the count of a leg, of both
abbrev pub count : Leg → ℕ → ℕ → ℕ
count Securities d p = d
count Money d p = p

pub count_is : (leg : Leg) (f : Leg → ℕ) → count leg (f Securities) (f Money) ≡ f leg
count_is Securities f = refl
count_is Money f = refl

-- a leg's count and its numbers, where it is the leg that is settled, and where it is not
abbrev more : Bool → ℕ → ℕ
more true k = suc k
more false k = k

abbrev joined : Bool → ℕ → List ℕ → List ℕ
joined true n ns = n ∷ ns
joined false n ns = ns

-- a leg that may be settled was not settled before, and what is left of its obligation is what the counts say then
abbrev SettledNow : Leg → ℕ → ℕ → Option Obligation → Option Obligation → Type 0
SettledNow leg d p x left = (count leg d p ≡ 0) × (left_of (more (is_leg Securities leg) d) (more (is_leg Money leg) p) x ≡ left)

ok_same : (x y : Option Obligation) → ◌≡◌ {A = Result (Option Obligation) Refusal} (Ok x) (Ok y) → x ≡ y
ok_same x y e = cc

some_same : (x y : Obligation) → Some x ≡ Some y → x ≡ y
some_same x y e = cc

-- by what the counts say is left before
settled_by : (leg : Leg) (d p : ℕ) (o f : Obligation) (left : Option Obligation) → left_of d p (Some o) ≡ Some f → ((z : Obligation) → z ≡ f → settled z leg ≡ Ok left) → SettledNow leg d p (Some o) left
settled_by Securities zero zero o f left e g = (refl, ok_same _ left (g (with_stage o BothOwed) (some_same _ f e)))
settled_by Money zero zero o f left e g = (refl, ok_same _ left (g (with_stage o BothOwed) (some_same _ f e)))
settled_by Securities (suc d) zero o f left e g = let h = g (with_stage o MoneyOwed) (some_same _ f e) in no_case (cc)
settled_by Money (suc d) zero o f left e g = (refl, ok_same _ left (g (with_stage o MoneyOwed) (some_same _ f e)))
settled_by Securities zero (suc p) o f left e g = (refl, ok_same _ left (g (with_stage o SecuritiesOwed) (some_same _ f e)))
settled_by Money zero (suc p) o f left e g = let h = g (with_stage o SecuritiesOwed) (some_same _ f e) in no_case (cc)
settled_by leg (suc d) (suc p) o f left e g = no_case (cc)

settled_now : (leg : Leg) (d p : ℕ) (x : Option Obligation) (f : Obligation) (left : Option Obligation) → left_of d p x ≡ Some f → settled f leg ≡ Ok left → SettledNow leg d p x left
settled_now leg d p None f left e g = no_case (cc)
settled_now leg d p (Some o) f left e g = settled_by leg d p o f left e (λ z s. ap (λ (y : Obligation). settled y leg) s ∙ g)

-- an obligation of which something is left was noted
is_noted : (d p : ℕ) (x : Option Obligation) (f : Obligation) → left_of d p x ≡ Some f → x ≡ None → ⊥
is_noted d p None f e g = no_case (cc)
is_noted d p (Some o) f e g = no_case (cc)

-- what a settled leg leaves bears the number of its obligation, if anything is left
staged_as : (o : Obligation) (r : Result (Option Stage) Refusal) (left : Option Obligation) → ok_as (staged o) r ≡ Ok left → (st : Option Stage) × (staged o st ≡ left)
staged_as o (Err e) left g = no_case (cc)
staged_as o (Ok st) left g = (st, ok_same _ left g)

staged_off : (m : ℕ) (o : Obligation) (st : Option Stage) → eqb o.number m ≡ false → has_number m (staged o st) ≡ false
staged_off m o None e = refl
staged_off m o (Some st) e = e

staged_few : (m : ℕ) (o : Obligation) (st : Option Stage) → one (has_number m (staged o st)) ≤ one (eqb o.number m)
staged_few m o None = omega arith
staged_few m o (Some st) = omega arith

staged_on : (o : Obligation) (st : Option Stage) → cond (has_number o.number (staged o st)) (staged o st) None ≡ staged o st
staged_on o None = refl
staged_on o (Some st) = ap (λ (b : Bool). cond b (Some (with_stage o st)) None) (eq-eqb o.number o.number refl)

-- the tally once a leg is settled
abbrev pub settled_with : Leg → ℕ → Tally → Tally
settled_with leg n t = record t { deliveries = joined (is_leg Securities leg) n t.deliveries; payments = joined (is_leg Money leg) n t.payments }

pub numbers_with : (leg : Leg) (n : ℕ) (t : Tally) (l : Leg) → numbers_settled (settled_with leg n t) l ≡ joined (is_leg l leg) n (numbers_settled t l)
numbers_with leg n t Securities = refl
numbers_with leg n t Money = refl

times_here : (b : Bool) (n : ℕ) (ns : List ℕ) → times n (joined b n ns) ≡ more b (times n ns)
times_here true n ns = omega (arith, count_cons (λ m. eqb m n) n ns, ap one (eq-eqb n n refl))
times_here false n ns = refl

times_away : (b : Bool) (n m : ℕ) (ns : List ℕ) → eqb n m ≡ false → times m (joined b n ns) ≡ times m ns
times_away true n m ns e = omega (arith, count_cons (λ k. eqb k m) n ns, ap one e)
times_away false n m ns e = refl

-- a leg that was not settled before may count
module _ (xs : List Obligation) (n : ℕ) (noted : find_by trade_number n xs ≡ None → ⊥) (ns : List ℕ) (s : Settled xs ns) where
  more_once : times n ns ≡ 0 → (m : ℕ) (b : Bool) → eqb n m ≡ b → times m (n ∷ ns) ≤ 1
  more_once z m true e = omega (arith, count_cons (λ k. eqb k m) n ns, ap one e, z, ap (λ (k : ℕ). times k ns) (eqb-true n m e))
  more_once z m false e = omega (arith, times_away true n m ns e, s.once m)

  more_noted : (m : ℕ) (b : Bool) → eqb n m ≡ b → find_by trade_number m xs ≡ None → times m (n ∷ ns) ≡ 0
  more_noted m true e f = absurd (noted (ap (λ (k : ℕ). find_by trade_number k xs) (eqb-true n m e) ∙ f))
  more_noted m false e f = times_away true n m ns e ∙ s.noted m f

  settled_joined : (b : Bool) → (b ≡ true → times n ns ≡ 0) → Settled xs (joined b n ns)
  settled_joined true z = record { once = λ m. more_once (z refl) m (eqb n m) refl; noted = λ m f. more_noted m (eqb n m) refl f }
  settled_joined false z = s

-- a leg is settled, and what is left comes into the obligation's place
module _ (numbers later : Leg → List ℕ) (xs : List Obligation) (os : List (Option Obligation)) (h : Legs numbers xs os) (leg : Leg) (n : ℕ)
    (joins : (l : Leg) → later l ≡ joined (is_leg l leg) n (numbers l)) (f : PlacedObligation) (ef : found_of os n ≡ Ok f)
    (left : Option Obligation) (el : settled f.obligation leg ≡ Ok left) where
  fd : Found os n f
  fd = found_held os n f (h.once n) ef

  was : left_of (times n (numbers Securities)) (times n (numbers Money)) (find_by trade_number n xs) ≡ Some f.obligation
  was = sym (h.owed n) ∙ fd.under

  now : SettledNow leg (times n (numbers Securities)) (times n (numbers Money)) (find_by trade_number n xs) left
  now = settled_now leg _ _ (find_by trade_number n xs) f.obligation left was el

  unsettled : (l : Leg) → is_leg l leg ≡ true → times n (numbers l) ≡ 0
  unsettled l e = ap (λ (k : Leg). times n (numbers k)) (is_leg_lem l leg e) ∙ sym (count_is leg (λ k. times n (numbers k))) ∙ now.0

  stage : (st : Option Stage) × (staged f.obligation st ≡ left)
  stage = staged_as f.obligation (stage_after f.obligation.stage leg) left el

  held : (m : ℕ) → has_number m (get_or os f.place None) ≡ eqb n m
  held m = ap (has_number m) fd.holds ∙ ap (λ (k : ℕ). eqb k m) fd.bears

  few : (m : ℕ) → one (has_number m left) ≤ one (eqb n m)
  few m = subst (λ (x : Option Obligation). one (has_number m x) ≤ one (eqb n m)) stage.1 (subst (λ (k : ℕ). one (has_number m (staged f.obligation stage.0)) ≤ one (eqb k m)) fd.bears (staged_few m f.obligation stage.0))

  kept : cond (has_number n left) left None ≡ left
  kept = subst (λ (x : Option Obligation). cond (has_number n x) x None ≡ x) stage.1 (subst (λ (k : ℕ). cond (has_number k (staged f.obligation stage.0)) (staged f.obligation stage.0) None ≡ staged f.obligation stage.0) fd.bears (staged_on f.obligation stage.0))

  abbrev left_at : ℕ → Option Obligation
  left_at m = left_of (times m (later Securities)) (times m (later Money)) (find_by trade_number m xs)

  joins_here : (l : Leg) → more (is_leg l leg) (times n (numbers l)) ≡ times n (later l)
  joins_here l = sym (ap (times n) (joins l) ∙ times_here (is_leg l leg) n (numbers l))

  joins_away : (m : ℕ) → eqb n m ≡ false → (l : Leg) → times m (numbers l) ≡ times m (later l)
  joins_away m e l = sym (ap (times m) (joins l) ∙ times_away (is_leg l leg) n m (numbers l) e)

  owed_at : owed_under n (set os f.place left) ≡ left_at n
  owed_at =
      under_here n os f.place left (omega (arith, h.once n, ap one (held n ∙ eq-eqb n n refl))) fd.within ∙ kept ∙ sym now.1
      ∙ left_same _ _ _ _ (find_by trade_number n xs) (joins_here Securities) (joins_here Money)

  owed_now : (m : ℕ) (b : Bool) → eqb n m ≡ b → owed_under m (set os f.place left) ≡ left_at m
  owed_now m true e = subst (λ (k : ℕ). owed_under k (set os f.place left) ≡ left_at k) (eqb-true n m e) owed_at
  owed_now m false e =
      under_other m os f.place left (held m ∙ e) (off (has_number m left) (omega (arith, few m, ap one e))) ∙ h.owed m
      ∙ left_same _ _ _ _ (find_by trade_number m xs) (joins_away m e Securities) (joins_away m e Money)

  pub legs_settled : Legs later xs (set os f.place left)
  legs_settled =
      record {
        owed = λ m. owed_now m (eqb n m) refl;
        once = λ m. omega (arith, places_set m os f.place left fd.within, few m, ap one (held m), h.once m);
        settled = λ l. subst (Settled xs) (sym (joins l)) (settled_joined xs n (is_noted _ _ _ f.obligation was) (numbers l) (h.settled l) (is_leg l leg) (unsettled l));
      }
