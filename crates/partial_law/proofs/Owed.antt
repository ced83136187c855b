-- The table of obligations, looked up by trade number, after one comes in.
use Rattle.std.proofs.Common.{◌≡◌, ◌≢◌, ℕ, ◌+◌, ◌<◌, ◌≤◌, Bool, true, false, cond, eqb, List, [], ◌∷◌, map, get_or, set, Some, None, Option, is_none, sym, refl, ap, ◌∙◌, ⊎_elim, arith}
use Rattle.std.specs.List.{AllByRecursion, AllPairs}
use Rattle.std.proofs.lemmas.List.Elements.{All-from_recursion}
use Rattle.std.proofs.lemmas.List.Kept.{AllPairs-cons}
use Rattle.std.proofs.lemmas.Bool.{cases_eq, eqb-true, eq-eqb, ne_eqb}
use Rattle.full_law.specs.Lists.{find_by}
use Rattle.full_law.proofs.Slots.{one, search_at}
use Rattle.partial.specs.declared.obligation.Obligation.{Obligation}
use Rattle.partial.specs.Obligations.{has_number, free_place}
use Rattle.partial_law.specs.Tally.{trade_number}
use Rattle.partial_law.proofs.Places.{places_set, under_here, under_other, unowed, was_none}
use Rattle.partial_law.proofs.Promises.{Falling}
use Rattle.partial_law.specs.Law.{owed_under, places_under}

-- no obligation is noted above the last trade
none_above : (n last : ℕ) (xs : List Obligation) → last < n → AllByRecursion (λ (o : Obligation). trade_number o ≤ last) xs → find_by trade_number n xs ≡ None
none_above n last [] l f = refl
none_above n last (x ∷ xs) l f =
    let e : eqb n (trade_number x) ≡ false = ne_eqb n (trade_number x) (λ s. omega (arith, f.0)) in
    rw e (none_above n last xs l f.1)

module _ (os : List (Option Obligation)) (xs : List Obligation) (last : ℕ) (fresh : AllByRecursion (λ (o : Obligation). trade_number o ≤ last) xs) (h : (n : ℕ) → owed_under n os ≡ find_by trade_number n xs) where
  pub owed_more : (o : Obligation) (i : ℕ) → last < o.number → free_place os ≡ Some i → (n : ℕ) → owed_under n (set os i (Some o)) ≡ find_by trade_number n (o ∷ xs)
  owed_more o i l f n =
      let s = search_at is_none os i f in
      let free : get_or os i None ≡ None = was_none (get_or os i None) s.1 in
      ⊎_elim
      (λ e.
      let same : eqb o.number n ≡ true = eq-eqb o.number n (sym e) in
      let there : eqb n o.number ≡ true = eq-eqb n o.number e in
      under_here n os i (Some o) (omega (arith, unowed n os (h n ∙ none_above n last xs (omega arith) fresh))) s.0
      ∙ ap (λ (b : Bool). cond b (Some o) None) same
      ∙ sym (ap (λ (b : Bool). cond b (Some o) (find_by trade_number n xs)) there))
      (λ ne.
      let off : eqb o.number n ≡ false = ne_eqb o.number n (λ e. ne (sym e)) in
      let away : eqb n o.number ≡ false = ne_eqb n o.number ne in
      under_other n os i (Some o) (ap (has_number n) free) off ∙ h n
      ∙ sym (ap (λ (b : Bool). cond b (Some o) (find_by trade_number n xs)) away))
      (cases_eq n o.number)

  few_by : (b : Bool) (p q : ℕ) → q ≡ p + one b → (b ≡ true → p ≡ 0) → p ≤ 1 → q ≤ 1
  few_by true p q e none l = omega (arith, none refl)
  few_by false p q e none l = omega arith

  pub once_more : (o : Obligation) (i : ℕ) → last < o.number → free_place os ≡ Some i → ((n : ℕ) → places_under n os ≤ 1) → (n : ℕ) → places_under n (set os i (Some o)) ≤ 1
  once_more o i l f once n =
      let s = search_at is_none os i f in
      let free : get_or os i None ≡ None = was_none (get_or os i None) s.1 in
      few_by (eqb o.number n) (places_under n os) (places_under n (set os i (Some o)))
      (omega (arith, places_set n os i (Some o) s.0, ap (λ (x : Option Obligation). one (has_number n x)) free))
      (λ e.
      let same : o.number ≡ n = eqb-true o.number n e in
      unowed n os (h n ∙ none_above n last xs (omega arith) fresh))
      (once n)

-- the number of a trade above the last comes in front of the others
below_all : (k last : ℕ) (xs : List Obligation) → last < k → AllByRecursion (λ (o : Obligation). trade_number o ≤ last) xs → AllByRecursion (λ (m : ℕ). m < k) (map trade_number xs)
below_all k last [] l f = tt
below_all k last (x ∷ xs) l f = (omega (arith, f.0), below_all k last xs l f.1)

pub falling_more : (o : Obligation) (last : ℕ) (xs : List Obligation) → last < o.number → AllByRecursion (λ (x : Obligation). trade_number x ≤ last) xs → Falling (map trade_number xs) → Falling (map trade_number (o ∷ xs))
falling_more o last xs l f g = (below_all o.number last xs l f, g)

differ : (n : ℕ) (ns : List ℕ) → AllByRecursion (λ (m : ℕ). m < n) ns → AllByRecursion (λ (m : ℕ). n ≢ m) ns
differ n [] a = tt
differ n (m ∷ ns) a = ((λ e. omega (arith, a.0)), differ n ns a.1)

pub all_differ : (ns : List ℕ) → Falling ns → AllPairs (λ (m n : ℕ). m ≢ n) ns
all_differ [] g = λ i j d l k. absurd (omega arith)
all_differ (n ∷ ns) g = AllPairs-cons (λ (m k : ℕ). m ≢ k) n ns (All-from_recursion (λ (m : ℕ). n ≢ m) ns (differ n ns g.0)) (all_differ ns g.1)
