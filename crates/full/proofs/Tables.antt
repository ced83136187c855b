-- The engine's tables, as lists of what they hold.
use Rattle.std.proofs.Common.{◌≡◌, ℕ, ◌-◌, ◌<◌, ◌≤◌, Bool, cond, eqb, List, [], ◌∷◌, map, length, get_or, set, take, Some, None, Option, sym, refl, ap, ◌∙◌, arith, length-take}
use lib.ListN.{length-map}
use Rattle.std.proofs.lemmas.Bool.Decides.{nat_tests}
use Rattle.std.proofs.lemmas.List.{map-set, set-set, get_or-map, get_or-take}
use Rattle.std.proofs.lemmas.Option.{slice_get-get_or}
use Rattle.std.specs.Option.{option_map}
use Rattle.seek.specs.Place.{place_of, on_by}
use Rattle.full.specs.declared.security.Security.{Security}
use Rattle.full.specs.Orders.{Admitted, admitted_of, ratio_at, admitted_as}

-- a search sees what a table holds
pub place_of_map : {X Y : Type 0} (f : X → Y) (p : Y → Bool) (xs : List X) → place_of p (map f xs) ≡ place_of (λ x. p (f x)) xs
place_of_map f p [] = refl
place_of_map f p (x ∷ xs) = ap (λ (o : Option ℕ). cond (p (f x)) (Some 0) (on_by 1 o)) (place_of_map f p xs)

-- what a search in the first places of the securities' table found is what stands in their list
module _ (t : List Security) (n k held : ℕ) (same : k ≡ held) where
  abbrev listed : List Admitted
  listed = map admitted_of (take held t)

  same_place : (o : Option ℕ) → o ≡ place_of (λ (s : Security). eqb s.number n) (take k t) → o ≡ place_of (λ (a : Admitted). eqb a.number n) listed
  same_place o e = e ∙ ap (λ (j : ℕ). place_of (λ (s : Security). eqb s.number n) (take j t)) same ∙ sym (place_of_map admitted_of (λ a. eqb a.number n) (take held t))

  pub ratio_absent : None ≡ place_of (λ (s : Security). eqb s.number n) (take k t) → None ≡ admitted_as listed n
  ratio_absent e = ap (ratio_at listed) (same_place None e)

  pub ratio_found : (i : ℕ) (d : Security) → held ≤ length t → Some i ≡ place_of (λ (s : Security). eqb s.number n) (take k t) → i < length (take k t) → Some (get_or t i d).ratio.value ≡ admitted_as listed n
  ratio_found i d w e l =
      let h : i < held = omega (arith, length-take k t) in
      let b : i < length (take held t) = simp length-take (omega arith) in
      let g : get_or listed i (admitted_of d) ≡ admitted_of (get_or t i d) = get_or-map admitted_of (take held t) i d (admitted_of d) b ∙ ap admitted_of (get_or-take held t i d h) in
      sym (ap (option_map (λ a. a.ratio)) (slice_get-get_or listed i (admitted_of d) (simp length-map b) ∙ ap Some g))
      ∙ ap (ratio_at listed) (same_place (Some i) e)

-- a write at a place of a table
pub ruleset written = (map-set, set-set, get_or-map, nat_tests)
