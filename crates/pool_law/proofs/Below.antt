-- The calls of Level Two keep the promise. Level Two's own lemma says so of the state in which every noted obligation
-- is owed in full; the calls do the same to it and to the state in which some legs were settled.
use Rattle.std.proofs.Common.{◌≡◌, ℕ, ◌+◌, ◌<◌, ◌≤◌, Bool, true, false, cond, ◌&&◌, eqb, ◌⊎◌, inl, inr, List, [], ◌∷◌, map, set, Some, None, Ok, Err, Option, sym, refl, ap, ◌∙◌, subst, arith}
use Rattle.std.specs.List.{AllByRecursion}
use Rattle.std.proofs.lemmas.Bool.{eqb-true, eq-eqb, ne_eqb}
use Rattle.std.proofs.lemmas.Bool.Decides.{nat_tests}
use Rattle.full.specs.State as one_plans
use Rattle.full.specs.declared.call.Call.TheVariants as one_calls
use Rattle.full.specs.Checks.{is_full, pair_of, ready_of}
use Rattle.full.specs.OpenRegisters.{register_at}
use Rattle.full.specs.Blocks.{limit_key}
use Rattle.full.specs.Terms.{amount_ok}
use Rattle.full_law.specs.Lists.{find_by}
use Rattle.full_law.proofs.Promises as one_promise
use Rattle.full_law.proofs.Slots.{one, count_cons}
use Rattle.partial.specs.declared.call.Call.{Call}
use Rattle.partial.specs.declared.call.Call.TheVariants.{Full, Post, Debit}
use Rattle.partial.specs.declared.obligation.Obligation.{Obligation}
use Rattle.partial.specs.declared.stage.Stage.TheVariants.{BothOwed}
use Rattle.partial.specs.Calls.{announce_of, cover_at, debit_of, debit_on, drawn_of, limit_opening_ok, open_of, owed_of, partial_trade_of, participant_ok, post_of, post_on, ratio_for, trade_of}
use Rattle.partial.specs.Obligations.{free_place, has_number}
use Rattle.partial.specs.Plans.{call_of}
use Rattle.partial.specs.State.{State, down}
use Rattle.partial_law.specs.Law.{owed_under, places_under}
use Rattle.partial_law.specs.Tally as two
use Rattle.partial_law.specs.Tally.{trade_number}
use Rattle.partial_law.proofs.Calls as two_proofs
use Rattle.partial_law.proofs.Places.{unplaced}
use Rattle.partial_law.proofs.Promises as two_promise
use Rattle.partial_law.proofs.Promises.{Falling}
use Rattle.plans.proofs.Keeping.{Keeps}
use Rattle.pool_law.specs.Tally.{Tally, numbers_settled}
use Rattle.pool_law.proofs.Beside.{Beside, beside_demand, beside_choice, beside_step, beside_there, beside_keeps}
use Rattle.pool_law.proofs.Legs.{legs_among, legs_entered}
use Rattle.pool_law.proofs.Promises.{Legs, Promise}

-- the table in which obligations are owed in full, and a place is free
abbrev in_full : List Obligation → List (Option Obligation)
in_full xs = None ∷ map Some xs

owed_full : (n : ℕ) (xs : List Obligation) → owed_under n (map Some xs) ≡ find_by trade_number n xs
owed_full n [] = refl
owed_full n (x ∷ xs) = let h = owed_full n xs in grind (arith, nat_tests, h)

-- numbers that fall are each in one place
none_below : (n : ℕ) (xs : List Obligation) → AllByRecursion (λ (m : ℕ). m < n) (map trade_number xs) → places_under n (map Some xs) ≡ 0
none_below n [] a = refl
none_below n (x ∷ xs) a = omega (arith, count_cons (has_number n) (Some x) (map Some xs), none_below n xs a.1, ap one (ne_eqb x.number n (λ e. omega (arith, a.0))))

once_by : (n : ℕ) (x : Obligation) (xs : List Obligation) (b : Bool) → eqb x.number n ≡ b → AllByRecursion (λ (m : ℕ). m < x.number) (map trade_number xs) → places_under n (map Some xs) ≤ 1 → one b + places_under n (map Some xs) ≤ 1
once_by n x xs true e a h = omega (arith, none_below x.number xs a, ap (λ (k : ℕ). places_under k (map Some xs)) (eqb-true x.number n e))
once_by n x xs false e a h = omega (arith, h)

once_full : (n : ℕ) (xs : List Obligation) → Falling (map trade_number xs) → places_under n (map Some xs) ≤ 1
once_full n [] f = omega arith
once_full n (x ∷ xs) f = omega (arith, count_cons (has_number n) (Some x) (map Some xs), once_by n x xs (eqb x.number n) refl f.0 (once_full n xs f.1))

-- x is left of s, and y of v, by calls that do the same: to Level One's state, and to the table, into which an
-- obligation may come with both legs owed, in v in the first place
pub record Entered (s v x y : List (Option Obligation)) : Type 0 where
  pub obligation : Obligation
  pub place : ℕ
  pub free : free_place s ≡ Some place
  pub both : obligation.stage ≡ BothOwed
  pub left : x ≡ set s place (Some obligation)
  pub other : y ≡ set v 0 (Some obligation)

pub record Alike (s v x y : State) : Type 0 where
  pub base : x.base ≡ y.base
  pub table : ((x.obligations ≡ s.obligations) × (y.obligations ≡ v.obligations)) ⊎ Entered s.obligations v.obligations x.obligations y.obligations

module _ (s : State) (xs : List Obligation) where
  -- the state in which they are owed in full
  abbrev v : State
  v = record s { obligations = in_full xs }

  abbrev Same : State → State → Type 0
  Same x y = Alike s v x y

  handed_alike : (r : one_plans.Step) → Beside Same (down s r) (down v r)
  handed_alike (Err e) = tt
  handed_alike (Ok p) = record { base = refl; table = inl (refl, refl) }

  call_alike : (c : Call) → Beside Same (call_of s c) (call_of v c)
  unfolding open_of announce_of trade_of partial_trade_of post_of debit_of
  call_alike (Full (one_calls.Admit security ratio)) = handed_alike _
  call_alike (Full (one_calls.Open o)) =
      beside_choice Same (eqb o.kind 3) _ _ _ _
      (beside_demand Same (limit_opening_ok o) _ _ _ (handed_alike _))
      (handed_alike _)
  call_alike (Full (one_calls.Credit code security amount)) = handed_alike _
  call_alike (Full (one_calls.Announce a)) =
      beside_choice Same (eqb a.mode 2) _ _ _ _
      (beside_step Same (ready_of s.base.securities s.base.orders s.base.last_order a) _ _ λ r.
      beside_step Same (cover_at s.base.rows r.order) _ _ λ h.
      handed_alike _)
      (handed_alike _)
  call_alike (Full (one_calls.Withdraw n)) = handed_alike _
  call_alike (Full (one_calls.Trade d)) =
      beside_step Same (pair_of s.base.orders s.base.last_trade d) _ _ λ p.
      beside_choice Same (is_full p.buy.mode) _ _ _ _
      (handed_alike _)
      (beside_there Same (free_place s.obligations) _ _ _ λ i fi.
      beside_step Same (drawn_of s.base.rows p (ratio_for s.base p)) _ _ λ w.
      record { base = refl; table = inr (record { obligation = owed_of d.number p; place = i; free = fi; both = refl; left = refl; other = refl }) })
  call_alike (Post participant amount) =
      beside_demand Same (participant_ok participant && amount_ok amount) _ _ _
      (beside_step Same (register_at s.base.rows (limit_key participant)) _ _ λ h.
      beside_step Same (post_on h amount) _ _ λ c.
      record { base = refl; table = inl (refl, refl) })
  call_alike (Debit participant amount) =
      beside_demand Same (participant_ok participant && amount_ok amount) _ _ _
      (beside_step Same (register_at s.base.rows (limit_key participant)) _ _ λ h.
      beside_step Same (debit_on h amount) _ _ λ c.
      record { base = refl; table = inl (refl, refl) })

module _ (reserve : ℕ) (t : Tally) (s : State) (h : Promise reserve t s) where
  abbrev xs : List Obligation
  xs = t.base.obligations

  full_promise : two_promise.Promise reserve t.base (record s { obligations = in_full xs })
  full_promise =
      record {
        base = h.base;
        owed = λ n. owed_full n xs;
        once = λ n. omega (arith, once_full n xs h.falling);
        falling = h.falling;
        fresh = h.fresh;
      }

  -- what is noted now is what the full table holds
  module _ (u : two.Tally) (x y : State) (p : two_promise.Promise reserve u y) where
    legs_by : ((x.obligations ≡ s.obligations) × (y.obligations ≡ in_full xs)) ⊎ Entered s.obligations (in_full xs) x.obligations y.obligations → Legs (numbers_settled t) u.obligations x.obligations
    legs_by (inl e) =
        subst (Legs (numbers_settled t) u.obligations) (sym e.0)
        (legs_among (numbers_settled t) xs u.obligations s.obligations
        (λ n. sym (p.owed n) ∙ ap (owed_under n) e.1 ∙ owed_full n xs) h.legs)
    legs_by (inr e) =
        let c = count_cons (has_number e.obligation.number) (Some e.obligation) (map Some xs) in
        let few : places_under e.obligation.number (map Some xs) ≡ 0 = omega (arith, c, p.once e.obligation.number, ap (places_under e.obligation.number) e.other, ap one (eq-eqb e.obligation.number e.obligation.number refl)) in
        subst (Legs (numbers_settled t) u.obligations) (sym e.left)
        (legs_entered (numbers_settled t) xs u.obligations s.obligations h.legs e.obligation e.place e.free e.both
        (sym (owed_full e.obligation.number xs) ∙ unplaced e.obligation.number (map Some xs) few)
        (λ n. sym (p.owed n) ∙ ap (owed_under n) e.other ∙ ap (cond (eqb e.obligation.number n) (Some e.obligation)) (owed_full n xs)))

    alike_promise : Alike s (record s { obligations = in_full xs }) x y → Promise reserve (record t { base = u }) x
    alike_promise a =
        record {
          base = subst (one_promise.Promise reserve u.base) (sym a.base) p.base;
          falling = p.falling;
          fresh = subst (λ (b : one_plans.State). AllByRecursion (λ (o : Obligation). trade_number o ≤ b.last_trade) u.obligations) (sym a.base) p.fresh;
          legs = legs_by a.table;
        }

  pub below_keeps : (c : Call) → Keeps (Promise reserve (record t { base = two.entered t.base c })) (call_of s c)
  below_keeps c =
      beside_keeps (Same s xs) (two_promise.Promise reserve (two.entered t.base c)) (Promise reserve (record t { base = two.entered t.base c }))
      (λ x y a p. alike_promise (two.entered t.base c) x y p a)
      (call_of s c) (call_of (v s xs) c) (call_alike s xs c) (two_proofs.call_keeps reserve t.base (v s xs) full_promise c)
