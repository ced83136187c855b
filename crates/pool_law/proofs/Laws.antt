-- Every call keeps the promise, and the promise gives the law.
use Rattle.std.proofs.Common.{◌≡◌, ℕ, zero, suc, ◌+◌, ◌<◌, ◌≤◌, Bool, false, cond, eqb, List, [], ◌∷◌, ◌++◌, map, ℤ, Some, Result, sym, refl, ap, ◌∙◌, subst, arith}
use Rattle.std.specs.List.{AllByRecursion}
use Rattle.std.proofs.lemmas.Bool.{eq-eqb, ne_eqb}
use Rattle.std.proofs.lemmas.List.Elements.{All-from_recursion}
use Rattle.registers.specs.declared.row.Row.{Row}
use Rattle.plans.specs.declared.refusal.Refusal.{Refusal}
use Rattle.plans.specs.Runs.{outcomes_of, state_after}
use Rattle.plans.proofs.Keeping.{Keeps}
use Rattle.plans.proofs.Walks.{Finished, finished}
use Rattle.full.specs.declared.settings.Settings.{Settings}
use Rattle.full_law.specs.Lists.{find_by}
use Rattle.full_law.proofs.Laws as one_proofs
use Rattle.partial.specs.declared.obligation.Obligation.{Obligation}
use Rattle.partial.specs.declared.obligations.TheConstants.{MOST_OBLIGATIONS}
use Rattle.partial.specs.State.{begin}
use Rattle.partial_law.specs.Law.{owed_under}
use Rattle.partial_law.specs.Tally.{trade_number}
use Rattle.partial_law.proofs.Owed.{all_differ}
use Rattle.partial_law.proofs.Places.{none_owed, none_places}
use Rattle.partial_law.proofs.Promises.{Falling}
use Rattle.pool.specs.declared.call.Call.{Call}
use Rattle.pool.specs.declared.call.Call.TheVariants.{Partial, Earmark, Deliver, Pay, Close}
use Rattle.pool.specs.declared.leg.Leg.{Leg}
use Rattle.pool.specs.declared.leg.Leg.TheVariants.{Securities, Money}
use Rattle.pool.specs.Plans.{call_of}
use Rattle.pool.specs.State.{State}
use Rattle.pool_law.specs.Law.{Law, left_of, times_owed, times_settled}
use Rattle.pool_law.specs.Tally.{Tally, empty, entered, numbers_settled}
use Rattle.pool_law.proofs.Below.{below_keeps}
use Rattle.pool_law.proofs.Legs.{count, count_is}
use Rattle.pool_law.proofs.Pools.{earmark_keeps, settle_keeps, close_keeps}
use Rattle.pool_law.proofs.Promises.{Promise, Settled}

-- one case for each call
pub call_keeps : (reserve : ℕ) (t : Tally) (s : State) (h : Promise reserve t s) (c : Call) → Keeps (Promise reserve (entered t c)) (call_of s c)
call_keeps reserve t s h (Partial c) = below_keeps reserve t s h c
call_keeps reserve t s h (Earmark code security) = earmark_keeps reserve t s h code security
call_keeps reserve t s h (Deliver number) = settle_keeps reserve t s h Securities number
call_keeps reserve t s h (Pay number) = settle_keeps reserve t s h Money number
call_keeps reserve t s h Close = close_keeps reserve t s h

-- a new engine over an empty store
none_settled : (leg : Leg) → numbers_settled empty leg ≡ []
none_settled Securities = refl
none_settled Money = refl

begin_keeps : (rows : List Row) (room : ℕ) (settings : Settings) → rows ≡ [] → Promise settings.reserve empty (begin rows room settings)
begin_keeps rows room settings e =
    record {
      base = one_proofs.begin_keeps rows room settings e;
      falling = tt;
      fresh = tt;
      legs = record {
        owed = λ n. none_owed n MOST_OBLIGATIONS;
        once = λ n. omega (arith, none_places n MOST_OBLIGATIONS);
        settled = λ leg. subst (Settled []) (sym (none_settled leg)) (record { once = λ n. omega arith; noted = λ n e. refl });
      };
    }

-- each obligation is found under its number, where numbers fall
found_behind : (z : Obligation) (zs ys : List Obligation) → AllByRecursion (λ (m : ℕ). m < z.number) (map trade_number ys) → AllByRecursion (λ (y : Obligation). find_by trade_number y.number zs ≡ Some y) ys → AllByRecursion (λ (y : Obligation). find_by trade_number y.number (z ∷ zs) ≡ Some y) ys
found_behind z zs [] a f = tt
found_behind z zs (y ∷ ys) a f =
    let e : eqb y.number z.number ≡ false = ne_eqb y.number z.number (λ s. omega (arith, a.0)) in
    (rw e f.0, found_behind z zs ys a.1 f.1)

each_found : (xs : List Obligation) → Falling (map trade_number xs) → AllByRecursion (λ (x : Obligation). find_by trade_number x.number xs ≡ Some x) xs
each_found [] f = tt
each_found (z ∷ zs) f = (ap (λ (b : Bool). cond b (Some z) (find_by trade_number z.number zs)) (eq-eqb z.number z.number refl), found_behind z zs zs f.0 (each_found zs f.1))

-- a leg is owed where its count is 0, and its count is 1 where it is not owed
owed_or_settled : (leg : Leg) (d p c : ℕ) (o : Obligation) → count leg d p ≡ c → c ≤ 1 → times_owed leg (left_of d p (Some o)) + c ≡ 1
owed_or_settled Securities zero zero c o e h = omega arith
owed_or_settled Securities zero (suc p) c o e h = omega arith
owed_or_settled Securities (suc d) zero c o e h = omega arith
owed_or_settled Securities (suc d) (suc p) c o e h = omega arith
owed_or_settled Money zero zero c o e h = omega arith
owed_or_settled Money zero (suc p) c o e h = omega arith
owed_or_settled Money (suc d) zero c o e h = omega arith
owed_or_settled Money (suc d) (suc p) c o e h = omega arith

module _ (reserve : ℕ) (t : Tally) (s : State) (h : Promise reserve t s) where
  leg_once : (x : Obligation) → find_by trade_number x.number t.base.obligations ≡ Some x → (leg : Leg) → times_owed leg (owed_under x.number s.obligations) + times_settled t leg x.number ≡ 1
  leg_once x f leg =
      let left : owed_under x.number s.obligations ≡ left_of (times_settled t Securities x.number) (times_settled t Money x.number) (Some x) = h.legs.owed x.number ∙ ap (left_of (times_settled t Securities x.number) (times_settled t Money x.number)) f in
      rw left (owed_or_settled leg _ _ _ x (count_is leg (λ l. times_settled t l x.number)) ((h.legs.settled leg).once x.number))

  each_leg : (xs : List Obligation) → AllByRecursion (λ (x : Obligation). find_by trade_number x.number t.base.obligations ≡ Some x) xs → AllByRecursion (λ (x : Obligation). (leg : Leg) → times_owed leg (owed_under x.number s.obligations) + times_settled t leg x.number ≡ 1) xs
  each_leg [] f = tt
  each_leg (x ∷ xs) f = (leg_once x f.0, each_leg xs f.1)

  promised : Law reserve t s
  promised =
      record {
        base = one_proofs.promised reserve t.base.base s.base h.base;
        numbers = all_differ (map trade_number t.base.obligations) h.falling;
        legs = All-from_recursion _ t.base.obligations (each_leg t.base.obligations (each_found t.base.obligations h.falling));
        nothing_else = λ n leg e. (h.legs.settled leg).noted n e;
        owed = h.legs.owed;
        owed_once = h.legs.once;
      }

-- what a run of Level Three comes to
pub ran : (rows : List Row) (room : ℕ) (settings : Settings) (cs : List Call) (rest : List (Result ℤ Refusal)) (s0 left : State) (outs : List (Result ℤ Refusal)) → s0 ≡ begin rows room settings → outs ≡ outcomes_of call_of s0 cs ++ rest → left ≡ state_after call_of s0 cs → Finished call_of entered (Law settings.reserve) (rows ≡ []) empty (begin rows room settings) cs rest left outs
ran rows room settings = finished call_of entered (Promise settings.reserve) (Law settings.reserve) (call_keeps settings.reserve) (promised settings.reserve) (rows ≡ []) empty (begin rows room settings) (begin_keeps rows room settings)
