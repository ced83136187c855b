-- Every call keeps the promise, and the promise gives the law.
use Rattle.std.proofs.Common.{◌≡◌, ℕ, ◌+◌, ◌≤◌, Bool, true, false, cond, eqb, ltb, List, [], ◌∷◌, ◌++◌, map, ℤ, pos, ◌+ℤ◌, ◌-ℤ◌, ◌≤ℤ◌, Some, None, Option, Result, sym, refl, ap, ◌∙◌, subst, arith}
use Rattle.std.specs.List.{slice_get, AllByRecursion}
use Rattle.std.proofs.lemmas.List.Elements.{All-from_recursion}
use Rattle.full_law.specs.Lists.{find_by}
use Rattle.std.specs.Int.{int_min}
use Rattle.std.proofs.lemmas.Int.{ints}
use Rattle.std.proofs.lemmas.Bool.{ltb-false}
use Rattle.seek.proofs.Cases.{no_case}
use Rattle.registers.specs.declared.row.Row.{Row}
use Rattle.plans.specs.declared.refusal.Refusal.{Refusal}
use Rattle.full.specs.Orders.{Live, has_number}
use Rattle.full.specs.declared.settings.Settings.{Settings}
use Rattle.full.specs.State.{State, begin}
use Rattle.full.specs.declared.call.Call.{Call}
use Rattle.full.specs.declared.call.Call.TheVariants.{Admit, Open, Credit, Announce, Withdraw, Trade}
use Rattle.full.specs.Plans.{call_of}
use Rattle.full_law.specs.Tally.{Tally, Opened, Note, empty, entered, number, rest_of, standing, live_blocks, trades_leaving_rest_on}
use Rattle.full_law.specs.Law.{Law, lives, live_rest, slot_for}
use Rattle.full_law.proofs.Promises.{Above, FairIn, Promise, Whole, base_of, slack_of}
use Rattle.full_law.proofs.Announces.{announce_keeps}
use Rattle.full_law.proofs.Credits.{admit_keeps, credit_keeps}
use Rattle.full_law.proofs.Dealt.{trade_keeps}
use Rattle.plans.proofs.Keeping.{Keeps}
use Rattle.plans.specs.Runs.{outcomes_of, state_after}
use Rattle.plans.proofs.Walks.{Finished, finished}
use Rattle.full_law.proofs.Rising.{each_found, all_differ}
use Rattle.full_law.proofs.Slots.{none_held, none_counted}
use Rattle.full_law.proofs.Opens.{open_keeps}
use Rattle.full_law.proofs.Withdraws.{withdraw_keeps}

-- one case for each call
pub call_keeps : (reserve : ℕ) (t : Tally) (s : State) (h : Promise reserve t s) (c : Call) → Keeps (Promise reserve (entered t c)) (call_of s c)
call_keeps reserve t s h (Admit security ratio) = admit_keeps reserve t s h security ratio
call_keeps reserve t s h (Open o) = open_keeps reserve t s h o
call_keeps reserve t s h (Credit code security amount) = credit_keeps reserve t s h code security amount
call_keeps reserve t s h (Announce a) = announce_keeps reserve t s h a
call_keeps reserve t s h (Withdraw n) = withdraw_keeps reserve t s h n
call_keeps reserve t s h (Trade d) = trade_keeps reserve t s h d

-- a new engine over an empty store
pub begin_keeps : (rows : List Row) (room : ℕ) (settings : Settings) → rows ≡ [] → Promise settings.reserve empty (begin rows room settings)
begin_keeps rows room settings e =
    subst (λ (rs : List Row). Promise settings.reserve empty (begin rs room settings)) (sym e)
    (record {
      reserved = refl;
      ratios = refl;
      orders = record { whole = tt; fresh = tt; rising = tt; live = λ n. none_held (has_number n) refl 256; once = λ n. omega (arith, none_counted (has_number n) refl 256) };
      books = record { keys = refl; apart = λ i j r q f g s. no_row i r f; fair = λ i r o f g. no_row i r f; blank = λ k none. (refl, refl) };
    })
  where
    no_row : {X : Type 0} (i : ℕ) (r : Row) → slice_get [] i ≡ Some r → X
    no_row i r f = no_case (cc)

-- the law
slack_most : (b : Bool) (n : ℕ) → cond b 0 n ≤ n
slack_most true n = omega arith
slack_most false n = omega arith

quantity_by : (x : Note) (b : Bool) → Whole x → ltb 0 (rest_of x) ≡ b → x.order.rest ≡ x.traded + x.back + live_rest (cond b (Some (standing x)) None)
quantity_by x true w e = omega arith
quantity_by x false w e = omega (arith, ltb-false 0 (rest_of x) e)

-- of each note that is found under its number
each_quantity : (os : List (Option Live)) (all : List Note) → ((n : ℕ) → slot_for n os ≡ lives (find_by number n all)) → (xs : List Note) → AllByRecursion Whole xs → AllByRecursion (λ (x : Note). find_by number (number x) all ≡ Some x) xs → AllByRecursion (λ (x : Note). x.order.rest ≡ x.traded + x.back + live_rest (slot_for (number x) os)) xs
each_quantity os all live [] w f = tt
each_quantity os all live (x ∷ xs) w f = (
  quantity_by x (ltb 0 (rest_of x)) w.0 refl ∙ ap (λ (o : Option Live). x.traded + x.back + live_rest o) (sym (live (number x) ∙ ap lives f.0)),
  each_quantity os all live xs w.1 f.1,
)

pub promised : (reserve : ℕ) (t : Tally) (s : State) → Promise reserve t s → Law reserve t s
promised reserve t s h =
    record {
      numbers = all_differ (map number t.notes) h.orders.rising;
      rests = All-from_recursion Whole t.notes h.orders.whole;
      quantities = All-from_recursion (λ (x : Note). x.order.rest ≡ x.traded + x.back + live_rest (slot_for (number x) s.orders)) t.notes (each_quantity s.orders t.notes h.orders.live t.notes h.orders.whole (each_found t.notes h.orders.rising));
      live = h.orders.live;
      lives_once = h.orders.once;
      keys = h.books.keys;
      keys_once = h.books.apart;
      blocked = λ i r o e f. let g = h.books.fair i r o e f in let m = slack_most (eqb o.key.kind 2) (trades_leaving_rest_on o.key t.trades_leaving_rest) in (omega (arith, ints, g.most, m), omega (arith, ints, g.least, m));
      securities = λ i r o e f k. let g = h.books.fair i r o e f in exact o.key.kind r o k g;
      cash = λ i r o e f k. let g = h.books.fair i r o e f in enough r o k g;
    }
  where
    base_by : Opened → ℕ → Option ℤ
    base_by o n = cond (eqb n 1) (Some (int_min (pos o.limit) (pos reserve))) (cond (eqb n 2) (Some (pos 0)) None)

    exact : (kind : ℕ) (r : Row) (o : Opened) → o.key.kind ≡ 2 → FairIn reserve t.notes t.trades_leaving_rest r.figures o → (r.figures.blocked ≡ pos (o.blocked + live_blocks o.key t.notes)) × (r.figures.blocked ≤ℤ r.figures.limit)
    exact kind r o k g =
        let z : slack_of o.key (trades_leaving_rest_on o.key t.trades_leaving_rest) ≡ 0 = ap (λ (n : ℕ). let v : ℕ = cond (eqb n 2) 0 (trades_leaving_rest_on o.key t.trades_leaving_rest) in v) k in
        let b : base_of o.key o.limit reserve ≡ Some (pos 0) = ap (base_by o) k in
        (omega (arith, ints, g.most, g.least, z), omega (arith, ints, subst (λ (x : Option ℤ). Above x (r.figures.limit -ℤ r.figures.blocked)) b g.free))

    enough : (r : Row) (o : Opened) → o.key.kind ≡ 1 → FairIn reserve t.notes t.trades_leaving_rest r.figures o → int_min (pos o.limit) (pos reserve) ≤ℤ (r.figures.limit +ℤ pos (trades_leaving_rest_on o.key t.trades_leaving_rest))
    enough r o k g =
        let m = slack_most (eqb o.key.kind 2) (trades_leaving_rest_on o.key t.trades_leaving_rest) in
        let b : base_of o.key o.limit reserve ≡ Some (int_min (pos o.limit) (pos reserve)) = ap (base_by o) k in
        omega (arith, ints, subst (λ (x : Option ℤ). Above x (r.figures.limit -ℤ r.figures.blocked)) b g.free, g.least, m)

-- what a run of Level One comes to
pub ran : (rows : List Row) (room : ℕ) (settings : Settings) (cs : List Call) (rest : List (Result ℤ Refusal)) (s0 left : State) (outs : List (Result ℤ Refusal)) → s0 ≡ begin rows room settings → outs ≡ outcomes_of call_of s0 cs ++ rest → left ≡ state_after call_of s0 cs → Finished call_of entered (Law settings.reserve) (rows ≡ []) empty (begin rows room settings) cs rest left outs
ran rows room settings = finished call_of entered (Promise settings.reserve) (Law settings.reserve) (call_keeps settings.reserve) (promised settings.reserve) (rows ≡ []) empty (begin rows room settings) (begin_keeps rows room settings)
