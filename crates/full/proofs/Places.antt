-- Registers of different keys lie at different places.
use Rattle.std.proofs.Common.{◌≡◌, ◌≢◌, ℕ, suc, ◌+◌, Bool, true, false, cond, ◌&&◌, eqb, List, [], ◌∷◌, map, Some, None, Ok, Err, Option, Result, sym, refl, ap, subst, ◌∙◌, arith, eqb-true}
use Rattle.std.proofs.lemmas.Bool.{and_parts}
use Rattle.std.specs.List.{slice_get, AllByRecursion, AllPairs}
use Rattle.std.specs.Option.{option_map}
use Rattle.std.proofs.lemmas.List.Elements.{All-from_recursion}
use Rattle.std.proofs.lemmas.List.Kept.{AllPairs-cons}
use Rattle.seek.proofs.Cases.{no_case}
use Rattle.seek.specs.Place.{place_of, on_by, passes}
use Rattle.registers.specs.declared.key.Key.{Key}
use Rattle.registers.specs.declared.row.Row.{Row}
use Rattle.registers.specs.Registers.{same_key}
use Rattle.registers.specs.Stores.{place_for}
use Rattle.full.specs.declared.open_register.OpenRegister.{OpenRegister}
use Rattle.plans.specs.declared.refusal.Refusal.{Refusal}
use Rattle.full.specs.declared.trade_registers.TradeRegisters.{TradeRegisters}
use Rattle.full.specs.declared.register_move.Move.{Move}
use Rattle.plans.specs.Steps.{and_then, ok_as}
use Rattle.full.specs.OpenRegisters.{register_in, register_from, register_at, FiguresAt}
use Rattle.full.specs.Blocks.{cash_key, holding_key}
use Rattle.full.specs.Trades.{trade_registers_of, moves_of}
use Rattle.full.proofs.Swaps.{Apart, Standing}

-- what a search found passes the test
module _ {X : Type 0} (p : X → Bool) where
  -- one place further, if the first record does not pass
  further : (y : X) (ys : List X) (i : ℕ) (o : Option ℕ) → on_by 1 o ≡ Some i → ((j : ℕ) → o ≡ Some j → passes p (slice_get ys j) ≡ true) → passes p (slice_get (y ∷ ys) i) ≡ true
  further y ys i None h rest = no_case (cc)
  further y ys i (Some j) h rest =
      let s : suc j ≡ i = let k : 1 + j ≡ i = cc in omega arith in
      subst (λ (n : ℕ). passes p (slice_get (y ∷ ys) n) ≡ true) s (rest j refl)

  first : (y : X) (ys : List X) (i : ℕ) (b : Bool) → p y ≡ b → cond b (Some 0) (on_by 1 (place_of p ys)) ≡ Some i → ((j : ℕ) → place_of p ys ≡ Some j → passes p (slice_get ys j) ≡ true) → passes p (slice_get (y ∷ ys) i) ≡ true
  first y ys i true g e rest =
      let s : 0 ≡ i = cc in
      subst (λ (n : ℕ). passes p (slice_get (y ∷ ys) n) ≡ true) s g
  first y ys i false g e rest = further y ys i (place_of p ys) e rest

  found : (xs : List X) (i : ℕ) → place_of p xs ≡ Some i → passes p (slice_get xs i) ≡ true
  found [] i e = no_case (cc)
  found (y ∷ ys) i e = first y ys i (p y) refl e (λ j g. found ys j g)

  -- so a record passes that is there, and one is there
  pub passes_at : (xs : List X) (i : ℕ) (x : X) → place_of p xs ≡ Some i → slice_get xs i ≡ Some x → p x ≡ true
  passes_at xs i x e f = sym (ap (passes p) f) ∙ found xs i e

  there : (xs : List X) (i : ℕ) → place_of p xs ≡ Some i → slice_get xs i ≡ None → ⊥
  there xs i e f =
      let t : false ≡ true = sym (ap (passes p) f) ∙ found xs i e in
      no_case (cc)

-- a register is open where its key is found
module _ (rs : List Row) (k : Key) where
  abbrev Opens : Result OpenRegister Refusal → Type 0
  Opens h = ok_as {Y = Unit {0}} (λ (x : OpenRegister). tt) h ≡ Ok tt

  open_in : (n : ℕ) (o : Option Row) → (o ≡ None → ⊥) → Opens (register_in n o)
  open_in n None f = absurd (f refl)
  open_in n (Some r) f = refl

  pub open_where_found : (n : ℕ) → place_for k rs ≡ Some n → Opens (register_at rs k)
  unfolding register_at
  open_where_found n e = subst (λ (o : Option ℕ). Opens (register_from rs o)) (sym e) (open_in n (slice_get rs n) (there (λ x. same_key x.key k) rs n e))

-- an open register is a row that bears its key
pub record Stands (rs : List Row) (k : Key) (h : OpenRegister) : Type 0 where
  pub row : Row
  pub at : slice_get rs h.place ≡ Some row
  pub figures : row.figures ≡ h.figures
  pub bears : same_key row.key k ≡ true

held_in_lem : (rs : List Row) (k : Key) (h : OpenRegister) (n : ℕ) (o : Option Row) → place_for k rs ≡ Some n → slice_get rs n ≡ o → register_in n o ≡ Ok h → Stands rs k h
held_in_lem rs k h n None p e f = no_case (cc)
held_in_lem rs k h n (Some r) p e f =
    let s : ◌≡◌ {A = OpenRegister} (record { place = n; figures = r.figures }) h = cc in
    record {
      row = r;
      at = ap (slice_get rs) (sym (ap (λ (x : OpenRegister). x.place) s)) ∙ e;
      figures = ap (λ (x : OpenRegister). x.figures) s;
      bears = passes_at (λ x. same_key x.key k) rs n r p e;
    }

held_from_lem : (rs : List Row) (k : Key) (h : OpenRegister) (o : Option ℕ) → place_for k rs ≡ o → register_from rs o ≡ Ok h → Stands rs k h
held_from_lem rs k h None p f = no_case (cc)
held_from_lem rs k h (Some n) p f = held_in_lem rs k h n (slice_get rs n) p refl f

pub held_stands : (rs : List Row) (k : Key) (h : OpenRegister) → register_at rs k ≡ Ok h → Stands rs k h
unfolding register_at
held_stands rs k h e = held_from_lem rs k h (place_for k rs) refl e

pub held_figures : (rs : List Row) (k : Key) (h : OpenRegister) → Stands rs k h → FiguresAt rs h.place h.figures
held_figures rs k h s = ap (option_map (λ (r : Row). r.figures)) s.at ∙ ap Some s.figures

-- keys that are the same have the same parts
same_parts : (a b : Key) → same_key a b ≡ true → (a.kind ≡ b.kind) × (a.code ≡ b.code)
same_parts a b e =
    let x = and_parts (eqb a.kind b.kind) (eqb a.code b.code && eqb a.security b.security) e in
    let y = and_parts (eqb a.code b.code) (eqb a.security b.security) x.1 in
    (eqb-true a.kind b.kind x.0, eqb-true a.code b.code y.0)

pub held_apart : (rs : List Row) (k l : Key) (h j : OpenRegister) → Stands rs k h → Stands rs l j → (k.kind ≡ l.kind → k.code ≡ l.code → ⊥) → h.place ≡ j.place → ⊥
held_apart rs k l h j s t ne e =
    let r : s.row ≡ t.row = let x : slice_get rs h.place ≡ slice_get rs j.place = ap (slice_get rs) e in let y = s.at in let z = t.at in cc in
    let p = same_parts s.row.key k s.bears in
    let q = same_parts t.row.key l t.bears in
    let u = ap (λ (x : Row). x.key) r in
    ne (sym p.0 ∙ ap (λ (x : Key). x.kind) u ∙ q.0) (sym p.1 ∙ ap (λ (x : Key). x.code) u ∙ q.1)

-- places each of which differs from those after it
abbrev Differ : List ℕ → Type 0
Differ [] = Unit {0}
Differ (i ∷ is) = AllByRecursion (λ (j : ℕ). i ≢ j) is × Differ is

any_two : (is : List ℕ) → Differ is → AllPairs (λ (i j : ℕ). i ≢ j) is
any_two [] h = λ i j d l k. absurd (omega arith)
any_two (i ∷ is) h = AllPairs-cons (λ (i j : ℕ). i ≢ j) i is (All-from_recursion (λ (j : ℕ). i ≢ j) is h.0) (any_two is h.1)

-- the four registers of a trade
pub record Parts (rs : List Row) (buyer seller security : ℕ) (r : TradeRegisters) : Type 0 where
  pub buyer_cash : Stands rs (cash_key buyer) r.buyer_cash
  pub seller_cash : Stands rs (cash_key seller) r.seller_cash
  pub buyer_holding : Stands rs (holding_key buyer security) r.buyer_holding
  pub seller_holding : Stands rs (holding_key seller security) r.seller_holding

module _ (rs : List Row) (buyer seller security : ℕ) (r : TradeRegisters) where
  abbrev TradeRegisters-is : Result OpenRegister Refusal → Result OpenRegister Refusal → Result OpenRegister Refusal → Result OpenRegister Refusal → Type 0
  TradeRegisters-is a b c d = and_then a (λ x. and_then b (λ y. and_then c (λ z. and_then d (λ w. Ok (record { buyer_cash = x; seller_cash = y; buyer_holding = z; seller_holding = w }))))) ≡ Ok r

  by_four : (a b c d : Result OpenRegister Refusal) → register_at rs (cash_key buyer) ≡ a → register_at rs (cash_key seller) ≡ b → register_at rs (holding_key buyer security) ≡ c → register_at rs (holding_key seller security) ≡ d → TradeRegisters-is a b c d → Parts rs buyer seller security r
  by_four (Err x) b c d p q s t e = no_case (cc)
  by_four (Ok w) (Err x) c d p q s t e = no_case (cc)
  by_four (Ok w) (Ok x) (Err y) d p q s t e = no_case (cc)
  by_four (Ok w) (Ok x) (Ok y) (Err z) p q s t e = no_case (cc)
  by_four (Ok w) (Ok x) (Ok y) (Ok z) p q s t e =
      let f : ◌≡◌ {A = TradeRegisters} (record { buyer_cash = w; seller_cash = x; buyer_holding = y; seller_holding = z }) r = cc in
      record {
        buyer_cash = held_stands rs (cash_key buyer) r.buyer_cash (p ∙ ap (λ (v : TradeRegisters). Ok v.buyer_cash) f);
        seller_cash = held_stands rs (cash_key seller) r.seller_cash (q ∙ ap (λ (v : TradeRegisters). Ok v.seller_cash) f);
        buyer_holding = held_stands rs (holding_key buyer security) r.buyer_holding (s ∙ ap (λ (v : TradeRegisters). Ok v.buyer_holding) f);
        seller_holding = held_stands rs (holding_key seller security) r.seller_holding (t ∙ ap (λ (v : TradeRegisters). Ok v.seller_holding) f);
      }

  pub four_parts : trade_registers_of rs buyer seller security ≡ Ok r → Parts rs buyer seller security r
  unfolding trade_registers_of
  four_parts e = by_four (register_at rs (cash_key buyer)) (register_at rs (cash_key seller)) (register_at rs (holding_key buyer security)) (register_at rs (holding_key seller security)) refl refl refl refl e

  -- they lie apart, since the accounts differ, and stand as they were read
  pub four_apart : Parts rs buyer seller security r → (buyer ≡ seller → ⊥) → (q value block : ℕ) → Apart (moves_of r q value block)
  four_apart s ne q value block =
      let ab = held_apart rs _ _ _ _ s.buyer_cash s.seller_cash (λ x y. ne y) in
      let ac = held_apart rs _ _ _ _ s.buyer_cash s.buyer_holding (λ x y. omega arith) in
      let ad = held_apart rs _ _ _ _ s.buyer_cash s.seller_holding (λ x y. omega arith) in
      let bc = held_apart rs _ _ _ _ s.seller_cash s.buyer_holding (λ x y. omega arith) in
      let bd = held_apart rs _ _ _ _ s.seller_cash s.seller_holding (λ x y. omega arith) in
      let cd = held_apart rs _ _ _ _ s.buyer_holding s.seller_holding (λ x y. ne y) in
      any_two (map (λ (m : Move). m.place) (moves_of r q value block)) ((ab, (ac, (ad, tt))), ((bc, (bd, tt)), ((cd, tt), (tt, tt))))

  pub four_standing : Parts rs buyer seller security r → (q value block : ℕ) → Standing rs (moves_of r q value block)
  four_standing s q value block =
      All-from_recursion (λ (m : Move). FiguresAt rs m.place m.before) (moves_of r q value block)
      (held_figures rs _ _ s.buyer_cash, (held_figures rs _ _ s.seller_cash, (held_figures rs _ _ s.buyer_holding, (held_figures rs _ _ s.seller_holding, tt))))
