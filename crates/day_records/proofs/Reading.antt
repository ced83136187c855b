-- One item read, over plain values.
use Rattle.std.proofs.Common.{◌≡◌, ℕ, zero, suc, ◌+◌, ◌<◌, ◌≤◌, Bool, true, false, cond, ltb, List, [], ◌∷◌, ◌++◌, length, take, drop, is_some, Some, None, Option, sym, refl, ap, ◌∙◌, add-zero, arith, length-drop, drop-drop, ltb-false}
use lib.Seq.{drop-length}
use Rattle.std.specs.Option.{option_to_list}
use Rattle.std.proofs.lemmas.List.{length-take-le}
use Rattle.day_records.specs.declared.fault.FileFault.{FileFault}
use Rattle.day_records.specs.declared.fault.FileFault.TheVariants.{UnknownLetter, CutShort}
use Rattle.day_records.specs.declared.kind.RecordKind.{RecordKind}
use Rattle.day_records.specs.Kinds.{kind_for, length_of}
use Rattle.day_records.specs.Items.{Item, Seen, Bad, begun, item_at, place_after, items_from}

-- skipping the fields of a record
skips : (n p : ℕ) (s : List ℕ) → n ≤ length s → items_from n p s ≡ items_from 0 (p + n) (drop n s)
skips zero p s h = ap (λ (q : ℕ). items_from 0 q s) (sym (add-zero p))
skips (suc n) p [] h = absurd (omega arith)
skips (suc n) p (b ∷ bs) h =
    let e : p + 1 + n ≡ p + suc n = omega arith in
    skips n (p + 1) bs (omega arith) ∙ ap (λ (q : ℕ). items_from 0 q (drop n bs)) e

-- what is left of the items once one is read, that the reading goes on, and that a record's fields are whole
pub record ItemRead (s : List ℕ) (p : ℕ) (o : Option Item) : Type 0 where
  pub items : items_from 0 p (drop p s) ≡ option_to_list o ++ items_from 0 (place_after o p (length s)) (drop (place_after o p (length s)) s)
  pub ends : is_some o ≡ true → (p < place_after o p (length s)) × (place_after o p (length s) ≤ length s)
  pub whole : (k : RecordKind) (body : List ℕ) (q : ℕ) → o ≡ Some (Seen k body q) → length body ≡ length_of k

module _ (s : List ℕ) (p : ℕ) where
  at_end : drop p s ≡ [] → ItemRead s p None
  at_end e = record { items = refl; ends = λ h. cc; whole = λ k body q h. cc }

  module _ (b : ℕ) (bs : List ℕ) (is : drop p s ≡ b ∷ bs) where
    before : p < length s
    before = omega (arith, length-drop p s, ap length is)

    bad : (f : FileFault) → begun (kind_for b) p bs ≡ Bad f p → ItemRead s p (Some (Bad f p))
    bad f e =
        record {
          items = rw (is, e, drop-length s);
          ends = λ _. (before, omega arith);
          whole = λ k body q h. cc;
        }

    seen : (k : RecordKind) → begun (kind_for b) p bs ≡ Seen k (take (length_of k) bs) p → length_of k ≤ length bs → ItemRead s p (Some (Seen k (take (length_of k) bs) p))
    seen k e h =
        let n : p + suc (length_of k) ≡ p + 1 + length_of k = omega arith in
        let d : drop (p + 1 + length_of k) s ≡ drop (length_of k) bs = ap (λ (m : ℕ). drop m s) (sym n) ∙ sym (drop-drop (suc (length_of k)) p s) ∙ ap (drop (suc (length_of k))) is in
        record {
          items = rw (is, e, d) (ap (λ (l : List Item). Seen k (take (length_of k) bs) p ∷ l) (skips (length_of k) (p + 1) bs h));
          ends = λ _. (omega arith, omega (arith, h, length-drop p s, ap length is));
          whole = λ k' body q h'.
              let kk : k ≡ k' = cc in
              let bb : take (length_of k) bs ≡ body = cc in
              ap length (sym bb) ∙ length-take-le (length_of k) bs h ∙ ap length_of kk;
        }

    by_length : (k : RecordKind) (t : Bool) → ltb (length bs) (length_of k) ≡ t → begun (kind_for b) p bs ≡ cond t (Bad CutShort p) (Seen k (take (length_of k) bs) p) → ItemRead s p (Some (cond t (Bad CutShort p) (Seen k (take (length_of k) bs) p)))
    by_length k true e f = bad CutShort f
    by_length k false e f = seen k f (ltb-false _ _ e)

    by_kind : (o : Option RecordKind) → kind_for b ≡ o → ItemRead s p (Some (begun o p bs))
    by_kind None e = bad UnknownLetter (ap (λ (x : Option RecordKind). begun x p bs) e)
    by_kind (Some k) e = by_length k (ltb (length bs) (length_of k)) refl (ap (λ (x : Option RecordKind). begun x p bs) e)

  by_rest : (t : List ℕ) → drop p s ≡ t → ItemRead s p (item_at p t)
  by_rest [] e = at_end e
  by_rest (b ∷ bs) e = by_kind b bs e (kind_for b) refl

  pub item_read : ItemRead s p (item_at p (drop p s))
  item_read = by_rest (drop p s) refl

-- the fields of a record that stands at a place are whole
pub fields_whole : (s : List ℕ) (p : ℕ) (k : RecordKind) (body : List ℕ) (q : ℕ) → ◌≡◌ {A = Option Item} (Some (Seen k body q)) (item_at p (drop p s)) → length body ≡ length_of k
fields_whole s p k body q e = (item_read s p).whole k body q (sym e)
