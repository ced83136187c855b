use Rattle.std.proofs.Common.{◌≡◌, ℕ, ◌+◌, List, [], ◌∷◌, length, drop, Some, Ok, Err, Result, sym, refl, ap, ◌∙◌, rules, arith}
use Rattle.std.proofs.lemmas.List.{take_rest, drop_all}
use Rattle.day_records.specs.declared.misread.Misread.{Misread}
use Rattle.day_records.specs.declared.placed_record.PlacedRecord.{PlacedRecord}
use Rattle.day_records.specs.Kinds.{body_of}
use Rattle.day_records.specs.Items.{item_at, place_after, items_from}
use Rattle.day_records.specs.Views.{item_as, items_left, told_as}
use Rattle.day_records.proofs.Reading.{ItemRead, item_read, fields_whole}
use Rattle.day_records.proofs.reader.ReaderIterator.next.Goals as goal

pub returns-then-place-bytes : goal.returns-then-place-bytes
returns-then-place-bytes c =
    let none : drop c.args.self.now.place c.args.self.now.bytes.now ≡ [] = drop_all c.args.self.now.place c.args.self.now.bytes.now c.if-place-bytes.true in
    record {
      steps = record {
        items = rw none (refl, refl);
        answer = rw none;
        left = search rules;
        same = search rules;
        ends = search rules;
      };
      goes = search rules;
    }

-- where the reader goes on after each answer
module _ (s : List ℕ) (p : ℕ) (told : Result PlacedRecord Misread) (at : told_as (Some told) ≡ item_at p (drop p s)) where
  past : (read : PlacedRecord) (n : ℕ) → told ≡ Ok read → n ≡ length (body_of read.«record») → p + 1 + n ≡ place_after (told_as (Some told)) p (length s)
  past read n is e =
      let w = fields_whole s p _ _ read.place (ap (λ (x : Result PlacedRecord Misread). told_as (Some x)) (sym is) ∙ at) in
      rw (is, e ∙ w)

  ended : (m : Misread) → told ≡ Err m → length s ≡ place_after (told_as (Some told)) p (length s)
  ended m is = rw is

pub returns : goal.returns
returns c =
    let s : List ℕ = c.args.self.now.bytes.now in
    let p : ℕ = c.args.self.now.place in
    let told : Result PlacedRecord Misread = c.placed-told.result in
    let at : told_as (Some told) ≡ item_at p (drop p s) = c.placed-told.ensures ∙ ap (item_at p) (take_rest s p) in
    let left : c.match-told.self ≡ place_after (told_as (Some told)) p (length s) =
    elim c.match-told.branch [ goal.in-Ok w ↦ w.self-is ∙ past s p told at w.in-Ok.read w.length.result w.in-Ok.is w.length.ensures | goal.in-Err w ↦ omega (arith, w.self-is, ended s p told at _ w.in-Err.is) ]
    in
    let told_read : ItemRead s p (told_as (Some told)) = rw at (item_read s p) in
    let items : items_left c.args.self.now ≡ item_as told ∷ items_from 0 c.match-told.self (drop c.match-told.self s) = rw left told_read.items in
    record {
      steps = record {
        items = items;
        answer = at;
        left = left;
        same = refl;
        ends = rw left ((told_read.ends refl).0, (told_read.ends refl).1, search rules);
      };
      goes = record { on = λ _. (tt, tt, omega (arith, ap length items)); keeps = tt; rests = λ _. tt };
    }
