-- A day, one line further.
use Rattle.std.proofs.Common.{◌≡◌, ℕ, List, [], ◌∷◌, ◌++◌, Ok, Err, Some, None, Option, Result, refl, sym, ap, ◌∙◌, subst, append_assoc}
use Rattle.registers.specs.declared.store.Store.{Ghosts}
use Rattle.registers.specs.Changes.{Change}
use Rattle.plans.specs.Runs.{state_after, changes_over}
use Rattle.partial.specs.declared.call.Call.{Call}
use Rattle.partial.specs.State.{State}
use Rattle.partial.specs.Plans.{call_of}
use Rattle.day_records.specs.Items.{Item, Seen, Bad}
use Rattle.day_records.specs.Views.{items_left}
use Rattle.day_records.specs.declared.fault.FileFault.{FileFault}
use Rattle.dayfile.specs.declared.day.Day.{Day}
use Rattle.dayfile.specs.declared.line.Line.{Line}
use Rattle.dayfile.specs.declared.listing_stage.ListingStage.{ListingStage}
use Rattle.dayfile.specs.declared.listing_stage.ListingStage.TheVariants.{Header, Records, Registers}
use Rattle.dayfile.specs.Lines.{lines_from}
use Rattle.dayfile.specs.Days.{calls_in, told, called, carried_next, state_behind, changes_behind, calls_before, lines_left, calls_left, Advances, Tells, GoesOn}

-- of what the next line carries out: the state and the changes of the calls that were left, and that none was left
state_by : (r : Option (Result Call FileFault)) (s : State) (cs : List Call) → state_after call_of s (calls_before r cs) ≡ state_after call_of (state_behind r s) cs
state_by (Some (Ok c)) s cs = refl
state_by (Some (Err e)) s cs = refl
state_by None s cs = refl

changes_by : (r : Option (Result Call FileFault)) (s : State) (cs : List Call) → changes_over call_of s (calls_before r cs) ≡ changes_behind r s ++ changes_over call_of (state_behind r s) cs
changes_by (Some (Ok c)) s cs = refl
changes_by (Some (Err e)) s cs = refl
changes_by None s cs = refl

none_by : (r : Option (Result Call FileFault)) (cs : List Call) → calls_before r cs ≡ [] → cs ≡ []
none_by (Some (Ok c)) cs e = cc
none_by (Some (Err x)) cs e = e
none_by None cs e = e

-- once nothing is left to tell, no call is left
lines_stand : (s : State) (count : ℕ) (items : List Item) → lines_from s count items ≡ [] → calls_in items ≡ []
lines_stand s count [] e = cc
lines_stand s count (Bad fault place ∷ items) e = cc
lines_stand s count (Seen k body place ∷ items) e = cc

none_called : (stage : ListingStage) (s : State) (count : ℕ) (items : List Item) → told stage s count items ≡ [] → called stage items ≡ []
none_called (Header fault) s count items e = cc
none_called Records s count items e = lines_stand s count items e
none_called (Registers place) s count items e = refl

-- the calls that are left lead from behind the line to the same state, and change the same
module _ {S : Type 0} {store : Ghosts S} (before after : Day S store) (moves : Advances before after) where
  pub state_kept : state_after call_of after.engine.state (calls_left after) ≡ state_after call_of before.engine.state (calls_left before)
  state_kept =
      ap (λ (s : State). state_after call_of s (calls_left after)) moves.state
      ∙ sym (state_by (carried_next before) before.engine.state (calls_left after))
      ∙ sym (ap (state_after call_of before.engine.state) moves.calls)

  pub changes_kept : changes_behind (carried_next before) before.engine.state ++ changes_over call_of after.engine.state (calls_left after) ≡ changes_over call_of before.engine.state (calls_left before)
  changes_kept =
      ap (λ (s : State). changes_behind (carried_next before) before.engine.state ++ changes_over call_of s (calls_left after)) moves.state
      ∙ sym (changes_by (carried_next before) before.engine.state (calls_left after))
      ∙ sym (ap (changes_over call_of before.engine.state) moves.calls)

  -- behind the last line no call is left
  pub none_left : lines_left before ≡ [] → calls_left after ≡ []
  none_left e =
      none_by (carried_next before) (calls_left after)
      (sym moves.calls ∙ none_called before.stage before.engine.state before.count (items_left before.records) e)

-- a day goes on by no line, and by some and then by others
module _ {S : Type 0} {store : Ghosts S} where
  pub goes_on-none : (day : Day S store) → GoesOn day day
  goes_on-none day = record { lines = ([], refl); state = refl; changes = λ end made. made }

  pub goes_on-then : (a b c : Day S store) → GoesOn a b → GoesOn b c → GoesOn a c
  goes_on-then a b c p q = record {
    lines = (p.lines.0 ++ q.lines.0, p.lines.1 ∙ ap (λ (ls : List Line). p.lines.0 ++ ls) q.lines.1 ∙ sym (append_assoc p.lines.0 q.lines.0 (lines_left c)));
    state = q.state ∙ p.state;
    changes = λ end made. p.changes end (q.changes end made);
  }

-- a call of `next_line` goes on, by the law of the store that changes and then changes are all of them
module _ {S : Type 0} {store : Ghosts S} (joined : (a b c : S) (xs ys : List Change) → store.made a xs b → store.made b ys c → store.made a (xs ++ ys) c) where
  goes_on-by : (before after : Day S store) (ls : List Line) → lines_left before ≡ ls ++ lines_left after → Advances before after → GoesOn before after
  goes_on-by before after ls lines moves = record {
    lines = (ls, lines);
    state = state_kept before after moves;
    changes = λ end made.
        subst (λ (xs : List Change). store.made before.engine.store xs end) (changes_kept before after moves) (joined _ _ _ _ _ moves.changes made);
  }

  pub goes_on-next : (before : Day S store) (r : Option Line) (after : Day S store) → Tells before r after → GoesOn before after
  goes_on-next before None after tells = goes_on-by before after [] (tells.lines.0 ∙ sym tells.lines.1) tells.advances
  goes_on-next before (Some l) after tells = goes_on-by before after (l ∷ []) tells.lines tells.advances
