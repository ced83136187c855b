-- What a whole day comes to.
use Rattle.std.proofs.Common.{◌≡◌, ℕ, List, [], take, sym, refl, append-nil}
use Rattle.registers.specs.declared.row.Row.{Row}
use Rattle.partial.specs.State.{State}
use Rattle.plans.specs.Runs.{outcomes_of, state_after, tallied}
use Rattle.partial.specs.Plans.{call_of}
use Rattle.partial_law.specs.Tally.{empty, entered}
use Rattle.partial_law.specs.Law.{Law}
use Rattle.partial_law.proofs.Laws.{ran as ran_of}
use Rattle.day_runs.specs.Days.{calls_of, settings_of, begin_of}

module _ (rows : List Row) (room : ℕ) (file : List ℕ) where
  -- the law, once the state at the end is known
  pub record Ruled (left : State) : Type 0 where
    pub law : rows ≡ [] → (n : ℕ) → Law (settings_of file).reserve (tallied entered empty (take n (calls_of file)) (outcomes_of call_of (begin_of rows room file) (calls_of file))) (state_after call_of (begin_of rows room file) (take n (calls_of file)))
    pub law_at_end : rows ≡ [] → Law (settings_of file).reserve (tallied entered empty (calls_of file) (outcomes_of call_of (begin_of rows room file) (calls_of file))) left

  pub ruled : (left : State) → left ≡ state_after call_of (begin_of rows room file) (calls_of file) → Ruled left
  ruled left e =
      let f = ran_of rows room (settings_of file) (calls_of file) [] (begin_of rows room file) left (outcomes_of call_of (begin_of rows room file) (calls_of file)) refl (sym (append-nil _)) e in
      record { law = f.law; law_at_end = f.law_at_end }
