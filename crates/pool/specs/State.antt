-- The state of Level Three: that of Level Two. Tickets are held beside the engine and are no part of it.
use Rattle.partial.specs.State as two

abbrev pub State : Type 0
State = two.State

-- a plan of this level
abbrev pub Step : Type 0
Step = two.Step
