-- The records of a trace file, made one after the other on what is lent. Cited by the lines of a replay and by what is
-- proved of one. Assumes nothing.
use Rattle.std.specs.Prelude.{ℕ, zero, suc, Bool, true, false, List, Ok, Err}
use Rattle.units.specs.Refusals.{pick}
use Rattle.end_points.specs.Lent.{Lent}
use Rattle.trace.specs.Layout.{count_of}
use Rattle.trace_step.specs.Steps.{step_of}
use Rattle.trace_step.specs.declared.Told.{Told}
use Rattle.trace_step.specs.declared.Told.TheVariants as told

-- all that is lent, after the first n records [L10]
unfoldable pub state_after : Lent → List ℕ → ℕ → Lent
state_after x f zero = x
state_after x f (suc k) = (step_of (state_after x f k) f k).lent

-- and what the call of record k answers [L10]
abbrev pub told_at : Lent → List ℕ → ℕ → Told
told_at x f k = (step_of (state_after x f k) f k).told

-- a table was refused [L11]
abbrev pub is_refused : Told → Bool
is_refused (told.Plain (Ok _)) = false
is_refused (told.Plain (Err w)) = true
is_refused (told.Arrival a) = false
is_refused (told.Tick bits) = false
is_refused (told.HandOut h) = false

-- how many records' calls are made: all, or that of the table alone where it is refused [L11]
unfoldable pub made_of : Lent → List ℕ → ℕ
made_of x f = pick (is_refused (told_at x f 0)) 1 (count_of f)
