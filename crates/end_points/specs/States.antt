-- Questions about an end point's kind and state. Cited by the calls and by the machine. Assumes nothing.
use Rattle.std.specs.Prelude.{Bool, true, false, eqb}
use Rattle.table.specs.declared.Kind.{Kind}
use Rattle.table.specs.declared.Kind.TheVariants.{Sends, Receives}
use Rattle.end_points.specs.declared.State.{State}
use Rattle.end_points.specs.declared.State.TheVariants.{Closed, Enabled, Open, Failing}

-- whether an entry sends [T5]
abbrev pub is_sends : Kind → Bool
is_sends Sends = true
is_sends Receives = false

-- whether an end point is Closed [E1]
abbrev pub is_closed : State → Bool
is_closed Closed = true
is_closed (Enabled t sent) = false
is_closed Open = false
is_closed (Failing n) = false

-- whether it is Open [E1]
abbrev pub is_open : State → Bool
is_open Closed = false
is_open (Enabled t sent) = false
is_open Open = true
is_open (Failing n) = false

-- a Failing end with no timer running [D10]
abbrev pub is_over : State → Bool
is_over Closed = false
is_over (Enabled n sent) = false
is_over Open = false
is_over (Failing n) = eqb n 0
