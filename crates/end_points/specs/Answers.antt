-- The paper's numbers of each answer: 0 and the values that come with it, or a refusal and, where it is for a fault of
-- the frame, the number of the byte. Assumes nothing.
use Rattle.std.specs.Prelude.{ℕ, List, [], ◌∷◌, Result, Ok, Err}
use Rattle.frame.specs.Faults.{refused_of}
use Rattle.end_points.specs.declared.State.{State}
use Rattle.end_points.specs.declared.State.TheVariants.{Closed, Enabled, Open, Failing}
use Rattle.end_points.specs.declared.answers.Was.{Was}
use Rattle.end_points.specs.declared.answers.Was.TheVariants as was
use Rattle.units.specs.Refusals.{Verdict}
use Rattle.units.specs.declared.refusals.Refusal.{Refusal}
use Rattle.end_points.specs.declared.answers.Counts.{Counts}
use Rattle.end_points.specs.declared.answers.Plan.{Plan}
use Rattle.end_points.specs.declared.answers.Arrival.{Arrival}

-- setup, open, close, send and Urgent: 0, or the refusal [O3]
abbrev pub answer_of : Verdict → List ℕ
answer_of (Ok _) = 0 ∷ []
answer_of (Err w) = refused_of w

-- counts: accepted and confirmed [E17, O3]
abbrev pub counted_of : Result Counts Refusal → List ℕ
counted_of (Ok c) = 0 ∷ c.accepted.0 ∷ c.confirmed.0 ∷ []
counted_of (Err w) = refused_of w

-- a plan: how many payloads were accepted, and what the next one's send answered, 0 where there was none [O3, O10]
abbrev pub planned_of : Result Plan Refusal → List ℕ
planned_of (Ok p) = 0 ∷ p.accepted ∷ answer_of p.stop
planned_of (Err w) = refused_of w

-- a state's number [E1]
abbrev pub state_number : State → ℕ
state_number Closed = 0
state_number (Enabled timer sent) = 1
state_number Open = 2
state_number (Failing timers) = 3

-- an entry's state [E1, O3]
abbrev pub stated_of : Result State Refusal → List ℕ
stated_of (Ok s) = 0 ∷ state_number s ∷ []
stated_of (Err w) = refused_of w

-- the store that a table needs, in bytes [S1, O3]
abbrev pub needed_of : Result ℕ Refusal → List ℕ
needed_of (Ok n) = 0 ∷ n ∷ []
needed_of (Err w) = refused_of w

-- what a frame was: ignored, acknowledged, opened, Reset, Data, Urgent [O3]
abbrev pub what_of : Was → ℕ
what_of was.Ignored = 0
what_of (was.Acknowledged k) = 1
what_of was.Opened = 2
what_of (was.Reset n) = 3
what_of (was.Data n) = 4
what_of (was.Urgent n) = 5

-- and its value: how many numbers the start passed, how many payloads were held, or the block's length [E13, A4, B3]
abbrev pub value_of : Was → List ℕ
value_of was.Ignored = []
value_of (was.Acknowledged k) = k ∷ []
value_of was.Opened = []
value_of (was.Reset n) = n ∷ []
value_of (was.Data n) = n ∷ []
value_of (was.Urgent n) = n ∷ []

-- an arrival: what it was, the index of the entry that the frame was for, its value [O3, O8]
abbrev pub arrived_of : Result Arrival Refusal → List ℕ
arrived_of (Ok a) = 0 ∷ what_of a.was ∷ a.entry ∷ value_of a.was
arrived_of (Err w) = refused_of w

-- handing out: the frame's length, 0 where nothing waits [H4, H5, O3]
abbrev pub handed_of : Result ℕ Refusal → List ℕ
handed_of (Ok n) = 0 ∷ n ∷ []
handed_of (Err w) = refused_of w
