-- Laws of the report: the frame under way has ended. Data or a Reset starts its timer then, unless it was acknowledged,
-- closed or answered meanwhile; nothing else alters. Proved in proofs/Reporting.antt. Assumes nothing.
use Rattle.std.specs.Prelude.{ℕ, ◌≡◌, ◌↔◌, true, false, not, ◌&&◌, [], ◌∷◌, length, set}
use Rattle.std.proofs.Math.Option.{none, some}
use Rattle.std.proofs.Math.ListN.{get_elem?}
use Rattle.frame.specs.declared.FrameType.TheVariants as type
use Rattle.end_points.specs.declared.State.TheVariants.{Closed, Enabled, Open, Failing}
use Rattle.machine.specs.Calls.{reports}
use Rattle.machine.specs.Machine.{Number, End, Sort, Out, Machine, number, stated, numbered, offset, number_at}
use Rattle.machine.specs.Machine.{running}
use Rattle.machine.specs.Laws.{Is, answer, after, item}

-- ---- when it goes through

-- it goes through where a frame is under way, and nowhere else [H8, R20, R49, O4]
unfoldable pub ReportGoes : Type 0
ReportGoes = (m : Machine) → ((answer m reports).numbers ≡ 0 ∷ []) ↔ ((f : Out) × (m.under ≡ some f))

-- none under way: 20, and all is as it was [R20, R44, R49]
unfoldable pub NoneRefuses : Type 0
NoneRefuses = (m : Machine) → m.under ≡ none → ((answer m reports).numbers ≡ 20 ∷ []) × (after m reports ≡ m)

-- none is under way any more, and what waits waits as it did [H8]
pub record Ends (m m' : Machine) : Type 0 where
  pub under : m'.under ≡ none
  pub count : length m'.ends ≡ length m.ends
  pub waiting : (q : Sort) → m'.waiting q ≡ m.waiting q

-- so after every report; its end point is what the laws below say, and for every other see OthersStay [H8]
unfoldable pub ReportEnds : Type 0
ReportEnds = (m : Machine) → Ends m (after m reports)

-- ---- Data

-- e with the timer of its number s, which was x, at T [D2]
abbrev pub started : End → ℕ → Number → End
started e s x =
    let y = number x.payload x.retries true false e.entry.timeout in
    numbered e.start (set e.numbers (offset e s) y) e

-- rules out the one that never sends again what was lost: the timer starts at T; a Failing end says how many run then
-- [E2, D2]
pub record DataStarts (m : Machine) (i s : ℕ) (e : End) (x : Number) : Type 0 where
  pub opened : e.state ≡ Open → Is (after m reports) i (started e s x)
  pub failing : (timers : ℕ) → e.state ≡ Failing timers
      → Is (after m reports) i (stated (Failing (running (started e s x).numbers)) (started e s x))

-- so where the number is still handed out and not acknowledged [D2]
unfoldable pub DataIsTimed : Type 0
DataIsTimed = (m : Machine) (i s : ℕ) (e : End) (x : Number) → m.under ≡ some (type.Data, item i s) → Is m i e
    → get_elem? e.numbers (offset e s) ≡ some x → x.handed ≡ true → x.acked ≡ false → DataStarts m i s e x

-- acknowledged meanwhile, closed meanwhile, or of a run that is over: nothing starts, at Open and wherever a sender
-- starts anew [D12]
unfoldable pub DataIsDone : Type 0
DataIsDone = (m : Machine) (i s : ℕ) (e : End) → m.under ≡ some (type.Data, item i s) → Is m i e
    → ((timers : ℕ) → e.state ≡ Failing timers → timers ≡ running e.numbers)
    → ((number_at e s).handed && not (number_at e s).acked) ≡ false → Is (after m reports) i e

-- ---- a Reset

-- rules out the one that sends its Reset only once: at Enabled, where one was handed out since Enabled began, its timer
-- starts at T [D2]
unfoldable pub ResetIsTimed : Type 0
ResetIsTimed = (m : Machine) (i s timer : ℕ) (e : End) → m.under ≡ some (type.Reset, item i s) → Is m i e
    → e.state ≡ Enabled timer true → Is (after m reports) i (stated (Enabled e.entry.timeout true) e)

-- closed and opened again meanwhile, answered meanwhile, or closed: nothing starts [D12]
pub record ResetIsDone : Type 0 where
  pub anew : (m : Machine) (i s timer : ℕ) (e : End) → m.under ≡ some (type.Reset, item i s) → Is m i e
      → e.state ≡ Enabled timer false → Is (after m reports) i e
  pub answered : (m : Machine) (i s : ℕ) (e : End) → m.under ≡ some (type.Reset, item i s) → Is m i e
      → e.state ≡ Open → Is (after m reports) i e
  pub closed : (m : Machine) (i s : ℕ) (e : End) → m.under ≡ some (type.Reset, item i s) → Is m i e
      → e.state ≡ Closed → Is (after m reports) i e

-- ---- the others

-- an Acknowledge and an Urgent start nothing [D2]
pub record OthersStartNothing : Type 0 where
  pub acknowledge : (m : Machine) (i s : ℕ) (e : End) → m.under ≡ some (type.Acknowledge, item i s) → Is m i e
      → Is (after m reports) i e
  pub urgent : (m : Machine) (i s : ℕ) (e : End) → m.under ≡ some (type.Urgent, item i s) → Is m i e
      → Is (after m reports) i e
