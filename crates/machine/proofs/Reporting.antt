-- The laws of the report (specs/LawsReporting.antt): when it goes through, and what the end of the frame under way
-- makes of its end point. Assumes nothing.
use Prim.Native.Nat.{ℕ}
use mathlib.Core.Path.{◌≡◌, refl, sym, ap, subst, ◌∙◌}
use mathlib.Core.Bool.{Bool, true, false, not, ◌&&◌}
use mathlib.Core.Option.{Option, none, some}
use mathlib.Core.List.{[], ◌∷◌}
use lib.ListN.{get_elem?, length-set}
use Rattle.units.specs.Refusals.{pick}
use Rattle.units.specs.declared.refusals.Refusal.TheVariants as refusal
use Rattle.frame.specs.declared.FrameType.{FrameType}
use Rattle.frame.specs.declared.FrameType.TheVariants as type
use Rattle.end_points.specs.declared.State.{State}
use Rattle.end_points.specs.declared.State.TheVariants.{Closed, Enabled, Open, Failing}
use Rattle.machine.specs.Calls.{reports}
use Rattle.machine.specs.Machine.{Number, End, Out, Machine, stated, port, found, turned, offset, number_at}
use Rattle.machine.specs.Machine.{running, recounted, data_timed, reset_timed, ended, reported, reporting, step}
use Rattle.machine.specs.Laws.{Is, after, item}
use Rattle.machine.specs.LawsReporting.{ReportGoes, NoneRefuses, Ends, ReportEnds, started, DataIsTimed}
use Rattle.machine.specs.LawsReporting.{DataIsDone, ResetIsTimed, ResetIsDone, OthersStartNothing}
use Rattle.machine.proofs.Entries.{elem_lt, elem_get_d, elem_set_same}
use Rattle.machine.proofs.Judged.{refused_not}

-- ---- when it goes through

pub report_goes : ReportGoes
unfolding ReportGoes step reporting reported
report_goes m = (λ h. sides m.under refl h, λ t. ap (λ (u : Option Out). (reported m u).answer.numbers) t.1)
  where
    sides : (u : Option Out) → m.under ≡ u → (reported m u).answer.numbers ≡ 0 ∷ [] → (f : Out) × (m.under ≡ some f)
    sides none under h = absurd (refused_not refusal.NoneUnderWay [] h)
    sides (some f) under h = (f, under)

pub none_refuses : NoneRefuses
unfolding NoneRefuses step reporting reported
none_refuses m under = (
  ap (λ (u : Option Out). (reported m u).answer.numbers) under,
  ap (λ (u : Option Out). (reported m u).machine) under,
)

pub report_ends : ReportEnds
unfolding ReportEnds step reporting reported
report_ends m = sides m.under refl
  where
    there : (i s : ℕ) (q : FrameType) (o : Option End) → Ends m (port none (found o m (λ e. turned i (ended q e s) m)))
    there i s q none = record { under = refl; count = refl; waiting = λ r. refl }
    there i s q (some e) = record { under = refl; count = length-set m.ends i (ended q e s); waiting = λ r. refl }

    sides : (u : Option Out) → m.under ≡ u → Ends m (reported m u).machine
    sides none under = record { under = under; count = refl; waiting = λ r. refl }
    sides (some f) under = there f.1.entry f.1.number f.0 (get_elem? m.ends f.1.entry)

-- ---- what becomes of its end point

module _ (q : FrameType) (m : Machine) {i s : ℕ} {e : End} (under : m.under ≡ some (q, item i s))
    (here : Is m i e) where
  pub ended_is : Is (after m reports) i (ended q e s)
  unfolding step reporting reported
  ended_is = rw (under, here) (elem_set_same m.ends i (ended q e s) (elem_lt m.ends i here))

  -- what that is
  ended_as : {d : End} → ended q e s ≡ d → Is (after m reports) i d
  ended_as h = subst (λ (z : End). Is (after m reports) i z) h ended_is

-- ---- Data

data_is : (e : End) (s : ℕ) (b : Bool) → ((number_at e s).handed && not (number_at e s).acked) ≡ b
    → data_timed e s ≡ pick b (started e s (number_at e s)) e
data_is e s b h = rw h

pub data_is_timed : DataIsTimed
unfolding DataIsTimed
data_is_timed m i s e x under here there handed acked =
    record {
      opened = λ state. ended_as type.Data m under here (by state ∙ starts);
      failing = λ timers state. ended_as type.Data m under here (by state ∙ ap (recounted (Failing timers)) starts);
    }
  where
    by : {z : State} → e.state ≡ z → ended type.Data e s ≡ recounted z (data_timed e s)
    by h = ap (λ (z : State). recounted z (data_timed e s)) h

    was : number_at e s ≡ x
    was = elem_get_d e.numbers (offset e s) _ there

    still : ((number_at e s).handed && not (number_at e s).acked) ≡ true
    still = ap (λ (y : Number). y.handed && not y.acked) was ∙ rw (handed, acked)

    starts : data_timed e s ≡ started e s x
    starts = data_is e s true still ∙ ap (started e s) was

-- a Failing end that says how many timers run says it again
recount_stays : (e : End) (z : State) → e.state ≡ z
    → ((timers : ℕ) → e.state ≡ Failing timers → timers ≡ running e.numbers) → recounted z e ≡ e
recount_stays e Closed h says = refl
recount_stays e (Enabled timer sent) h says = refl
recount_stays e Open h says = refl
recount_stays e (Failing timers) h says = ap (λ (z : State). stated z e) (ap Failing (sym (says timers h)) ∙ sym h)

pub data_is_done : DataIsDone
unfolding DataIsDone
data_is_done m i s e under here says over =
    ended_as type.Data m under here
    (ap (recounted e.state) (data_is e s false over) ∙ recount_stays e e.state refl says)

-- ---- a Reset

reset_as : (m : Machine) {i s : ℕ} (e : End) (z : State) → m.under ≡ some (type.Reset, item i s) → Is m i e
    → e.state ≡ z → Is (after m reports) i (reset_timed z e)
reset_as m e z under here state = ended_as type.Reset m under here (ap (λ (y : State). reset_timed y e) state)

pub reset_is_timed : ResetIsTimed
unfolding ResetIsTimed
reset_is_timed m i s timer e under here state = reset_as m e (Enabled timer true) under here state

pub reset_is_done : ResetIsDone
reset_is_done =
    record {
      anew = λ m i s timer e under here state. reset_as m e (Enabled timer false) under here state;
      answered = λ m i s e under here state. reset_as m e Open under here state;
      closed = λ m i s e under here state. reset_as m e Closed under here state;
    }

-- ---- the others

pub others_start_nothing : OthersStartNothing
others_start_nothing =
    record {
      acknowledge = λ m i s e under here. ended_is type.Acknowledge m under here;
      urgent = λ m i s e under here. ended_is type.Urgent m under here;
    }
