-- An acknowledgement taken in by a sender: what it was, and what node and book hold afterwards. Cited by arrival.
-- Assumes nothing.
use Rattle.std.specs.Prelude.{ℕ, ◌+◌, ◌-◌, ◌%◌, Bool, ◌&&◌, List, ◌==◌, nat_lt, slice_set, Option, Some, None}
use Rattle.units.specs.Refusals.{pick}
use Rattle.memory.specs.Layout.{entry_at, start_word, low_marks_word, high_marks_word, taken_word, handed_word}
use Rattle.memory.specs.Layout.{confirmed_word}
use Rattle.memory.specs.Layout.{reset_id, cell_id, timer_at}
use Rattle.waiting.specs.Queues.{unlinked}
use Rattle.timing.specs.Timing.{roused}
use Rattle.window.specs.Windows.{offset_of, accept_of, pass_of, reset_of}
use Rattle.window.specs.declared.Passed.{Passed}
use Rattle.end_points.specs.Ends.{saved}
use Rattle.end_points.specs.Runs.{is_new}
use Rattle.end_points.specs.Lent.{Lent}
use Rattle.end_points.specs.declared.EndPoint.{EndPoint}
use Rattle.end_points.specs.declared.State.{State}
use Rattle.end_points.specs.declared.State.TheVariants.{Closed, Enabled, Open, Failing}
use Rattle.end_points.specs.declared.Run.{Run}
use Rattle.end_points.specs.declared.answers.Was.{Was}
use Rattle.end_points.specs.declared.answers.Was.TheVariants as was
use Rattle.slots.specs.Slots.{cell, timer_in}
use Rattle.arrive_ack.specs.declared.Tally.{Tally}

-- at Open and Failing number s counts if it is in the window, handed out and not yet acknowledged [A2]
unfoldable pub counts : Run → ℕ → Bool
counts r s = nat_lt (offset_of r.window s) r.handed && is_new (accept_of r.window s).found

-- the window with s acknowledged, past all acknowledged numbers without a gap [W8]
abbrev pub passing : Run → ℕ → Passed
passing r s = pass_of (accept_of r.window s).window

-- the start passes them; confirmed grows by the number passed [W8, A4]
abbrev pub moved : Run → Passed → Run
moved r p =
    record {
      window = p.window;
      taken = r.taken - p.run;
      handed = r.handed - p.run;
      accepted = r.accepted;
      confirmed = record { 0 = (r.confirmed.0 + p.run) % 4294967296 };
      urgent = r.urgent;
    }

-- the run once s is acknowledged [W8, A4]
unfoldable pub acked_run : Run → ℕ → Run
acked_run r s = moved r (passing r s)

-- what number s comes to at Open and Failing, where it counts; else it is ignored [A2, A5]
unfoldable pub tallied : Run → ℕ → Option Tally
tallied r s = pick (counts r s) (Some (record { next = acked_run r s; passed = (passing r s).run })) None

-- Open by acknowledgement 0: start 1, counts 0 [E10]
unfoldable pub opened_run : Run → Run
opened_run r =
    record {
      window = reset_of r.window;
      taken = 0;
      handed = 0;
      accepted = record { 0 = 0 };
      confirmed = record { 0 = 0 };
      urgent = 0;
    }

-- ---- what it was

-- at Enabled it opens or is ignored; at Open and Failing it counts or is ignored [E9, A2, A5]
unfoldable pub ack_answer : EndPoint → State → ℕ → Was
ack_answer e Closed s = was.Ignored
ack_answer e (Enabled t sent) s = pick (sent && s == 0) was.Opened was.Ignored
ack_answer e Open s = pick (counts e.run s) (was.Acknowledged (passing e.run s).run) was.Ignored
ack_answer e (Failing n) s = pick (counts e.run s) (was.Acknowledged (passing e.run s).run) was.Ignored

-- ---- what it leaves

-- a Reset that waits again goes (one waits where its timer's place, t, is 0) [E10]
abbrev pub reset_gone : List ℕ → ℕ → ℕ → List ℕ
reset_gone b i t = pick (t == 0) (unlinked b (reset_id i)) b

-- its timer stops; a waiting retransmission goes (at Open one waits where the timer's place is 0) [A3]
unfoldable pub stopped : List ℕ → ℕ → List ℕ
stopped b g = slice_set (pick (timer_in b g == 0) (unlinked b (cell_id g)) b) (timer_at g) 0

-- at Failing one timer fewer runs, where it ran [E2]
abbrev pub fewer : ℕ → ℕ → ℕ
fewer t n = pick (t == 0) n (n - 1)

-- a number counts at Open: of an end point's words six alter. The run that is loaded then is r, of which the count of
-- those accepted and the Urgent are as they were [A4]
abbrev pub counted_node : List ℕ → ℕ → Run → List ℕ
counted_node ws i r =
    let ws₁ = slice_set ws (entry_at i + start_word) r.window.start.0 in
    let ws₂ = slice_set ws₁ (entry_at i + low_marks_word) r.window.marks.0 in
    let ws₃ = slice_set ws₂ (entry_at i + high_marks_word) r.window.marks.1 in
    let ws₄ = slice_set ws₃ (entry_at i + taken_word) r.taken in
    let ws₅ = slice_set ws₄ (entry_at i + handed_word) r.handed in
    slice_set ws₅ (entry_at i + confirmed_word) r.confirmed.0

-- the node: the end point put back, Open where it was opened, with its run as it then is; at Failing the next tick goes
-- through the entries, since none may be left running [E9, E10, A4, A5]
unfoldable pub ack_node : List ℕ → List ℕ → ℕ → EndPoint → State → ℕ → List ℕ
ack_node ws b i e Closed s = ws
ack_node ws b i e (Enabled t sent) s = pick (sent && s == 0) (saved ws i Open (opened_run e.run)) ws
ack_node ws b i e Open s = pick (counts e.run s) (counted_node ws i (acked_run e.run s)) ws
ack_node ws b i e (Failing n) s =
    pick (counts e.run s)
    (roused (saved ws i (Failing (fewer (timer_in b (cell i e.run.window s)) n)) (acked_run e.run s))) ws

-- the book: what waited of the number, or of the Reset, goes, and its timer stops [E10, A3, A5]
unfoldable pub ack_book : List ℕ → ℕ → EndPoint → State → ℕ → List ℕ
ack_book b i e Closed s = b
ack_book b i e (Enabled t sent) s = pick (sent && s == 0) (reset_gone b i t) b
ack_book b i e Open s = pick (counts e.run s) (stopped b (cell i e.run.window s)) b
ack_book b i e (Failing n) s = pick (counts e.run s) (slice_set b (timer_at (cell i e.run.window s)) 0) b

-- all that was lent
abbrev pub ack_after : Lent → ℕ → EndPoint → State → ℕ → Lent
ack_after x i e st s =
    record {
      node = ack_node x.node x.book i e st s;
      book = ack_book x.book i e st s;
      store = x.store;
      out = x.out;
    }
