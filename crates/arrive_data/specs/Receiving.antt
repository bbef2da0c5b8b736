-- A Reset, Data or an Urgent taken in by a receiver: what it was, and what all that was lent holds afterwards. Cited
-- by arrival. Assumes nothing.
use Rattle.std.specs.Prelude.{ℕ, ◌+◌, List, [], ◌∷◌, length, set}
use Rattle.std.proofs.lemmas.List.Edits.{sets}
use Rattle.units.specs.Refusals.{pick}
use Rattle.memory.specs.Layout.{ack_word, entry_at, start_word, low_marks_word, high_marks_word, length_at}
use Rattle.waiting.specs.Acks.{pushed, dropped}
use Rattle.window.specs.Windows.{accept_of, pass_of, held_count}
use Rattle.window.specs.declared.Window.{Window}
use Rattle.window.specs.declared.Passed.{Passed}
use Rattle.end_points.specs.Ends.{saved}
use Rattle.end_points.specs.Runs.{anew, is_new}
use Rattle.end_points.specs.Lent.{Lent}
use Rattle.end_points.specs.declared.EndPoint.{EndPoint}
use Rattle.end_points.specs.declared.State.TheVariants.{Open}
use Rattle.end_points.specs.declared.Run.{Run}
use Rattle.end_points.specs.declared.answers.Was.{Was}
use Rattle.end_points.specs.declared.answers.Was.TheVariants as was
use Rattle.slots.specs.Slots.{slot_for, cell, spot}
use Rattle.blocks.specs.Blocks.{block_of, takes}
use Rattle.blocks.specs.Payloads.{payloads}

-- an acknowledgement of s waits for entry i [A1, H3]
abbrev pub acknowledged : List ℕ → ℕ → ℕ → List ℕ
acknowledged ws i s = pushed ws (ack_word i s)

-- ---- a Reset, at Enabled or Open

-- how many were held [E13]
unfoldable pub reset_answer : EndPoint → Was
reset_answer e = was.Reset (held_count e.run.window)

-- Open, start 1; held payloads and waiting acknowledgements dropped; acknowledgement 0 waits [E11, E12]
unfoldable pub reset_node : List ℕ → ℕ → EndPoint → List ℕ
reset_node ws i e = saved (acknowledged (dropped i ws) i 0) i Open (anew e.run)

unfoldable pub reset_after : Lent → ℕ → EndPoint → Lent
reset_after x i e = record { node = reset_node x.node i e; book = x.book; store = x.store; out = x.out }

-- ---- Data, at Open

-- the run with another window
unfoldable pub with_window : Run → Window → Run
with_window r w =
    record {
      window = w;
      taken = r.taken;
      handed = r.handed;
      accepted = r.accepted;
      confirmed = r.confirmed;
      urgent = r.urgent;
    }

-- of the node only the window alters: the run that is loaded then is `with_window` of the one before [W5]
abbrev pub window_node : List ℕ → ℕ → Window → List ℕ
window_node ws i w =
    set
    (set (set ws (entry_at i + start_word) w.start.0) (entry_at i + low_marks_word) w.marks.0)
    (entry_at i + high_marks_word) w.marks.1

-- in the window and new: the payload p lies in its slot [S3, S5, W4]
abbrev pub put_store : List ℕ → EndPoint → ℕ → List ℕ → List ℕ
put_store store e s p = sets store (spot e.place e.entry.largest (slot_for e.run.window s)) p

abbrev pub put_book : List ℕ → ℕ → EndPoint → ℕ → List ℕ → List ℕ
put_book b i e s p = set b (length_at (cell i e.run.window s)) (length p)

-- the window with s held, past all held without a gap [W5]
abbrev pub passing : EndPoint → ℕ → Passed
passing e s = pass_of (accept_of e.run.window s).window

-- the payloads that it passes, from the start on [W5]
abbrev pub delivered : Lent → ℕ → EndPoint → ℕ → List ℕ → List (List ℕ)
delivered x i e s p =
    payloads (put_store x.store e s p) (put_book x.book i e s p) i e.place e.entry.largest e.run.window
    (passing e s).run

-- what is delivered: nothing where the number was held already or is outside [W5, W6]
unfoldable pub given : Lent → ℕ → EndPoint → ℕ → List ℕ → List (List ℕ)
given x i e s p = pick (is_new (accept_of e.run.window s).found) (delivered x i e s p) []

-- how much of the block was written: all of it, where there is room [B3, O9]
unfoldable pub data_answer : Lent → ℕ → EndPoint → ℕ → List ℕ → Was
data_answer x i e s p = was.Data (takes x.out (given x i e s p))

-- in the window and new: held, what is at the start delivered, and an acknowledgement waits [W4, W5, A1, B3, B4]
abbrev pub first_time : Lent → ℕ → EndPoint → ℕ → List ℕ → Lent
first_time x i e s p =
    record {
      node = window_node (acknowledged x.node i s) i (passing e s).window;
      book = put_book x.book i e s p;
      store = put_store x.store e s p;
      out = sets x.out 0 (block_of (delivered x i e s p));
    }

-- held already or outside: nothing is delivered, and an acknowledgement waits [W6, A1, B3]
abbrev pub repeated : Lent → ℕ → ℕ → Lent
repeated x i s =
    record {
      node = acknowledged x.node i s;
      book = x.book;
      store = x.store;
      out = sets x.out 0 (block_of []);
    }

-- in all cases an acknowledgement waits [A1]
unfoldable pub data_after : Lent → ℕ → EndPoint → ℕ → List ℕ → Lent
data_after x i e s p = pick (is_new (accept_of e.run.window s).found) (first_time x i e s p) (repeated x i s)

-- ---- an Urgent, at Open: delivered, not acknowledged

-- how much of the block was written [E16, B3, O9]
unfoldable pub urgent_answer : List ℕ → List ℕ → Was
urgent_answer out p = was.Urgent (takes out (p ∷ []))

-- the block alone alters [E16, B3, B4]
unfoldable pub urgent_after : Lent → List ℕ → Lent
urgent_after x p = record { node = x.node; book = x.book; store = x.store; out = sets x.out 0 (block_of (p ∷ [])) }
