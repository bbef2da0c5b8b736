-- What handing out comes to: refused, nothing, or a frame of a sort, with the entry that it is of and what becomes of its end point.
-- Assumes nothing.
use Prim.Native.Nat.{ℕ, ◌≤◌, ◌<◌}
use mathlib.Core.Path.{◌≡◌}
use mathlib.Core.Logic.{◌≢◌}
use mathlib.Core.Bool.{Bool, true, false}
use mathlib.Core.List.{List, ◌∷◌}
use lib.ListN.{length}
use Rattle.units.specs.declared.refusals.Refusal.{Refusal}
use Rattle.memory.specs.Layout.{all_cells, reset_id, urgent_id}
use Rattle.waiting.specs.Acks.{ack_of}
use Rattle.waiting.specs.Order.{acks_in}
use Rattle.waiting.specs.Port.{under_in}
use Rattle.window.specs.Windows.{held}
use Rattle.end_points.specs.Ends.{end_of}
use Rattle.end_points.specs.Heads.{count_in}
use Rattle.end_points.specs.States.{is_sends}
use Rattle.end_points.specs.Runs.{urgent_gone}
use Rattle.end_points.specs.Lent.{Lent}
use Rattle.end_points.specs.declared.State.TheVariants.{Enabled, Open}
use Rattle.slots.specs.Slots.{slot_for, cell, past, number_in, length_in}
use Rattle.timing.specs.Timing.{standing}
use Rattle.frame.specs.declared.FrameType.TheVariants as type
use Rattle.call_hand_out.specs.declared.Next.{Next}
use Rattle.call_hand_out.specs.declared.Next.TheVariants as next
use Rattle.call_hand_out.specs.Handing.{next_out, frame_out, hand_out_answer, handed_run, sent, handed_out}
use Rattle.memory.specs.Layout.{reset_entry, urgent_entry, id_cell, id_entry, id_slot}
use Rattle.good.specs.Good.{Lists, id_at, Good}
use Rattle.good.proofs.Framing.{Within, Apart}
use Rattle.good.proofs.Turns.{turned_to}
use Rattle.std.specs.Prelude.{Ok, Err}

-- ---- what is told of a frame that went out

-- it went out as sort n
pub record Went (x x' : Lent) (n : Next) : Type 0 where
  pub none : under_in x.book ≡ 0
  pub sort : next_out x.node x.book ≡ n
  pub answer : hand_out_answer x ≡ Ok (length (frame_out x n))
  pub after : x' ≡ handed_out x n

-- and altered entry i's business alone
pub record Alone (i : ℕ) (x x' : Lent) (l l' : Lists) : Type 0 where
  pub known : i < count_in x.node
  pub apart : Apart i x.node x'.node
  pub within : Within i x.book x'.book l l'

-- an acknowledgement: the oldest that waits, of an open receiver
pub record AckOut (x x' : Lent) (l l' : Lists) (w : ℕ) : Type 0 where
  pub alone : Alone (ack_of w).entry x x' l l'
  pub acks : acks_in x.node ≡ w ∷ acks_in x'.node
  pub receives : is_sends (end_of x.node (ack_of w).entry).entry.kind ≡ false
  pub opened : (end_of x.node (ack_of w).entry).state ≡ Open
  pub ends : (j : ℕ) → end_of x'.node j ≡ end_of x.node j
  pub book : x'.book ≡ sent x.book type.Acknowledge (ack_of w).entry (ack_of w).seq.0

-- a Reset of an enabled sender, whose timer stands
pub record ResetOut (x x' : Lent) (l l' : Lists) (n : ℕ) : Type 0 where
  pub at : ℕ
  pub entry : reset_entry n ≡ at
  pub is : n ≡ reset_id at
  pub alone : Alone at x x' l l'
  pub sends : is_sends (end_of x.node at).entry.kind ≡ true
  pub sent : Bool
  pub enabled : (end_of x.node at).state ≡ Enabled 0 sent
  pub ends : end_of x'.node at ≡ turned_to (end_of x.node at) (Enabled standing true) (end_of x.node at).run
  pub acks : acks_in x'.node ≡ acks_in x.node

-- an open sender's Urgent
pub record UrgentOut (x x' : Lent) (l l' : Lists) (n : ℕ) : Type 0 where
  pub at : ℕ
  pub entry : urgent_entry n ≡ at
  pub is : n ≡ urgent_id at
  pub alone : Alone at x x' l l'
  pub sends : is_sends (end_of x.node at).entry.kind ≡ true
  pub opened : (end_of x.node at).state ≡ Open
  pub waits : (end_of x.node at).run.urgent ≢ 0
  pub ends : end_of x'.node at ≡ turned_to (end_of x.node at) Open (urgent_gone (end_of x.node at).run)
  pub acks : acks_in x'.node ≡ acks_in x.node

-- the number k past the start of an open sender's window, in the frame and in the book
pub record SlotOut (x x' : Lent) (l l' : Lists) (n i k : ℕ) : Type 0 where
  pub entry : id_entry n ≡ i
  pub is : n ≡ id_at i (end_of x.node i).run.window k
  pub alone : Alone i x x' l l'
  pub sends : is_sends (end_of x.node i).entry.kind ≡ true
  pub opened : (end_of x.node i).state ≡ Open
  pub taken : k < (end_of x.node i).run.taken
  pub here : id_cell n ≡ cell i (end_of x.node i).run.window (past (end_of x.node i).run.window k)
  pub slot : id_slot n ≡ slot_for (end_of x.node i).run.window (past (end_of x.node i).run.window k)
  pub number : number_in (end_of x.node i).run.window (id_slot n) ≡ past (end_of x.node i).run.window k
  pub some : 1 ≤ length_in x.book (id_cell n)
  pub most : length_in x.book (id_cell n) ≤ (end_of x.node i).entry.largest
  pub acks : acks_in x'.node ≡ acks_in x.node

-- a retransmission
pub record ResendOut (x x' : Lent) (l l' : Lists) (n : ℕ) : Type 0 where
  pub at : ℕ
  pub offset : ℕ
  pub slot : SlotOut x x' l l' n at offset
  pub handed : offset < (end_of x.node at).run.handed
  pub missing : held (end_of x.node at).run.window offset ≡ false
  pub ends : (j : ℕ) → end_of x'.node j ≡ end_of x.node j

-- data for the first time: the first number not handed out yet
pub record DataOut (x x' : Lent) (l l' : Lists) (n : ℕ) : Type 0 where
  pub at : ℕ
  pub slot : SlotOut x x' l l' n at (end_of x.node at).run.handed
  pub ends : end_of x'.node at ≡ turned_to (end_of x.node at) Open (handed_run (end_of x.node at).run)

pub data Handed (x x' : Lent) (l l' : Lists) : Type 0 where
  refused : (w : Refusal) → hand_out_answer x ≡ Err w → x' ≡ x → Handed x x' l l'
  nothing : Went x x' next.Nothing → x'.node ≡ x.node → x'.book ≡ x.book → Handed x x' l l'
  acked : (w : ℕ) → Went x x' (next.Ack (ack_of w)) → AckOut x x' l l' w → Handed x x' l l'
  reset : (n : ℕ) → Went x x' (next.Reset n) → ResetOut x x' l l' n → Handed x x' l l'
  urgent : (n : ℕ) → Went x x' (next.Urgent n) → UrgentOut x x' l l' n → Handed x x' l l'
  resent : (n : ℕ) → Went x x' (next.Resend n) → ResendOut x x' l l' n → Handed x x' l l'
  handed : (n : ℕ) → Went x x' (next.Data n) → DataOut x x' l l' n → Handed x x' l l'

pub record HandKept (t : List ℕ) (x x' : Lent) (l : Lists) : Type 0 where
  pub lists : Lists
  pub good : Good t x'.node x'.book lists
  pub store : x'.store ≡ x.store
  pub lengths : (c : ℕ) → c < all_cells → length_in x'.book c ≡ length_in x.book c
  pub what : Handed x x' l lists
