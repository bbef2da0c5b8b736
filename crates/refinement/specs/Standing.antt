-- Which machine a node's memory stands for, and the whole theorem: setup stands for the machine begun, and each call
-- on what stands for a machine answers as the machine and leaves what stands for the machine afterwards. Assumes
-- nothing.
use Rattle.std.specs.Prelude.{ℕ, ◌-◌, ◌/◌, ◌≤◌, ◌≡◌, Bool, not, ◌&&◌, length, take, eqb, ltb}
use Rattle.std.proofs.Math.Option.{Option, none, some}
use mathlib.Core.List.{List, [], map, Memᴰ}
use Rattle.std.proofs.Math.ListN.{get_elem?}
use Rattle.units.specs.Refusals.{pick, verdict}
use Rattle.memory.specs.Layout as layout
use Rattle.waiting.specs.Order.{acks_in}
use Rattle.waiting.specs.Port.{under_in, per_type, out_entry, out_number, is_reset, data_out}
use Rattle.window.specs.Windows.{held}
use Rattle.table.specs.Layout.{count_of, own_of, protocol_of}
use Rattle.table.specs.Areas.{store_of}
use Rattle.frame.specs.declared.FrameType.{FrameType}
use Rattle.frame.specs.Types.{type_of}
use Rattle.end_points.specs.Ends.{end_of}
use Rattle.end_points.specs.Lent.{Lent}
use Rattle.end_points.specs.States.{is_sends}
use Rattle.end_points.specs.declared.State.{State}
use Rattle.end_points.specs.declared.State.TheVariants.{Closed, Enabled, Open, Failing}
use Rattle.end_points.specs.declared.EndPoint.{EndPoint}
use Rattle.timing.specs.Timing.{clock_in, left_of}
use Rattle.slots.specs.Slots.{cell, past, number_in, timer_in, retries_in}
use Rattle.end_points.specs.Answers.{stated_of}
use Rattle.call_open.specs.Setup.{setup_answer}
use Rattle.call_open.specs.Opening.{state_answer}
use Rattle.blocks.specs.Payloads.{payload_at}
use Rattle.call_hand_out.specs.Handing.{urgent_payload}
use Rattle.memory.specs.Layout.{id_slot}
use Rattle.memory.specs.Layout.{owner_of}
use Rattle.good.specs.Good.{Lists, Good}
use Rattle.good.specs.Calls.{Memory, answer, after, SetUp, relent, Reach}
use Rattle.good.specs.NewNode.{new_at}
use Rattle.machine.specs.Calls.{Call, Fed}
use Rattle.machine.specs.Sound.{Sound, EachInOnePlace}
use Rattle.machine.specs.Machine.{Number, End, Item, Sort, acks, resets, urgents, resends, datas, Out}
use Rattle.machine.specs.Machine.{Machine, lending, running, listed, begun, blank, setup_tests, stating, step}

-- ---- an end point, of a store and a book, as entry i

-- the payload of the number k past the start, from its slot [S3, S5]
abbrev pub payload_for : List ℕ → List ℕ → ℕ → EndPoint → ℕ → List ℕ
payload_for st b i e k = payload_at st b i e.place e.entry.largest e.run.window k

-- what the number of a tick, kept as a timer, means: the ticks that are left
abbrev pub Reading : Type 0
Reading = ℕ → ℕ

-- the number k past the start; while it is under way its timer does not run [D2]
abbrev pub number_for : Reading → List ℕ → List ℕ → ℕ → EndPoint → ℕ → Number
number_for L st b i e k =
    record {
      payload = payload_for st b i e k;
      retries = retries_in b (cell i e.run.window (past e.run.window k));
      handed = ltb k e.run.handed;
      acked = held e.run.window k;
      timer =
          pick (ltb k e.run.handed && not (eqb (past e.run.window k) (data_out b i)))
          (L (timer_in b (cell i e.run.window (past e.run.window k)))) 0;
    }

abbrev pub place_for : List ℕ → List ℕ → ℕ → EndPoint → ℕ → Option (List ℕ)
place_for st b i e k =
    pick (not (is_sends e.entry.kind) && held e.run.window k) (some (payload_for st b i e k)) none

-- a Reset's timer reads as a number's does, and does not run while the Reset is under way; Failing says how many of the
-- numbers' timers run [E2, D2]
abbrev pub state_for : Reading → Bool → List Number → State → State
state_for L under ns Closed = Closed
state_for L under ns (Enabled d sent) = Enabled (pick under 0 (L d)) sent
state_for L under ns Open = Open
state_for L under ns (Failing n) = Failing (running ns)

unfoldable pub end_for : Reading → List ℕ → List ℕ → ℕ → EndPoint → End
end_for L st b i e =
    record {
      entry = e.entry;
      state = state_for L (is_reset (under_in b) i) (listed e.run.taken (number_for L st b i e)) e.state;
      accepted = e.run.accepted.0;
      confirmed = e.run.confirmed.0;
      start = e.run.window.start.0;
      numbers = listed e.run.taken (number_for L st b i e);
      places = listed e.entry.window (place_for st b i e);
      urgent = pick (eqb e.run.urgent 0) none (some (urgent_payload st e));
    }

-- after the last tick
abbrev pub read_at : Memory → Reading
read_at n = left_of (clock_in n.node)

abbrev pub end_at : Memory → ℕ → End
end_at n i = end_for (read_at n) n.store n.book i (end_of n.node i)

-- ---- what waits

abbrev pub ack_item : ℕ → Item
ack_item w = record { entry = layout.ack_entry w; number = layout.ack_number w }

abbrev pub plain_item : ℕ → Item
plain_item x = record { entry = owner_of x; number = 0 }

abbrev pub slot_item : List ℕ → ℕ → Item
slot_item ws x = record { entry = owner_of x; number = number_in (end_of ws (owner_of x)).run.window (id_slot x) }

unfoldable pub waiting_for : List ℕ → Lists → Sort → List Item
waiting_for ws l acks = map ack_item (acks_in ws)
waiting_for ws l resets = map plain_item (l layout.resets)
waiting_for ws l urgents = map plain_item (l layout.urgents)
waiting_for ws l resends = map (slot_item ws) (l layout.resends)
waiting_for ws l datas = map (slot_item ws) (l layout.datas)

-- ---- the frame under way

-- its type, which stands before its entry and its number, counted from 1 [F6, H8]
abbrev pub type_for : ℕ → FrameType
type_for u = type_of (u / per_type - 1)

-- what the book says of it [H8]
abbrev pub under_for : ℕ → Option Out
under_for u = pick (eqb u 0) none (some (type_for u, record { entry = out_entry u; number = out_number u }))

-- ---- the node

abbrev pub stands_for : List ℕ → Memory → Lists → Machine
stands_for t n l =
    record {
      own = own_of t;
      protocol = protocol_of t;
      need = store_of t;
      room = length n.store;
      ends = listed (count_of t) (end_at n);
      waiting = waiting_for n.node l;
      under = under_for (under_in n.book);
    }

-- a good memory, and the machine that it stands for [O2]
pub record Stands (t : List ℕ) (n : Memory) (m : Machine) : Type 0 where
  pub lists : Lists
  pub good : Good t n.node n.book lists
  pub room : store_of t ≤ length n.store
  pub is : stands_for t n lists ≡ m

-- ---- the theorem

-- setup answers as the machine does, and what it leaves, where it does not refuse, stands for the machine begun [R31]
unfoldable pub SetupAnswers : Type 0
SetupAnswers = (x : Lent) (t : List ℕ) → setup_answer x t ≡ verdict (setup_tests t (length x.store))

-- what setup leaves stands for the machine begun [E3]
unfoldable pub Begins : Type 0
Begins = (t : List ℕ) (n : Memory) → SetUp t n → Stands t n (begun t (length n.store))

-- a call does what the machine does: what it answers, and what it leaves [O1]
pub record Follows (t : List ℕ) (n : Memory) (m : Machine) (c : Call) : Type 0 where
  pub answers : answer n c ≡ (step m c).answer
  pub stands : Stands t (after n c) (step m c).machine

-- on what stands for a machine every call does what the machine does [O1, O2]
unfoldable pub Refines : Type 0
Refines = (t : List ℕ) (n : Memory) (m : Machine) → Stands t n m → (c : Call) → Fed c → Follows t n m c

-- an entry's state is the machine's [E1, R45]
unfoldable pub StatesAnswer : Type 0
StatesAnswer = (t : List ℕ) (n : Memory) (m : Machine) → Stands t n m → (i : ℕ)
    → stated_of (state_answer n.node i) ≡ stating m i

-- ---- another store: it comes with the call

-- with another store, long enough and with the same bytes where the table's entries lie, a memory stands for the same
-- machine, lent that many bytes [P11, R42]
unfoldable pub Relends : Type 0
Relends = (t : List ℕ) (n : Memory) (m : Machine) → Stands t n m
    → (s : List ℕ) → store_of t ≤ length s → take (store_of t) s ≡ take (store_of t) n.store
    → Stands t (relent s n) (lending (length s) m)

-- an end point has no payload: none taken, none held, no Urgent [E8]
pub record Empty (e : End) : Type 0 where
  pub numbers : e.numbers ≡ []
  pub places : (p : List ℕ) → Memᴰ (some p) e.places → ⊥
  pub urgent : e.urgent ≡ none

-- so where it is Closed or Enabled [E8]
abbrev pub Idle : State → Type 0
Idle Closed = Unit {0}
Idle (Enabled timer sent) = Unit {0}
Idle Open = ⊥
Idle (Failing timers) = ⊥

unfoldable pub IdleIsEmpty : Type 0
IdleIsEmpty = (t : List ℕ) (n : Memory) (m : Machine) → Stands t n m
    → (i : ℕ) (e : End) → get_elem? m.ends i ≡ some e → Idle e.state → Empty e

-- where no end point has one, so with a store of any content: a host may lend another while all are Closed or Enabled
-- [P11]
unfoldable pub RelendsAny : Type 0
RelendsAny = (t : List ℕ) (n : Memory) (m : Machine) → Stands t n m
    → ((i : ℕ) (e : End) → get_elem? m.ends i ≡ some e → Empty e) → (s : List ℕ) → store_of t ≤ length s
    → Stands t (relent s n) (lending (length s) m)

-- ---- every node

-- so every node that setup and calls can give stands for a machine, and for no other [O2]
unfoldable pub ReachStands : Type 0
ReachStands = (t : List ℕ) (n : Memory) → Reach t n → (m : Machine) × Stands t n m

-- no other machine, whatever table it is said to be of [O1]
unfoldable pub OneMachine : Type 0
OneMachine = (t u : List ℕ) (n : Memory) (m k : Machine) → Stands t n m → Stands u n k → m ≡ k

-- and that machine is sound [E14, W3, H7, I2]
unfoldable pub StandsSound : Type 0
StandsSound = (t : List ℕ) (n : Memory) (m : Machine) → Stands t n m → Sound t m

-- in it, at Open, a number handed out and not acknowledged runs a timer, waits as a retransmission or is under way, and
-- only one of the three [D13]
unfoldable pub StandsInOnePlace : Type 0
StandsInOnePlace = (t : List ℕ) (n : Memory) (m : Machine) → Stands t n m → EachInOnePlace m

-- a call on a new node, before its first setup, whatever ticks have passed
pub record Blank (store : List ℕ) (c q : ℕ) (k : Call) : Type 0 where
  pub answers : answer (new_at store c q) k ≡ (step (blank (length store)) k).answer
  pub machine : (step (blank (length store)) k).machine ≡ blank (length store)

-- such a node answers as the blank machine does, which stays as it is. What the call leaves of the node is `NewStays`
-- (crates/good). [N1]
unfoldable pub NewIsBlank : Type 0
NewIsBlank = (store : List ℕ) (c q : ℕ) (k : Call) → Blank store c q k
