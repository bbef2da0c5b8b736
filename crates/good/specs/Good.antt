-- What holds of every node that setup and calls can give: the table's rules, windows and counts within bounds, what
-- waits agrees with the end points, and no timer runs out before the tick that looks for it. Cited by what is proved of
-- such nodes. Assumes nothing.
use Rattle.std.specs.Prelude.{ℕ, zero, suc, ◌+◌, ◌*◌, ◌-◌, ◌/◌, ◌≤◌, ◌<◌, ◌≡◌, ◌≢◌, Bool, true, false, length, eqb}
use mathlib.Core.List.{List, [], ◌∷◌, Memᴰ}
use Rattle.units.specs.Refusals.{pick}
use Rattle.memory.specs.Layout.{node_words, book_halves, resets, urgents, resends, datas, queues, reset_id, urgent_id}
use Rattle.memory.specs.Layout.{cell_id, owner_of, Ranged, ack_places}
use Rattle.waiting.specs.Acks.{waiting_of}
use Rattle.waiting.specs.Order.{Queue, acks_in}
use Rattle.waiting.specs.Port.{under_in, per_type, types, out_entry, is_own, is_reset, data_out}
use Rattle.window.specs.Windows.{new_of, held, Good as GoodWindow}
use Rattle.window.specs.declared.Window.{Window}
use Rattle.table.specs.Layout.{count_of, own_of, protocol_of, entry_of}
use Rattle.table.specs.Areas.{place_of, store_of}
use Rattle.table.specs.Rules.{good_table}
use Rattle.end_points.specs.Ends.{load_entry, place_in, end_of}
use Rattle.end_points.specs.Heads.{count_in, own_in, protocol_in, need_in}
use Rattle.end_points.specs.States.{is_sends}
use Rattle.end_points.specs.declared.State.{State}
use Rattle.end_points.specs.declared.State.TheVariants.{Closed, Enabled, Open, Failing}
use Rattle.end_points.specs.declared.Run.{Run}
use Rattle.end_points.specs.declared.EndPoint.{EndPoint}
use Rattle.arrive_lookup.specs.Lookup.{Indexed}
use Rattle.slots.specs.Slots.{cell, past, length_in, timer_in}
use Rattle.timing.specs.Timing.{round, clock_in, quiet_in, left_of}

-- ---- what waits

-- the four queues as lists
abbrev pub Lists : Type 0
Lists = ℕ → List ℕ

-- the book holds four queues, and nothing waits in two of them
pub record Lines (b : List ℕ) (l : Lists) : Type 0 where
  pub long : length b ≡ book_halves
  pub queue : (q : ℕ) → q < queues → Queue b q (l q)
  pub high : (q : ℕ) → q < queues → (x : ℕ) → Memᴰ x (l q) → reset_id 0 ≤ x
  pub apart : (q r : ℕ) → q < queues → r < queues → q ≢ r → (x : ℕ) → Memᴰ x (l q) → Memᴰ x (l r) → ⊥

-- entry i's share of a list
abbrev pub mine : ℕ → List ℕ → List ℕ
mine i [] = []
mine i (x ∷ xs) = pick (eqb (owner_of x) i) (x ∷ mine i xs) (mine i xs)

-- what stands for the number k past the start of entry i's window; for n numbers from there on
abbrev pub id_at : ℕ → Window → ℕ → ℕ
id_at i w k = cell_id (cell i w (past w k))

unfoldable pub ids : ℕ → Window → ℕ → ℕ → List ℕ
ids i w k zero = []
ids i w k (suc n) = id_at i w k ∷ ids i w (suc k) n

-- entry i's Resets, Urgents and data that wait
pub record Share (l : Lists) (i : ℕ) (rs us ds : List ℕ) : Type 0 where
  pub resets : mine i (l resets) ≡ rs
  pub urgents : mine i (l urgents) ≡ us
  pub datas : mine i (l datas) ≡ ds

-- a retransmission waits for each number handed out, not acknowledged, whose timer's place is 0; and for no other
-- [A3, D5]
pub record Resend (b : List ℕ) (i : ℕ) (r : Run) (x : ℕ) : Type 0 where
  pub at : ℕ
  pub handed : at < r.handed
  pub missing : held r.window at ≡ false
  pub idle : timer_in b (cell i r.window (past r.window at)) ≡ 0
  pub is : x ≡ id_at i r.window at

pub record Resends (b : List ℕ) (l : Lists) (i : ℕ) (r : Run) : Type 0 where
  pub each : (x : ℕ) → Memᴰ x (mine i (l resends)) → Resend b i r x
  pub all : (x : ℕ) → Resend b i r x → Memᴰ x (mine i (l resends))

-- nothing of entry i waits, but perhaps its Reset
pub record Silent (l : Lists) (i : ℕ) (rs : List ℕ) : Type 0 where
  pub share : Share l i rs [] []
  pub resends : mine i (l resends) ≡ []

-- ---- runs

-- start 1, nothing taken, held or acknowledged [E8]
pub record Fresh (r : Run) : Type 0 where
  pub window : r.window ≡ new_of r.window.size
  pub taken : r.taken ≡ 0
  pub handed : r.handed ≡ 0
  pub urgent : r.urgent ≡ 0

-- a payload of 1 to P bytes lies in the cell of the number k past the start
pub record Filled (b : List ℕ) (i : ℕ) (w : Window) (largest k : ℕ) : Type 0 where
  pub some : 1 ≤ length_in b (cell i w (past w k))
  pub most : length_in b (cell i w (past w k)) ≤ largest

-- a sender's, at Open and Failing: acknowledged numbers were handed out and their timers do not run [W3, A2]
pub record Sending (b : List ℕ) (i : ℕ) (r : Run) (largest : ℕ) : Type 0 where
  pub taken : r.taken ≤ r.window.size
  pub handed : r.handed ≤ r.taken
  pub acked : (k : ℕ) → held r.window k ≡ true → k < r.handed
  pub first : held r.window 0 ≡ false
  pub counted : r.confirmed.0 + r.taken ≡ r.accepted.0
  pub filled : (k : ℕ) → k < r.taken → Filled b i r.window largest k
  pub stopped : (k : ℕ) → held r.window k ≡ true → timer_in b (cell i r.window (past r.window k)) ≡ 0
  pub urgent : r.urgent ≤ largest

-- a receiver's, at Open [W4, W7]
pub record Receiving (b : List ℕ) (i : ℕ) (r : Run) (largest : ℕ) : Type 0 where
  pub taken : r.taken ≡ 0
  pub handed : r.handed ≡ 0
  pub urgent : r.urgent ≡ 0
  pub first : held r.window 0 ≡ false
  pub filled : (k : ℕ) → held r.window k ≡ true → Filled b i r.window largest k

-- of the numbers handed out and not acknowledged, the one under way has its timer standing: a place that is 0 would say
-- that it waits as a retransmission [D2]
abbrev pub Standing : List ℕ → ℕ → Run → Type 0
Standing b i r = (k : ℕ) → k < r.handed → held r.window k ≡ false → past r.window k ≡ data_out b i
    → timer_in b (cell i r.window (past r.window k)) ≢ 0

-- how many timers of the first n numbers run, or stand
unfoldable pub running : List ℕ → ℕ → Window → ℕ → ℕ
running b i w zero = 0
running b i w (suc n) = pick (eqb (timer_in b (cell i w (past w n))) 0) (running b i w n) (suc (running b i w n))

-- ---- an end point in its state

-- an open sender, and what of it waits
pub record OpenSender (b : List ℕ) (l : Lists) (i : ℕ) (e : EndPoint) : Type 0 where
  pub sending : Sending b i e.run e.entry.largest
  pub share : Share l i [] (pick (eqb e.run.urgent 0) [] (urgent_id i ∷ []))
      (ids i e.run.window e.run.handed (e.run.taken - e.run.handed))
  pub resends : Resends b l i e.run
  pub standing : Standing b i e.run

pub record FailingSender (b : List ℕ) (l : Lists) (i : ℕ) (e : EndPoint) (n : ℕ) : Type 0 where
  pub sending : Sending b i e.run e.entry.largest
  pub urgent : e.run.urgent ≡ 0
  pub silent : Silent l i []
  pub timers : n ≡ running b i e.run.window e.run.handed
  pub standing : Standing b i e.run

pub record OpenReceiver (b : List ℕ) (l : Lists) (i : ℕ) (e : EndPoint) : Type 0 where
  pub receiving : Receiving b i e.run e.entry.largest
  pub silent : Silent l i []

pub record Anew (l : Lists) (i : ℕ) (e : EndPoint) (rs : List ℕ) : Type 0 where
  pub fresh : Fresh e.run
  pub silent : Silent l i rs

-- an enabled sender: its Reset waits while its timer neither runs nor stands. That it does only where one was handed
-- out, and it stands while one is under way [E2, E5, D2]
pub record EnabledSender (b : List ℕ) (l : Lists) (i : ℕ) (e : EndPoint) (t : ℕ) (sent : Bool) : Type 0 where
  pub fresh : Fresh e.run
  pub silent : Silent l i (pick (eqb t 0) (reset_id i ∷ []) [])
  pub unsent : sent ≡ false → t ≡ 0
  pub standing : is_reset (under_in b) i ≡ true → sent ≡ true → t ≢ 0

-- of entry i, which sends or not, in a state [E1, E2]
abbrev pub Stated : List ℕ → Lists → ℕ → EndPoint → Bool → State → Type 0
Stated b l i e sends Closed = Anew l i e []
Stated b l i e true (Enabled t sent) = EnabledSender b l i e t sent
Stated b l i e false (Enabled t sent) = Anew l i e [] × (t ≡ 0) × (sent ≡ false)
Stated b l i e true Open = OpenSender b l i e
Stated b l i e false Open = OpenReceiver b l i e
Stated b l i e true (Failing n) = FailingSender b l i e n
Stated b l i e false (Failing n) = ⊥

pub record Entered (b : List ℕ) (l : Lists) (i : ℕ) (e : EndPoint) : Type 0 where
  pub window : GoodWindow e.run.window
  pub stated : Stated b l i e (is_sends e.entry.kind) e.state

-- ---- timers

-- after tick c, more than q ticks are left of a timer that ends at tick d
abbrev pub Outlasts : ℕ → ℕ → ℕ → Type 0
Outlasts c q d = d ≢ 0 → (d ≤ round) × (q < left_of c d)

-- so for every number of entry i's run that was handed out, but for the one under way, whose timer stands
abbrev pub Outlast : ℕ → ℕ → List ℕ → ℕ → Run → Type 0
Outlast c q b i r = (k : ℕ) → k < r.handed → past r.window k ≢ data_out b i
    → Outlasts c q (timer_in b (cell i r.window (past r.window k)))

-- so for every timer of entry i; where a Failing end has none running and no frame of its own under way no tick may
-- pass before the entries are gone through, since the next one recovers it
abbrev pub Timely : ℕ → ℕ → List ℕ → ℕ → EndPoint → State → Type 0
Timely c q b i e Closed = Unit {0}
Timely c q b i e (Enabled d sent) = is_reset (under_in b) i ≡ false → Outlasts c q d
Timely c q b i e Open = Outlast c q b i e.run
Timely c q b i e (Failing n) = Outlast c q b i e.run × (n ≡ 0 → is_own b i ≡ false → q ≡ 0)

-- ---- the node

-- it was set up from a table [T17]
pub record Tabled (ws t : List ℕ) : Type 0 where
  pub count : count_in ws ≡ count_of t
  pub own : own_in ws ≡ own_of t
  pub protocol : protocol_in ws ≡ protocol_of t
  pub need : need_in ws ≡ store_of t
  pub entry : (i : ℕ) → i < count_of t → load_entry ws i ≡ entry_of t i
  pub place : (i : ℕ) → i < count_of t → place_in ws i ≡ place_of t i
  pub index : Indexed ws

-- an acknowledgement waits for a receiver that is open [E14, H7]
pub record Owed (ws : List ℕ) (w : ℕ) : Type 0 where
  pub known : w / 256 < count_in ws
  pub receives : is_sends (end_of ws (w / 256)).entry.kind ≡ false
  pub opened : (end_of ws (w / 256)).state ≡ Open

-- what is under way is a frame of one of the types, which count from 1, and of an entry that there is [H8]
pub record UnderWay (count u : ℕ) : Type 0 where
  pub known : out_entry u < count
  pub least : per_type ≤ u
  pub most : u < (types + 1) * per_type

-- the whole: node and book, set up from a table, with what waits as lists [T17, I2]
pub record Good (t ws b : List ℕ) (l : Lists) : Type 0 where
  pub table : good_table t ≡ true
  pub long : length ws ≡ node_words
  pub tabled : Tabled ws t
  pub acks : waiting_of ws ≤ ack_places
  pub owed : (w : ℕ) → Memᴰ w (acks_in ws) → Owed ws w
  pub lines : Lines b l
  pub known : (q : ℕ) → q < queues → (x : ℕ) → Memᴰ x (l q) → (owner_of x < count_in ws) × Ranged q x
  pub entered : (i : ℕ) → i < count_in ws → Entered b l i (end_of ws i)
  pub under : under_in b ≢ 0 → UnderWay (count_in ws) (under_in b)
  pub timely : (i : ℕ) → i < count_in ws → Timely (clock_in ws) (quiet_in ws) b i (end_of ws i) (end_of ws i).state
