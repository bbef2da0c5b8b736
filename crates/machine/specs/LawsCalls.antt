-- Laws of the host's calls: setup, open, close, counts, send and Urgent go through under exactly their conditions, and
-- what each then does. They rule out a node that refuses all and one that leaves its state alone. Proved in
-- proofs/Hosting.antt. Assumes nothing.
use Rattle.std.specs.Prelude.{ℕ, ◌+◌, ◌≤◌, ◌<◌, ◌≡◌, ◌≢◌, ◌↔◌, true, false, List, [], ◌∷◌, ◌++◌, length, replicate}
use Rattle.std.proofs.Math.Option.{none, some}
use Rattle.units.specs.Limits.{most_accepted}
use Rattle.table.specs.Layout.{count_of, own_of, protocol_of, entry_of}
use Rattle.table.specs.Areas.{store_of}
use Rattle.table.specs.Rules.{good_table}
use Rattle.end_points.specs.States.{is_sends}
use Rattle.end_points.specs.declared.State.TheVariants.{Closed, Enabled, Open}
use Rattle.machine.specs.Calls.{opens, closes, counts, sends, urges}
use Rattle.machine.specs.Machine.{End, Sort, resets, urgents, datas, Machine}
use Rattle.machine.specs.Machine.{number, end, urging, without, past, setting}
use Rattle.machine.specs.Laws.{Is, answer, after, share_of, WaitsLast, Anew, SameCounts, of_entry}

-- ---- setup

-- rules out the one that refuses all: a good table is refused only where the store is too short [R1, R6, R31, O4]
unfoldable pub SetupGoes : Type 0
SetupGoes = (m : Machine) (t : List ℕ) (room : ℕ)
    → ((setting m t room).answer.numbers ≡ 0 ∷ []) ↔ ((good_table t ≡ true) × (store_of t ≤ room))

-- every entry Closed, window start 1, nothing taken or held, counts 0; no frame waits and none is under way [T17, E3]
pub record Begins (t : List ℕ) (bytes : ℕ) (m : Machine) : Type 0 where
  pub own : m.own ≡ own_of t
  pub protocol : m.protocol ≡ protocol_of t
  pub need : m.need ≡ store_of t
  pub room : m.room ≡ bytes
  pub count : length m.ends ≡ count_of t
  pub ends : (i : ℕ) → i < count_of t
      → Is m i (end (entry_of t i) Closed 0 0 1 [] (replicate (entry_of t i).window none) none)
  pub waiting : (q : Sort) → m.waiting q ≡ []
  pub under : m.under ≡ none

-- a setup that is not refused leaves this [T17, E3, O4]
unfoldable pub SetupBegins : Type 0
SetupBegins = (m : Machine) (t : List ℕ) (room : ℕ) → good_table t ≡ true → store_of t ≤ room
    → Begins t room (setting m t room).machine

-- ---- open

-- open goes through at Closed, and at no other state [R2, R4, R32, O4]
unfoldable pub OpenGoes : Type 0
OpenGoes = (m : Machine) (i : ℕ)
    → ((answer m (opens i)).numbers ≡ 0 ∷ []) ↔ ((e : End) × Is m i e × (e.state ≡ Closed))

-- Enabled, with no Reset out yet; a sender's Reset waits behind all others, of a receiver nothing does [E4, E5, E8]
pub record Enables (m m' : Machine) (i : ℕ) (e : End) : Type 0 where
  pub end : End
  pub is : Is m' i end
  pub anew : Anew (Enabled 0 false) e end
  pub counts : SameCounts e end
  pub sends : is_sends e.entry.kind ≡ true → WaitsLast m m' resets i 0
  pub receives : is_sends e.entry.kind ≡ false → (q : Sort) → m'.waiting q ≡ m.waiting q

-- open makes a Closed end point Enabled [E4, E5, E8, O4]
unfoldable pub OpenEnables : Type 0
OpenEnables = (m : Machine) (i : ℕ) (e : End) → Is m i e → e.state ≡ Closed → Enables m (after m (opens i)) i e

-- ---- close

-- close goes through at every state but Closed [R2, R4, R33, O4]
unfoldable pub CloseGoes : Type 0
CloseGoes = (m : Machine) (i : ℕ)
    → ((answer m (closes i)).numbers ≡ 0 ∷ []) ↔ ((e : End) × Is m i e × (e.state ≢ Closed))

-- Closed, with nothing taken or held; nothing of it waits, and what waits of the others stays in its order
-- [E6, E7, E8]
pub record Closes (m m' : Machine) (i : ℕ) (e : End) : Type 0 where
  pub end : End
  pub is : Is m' i end
  pub anew : Anew Closed e end
  pub counts : SameCounts e end
  pub silent : (q : Sort) → share_of i (m'.waiting q) ≡ []
  pub others : (q : Sort) → m'.waiting q ≡ without (of_entry i) (m.waiting q)

-- close makes every other state Closed [E6, E7, E8, O4]
unfoldable pub CloseCloses : Type 0
CloseCloses = (m : Machine) (i : ℕ) (e : End) → Is m i e → e.state ≢ Closed → Closes m (after m (closes i)) i e

-- ---- counts

-- counts are told of a sender, in every state [E17, R2, R3, R34]
unfoldable pub CountsGo : Type 0
CountsGo = (m : Machine) (i a c : ℕ) → ((answer m (counts i)).numbers ≡ 0 ∷ a ∷ c ∷ [])
    ↔ ((e : End) × Is m i e × (is_sends e.entry.kind ≡ true) × (e.accepted ≡ a) × (e.confirmed ≡ c))

-- they only tell [E17]
unfoldable pub CountsTell : Type 0
CountsTell = (m : Machine) (i : ℕ) → after m (counts i) ≡ m

-- ---- send

-- all that send asks of entry i and of the payload p [R2, R3, R4, R5, R6, R7, R8]
pub record MaySend (m : Machine) (i : ℕ) (e : End) (p : List ℕ) : Type 0 where
  pub there : Is m i e
  pub sends : is_sends e.entry.kind ≡ true
  pub opened : e.state ≡ Open
  pub some : 1 ≤ length p
  pub most : length p ≤ e.entry.largest
  pub counted : e.accepted ≢ most_accepted
  pub room : length e.numbers < e.entry.window
  pub store : m.need ≤ m.room

-- send goes through exactly where it may [W3, R2, R3, R4, R5, R6, R7, R8, R35, O4]
unfoldable pub SendGoes : Type 0
SendGoes = (m : Machine) (i : ℕ) (p : List ℕ)
    → ((answer m (sends i p)).numbers ≡ 0 ∷ []) ↔ ((e : End) × MaySend m i e p)

-- one more is accepted and taken, not yet handed out; it waits as data behind all others, and all else stays [W2, W3]
pub record Takes (m m' : Machine) (i : ℕ) (e : End) (p : List ℕ) : Type 0 where
  pub end : End
  pub is : Is m' i end
  pub entry : end.entry ≡ e.entry
  pub state : end.state ≡ Open
  pub accepted : end.accepted ≡ e.accepted + 1
  pub confirmed : end.confirmed ≡ e.confirmed
  pub start : end.start ≡ e.start
  pub numbers : end.numbers ≡ e.numbers ++ (number p 0 false false 0 ∷ [])
  pub places : end.places ≡ e.places
  pub urgent : end.urgent ≡ e.urgent
  pub waits : WaitsLast m m' datas i (past e (length e.numbers))

-- a send that goes through takes the next number [W2, O4]
unfoldable pub SendTakes : Type 0
SendTakes = (m : Machine) (i : ℕ) (e : End) (p : List ℕ) → MaySend m i e p → Takes m (after m (sends i p)) i e p

-- ---- Urgent

-- all that Urgent asks of them: one waits per entry [R2, R3, R4, R5, R6, R9]
pub record MayUrge (m : Machine) (i : ℕ) (e : End) (p : List ℕ) : Type 0 where
  pub there : Is m i e
  pub sends : is_sends e.entry.kind ≡ true
  pub opened : e.state ≡ Open
  pub some : 1 ≤ length p
  pub most : length p ≤ e.entry.largest
  pub no_other : e.urgent ≡ none
  pub store : m.need ≤ m.room

-- Urgent goes through exactly where it may [E15, R2, R3, R4, R5, R6, R9, R36, O4]
unfoldable pub UrgentGoes : Type 0
UrgentGoes = (m : Machine) (i : ℕ) (p : List ℕ)
    → ((answer m (urges i p)).numbers ≡ 0 ∷ []) ↔ ((e : End) × MayUrge m i e p)

-- it waits with its payload behind all others, and all else stays [E15]
pub record Urges (m m' : Machine) (i : ℕ) (e : End) (p : List ℕ) : Type 0 where
  pub end : Is m' i (urging (some p) e)
  pub waits : WaitsLast m m' urgents i 0

-- an Urgent that goes through waits [E15, O4]
unfoldable pub UrgentTakes : Type 0
UrgentTakes = (m : Machine) (i : ℕ) (e : End) (p : List ℕ) → MayUrge m i e p → Urges m (after m (urges i p)) i e p
