-- Words that the laws of the machine share, and the laws of all calls: what none alters, that a refusal leaves all as
-- it was, and that a call on one entry leaves every other. The laws of single calls are in the other files
-- Laws*.antt. In square brackets: the rules of docs/RULES.md that a law is about. Proved in proofs/Standing.antt and
-- proofs/Apart.antt. Assumes nothing.
use Rattle.std.specs.Prelude.{ℕ, ◌≤◌, ◌<◌, ◌≡◌, ◌≢◌, Bool, true, not, List, [], ◌∷◌, ◌++◌, length, get_or, replicate}
use Rattle.std.specs.Prelude.{eqb, Ok}
use Rattle.std.proofs.Math.Option.{none, some}
use Rattle.std.proofs.Math.ListN.{get_elem?}
use Rattle.end_points.specs.declared.State.{State}
use Rattle.frame.specs.Reading.{header_of}
use Rattle.frame.specs.declared.Header.{Header}
use Rattle.machine.specs.Calls.{Call, opens, closes, counts, sends, urges, plans, arrives, hands_out, reports}
use Rattle.machine.specs.Calls.{ticks, Answer}
use Rattle.machine.specs.Machine.{End, Item, Sort, Machine, Outcome, node, port, lending, rank, without, past}
use Rattle.machine.specs.Machine.{offset, begun, entry_for, is_of, step}
use Rattle.machine.specs.Sound.{Sound}

-- ---- words

-- entry i of m is e
abbrev pub Is : Machine → ℕ → End → Type 0
Is m i e = get_elem? m.ends i ≡ some e

-- what a call answers, and the machine that it leaves
abbrev pub answer : Machine → Call → Answer
answer m c = (step m c).answer

abbrev pub after : Machine → Call → Machine
after m c = (step m c).machine

abbrev pub item : ℕ → ℕ → Item
item i s = record { entry = i; number = s }

-- entry i's share of what waits, in order [I1]
abbrev pub share_of : ℕ → List Item → List Item
share_of i = without (λ x. not (eqb x.entry i))

-- number s of entry i waits last in the whole list of its sort, and nothing else waits differently [H3]
pub record WaitsLast (m m' : Machine) (q : Sort) (i s : ℕ) : Type 0 where
  pub last : m'.waiting q ≡ m.waiting q ++ (item i s ∷ [])
  pub others : (r : Sort) → r ≢ q → m'.waiting r ≡ m.waiting r

-- x goes out next: it is the first of its sort, and nothing waits of the sorts before that [H2, H3]
pub record Next (m : Machine) (q : Sort) (x : Item) (xs : List Item) : Type 0 where
  pub first : m.waiting q ≡ x ∷ xs
  pub before : (r : Sort) → rank r < rank q → m.waiting r ≡ []

-- whether it is entry i's
abbrev pub of_entry : ℕ → Item → Bool
of_entry i x = eqb x.entry i

-- nothing is held at the start of the window [W7]
abbrev pub Free : End → Type 0
Free e = (p : List ℕ) → get_elem? e.places 0 ≢ some (some p)

-- nor at that of any end point of a machine [W7]
abbrev pub AllFree : Machine → Type 0
AllFree m = (i : ℕ) (e : End) → Is m i e → Free e

-- d is what e becomes as it becomes s: start 1, nothing taken or held, no Urgent [E8]
pub record Anew (s : State) (e d : End) : Type 0 where
  pub entry : d.entry ≡ e.entry
  pub state : d.state ≡ s
  pub start : d.start ≡ 1
  pub numbers : d.numbers ≡ []
  pub places : d.places ≡ replicate e.entry.window none
  pub urgent : d.urgent ≡ none

-- accepted and confirmed are kept [E8]
pub record SameCounts (e d : End) : Type 0 where
  pub accepted : d.accepted ≡ e.accepted
  pub confirmed : d.confirmed ≡ e.confirmed

-- ---- the window

-- rules out testing the window by comparing plain bytes: the number k past the start lies k past it, also where the
-- byte has gone round [W1, O7]
unfoldable pub WindowFolds : Type 0
WindowFolds = (e : End) → e.start < 256 → (k : ℕ) → k < 256 → offset e (past e k) ≡ k

-- ---- what no call alters

-- nothing but end points, what waits and the frame under way alters, there are as many end points, and each is of its
-- entry [T17]
pub record Standing (m m' : Machine) : Type 0 where
  pub head : port m.under (node m' m.ends m.waiting) ≡ m
  pub count : length m'.ends ≡ length m.ends
  pub entry : (i : ℕ) (e d : End) → Is m i e → Is m' i d → d.entry ≡ e.entry

-- address, protocol ID, the store that is asked for and the table stay: setup decides them. How long a store is lent
-- comes with the call, and no call alters that either. [T17]
unfoldable pub TableStays : Type 0
TableStays = (m : Machine) (c : Call) → Standing m (after m c)

-- the calls that are not the port's
abbrev pub Aside : Call → Type 0
Aside (opens i) = Unit {0}
Aside (closes i) = Unit {0}
Aside (counts i) = Unit {0}
Aside (sends i p) = Unit {0}
Aside (urges i p) = Unit {0}
Aside (plans i block) = Unit {0}
Aside (arrives block f) = Unit {0}
Aside (hands_out buffer) = ⊥
Aside reports = ⊥
Aside ticks = Unit {0}

-- only handing out puts a frame under way, and only the report ends it: a close does not [H8]
unfoldable pub UnderWayStays : Type 0
UnderWayStays = (m : Machine) (c : Call) → Aside c → (after m c).under ≡ m.under

-- rules out the one that lets the start wait for its host: what is at the start is delivered at once, so that after
-- setup and any calls nothing is held there [W7]
pub record StartStaysFree : Type 0 where
  pub first : (t : List ℕ) (room : ℕ) → AllFree (begun t room)
  pub then : (m : Machine) (c : Call) → AllFree m → AllFree (after m c)

-- ---- the store that is lent

-- what is answered, and the machine then, lent another store
abbrev pub relent : ℕ → Outcome → Outcome
relent room o = record { answer = o.answer; machine = lending room o.machine }

-- rules out the one that does more with a longer store: of its length a call asks only whether it is enough [R6, R42]
unfoldable pub RoomIdle : Type 0
RoomIdle = (m : Machine) (room : ℕ) (c : Call) → m.need ≤ m.room → m.need ≤ room
    → step (lending room m) c ≡ relent room (step m c)

-- ---- a refusal: all lent memory, the node included, is then the same as before

-- the block or the frame buffer that a call is lent [R44]
abbrev pub lent : Call → List ℕ
lent (opens i) = []
lent (closes i) = []
lent (counts i) = []
lent (sends i p) = []
lent (urges i p) = []
lent (plans i block) = []
lent (arrives block f) = block
lent (hands_out buffer) = buffer
lent reports = []
lent ticks = []

-- an answer that does not begin with 0 is a refusal, but for a tick, which refuses nothing [R44]
unfoldable pub RefusedStays : Type 0
RefusedStays = (m : Machine) (c : Call) → c ≢ ticks → get_or (answer m c).numbers 0 0 ≢ 0
    → (after m c ≡ m) × ((answer m c).out ≡ lent c)

-- ---- independence: a call on one entry leaves every other's state, window, timers, counts

-- the entry that a call is on: for an arrival the one that the frame is for, for handing out the owner of what goes
-- out, for the report the owner of the frame under way; a tick is on all. Of a call that is refused RefusedStays says
-- more. [I1]
abbrev pub On : Machine → Call → ℕ → Type 0
On m (opens j) i = j ≡ i
On m (closes j) i = j ≡ i
On m (counts j) i = j ≡ i
On m (sends j p) i = j ≡ i
On m (urges j p) i = j ≡ i
On m (plans j block) i = j ≡ i
On m (arrives block f) i = (h : Header) × (header_of f ≡ Ok h) × (entry_for m h ≡ i)
On m (hands_out buffer) i = (q : Sort) × (x : Item) × (xs : List Item) × Next m q x xs × (x.entry ≡ i)
On m reports i = is_of i m.under ≡ true
On m ticks i = Unit {0}

-- entry i and its share of what waits are as they were [I1]
pub record Untouched (m m' : Machine) (i : ℕ) : Type 0 where
  pub end : get_elem? m'.ends i ≡ get_elem? m.ends i
  pub share : (q : Sort) → share_of i (m'.waiting q) ≡ share_of i (m.waiting q)

-- rules out the one whose entries are tangled: what is not on an entry leaves it. For a tick see TickAlone. [I1, I2]
unfoldable pub OthersStay : Type 0
OthersStay = (t : List ℕ) (m : Machine) → Sound t m → (c : Call) (i : ℕ) → (On m c i → ⊥) → Untouched m (after m c) i
