-- Laws of arrivals: what each frame that the remote end writes must do at the entry that it is for. They rule out a
-- node that refuses all, one that always answers "ignored", one that leaves its state alone, and one that delivers
-- the first payload and afterwards only acknowledges. That nothing is held at the start of a window is StartStaysFree
-- of Laws.antt. Proved in proofs/Coming.antt, Receiving.antt, Acking.antt. Assumes nothing.
use Rattle.std.specs.Prelude.{ℕ, suc, ◌+◌, ◌≤◌, ◌<◌, ◌≡◌, ◌≢◌, Bool, true, false, ◌&&◌, List, [], ◌∷◌, ◌++◌, length}
use Rattle.std.specs.Prelude.{drop, set, replicate, eqb, Ok}
use Rattle.std.proofs.Math.Option.{none, some}
use Rattle.std.proofs.Math.ListN.{get_elem?}
use Rattle.units.specs.declared.refusals.Refusal.{Refusal}
use Rattle.window.specs.Numbers.{byte_of}
use Rattle.frame.specs.Layout.{payload_of, frame_bytes}
use Rattle.frame.specs.AgainstRules.{HasFault}
use Rattle.frame.specs.Faults.{refused_of}
use Rattle.frame.specs.Reading.{sound_of, read_of}
use Rattle.frame.specs.Types.{type_number, suits, seq_writes, for_sender}
use Rattle.frame.specs.declared.Fields.{Fields}
use Rattle.frame.specs.declared.Header.{Header}
use Rattle.frame.specs.declared.FrameType.{FrameType}
use Rattle.frame.specs.declared.FrameType.TheVariants as type
use Rattle.end_points.specs.States.{is_sends}
use Rattle.end_points.specs.declared.State.{State}
use Rattle.end_points.specs.declared.State.TheVariants.{Closed, Enabled, Open, Failing}
use Rattle.blocks.specs.Blocks.{block_of}
use Rattle.blocks.specs.Reading.{read_block}
use Rattle.machine.specs.Calls.{Answer, arrives}
use Rattle.machine.specs.Machine.{Number, End, Item, Sort, acks, resends, Machine, number, holding, only, without}
use Rattle.machine.specs.Machine.{answers, offset, running, held_count, most_acks, block_room, is_ours, step}
use Rattle.machine.specs.Sound.{Sound}
use Rattle.machine.specs.Laws.{Is, answer, after, item, WaitsLast, Free, Anew, SameCounts, of_entry}

-- ---- a frame for entry i, which is e

-- whole and by the rules, to our address and protocol, of the entry's remote end and channel: its type, number and
-- payload [F16, R10, R11, R13, R15, R16, R17, R18]
pub record Comes (m : Machine) (f : List ℕ) (i : ℕ) (e : End) (t : FrameType) (s : ℕ) (p : List ℕ) : Type 0 where
  pub there : Is m i e
  pub byte : s < 256
  pub header : Header
  pub reads : read_of f ≡ Ok header
  pub ours : is_ours m f ≡ true
  pub kind : is_sends e.entry.kind ≡ for_sender t
  pub source : e.entry.remote.0 ≡ header.source.0
  pub channel : e.entry.channel.0 ≡ header.channel.0
  pub type : header.kind ≡ t
  pub number : header.seq.0 ≡ s
  pub payload : payload_of f ≡ p

-- what that remote end writes into such a frame [F5, H6]
abbrev pub fields_for : Machine → End → FrameType → ℕ → Fields
fields_for m e t s =
    record {
      destination = m.own;
      protocol = m.protocol;
      source = e.entry.remote;
      kind = type_number t;
      user = 0;
      channel = e.entry.channel;
      seq = record { 0 = s };
    }

-- each frame that it writes is such a frame: the laws on arrivals speak of something [F1, F16]
unfoldable pub WrittenComes : Type 0
WrittenComes = (m : Machine) (i : ℕ) (e : End) (t : FrameType) (s : ℕ) (p : List ℕ) → Is m i e
    → is_sends e.entry.kind ≡ for_sender t → s < 256 → seq_writes t s ≡ true → suits t (length p) ≡ true
    → Comes m (frame_bytes (fields_for m e t s) p) i e t s p

-- ---- a frame with a fault

-- it is refused with the fault's number and the byte where it sits, and all is as it was
-- [R15, R16, R17, R18, R37, R44, R47]
unfoldable pub FaultTold : Type 0
FaultTold = (m : Machine) (block f : List ℕ) (w : Refusal) → sound_of f ≡ true → is_ours m f ≡ true → HasFault f w
    → step m (arrives block f) ≡ answers (refused_of w) block m

-- ---- Data

-- an open receiver can take it in: the payload is not too long, an acknowledgement more can wait, the block has room
-- [B2, R5, R14]
pub record Ready (m : Machine) (e : End) (p block : List ℕ) : Type 0 where
  pub opened : e.state ≡ Open
  pub short : length p ≤ e.entry.largest
  pub few : length (m.waiting acks) < most_acks
  pub room : block_room e.entry ≤ length block

-- the answer is Data, the block holds these payloads and beyond its end nothing altered, and an acknowledgement of s
-- waits behind all others [A1, B1, B3, B4, O8]
pub record Told (m m' : Machine) (a : Answer) (i s : ℕ) (ps : List (List ℕ)) (block : List ℕ) : Type 0 where
  pub numbers : a.numbers ≡ 0 ∷ 4 ∷ i ∷ length (block_of ps) ∷ []
  pub holds : read_block a.out ≡ ps
  pub beyond : drop (length (block_of ps)) a.out ≡ drop (length (block_of ps)) block
  pub behind : WaitsLast m m' acks i s

-- the number at the start: its payload is delivered first, and then every one held after it without a gap; the start
-- passes them all, and what is held behind the gap stays [W5]
pub record Delivers (m m' : Machine) (a : Answer) (i : ℕ) (e : End) (s : ℕ) (p block : List ℕ) : Type 0 where
  pub more : List (List ℕ)
  pub told : Told m m' a i s (p ∷ more) block
  pub all : (k : ℕ) (q : List ℕ) → get_elem? more k ≡ some q → get_elem? e.places (suc k) ≡ some (some q)
  pub gap : (q : List ℕ) → get_elem? e.places (suc (length more)) ≢ some (some q)
  pub end : let n = suc (length more) in
      Is m' i (holding (byte_of (e.start + n)) (drop n e.places ++ replicate n none) e)

-- rules out the one that delivers the first payload and afterwards only acknowledges: each payload at the start is
-- delivered [W5, A1, B1, B2, B3, B4, O4]
unfoldable pub StartDelivers : Type 0
StartDelivers = (t : List ℕ) (m : Machine) → Sound t m → (i : ℕ) (e : End) (s : ℕ) (p block f : List ℕ)
    → Comes m f i e type.Data s p → Ready m e p block → Free e → offset e s ≡ 0
    → Delivers m (after m (arrives block f)) (answer m (arrives block f)) i e s p block

-- a number in the window, after the start, and new: nothing is delivered yet; it is held at its place, and all else of
-- the end point stays [W4]
pub record Holds (m m' : Machine) (a : Answer) (i : ℕ) (e : End) (s : ℕ) (p block : List ℕ) : Type 0 where
  pub told : Told m m' a i s [] block
  pub end : Is m' i (holding e.start (set e.places (offset e s) (some p)) e)

-- rules out the one that leaves its state alone: what comes out of order is kept for later [W4, A1, B3, O4]
unfoldable pub LaterHeld : Type 0
LaterHeld = (t : List ℕ) (m : Machine) → Sound t m → (i : ℕ) (e : End) (s : ℕ) (p block f : List ℕ)
    → Comes m f i e type.Data s p → Ready m e p block → Free e
    → get_elem? e.places (offset e s) ≡ some none → offset e s ≢ 0
    → Holds m (after m (arrives block f)) (answer m (arrives block f)) i e s p block

-- rules out the one that answers "ignored", and the one that does not acknowledge data outside the window: a number
-- held already or outside is acknowledged again, nothing is delivered, and every end point is as it was
-- [W6, A1, B3, O4]
unfoldable pub OtherAcked : Type 0
OtherAcked = (t : List ℕ) (m : Machine) → Sound t m → (i : ℕ) (e : End) (s : ℕ) (p block f : List ℕ)
    → Comes m f i e type.Data s p → Ready m e p block → get_elem? e.places (offset e s) ≢ some none
    → Told m (after m (arrives block f)) (answer m (arrives block f)) i s [] block
    × ((after m (arrives block f)).ends ≡ m.ends)

-- ---- a Reset and an Urgent

-- Open, start 1, nothing held; the answer says how many were held; the entry's waiting acknowledgements go, and
-- acknowledgement 0 waits behind all others' [E11, E12, E13, O8]
pub record Begins (m m' : Machine) (a : Answer) (i : ℕ) (e : End) : Type 0 where
  pub numbers : a.numbers ≡ 0 ∷ 3 ∷ i ∷ held_count e.places ∷ []
  pub end : End
  pub is : Is m' i end
  pub anew : Anew Open e end
  pub counts : SameCounts e end
  pub behind : m'.waiting acks ≡ without (of_entry i) (m.waiting acks) ++ (item i 0 ∷ [])
  pub others : (q : Sort) → q ≢ acks → m'.waiting q ≡ without (of_entry i) (m.waiting q)

-- rules out the one that refuses all and the one that leaves its state alone: a Reset opens a receiver, Enabled or
-- Open [E11, E12, E13, O4]
unfoldable pub ResetBegins : Type 0
ResetBegins = (t : List ℕ) (m : Machine) → Sound t m → (i : ℕ) (e : End) (s : ℕ) (p block f : List ℕ)
    → Comes m f i e type.Reset s p → e.state ≢ Closed → length (m.waiting acks) < most_acks
    → Begins m (after m (arrives block f)) (answer m (arrives block f)) i e
    × ((answer m (arrives block f)).out ≡ block)

-- rules out the one that delivers only Data: an Urgent that comes at Open is delivered, is not acknowledged, and alters
-- nothing [E16, B1, B2, B3, B4, O8]
unfoldable pub UrgentDelivers : Type 0
UrgentDelivers = (t : List ℕ) (m : Machine) → Sound t m → (i : ℕ) (e : End) (s : ℕ) (p block f : List ℕ)
    → Comes m f i e type.Urgent s p → e.state ≡ Open → length p ≤ e.entry.largest
    → block_room e.entry ≤ length block
    → ((answer m (arrives block f)).numbers ≡ 0 ∷ 5 ∷ i ∷ (10 + length p) ∷ [])
    × (read_block (answer m (arrives block f)).out ≡ p ∷ [])
    × (drop (10 + length p) (answer m (arrives block f)).out ≡ drop (10 + length p) block)
    × (after m (arrives block f) ≡ m)

-- ---- acknowledgements

-- Open, start 1, nothing taken, counts 0, and nothing of it waits: its Reset is gone [E9, E10]
pub record Opens (m m' : Machine) (i : ℕ) (e : End) : Type 0 where
  pub end : End
  pub is : Is m' i end
  pub anew : Anew Open e end
  pub accepted : end.accepted ≡ 0
  pub confirmed : end.confirmed ≡ 0
  pub waiting : (q : Sort) → m'.waiting q ≡ without (of_entry i) (m.waiting q)

-- rules out the one that always answers "ignored": acknowledgement 0 after a Reset handed out opens a sender
-- [E9, E10, O4, O8]
unfoldable pub AckOpens : Type 0
AckOpens = (t : List ℕ) (m : Machine) → Sound t m → (i : ℕ) (e : End) (timer : ℕ) (p block f : List ℕ)
    → Comes m f i e type.Acknowledge 0 p → e.state ≡ Enabled timer true
    → ((answer m (arrives block f)).numbers ≡ 0 ∷ 2 ∷ i ∷ []) × ((answer m (arrives block f)).out ≡ block)
    × Opens m (after m (arrives block f)) i e

-- ignored: so it is answered, and nothing alters [A5, O8]
pub record Ignored (m m' : Machine) (a : Answer) (i : ℕ) (block : List ℕ) : Type 0 where
  pub numbers : a.numbers ≡ 0 ∷ 0 ∷ i ∷ []
  pub out : a.out ≡ block
  pub same : m' ≡ m

-- rules out a sender that opens by itself: without a Reset handed out, or with another number, it is ignored [E9, A5]
unfoldable pub EnabledIgnores : Type 0
EnabledIgnores = (t : List ℕ) (m : Machine) → Sound t m
    → (i : ℕ) (e : End) (s timer : ℕ) (sent : Bool) (p block f : List ℕ)
    → Comes m f i e type.Acknowledge s p → e.state ≡ Enabled timer sent → (sent && eqb s 0) ≡ false
    → Ignored m (after m (arrives block f)) (answer m (arrives block f)) i block

-- a sender's window is in use at Open and at Failing [A2]
abbrev pub Runs : State → Type 0
Runs Closed = ⊥
Runs (Enabled t sent) = ⊥
Runs Open = Unit {0}
Runs (Failing n) = Unit {0}

-- at Open a waiting retransmission of s goes [A3]
abbrev pub stopped : State → ℕ → ℕ → Sort → List Item → List Item
stopped Closed i s q xs = xs
stopped (Enabled t sent) i s q xs = xs
stopped Open i s q xs = only resends (without (λ x. eqb x.entry i && eqb x.number s)) q xs
stopped (Failing n) i s q xs = xs

-- Failing says how many timers still run [E2]
abbrev pub state_after : State → List Number → State
state_after Closed ns = Closed
state_after (Enabled t sent) ns = Enabled t sent
state_after Open ns = Open
state_after (Failing n) ns = Failing (running ns)

-- an acknowledgement of s, which is x, that counts. Of the numbers with s acknowledged and its timer stopped, the start
-- passes those acknowledged without a gap: all that it passes are, and the next is not or there is none. As many are
-- answered and confirmed; the retransmission of s, if it waits, goes. [W8, A3, A4, O8]
pub record Confirms (m m' : Machine) (a : Answer) (i : ℕ) (e : End) (s : ℕ) (x : Number) : Type 0 where
  pub passed : ℕ
  pub numbers : a.numbers ≡ 0 ∷ 1 ∷ i ∷ passed ∷ []
  pub end : End
  pub is : Is m' i end
  pub left : let ns = set e.numbers (offset e s) (number x.payload x.retries true true 0) in
      (end.numbers ≡ drop passed ns)
      × ((k : ℕ) (y : Number) → k < passed → get_elem? ns k ≡ some y → y.acked ≡ true)
      × ((y : Number) → get_elem? ns passed ≡ some y → y.acked ≡ false)
  pub within : passed ≤ length e.numbers
  pub first : offset e s ≡ 0 → 1 ≤ passed
  pub confirmed : end.confirmed ≡ e.confirmed + passed
  pub accepted : end.accepted ≡ e.accepted
  pub start : end.start ≡ byte_of (e.start + passed)
  pub state : end.state ≡ state_after e.state end.numbers
  pub entry : end.entry ≡ e.entry
  pub places : end.places ≡ e.places
  pub urgent : end.urgent ≡ e.urgent
  pub waiting : (q : Sort) → m'.waiting q ≡ stopped e.state i s q (m.waiting q)

-- rules out the one that always answers "ignored": a number handed out and not yet acknowledged counts
-- [W8, A2, A3, A4, O4]
unfoldable pub AckConfirms : Type 0
AckConfirms = (t : List ℕ) (m : Machine) → Sound t m → (i : ℕ) (e : End) (s : ℕ) (x : Number) (p block f : List ℕ)
    → Comes m f i e type.Acknowledge s p → Runs e.state
    → get_elem? e.numbers (offset e s) ≡ some x → x.handed ≡ true → x.acked ≡ false
    → Confirms m (after m (arrives block f)) (answer m (arrives block f)) i e s x
    × ((answer m (arrives block f)).out ≡ block)

-- rules out a confirmed count out of thin air: any other is ignored [A2, A5, O5]
unfoldable pub OtherIgnored : Type 0
OtherIgnored = (t : List ℕ) (m : Machine) → Sound t m → (i : ℕ) (e : End) (s : ℕ) (p block f : List ℕ)
    → Comes m f i e type.Acknowledge s p → Runs e.state
    → ((x : Number) → get_elem? e.numbers (offset e s) ≡ some x → x.handed ≡ true → x.acked ≡ false → ⊥)
    → Ignored m (after m (arrives block f)) (answer m (arrives block f)) i block
