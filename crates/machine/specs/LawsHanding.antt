-- Laws of handing out: what goes out next, what that leaves, and that each frame that goes out reads back as what was
-- meant. Proved in proofs/Handing.antt. Assumes nothing.
use Rattle.std.specs.Prelude.{ℕ, ◌≤◌, ◌<◌, ◌≡◌, ◌≢◌, ◌⊎◌, true, false, length, take, drop, set, Ok}
use Rattle.std.proofs.Math.Option.{none, some}
use mathlib.Core.List.{List, [], ◌∷◌, Memᴰ}
use Rattle.std.proofs.Math.ListN.{get_elem?}
use Rattle.frame.specs.Layout.{payload_of}
use Rattle.frame.specs.Reading.{sound_of, header_of, read_of}
use Rattle.frame.specs.Types.{for_sender}
use Rattle.frame.specs.declared.Header.{Header}
use Rattle.end_points.specs.States.{is_sends}
use Rattle.end_points.specs.declared.State.TheVariants.{Enabled}
use Rattle.machine.specs.Calls.{Answer, hands_out}
use Rattle.machine.specs.Machine.{Number, End, Item, Sort, acks, resets, urgents, resends, datas, Machine}
use Rattle.machine.specs.Machine.{Out, number, stated, numbered, urging, offset, is_ours, type_of, carried, frame_of}
use Rattle.machine.specs.Sound.{Sound}
use Rattle.machine.specs.Laws.{Is, answer, after, Next}
use Rattle.machine.specs.LawsArriving.{Comes}

-- ---- what goes out

-- something goes out next, or nothing waits: the laws below speak of every machine [H1, H5]
unfoldable pub NextOrNone : Type 0
NextOrNone = (m : Machine)
    → ((q : Sort) × (x : Item) × (xs : List Item) × Next m q x xs) ⊎ ((q : Sort) → m.waiting q ≡ [])

-- of e the number s is handed out, and no timer of it runs yet; its payload and retries stay, and so does all else
-- [A2, D2]
pub record NumberOut (e : End) (s : ℕ) (d : End) : Type 0 where
  pub was : Number
  pub there : get_elem? e.numbers (offset e s) ≡ some was
  pub is : let x = number was.payload was.retries true false 0 in
      d ≡ numbered e.start (set e.numbers (offset e s) x) e

-- how an end point alters when number s of a sort goes out: no timer starts yet; an Urgent is no longer kept [D2]
abbrev pub Sent : Sort → End → ℕ → End → Type 0
Sent acks e s d = d ≡ e
Sent resets e s d = d ≡ stated (Enabled 0 true) e
Sent urgents e s d = d ≡ urging none e
Sent resends e s d = NumberOut e s d
Sent datas e s d = NumberOut e s d

-- x of sort q goes out, and its entry is e: its frame, of 9 bytes or more, stands at the buffer's start, the bytes
-- after it stay, and its length is answered; of the sort the rest stays, and all other sorts; it is under way then
-- [H1, H4, H8]
pub record HandsOut (m m' : Machine) (a : Answer) (q : Sort) (x : Item) (xs : List Item) (e : End)
    (buffer : List ℕ) : Type 0 where
  pub long : 9 ≤ length (frame_of m q e x.number)
  pub numbers : a.numbers ≡ 0 ∷ length (frame_of m q e x.number) ∷ []
  pub frame : take (length (frame_of m q e x.number)) a.out ≡ frame_of m q e x.number
  pub beyond : drop (length (frame_of m q e x.number)) a.out ≡ drop (length (frame_of m q e x.number)) buffer
  pub rest : m'.waiting q ≡ xs
  pub others : (r : Sort) → r ≢ q → m'.waiting r ≡ m.waiting r
  pub end : End
  pub is : Is m' x.entry end
  pub sent : Sent q e x.number end
  pub under : m'.under ≡ some (type_of q, x)

-- rules out the one that refuses all, and one that never hands out what waits [D2, H1, H2, H3, H4, H8, O4]
unfoldable pub WaitingGoesOut : Type 0
WaitingGoesOut = (t : List ℕ) (m : Machine) → Sound t m → m.under ≡ none
    → (q : Sort) (x : Item) (xs : List Item) → Next m q x xs
    → (e : End) × Is m x.entry e × ((buffer : List ℕ) → length (frame_of m q e x.number) ≤ length buffer
    → HandsOut m (after m (hands_out buffer)) (answer m (hands_out buffer)) q x xs e buffer)

-- a buffer that is too short: 6, and all is as it was [R6, R38, R44]
unfoldable pub TooShortStays : Type 0
TooShortStays = (t : List ℕ) (m : Machine) → Sound t m → m.under ≡ none
    → (q : Sort) (x : Item) (xs : List Item) → Next m q x xs
    → (e : End) → Is m x.entry e → (buffer : List ℕ) → length buffer < length (frame_of m q e x.number)
    → ((answer m (hands_out buffer)).numbers ≡ 6 ∷ []) × ((answer m (hands_out buffer)).out ≡ buffer)
    × (after m (hands_out buffer) ≡ m)

-- nothing waiting and none under way: length 0, with any frame buffer, and all is as it was [H5, H8]
unfoldable pub NothingOut : Type 0
NothingOut = (t : List ℕ) (m : Machine) → Sound t m → m.under ≡ none
    → ((q : Sort) → m.waiting q ≡ []) → (buffer : List ℕ)
    → ((answer m (hands_out buffer)).numbers ≡ 0 ∷ 0 ∷ []) × ((answer m (hands_out buffer)).out ≡ buffer)
    × (after m (hands_out buffer) ≡ m)

-- one under way: 19, whatever waits and whatever is lent, and all is as it was [H8, R19, R38, R44]
unfoldable pub UnderWayRefuses : Type 0
UnderWayRefuses = (m : Machine) (f : Out) → m.under ≡ some f → (buffer : List ℕ)
    → ((answer m (hands_out buffer)).numbers ≡ 19 ∷ []) × ((answer m (hands_out buffer)).out ≡ buffer)
    × (after m (hands_out buffer) ≡ m)

-- ---- how it reads

-- f is read as the frame of number s of a sort, from our address to the entry's remote end, with what it carries [H6]
pub record ReadsAs (m : Machine) (q : Sort) (e : End) (s : ℕ) (f : List ℕ) : Type 0 where
  pub header : Header
  pub reads : read_of f ≡ Ok header
  pub destination : header.destination ≡ e.entry.remote
  pub source : header.source ≡ m.own
  pub protocol : header.protocol ≡ m.protocol
  pub kind : header.kind ≡ type_of q
  pub channel : header.channel ≡ e.entry.channel
  pub number : header.seq.0 ≡ s
  pub size : header.length ≡ length (carried q e s)
  pub payload : payload_of f ≡ carried q e s

-- what waits goes out as a frame that reads as what was meant [H6]
unfoldable pub ReadsBack : Type 0
ReadsBack = (t : List ℕ) (m : Machine) → Sound t m → (q : Sort) (x : Item) → Memᴰ x (m.waiting q)
    → (e : End) → Is m x.entry e → ReadsAs m q e x.number (frame_of m q e x.number)

-- and the machine n at its other end does not refuse it with 10, 11 or for a fault [R10, R11, R15, R16, R17, R18]
unfoldable pub PairedTakes : Type 0
PairedTakes = (m n : Machine) (q : Sort) (e : End) (s : ℕ) (f : List ℕ) → (r : ReadsAs m q e s f)
    → n.own ≡ e.entry.remote → n.protocol ≡ m.protocol
    → (sound_of f ≡ true) × (is_ours n f ≡ true) × (header_of f ≡ Ok r.header)

-- at an entry of n that names m, over the same channel and of the kind that takes such frames, it comes: so what is
-- handed out here does there what LawsArriving.antt says [F16, H6]
unfoldable pub HandedComes : Type 0
HandedComes = (m n : Machine) (q : Sort) (e : End) (s : ℕ) (f : List ℕ) → ReadsAs m q e s f → s < 256
    → n.own ≡ e.entry.remote → n.protocol ≡ m.protocol
    → (j : ℕ) (d : End) → Is n j d → d.entry.remote ≡ m.own → d.entry.channel ≡ e.entry.channel
    → is_sends d.entry.kind ≡ for_sender (type_of q) → Comes n f j d (type_of q) s (carried q e s)
