-- One channel as the proof sees it: a sending end point, a receiving end point and the history of one run, and the steps of a
-- run, each arrival with its premise (01, "End points"; timers are left to the steps). The end points hold bytes, and
-- payloads by their offset from the start; unfolded numbers stand in the history alone. Assumes nothing.
use Prim.Native.Nat.{ℕ, zero, suc, ◌+◌, ◌-◌, ◌<◌}
use mathlib.Core.Path.{◌≡◌}
use mathlib.Core.Bool.{Bool, true, false, not, ◌&&◌}
use mathlib.Core.List.{List, [], ◌∷◌, ◌++◌, map, Memᴰ}
use lib.ListN.{length}
use lib.Dec.{eqb, ltb}
use Rattle.units.specs.Refusals.{pick}
use Rattle.window.specs.Numbers.{distance_of, byte_of}
use Rattle.promise.specs.History.{Pay, SState, s_closed, s_enabled, s_open, s_failing, s_first, NotLate, Sent, reset, data!, Tag, old, new, ack, Hist, s_accepts, r_resets, r_takes, r_closes, s_note, back_of, r_note}
use Rattle.promise.proofs.Windows.{Marks, none, mark, shift, run, put}

-- ---- the sending end point

pub record Send : Type 0 where
  pub state : SState
  pub start : ℕ  -- a byte
  pub taken : ℕ  -- how many numbers are taken from the start on
  pub handed : Marks
  pub acknowledged : Marks
  pub payloads : ℕ → Pay  -- of the number i past the start
  pub accepted : ℕ
  pub confirmed : ℕ

-- send: the payload is put at the next number, which is taken
abbrev pub s_send : Send → Pay → Send
s_send s p = record {
  state = s.state;
  start = s.start;
  taken = suc s.taken;
  handed = s.handed;
  acknowledged = s.acknowledged;
  payloads = put s.taken p s.payloads;
  accepted = suc s.accepted;
  confirmed = s.confirmed;
}

-- another state, all else as it was
abbrev pub s_state : SState → Send → Send
s_state t s = record {
  state = t;
  start = s.start;
  taken = s.taken;
  handed = s.handed;
  acknowledged = s.acknowledged;
  payloads = s.payloads;
  accepted = s.accepted;
  confirmed = s.confirmed;
}

-- Data of the number i past the start is handed out, the first time or again
abbrev pub s_hand : ℕ → Send → Send
s_hand i s = record {
  state = s.state;
  start = s.start;
  taken = s.taken;
  handed = mark i s.handed;
  acknowledged = s.acknowledged;
  payloads = s.payloads;
  accepted = s.accepted;
  confirmed = s.confirmed;
}

-- the Data handed out so
abbrev pub s_data : Send → ℕ → Sent
s_data s i = data! (1 + s.confirmed + i) (byte_of (s.start + i)) (s.payloads i)

-- with the acknowledged numbers m, the start passes k of them
abbrev pub s_pass : ℕ → Marks → Send → Send
s_pass k m s = record {
  state = s.state;
  start = byte_of (s.start + k);
  taken = s.taken - k;
  handed = shift k s.handed;
  acknowledged = shift k m;
  payloads = shift k s.payloads;
  accepted = s.accepted;
  confirmed = s.confirmed + k;
}

-- Open, by acknowledgement 0: start 1, counts 0, nothing taken
abbrev pub s_opened : Send
s_opened = record {
  state = s_open;
  start = 1;
  taken = 0;
  handed = none;
  acknowledged = none;
  payloads = λ i. [];
  accepted = 0;
  confirmed = 0;
}

-- an acknowledgement at Open or Failing, d past the start: it counts in the window, handed out, not yet acknowledged
abbrev pub s_count : ℕ → Send → ℕ → Send
s_count W s d =
    pick (ltb d W && (s.handed d && not (s.acknowledged d)))
    (s_pass (run W 0 (mark d s.acknowledged)) (mark d s.acknowledged) s)
    s

-- an acknowledgement with the byte b, by the state
abbrev pub s_ack_at : SState → ℕ → Send → ℕ → Send
s_ack_at s_closed W s b = s
s_ack_at (s_enabled asked) W s b = pick (asked && eqb b 0) s_opened s
s_ack_at s_open W s b = s_count W s (distance_of s.start b)
s_ack_at s_failing W s b = s_count W s (distance_of s.start b)

abbrev pub s_ack : ℕ → Send → ℕ → Send
s_ack W s b = s_ack_at s.state W s b

-- ---- the receiving end point

pub data RState : Type 0 where
  r_closed r_enabled r_open : RState

-- not Closed
abbrev pub Up : RState → Type 0
Up r_closed = ⊥
Up r_enabled = Unit {0}
Up r_open = Unit {0}

pub record Recv : Type 0 where
  pub state : RState
  pub start : ℕ  -- a byte
  pub held : Marks
  pub payloads : ℕ → Pay  -- of the number i past the start
  pub waiting : List ℕ  -- its waiting acknowledgements, the oldest first: bytes

abbrev pub r_wait : List ℕ → Recv → Recv
r_wait w r = record { state = r.state; start = r.start; held = r.held; payloads = r.payloads; waiting = w }

-- a Reset, at Enabled or Open
abbrev pub r_reset : Recv
r_reset = record { state = r_open; start = 1; held = none; payloads = λ i. []; waiting = 0 ∷ [] }

-- k payloads from the number i past the start on
unfoldable pub outs : (ℕ → Pay) → ℕ → ℕ → List Pay
outs f i zero = []
outs f i (suc k) = f i ∷ outs f (suc i) k

-- what Data leaves, and what it has delivered
pub record Taken : Type 0 where
  pub next : Recv
  pub given : List Pay

-- with the held numbers m and their payloads f, the start passes k of them, which are delivered
abbrev pub r_pass : Recv → ℕ → Marks → (ℕ → Pay) → ℕ → Taken
r_pass r b m f k = record {
  next = record {
    state = r.state;
    start = byte_of (r.start + k);
    held = shift k m;
    payloads = shift k f;
    waiting = r.waiting ++ (b ∷ []);
  };
  given = outs f 0 k;
}

-- Data with the byte b, at Open, in the window and new: it is held, and the start passes what is held without a gap
abbrev pub r_take : ℕ → Recv → ℕ → Pay → Taken
r_take W r b p =
    let d = distance_of r.start b in
    let m = mark d r.held in
    r_pass r b m (put d p r.payloads) (run W 0 m)

-- held already, or outside: dropped, and acknowledged all the same
abbrev pub r_drop : Recv → ℕ → Taken
r_drop r b = record { next = r_wait (r.waiting ++ (b ∷ [])) r; given = [] }

abbrev pub r_data : ℕ → Recv → ℕ → Pay → Taken
r_data W r b p = pick (ltb (distance_of r.start b) W && not (r.held (distance_of r.start b))) (r_take W r b p) (r_drop r b)

-- ---- the channel

pub record Channel : Type 0 where
  pub sender : Send
  pub receiver : Recv
  pub hist : Hist

-- the byte of a waiting acknowledgement
abbrev pub tag_byte : Tag → ℕ
tag_byte (old b) = b
tag_byte (new n) = byte_of n

-- what each step makes of the channel
abbrev pub with_sender : Send → Channel → Channel
with_sender s g = record { sender = s; receiver = g.receiver; hist = g.hist }

abbrev pub with_receiver : Recv → Channel → Channel
with_receiver r g = record { sender = g.sender; receiver = r; hist = g.hist }

abbrev pub g_send : Channel → Pay → Channel
g_send g p = record { sender = s_send g.sender p; receiver = g.receiver; hist = s_note 0 (s_accepts (p ∷ [])) g.hist }

abbrev pub g_hand : Send → Sent → Channel → Channel
g_hand s f g = record {
  sender = s;
  receiver = g.receiver;
  hist = record {
    accepted = g.hist.accepted;
    delivered = g.hist.delivered;
    sent = f ∷ g.hist.sent;
    tags = g.hist.tags;
    back = g.hist.back;
    data_in = g.hist.data_in;
  };
}

abbrev pub g_answer : ℕ → List ℕ → Tag → List Tag → Channel → Channel
g_answer b bs t ts g = record {
  sender = g.sender;
  receiver = r_wait bs g.receiver;
  hist = record {
    accepted = g.hist.accepted;
    delivered = g.hist.delivered;
    sent = g.hist.sent;
    tags = ts;
    back = back_of t b g.hist.back;
    data_in = g.hist.data_in;
  };
}

abbrev pub g_reset : Tag → Channel → Channel
g_reset t g = record { sender = g.sender; receiver = r_reset; hist = r_note t false r_resets g.hist }

-- other acknowledgements wait
abbrev pub with_tags : List Tag → Hist → Hist
with_tags tags h = record {
  accepted = h.accepted;
  delivered = h.delivered;
  sent = h.sent;
  tags = tags;
  back = h.back;
  data_in = h.data_in;
}

abbrev pub g_close : Recv → Channel → Channel
g_close t g = record { sender = g.sender; receiver = t; hist = r_note (old 0) g.hist.data_in r_closes g.hist }

abbrev pub g_data : Tag → Bool → ℕ → Pay → Taken → Channel → Channel
g_data t d b p k g = record { sender = g.sender; receiver = k.next; hist = r_note t d (r_takes b p k.given) g.hist }

-- ---- the steps of a run

pub data Step (W : ℕ) : Channel → Channel → Type 0 where
  -- refused calls and frames, reads of the counts, Urgents, ticks in which no timer comes to its end
  nothing : (g : Channel) → Step W g g
  -- the sender's host
  send : (g : Channel) (p : Pay) → g.sender.state ≡ s_open → g.sender.taken < W → Step W g (g_send g p)
  -- the sender hands out a Reset, or Data of the i-th number of its window, the first time or again
  reset_out : (g : Channel) (asked : Bool) → g.sender.state ≡ s_enabled asked
      → Step W g (g_hand (s_state (s_enabled true) g.sender) reset g)
  data_out : (g : Channel) (i : ℕ) → g.sender.state ≡ s_open → i < g.sender.taken
      → Step W g (g_hand (s_hand i g.sender) (s_data g.sender i) g)
  -- a timer comes to its end after M retries
  fail : (g : Channel) → g.sender.state ≡ s_open → Step W g (with_sender (s_state s_failing g.sender) g)
  -- the receiver's host closes it, and nothing waits; or opens it, and what waits stays
  close_receiver : (g : Channel) (t : Recv) → t.state ≡ r_closed → t.waiting ≡ [] → Step W g (g_close t g)
  open_receiver : (g : Channel) (t : Recv) → g.receiver.state ≡ r_closed → t.state ≡ r_enabled
      → t.waiting ≡ g.receiver.waiting → Step W g (with_receiver t g)
  -- the receiver hands out its oldest acknowledgement
  ack_out : (g : Channel) (b : ℕ) (bs : List ℕ) (t : Tag) (ts : List Tag) → g.receiver.waiting ≡ b ∷ bs → g.hist.tags ≡ t ∷ ts
      → Step W g (g_answer b bs t ts g)
  -- this run's frames come in
  reset_in : (g : Channel) → Memᴰ reset g.hist.sent → g.hist.data_in ≡ false → Up g.receiver.state
      → Step W g (g_reset (new 0) g)
  data_in_holds : (g : Channel) (n b : ℕ) (p : Pay) → Memᴰ (data! n b p) g.hist.sent → NotLate W (1 + length g.hist.delivered) n
      → g.receiver.state ≡ r_open → Step W g (g_data (new n) true b p (r_data W g.receiver b p) g)
  ack_in : (g : Channel) (n b : ℕ) → Memᴰ (ack n b) g.hist.back
      → NotLate W (s_first g.sender.state g.sender.confirmed) n → Step W g (with_sender (s_ack W g.sender b) g)
  -- any other frame comes in: only until this run's first Reset is handed out
  old_reset_in : (g : Channel) → g.hist.sent ≡ [] → Up g.receiver.state → Step W g (g_reset (old 0) g)
  old_data_in : (g : Channel) (b : ℕ) (p : Pay) → g.hist.sent ≡ [] → g.receiver.state ≡ r_open
      → Step W g (g_data (old b) g.hist.data_in b p (r_data W g.receiver b p) g)
  old_ack_in : (g : Channel) (b : ℕ) → g.hist.sent ≡ [] → Step W g (with_sender (s_ack W g.sender b) g)

pub data Steps (W : ℕ) : Channel → Channel → Type 0 where
  done : {g : Channel} → Steps W g g
  then : {g h k : Channel} → Steps W g h → Step W h k → Steps W g k

-- a run begins: the sender has become Enabled, whatever the receiver is and whatever acknowledgements wait there
pub record Start (g : Channel) : Type 0 where
  pub enabled : g.sender.state ≡ s_enabled false
  pub none_accepted : g.hist.accepted ≡ []
  pub none_out : g.hist.sent ≡ []
  pub none_back : g.hist.back ≡ []
  pub all_old : g.hist.tags ≡ map old g.receiver.waiting
  pub no_data : g.hist.data_in ≡ false
