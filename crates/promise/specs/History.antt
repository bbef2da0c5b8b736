-- The history of a run, as a bystander keeps it who sees only the calls and their answers. Numbers here are counted
-- without folding. Cited by the promise. Assumes nothing.
use Rattle.std.specs.Prelude.{ℕ, ◌+◌, ◌-◌, ◌≤◌, Bool, false, List, [], ◌∷◌, ◌++◌}
use Rattle.window.specs.Numbers.{distance_of, byte_of}

-- a payload's bytes
abbrev pub Pay : Type 0
Pay = List ℕ

-- ---- the sender's state

-- an end point's states, as far as the promise speaks of them [E1, E2]
pub data SState : Type 0 where
  s_closed : SState
  s_enabled : (asked : Bool) → SState  -- whether a Reset was handed out since Enabled began
  s_open : SState
  s_failing : SState

-- the sender is open: Open or Failing [P12, P13]
abbrev pub Live : SState → Type 0
Live s_closed = ⊥
Live (s_enabled asked) = ⊥
Live s_open = Unit {0}
Live s_failing = Unit {0}

-- the count at which the sender's window starts, by its state and its confirmed count: before Open that count is of an
-- earlier run [P9]
abbrev pub s_first : SState → ℕ → ℕ
s_first s_closed confirmed = 1
s_first (s_enabled asked) confirmed = 1
s_first s_open confirmed = 1 + confirmed
s_first s_failing confirmed = 1 + confirmed

-- a number is not late: the window's start is past it by 256 - W at most [P9]
abbrev pub NotLate : ℕ → ℕ → ℕ → Type 0
NotLate W start n = start ≤ n + (256 - W)

-- ---- what is kept

-- a frame that the sender handed out in this run: a Reset, or Data with its number, its sequence byte and its payload
-- [P2, P4]
pub data Sent : Type 0 where
  reset : Sent
  data! : (n b : ℕ) (p : Pay) → Sent

-- what a waiting acknowledgement answers: a frame with the byte b that is not of this run, or this run's frame number
-- n (a Reset's is 0) [P4]
pub data Tag : Type 0 where
  old : (b : ℕ) → Tag
  new : (n : ℕ) → Tag

-- an acknowledgement that the receiver handed out, with the byte b, and that answers this run's frame number n [P4]
pub data Back : Type 0 where
  ack : (n b : ℕ) → Back

-- what a bystander keeps of a run [P2, P3, P4]
pub record Hist : Type 0 where
  pub accepted : List Pay  -- by the sender, in this run
  pub delivered : List Pay  -- by the receiver, since the last Reset that it took
  pub sent : List Sent  -- handed out by the sender in this run, the last one first
  pub tags : List Tag  -- of the acknowledgements that wait at the receiver, the oldest first
  pub back : List Back  -- handed out by the receiver in answer to this run's frames, the last one first
  pub data_in : Bool  -- whether Data of this run has reached the receiver

-- a run's beginning: nothing accepted, nothing handed out [P1]
abbrev pub blank : List Pay → List Tag → Hist
blank delivered tags =
    record { accepted = []; delivered = delivered; sent = []; tags = tags; back = []; data_in = false }

-- ---- what is seen of a call

-- what one call on the sender's node was for its entry, read from the call and its answer alone [P1, P2]
pub data SSeen : Type 0 where
  s_quiet : SSeen  -- refused; another entry's; counts; Urgent; a report; a tick that does not answer the entry's bit
  s_accepts : (ps : List Pay) → SSeen  -- send, not refused, or a plan: those accepted, in order
  s_resets : SSeen  -- a Reset of the entry was handed out
  s_sends : (b : ℕ) (p : Pay) → SSeen  -- Data of the entry was handed out, with its sequence byte and its payload
  s_hears : (b : ℕ) → SSeen  -- an Acknowledge for the entry came in and was not refused
  s_ends : SSeen  -- the entry was opened, closed or set up anew, or a tick answered its bit

-- the same of a call on the receiver's node [P2, P3]
pub data RSeen : Type 0 where
  r_quiet : RSeen  -- refused; another entry's; open; Urgent; a report
  r_acks : (b : ℕ) → RSeen  -- an Acknowledge of the entry was handed out
  r_resets : RSeen  -- a Reset for the entry came in and was not refused
  r_takes : (b : ℕ) (p : Pay) (given : List Pay) → RSeen  -- Data came in, not refused; the payloads of its block
  r_closes : RSeen  -- the entry was closed or set up anew

-- a call of the node's own: it brings no frame in, and does not end the run (the receiver has no such call: a run is
-- the sender's) [P1, P10]
abbrev pub SOwn : SSeen → Type 0
SOwn s_quiet = Unit {0}
SOwn (s_accepts ps) = Unit {0}
SOwn s_resets = Unit {0}
SOwn (s_sends b p) = Unit {0}
SOwn (s_hears b) = ⊥
SOwn s_ends = ⊥

-- of the receiver's node: its host may close and open its end [P10]
abbrev pub ROwn : RSeen → Type 0
ROwn r_quiet = Unit {0}
ROwn (r_acks b) = Unit {0}
ROwn r_resets = ⊥
ROwn (r_takes b p given) = ⊥
ROwn r_closes = Unit {0}

-- ---- what the history makes of it

-- what was seen at the sender; a frame's number is counted from the window's start on, by the confirmed count before
-- the call [P2, P4]
abbrev pub s_note : ℕ → SSeen → Hist → Hist
s_note confirmed s_quiet h = h
s_note confirmed (s_accepts ps) h =
    record {
      accepted = h.accepted ++ ps;
      delivered = h.delivered;
      sent = h.sent;
      tags = h.tags;
      back = h.back;
      data_in = h.data_in;
    }
s_note confirmed s_resets h =
    record {
      accepted = h.accepted;
      delivered = h.delivered;
      sent = reset ∷ h.sent;
      tags = h.tags;
      back = h.back;
      data_in = h.data_in;
    }
s_note confirmed (s_sends b p) h =
    record {
      accepted = h.accepted;
      delivered = h.delivered;
      sent = data! (1 + confirmed + distance_of (byte_of (1 + confirmed)) b) b p ∷ h.sent;
      tags = h.tags;
      back = h.back;
      data_in = h.data_in;
    }
s_note confirmed (s_hears b) h = h
s_note confirmed s_ends h = h

-- the oldest acknowledgement goes
abbrev pub popped : List Tag → List Tag
popped [] = []
popped (t ∷ ts) = ts

-- with the byte b: it is this run's if what it answers is [P4]
abbrev pub back_of : Tag → ℕ → List Back → List Back
back_of (old b') b l = l
back_of (new n) b l = ack n b ∷ l

-- the oldest acknowledgement is handed out with the byte b [P4]
abbrev pub answered : List Tag → ℕ → List Back → List Back
answered [] b l = l
answered (t ∷ ts) b l = back_of t b l

-- what was seen at the receiver; t says which frame came in, d whether Data of this run has reached the receiver now
-- [P3, P4]
abbrev pub r_note : Tag → Bool → RSeen → Hist → Hist
r_note t d r_quiet h = h
r_note t d (r_acks b) h =
    record {
      accepted = h.accepted;
      delivered = h.delivered;
      sent = h.sent;
      tags = popped h.tags;
      back = answered h.tags b h.back;
      data_in = h.data_in;
    }
r_note t d r_resets h =
    record {
      accepted = h.accepted;
      delivered = [];
      sent = h.sent;
      tags = t ∷ [];
      back = h.back;
      data_in = h.data_in;
    }
r_note t d (r_takes b p given) h =
    record {
      accepted = h.accepted;
      delivered = h.delivered ++ given;
      sent = h.sent;
      tags = h.tags ++ (t ∷ []);
      back = h.back;
      data_in = d;
    }
r_note t d r_closes h =
    record {
      accepted = h.accepted;
      delivered = h.delivered;
      sent = h.sent;
      tags = [];
      back = h.back;
      data_in = h.data_in;
    }
