-- DEMAND 3, the statement: two nodes, any tables, any other entries, and one channel from an entry of one to an entry
-- of the other, both with the window W. Whoever believes these definitions and History.antt need not read the proof.
-- Assumes nothing.
use Rattle.std.specs.Prelude.{ℕ, ◌+◌, ◌-◌, ◌≤◌, ◌<◌, ◌≡◌, false, true, length, take, get_or}
use mathlib.Core.List.{List, [], map, Memᴰ}
use Rattle.window.specs.Numbers.{byte_of}
use Rattle.promise.specs.History.{Pay, SState, s_enabled, Live, s_first, NotLate}
use Rattle.promise.specs.History.{reset, data!, old, new, ack, Hist, blank}
use Rattle.promise.specs.History.{SSeen, s_hears, RSeen, r_resets, r_takes, SOwn, ROwn, s_note, r_note}

-- ---- the two nodes

-- the sender's node with the entry that sends [P11]
pub record SSide : Type 1 where
  pub Node : Type 0  -- a node's value with its lent memory
  pub Call : Type 0  -- a call with its answer
  pub Did : Node → Call → Node → Type 0  -- the call's contract, from before to after
  pub SetUp : Node → Type 0  -- what setup leaves
  pub Lends : Node → Node → Type 0  -- the host lends another store, between calls
  pub seen : Call → SSeen  -- what the call was for the entry
  pub state : Node → SState  -- the entry's state
  pub accepted : Node → ℕ  -- the entry's counts
  pub confirmed : Node → ℕ

-- the receiver's node with the entry that receives [P11]
pub record RSide : Type 1 where
  pub Node : Type 0
  pub Call : Type 0
  pub Did : Node → Call → Node → Type 0
  pub SetUp : Node → Type 0
  pub Lends : Node → Node → Type 0
  pub seen : Call → RSeen
  pub waiting : Node → List ℕ  -- the sequence bytes of the entry's waiting acknowledgements, the oldest first

-- the nodes that setup and calls can give, with another store now and then. In the run itself the store stays as the
-- calls leave it: its moves are calls alone. [P11]
pub data Reach (Node Call : Type 0) (SetUp : Node → Type 0) (Did : Node → Call → Node → Type 0)
    (Lends : Node → Node → Type 0) : Node → Type 0 where
  at_setup : (n : Node) → SetUp n → Reach Node Call SetUp Did Lends n
  by_call : (n m : Node) (c : Call) → Reach Node Call SetUp Did Lends n → Did n c m → Reach Node Call SetUp Did Lends m
  by_store : (n m : Node) → Reach Node Call SetUp Did Lends n → Lends n m → Reach Node Call SetUp Did Lends m

-- ---- what is promised

-- of a moment: the sender's two counts and the history of the run [P12, P13, O5]
pub record AsPromised (accepted confirmed : ℕ) (h : Hist) : Type 0 where
  -- the count of accepted payloads is right
  pub counted : accepted ≡ length h.accepted
  -- what is delivered is the first of what was accepted, in order, none twice, none left out
  pub in_order : h.delivered ≡ take (length h.delivered) h.accepted
  pub delivered_le : length h.delivered ≤ length h.accepted
  -- what is confirmed is delivered
  pub confirmed_le : confirmed ≤ length h.delivered
  -- the history's numbers are honest: Data numbered n has the byte of n and the n-th payload accepted, and so has what
  -- answers it
  pub numbers : (n b : ℕ) (p : Pay) → Memᴰ (data! n b p) h.sent
      → (b ≡ byte_of n) × (0 < n) × (n ≤ length h.accepted) × (p ≡ get_or h.accepted (n - 1) [])
  pub answers : (n b : ℕ) → Memᴰ (ack n b) h.back → (b ≡ byte_of n) × (n ≤ length h.accepted)

-- ---- the moves of a run

module _ (A : SSide) (B : RSide) where
  pub record Sys : Type 0 where
    pub sender : A.Node
    pub receiver : B.Node
    pub hist : Hist

  -- a call at the sender, or at the receiver: what it leaves there, and the history then
  abbrev pub s_then : Sys → A.Node → Hist → Sys
  s_then s a h = record { sender = a; receiver = s.receiver; hist = h }

  abbrev pub r_then : Sys → B.Node → Hist → Sys
  r_then s b h = record { sender = s.sender; receiver = b; hist = h }

  -- a run begins: what waits at the receiver answers earlier runs; what it delivered before is of no matter [P1, P4]
  abbrev pub begin : A.Node → B.Node → List Pay → Sys
  begin a b delivered = record { sender = a; receiver = b; hist = blank delivered (map old (B.waiting b)) }

module _ (W : ℕ) (A : SSide) (B : RSide) where
  -- one move of a run, with its premises [P6, P10]
  pub data Move : Sys A B → Sys A B → Type 0 where
    -- any call on the sender's node that brings no frame in for the entry, and neither opens nor closes it: what host
    -- and driver please [P1, P10]
    at_sender : (s : Sys A B) (c : A.Call) (a : A.Node)
        (did : A.Did s.sender c a)
        (own : SOwn (A.seen c))
        → Move s (s_then A B s a (s_note (A.confirmed s.sender) (A.seen c) s.hist))
    -- any call on the receiver's node that brings no frame in for the entry: it may be closed, and opened again [P10]
    at_receiver : (s : Sys A B) (c : B.Call) (b : B.Node)
        (did : B.Did s.receiver c b)
        (own : ROwn (B.seen c))
        → Move s (r_then A B s b (r_note (old 0) s.hist.data_in (B.seen c) s.hist))
    -- an acknowledgement reaches the sender; it may have been overtaken, and may come again [P4, P6, P9]
    ack_comes : (s : Sys A B) (c : A.Call) (a : A.Node) (n x : ℕ)
        (did : A.Did s.sender c a)
        (heard : A.seen c ≡ s_hears x)
        -- the receiver handed it out, in answer to this run's frame number n
        (handed_out : Memᴰ (ack n x) s.hist.back)
        -- the sender's start is not past that number by more than 256 - W
        (not_late : NotLate W (s_first (A.state s.sender) (A.confirmed s.sender)) n)
        → Move s (s_then A B s a s.hist)
    -- a Reset reaches the receiver [P4, P6, P8]
    reset_comes : (s : Sys A B) (c : B.Call) (b : B.Node)
        (did : B.Did s.receiver c b)
        (took : B.seen c ≡ r_resets)
        -- the sender handed it out in this run
        (handed_out : Memᴰ reset s.hist.sent)
        -- no Data of this run has reached the receiver
        (before_data : s.hist.data_in ≡ false)
        → Move s (r_then A B s b (r_note (new 0) false r_resets s.hist))
    -- Data reaches the receiver [P4, P6, P9]
    data_comes : (s : Sys A B) (c : B.Call) (b : B.Node) (n x : ℕ) (p : Pay) (given : List Pay)
        (did : B.Did s.receiver c b)
        (took : B.seen c ≡ r_takes x p given)
        -- the sender handed it out in this run, as its number n
        (handed_out : Memᴰ (data! n x p) s.hist.sent)
        -- the receiver's start is not past that number by more than 256 - W
        (not_late : NotLate W (1 + length s.hist.delivered) n)
        → Move s (r_then A B s b (r_note (new n) true (r_takes x p given) s.hist))
    -- any other frame, of an earlier run or of none, as long as this run's first Reset is not handed out [P4, P7]
    old_ack_comes : (s : Sys A B) (c : A.Call) (a : A.Node) (x : ℕ)
        (did : A.Did s.sender c a)
        (heard : A.seen c ≡ s_hears x) (before_ours : s.hist.sent ≡ [])
        → Move s (s_then A B s a s.hist)
    -- the same of a Reset [P4, P7]
    old_reset_comes : (s : Sys A B) (c : B.Call) (b : B.Node)
        (did : B.Did s.receiver c b)
        (took : B.seen c ≡ r_resets) (before_ours : s.hist.sent ≡ [])
        → Move s (r_then A B s b (r_note (old 0) s.hist.data_in r_resets s.hist))
    -- and of Data [P4, P7]
    old_data_comes : (s : Sys A B) (c : B.Call) (b : B.Node) (x : ℕ) (p : Pay) (given : List Pay)
        (did : B.Did s.receiver c b)
        (took : B.seen c ≡ r_takes x p given) (before_ours : s.hist.sent ≡ [])
        → Move s (r_then A B s b (r_note (old x) s.hist.data_in (r_takes x p given) s.hist))

  pub data Moves : Sys A B → Sys A B → Type 0 where
    no_move : {s : Sys A B} → Moves s s
    and_then : {s t u : Sys A B} → Moves s t → Move t u → Moves s u

  -- DEMAND 3: from two nodes that setup and calls can give, the sender's entry just Enabled, by any moves: whenever
  -- the sender is open, what is promised holds. [P1, P11, P12, P13]
  unfoldable pub Demand3 : Type 0
  Demand3 = (a : A.Node) (b : B.Node) (delivered : List Pay)
      → Reach A.Node A.Call A.SetUp A.Did A.Lends a
      → Reach B.Node B.Call B.SetUp B.Did B.Lends b
      → A.state a ≡ s_enabled false
      → (t : Sys A B) → Moves (begin A B a b delivered) t
      → Live (A.state t.sender) → AsPromised (A.accepted t.sender) (A.confirmed t.sender) t.hist
