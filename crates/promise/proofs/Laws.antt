-- What the proof wants of the two nodes: a relation from a node to the end point of Channel.antt that its entry is viewed as, which
-- setup gives and every call keeps, each call being a step of the end point. Assumes nothing.
use Prim.Native.Nat.{ℕ, ◌+◌, ◌<◌}
use mathlib.Core.Path.{◌≡◌}
use mathlib.Core.Bool.{Bool, true}
use mathlib.Core.List.{List, [], ◌∷◌}
use Rattle.window.specs.Numbers.{byte_of}
use Rattle.promise.specs.History.{Pay, s_enabled, s_open, s_failing, SSeen, s_quiet, s_accepts, s_resets, s_sends, s_hears, s_ends, RSeen, r_quiet, r_acks, r_resets, r_takes, r_closes}
use Rattle.promise.specs.Promise.{SSide, RSide, Reach, at_setup, by_call, by_store}
use Rattle.promise.proofs.Channel.{Send, s_send, s_state, s_hand, s_ack, Recv, r_closed, r_enabled, r_open, Up, r_wait, r_reset, r_data}

-- ---- the steps of an end point

-- payloads accepted one after the other, each with the next number, at most W from the start on
pub data Accepts (W : ℕ) : Send → List Pay → Send → Type 0 where
  accepts_none : (s : Send) → Accepts W s [] s
  accepts_one : (s t : Send) (p : Pay) (ps : List Pay) → s.state ≡ s_open → s.taken < W → Accepts W (s_send s p) ps t
      → Accepts W s (p ∷ ps) t

-- what a call makes of the sending end point, by what was seen of it
pub data SNext (W : ℕ) : Send → SSeen → Send → Type 0 where
  -- nothing alters, or a timer came to its end after M retries
  sn_same : (s : Send) → SNext W s s_quiet s
  sn_fail : (s : Send) → s.state ≡ s_open → SNext W s s_quiet (s_state s_failing s)
  -- send, or a plan
  sn_accept : (s t : Send) (ps : List Pay) → Accepts W s ps t → SNext W s (s_accepts ps) t
  -- handing out: a Reset at Enabled; at Open the payload of a number that is taken, the first time or again
  sn_reset : (s : Send) (asked : Bool) → s.state ≡ s_enabled asked → SNext W s s_resets (s_state (s_enabled true) s)
  sn_send : (s : Send) (i : ℕ) → s.state ≡ s_open → i < s.taken
      → SNext W s (s_sends (byte_of (s.start + i)) (s.payloads i)) (s_hand i s)
  sn_hear : (s : Send) (b : ℕ) → SNext W s (s_hears b) (s_ack W s b)
  -- a run ended: anything
  sn_end : (s t : Send) → SNext W s s_ends t

-- and of the receiving end point
pub data RNext (W : ℕ) : Recv → RSeen → Recv → Type 0 where
  -- nothing alters, or a Closed entry was opened: what waits stays
  rn_same : (r : Recv) → RNext W r r_quiet r
  rn_open : (r t : Recv) → r.state ≡ r_closed → t.state ≡ r_enabled → t.waiting ≡ r.waiting → RNext W r r_quiet t
  -- the oldest acknowledgement goes
  rn_ack : (r : Recv) (b : ℕ) (bs : List ℕ) → r.waiting ≡ b ∷ bs → RNext W r (r_acks b) (r_wait bs r)
  -- arrivals: a Reset at Enabled or Open, Data at Open
  rn_reset : (r : Recv) → Up r.state → RNext W r r_resets r_reset
  rn_data : (r : Recv) (b : ℕ) (p : Pay) → r.state ≡ r_open
      → RNext W r (r_takes b p (r_data W r b p).given) (r_data W r b p).next
  -- Closed, and nothing waits
  rn_close : (r t : Recv) → t.state ≡ r_closed → t.waiting ≡ [] → RNext W r r_closes t

-- ---- the laws

-- of the sender's node: what its entry is viewed as, that setup gives a view, that views agree with the entry's state and counts, and
-- that every call is a step of the view
pub record SLaws (W : ℕ) (A : SSide) : Type 1 where
  pub Views : A.Node → Send → Type 0
  pub first : (n : A.Node) → A.SetUp n → (s : Send) × Views n s
  pub agrees : (n : A.Node) (s : Send) → Views n s
      → (s.state ≡ A.state n) × (s.accepted ≡ A.accepted n) × (s.confirmed ≡ A.confirmed n)
  pub lends : (n m : A.Node) (s : Send) → Views n s → A.Lends n m → (t : Send) × Views m t
  pub law : (n m : A.Node) (c : A.Call) (s : Send) → Views n s → A.Did n c m → (t : Send) × SNext W s (A.seen c) t × Views m t

-- of the receiver's node the same, with its waiting acknowledgements
pub record RLaws (W : ℕ) (B : RSide) : Type 1 where
  pub Views : B.Node → Recv → Type 0
  pub first : (n : B.Node) → B.SetUp n → (r : Recv) × Views n r
  pub agrees : (n : B.Node) (r : Recv) → Views n r → r.waiting ≡ B.waiting n
  pub lends : (n m : B.Node) (r : Recv) → Views n r → B.Lends n m → (t : Recv) × Views m t
  pub law : (n m : B.Node) (c : B.Call) (r : Recv) → Views n r → B.Did n c m → (t : Recv) × RNext W r (B.seen c) t × Views m t

-- ---- so every node that setup and calls can give has a view

pub s_viewed : (W : ℕ) (A : SSide) (L : SLaws W A) (n : A.Node) → Reach A.Node A.Call A.SetUp A.Did A.Lends n
    → (s : Send) × L.Views n s
s_viewed W A L n (at_setup _ u) = L.first n u
s_viewed W A L n (by_call m _ c r d) =
    let x = s_viewed W A L m r in
    let y = L.law m n c x.0 x.1 d in
    (y.0, y.2)
s_viewed W A L n (by_store m _ r d) = let x = s_viewed W A L m r in L.lends m n x.0 x.1 d

pub r_viewed : (W : ℕ) (B : RSide) (L : RLaws W B) (n : B.Node) → Reach B.Node B.Call B.SetUp B.Did B.Lends n
    → (r : Recv) × L.Views n r
r_viewed W B L n (at_setup _ u) = L.first n u
r_viewed W B L n (by_call m _ c r d) =
    let x = r_viewed W B L m r in
    let y = L.law m n c x.0 x.1 d in
    (y.0, y.2)
r_viewed W B L n (by_store m _ r d) = let x = r_viewed W B L m r in L.lends m n x.0 x.1 d
