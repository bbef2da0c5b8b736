-- The distance premise is needed, to the number: were Data allowed to be one number later (257 for 256), the promise would fail. W 16,
-- start 246: number 5 comes in once more, is held for number 261, and is delivered as that, which was never accepted (01, "Worked
-- numbers": the turn too far). The run is a whole one, from its beginning. Assumes nothing.
use Prim.Native.Nat.{ℕ, zero, suc, ◌+◌, ◌-◌, ◌≤◌, ◌<◌}
use mathlib.Core.Path.{◌≡◌, refl, ap, sym, subst, ◌∙◌}
use mathlib.Core.Bool.{Bool, true, false}
use mathlib.Core.List.{List, [], ◌∷◌, ◌++◌, Memᴰ}
use lib.ListN.{length, length-append}
use lib.Dec.{eqb}
use borrow.Author.Tests.{lt-ltb}
use native.Mathlib.Nat.{zero-add}
use native.Mathlib.Omega.{arith}
use Rattle.units.specs.Refusals.{pick}
use Rattle.window.specs.Numbers.{distance_of, byte_of}
use Rattle.promise.specs.History.{Pay, s_enabled, s_open, Live, Sent, reset, data!, new, blank}
use Rattle.promise.specs.Promise.{AsPromised}
use Rattle.promise.proofs.Windows.{Marks, none, mark, shift, run, put, put_other}
use Rattle.promise.proofs.Channel.{Send, s_state, s_hand, s_data, s_pass, s_ack, Recv, r_open, outs, Taken, r_pass, r_data, Channel, with_sender, g_send, g_hand, g_answer, g_reset, g_data, Step, send, reset_out, data_out, ack_out, reset_in, data_in_holds, ack_in, Steps, done, then, Start}
use Rattle.promise.proofs.KeepingData.{data_wait}

-- ---- one number later

-- the steps of a run, where Data may come in when the start is past it by 257 - W
pub data Later (W : ℕ) : Channel → Channel → Type 0 where
  in_time : {g h : Channel} → Step W g h → Later W g h
  late : (g : Channel) (n b : ℕ) (p : Pay) → Memᴰ (data! n b p) g.hist.sent → 1 + length g.hist.delivered ≤ n + (257 - W)
      → g.receiver.state ≡ r_open → Later W g (g_data (new n) true b p (r_data W g.receiver b p) g)

pub data Laters (W : ℕ) : Channel → Channel → Type 0 where
  none_yet : {g : Channel} → Laters W g g
  and_later : {g h k : Channel} → Laters W g h → Later W h k → Laters W g k

all_in_time : {W : ℕ} {g h k : Channel} → Laters W g h → Steps W h k → Laters W g k
all_in_time ls done = ls
all_in_time ls (then ss s) = and_later (all_in_time ls ss) (in_time s)

joined : {W : ℕ} {g h k : Channel} → Steps W g h → Steps W h k → Steps W g k
joined ss done = ss
joined ss (then ts t) = then (joined ss ts) t

-- ---- what one frame does, by the marks

-- the payload d past the start is new: it is held, and the start passes k
takes_new : (r : Recv) (b : ℕ) (p : Pay) (d k : ℕ) → distance_of r.start b ≡ d → d < 16 → r.held d ≡ false
    → run 16 0 (mark d r.held) ≡ k
    → r_data 16 r b p ≡ r_pass r b (mark d r.held) (put d p r.payloads) k
takes_new r b p d k ed l h ek = rw (ed, lt-ltb d 16 l, h, ek)

-- the acknowledgement of the start counts, and the start passes 1
counts_one : (s : Send) (b : ℕ) → s.state ≡ s_open → distance_of s.start b ≡ 0 → s.handed 0 ≡ true → s.acknowledged 0 ≡ false
    → run 16 0 (mark 0 s.acknowledged) ≡ 1
    → s_ack 16 s b ≡ s_pass 1 (mark 0 s.acknowledged) s
counts_one s b es ed h a ek = rw (es, ed, h, a, ek)

run_none : (d : ℕ) (m : Marks) → mark d m 0 ≡ false → run 16 0 (mark d m) ≡ 0
unfolding run
run_none d m e = rw e

run_one : (m : Marks) → m 1 ≡ false → run 16 0 (mark 0 m) ≡ 1
unfolding run
run_one m e = rw e

run_two : (m : Marks) → m 1 ≡ true → m 2 ≡ false → run 16 0 (mark 0 m) ≡ 2
unfolding run
run_two m e f = rw (e, f)

-- k payloads are given
given_length : (f : ℕ → Pay) (i k : ℕ) → length (outs f i k) ≡ k
unfolding outs
given_length f i zero = refl
given_length f i (suc k) = ap suc (given_length f (suc i) k)

-- ---- a round: a payload is accepted, handed out and delivered, and its acknowledgement confirms it

-- k payloads are accepted, delivered and confirmed, nothing waits, and the receiver holds m
record Even (k : ℕ) (m : Marks) (g : Channel) : Type 0 where
  live : g.sender.state ≡ s_open
  start : g.sender.start ≡ byte_of (1 + k)
  taken : g.sender.taken ≡ 0
  confirmed : g.sender.confirmed ≡ k
  unacknowledged : (i : ℕ) → g.sender.acknowledged i ≡ false
  accepted : length g.hist.accepted ≡ k
  ropen : g.receiver.state ≡ r_open
  rstart : g.receiver.start ≡ byte_of (1 + k)
  holds : (i : ℕ) → g.receiver.held i ≡ m i
  idle : g.receiver.waiting ≡ []
  untagged : g.hist.tags ≡ []
  delivered : length g.hist.delivered ≡ k

longer : (l : List Pay) (n k : ℕ) (given : List Pay) → length l ≡ n → length given ≡ k → length (l ++ given) ≡ n + k
longer l n k given e f = rw (length-append, e, f)

abbrev number : Channel → ℕ
number g = 1 + g.sender.confirmed + 0

abbrev byte : Channel → ℕ
byte g = byte_of (g.sender.start + 0)

-- accepted, and handed out
abbrev sends : Channel → Channel
sends g = g_send g (7 ∷ [])

abbrev payload : Channel → Pay
payload g = (sends g).sender.payloads 0

abbrev hands : Channel → Channel
hands g = g_hand (s_hand 0 (sends g).sender) (s_data (sends g).sender 0) (sends g)

-- it comes in
abbrev comes : Channel → Channel
comes g = g_data (new (number g)) true (byte g) (payload g) (r_data 16 g.receiver (byte g) (payload g)) (hands g)

-- what the receiver makes of it, where it is new and the start passes n
abbrev came : Channel → ℕ → Taken
came g n = r_pass g.receiver (byte g) (mark 0 g.receiver.held) (put 0 (payload g) g.receiver.payloads) n

-- its acknowledgement goes out, and comes in
abbrev answers : Channel → Channel
answers g = g_answer (byte g) [] (new (number g)) [] (comes g)

abbrev counts : Channel → Channel
counts g = with_sender (s_ack 16 (answers g).sender (byte g)) (answers g)

module _ (k : ℕ) (m : Marks) (g : Channel) (e : Even k m g) where
  near : distance_of g.receiver.start (byte g) ≡ 0
  near = omega (arith, e.start, e.rstart)

  to_comes : Steps 16 g (comes g)
  to_comes = then (then (then done
      (send g (7 ∷ []) e.live (omega (arith, e.taken))))
      (data_out (sends g) 0 e.live (omega arith)))
      (data_in_holds (hands g) (number g) (byte g) (payload g) (Memᴰ.head refl) (omega (arith, e.delivered, e.confirmed)) e.ropen)

  to_counts : Steps 16 g (counts g)
  to_counts = then (then to_comes
      (ack_out (comes g) (byte g) [] (new (number g)) []
      (data_wait 16 g.receiver (byte g) (payload g) ∙ ap (λ (l : List ℕ). l ++ (byte g ∷ [])) e.idle)
      (rw e.untagged)))
      (ack_in (answers g) (number g) (byte g) (Memᴰ.head refl) (rw e.live (omega arith)))

  -- what the round takes in, where the receiver does not hold the start
  comes_is : (n : ℕ) → m 0 ≡ false → run 16 0 (mark 0 g.receiver.held) ≡ n
      → r_data 16 g.receiver (byte g) (payload g) ≡ came g n
  comes_is n m0 en = takes_new g.receiver (byte g) (payload g) 0 n near (omega arith) (e.holds 0 ∙ m0) en

  came_length : (n : ℕ) → m 0 ≡ false → run 16 0 (mark 0 g.receiver.held) ≡ n → length (comes g).hist.delivered ≡ k + n
  came_length n m0 en =
      ap (λ (t : Taken). length (g.hist.delivered ++ t.given)) (comes_is n m0 en)
      ∙ longer g.hist.delivered k n _ e.delivered (given_length _ 0 n)

  accepted_length : length (comes g).hist.accepted ≡ k + 1
  accepted_length = longer g.hist.accepted k 1 (_ ∷ []) e.accepted refl

  counts_is : s_ack 16 (answers g).sender (byte g) ≡ s_pass 1 (mark 0 g.sender.acknowledged) (answers g).sender
  counts_is = counts_one (answers g).sender (byte g) e.live (omega (arith, e.start)) refl (e.unacknowledged 0)
      (run_one g.sender.acknowledged (e.unacknowledged 1))

  -- the next number's turn
  round : m 0 ≡ false → m 1 ≡ false → Even (suc k) (shift 1 m) (counts g)
  round m0 m1 = record {
    live = ap (λ (s : Send). s.state) counts_is ∙ e.live;
    start = ap (λ (s : Send). s.start) counts_is ∙ omega (arith, e.start);
    taken = ap (λ (s : Send). s.taken) counts_is ∙ omega (arith, e.taken);
    confirmed = ap (λ (s : Send). s.confirmed) counts_is ∙ omega (arith, e.confirmed);
    unacknowledged = λ i. ap (λ (s : Send). s.acknowledged i) counts_is
        ∙ put_other 0 true g.sender.acknowledged (1 + i) (λ q. omega arith)
        ∙ e.unacknowledged (1 + i);
    accepted = accepted_length ∙ omega arith;
    ropen = ap (λ (t : Taken). t.next.state) here ∙ e.ropen;
    rstart = ap (λ (t : Taken). t.next.start) here ∙ omega (arith, e.rstart);
    holds = λ i. ap (λ (t : Taken). t.next.held i) here
        ∙ put_other 0 true g.receiver.held (1 + i) (λ q. omega arith)
        ∙ e.holds (1 + i);
    idle = refl;
    untagged = refl;
    delivered = came_length 1 m0 one ∙ omega arith;
  }
    where
      one : run 16 0 (mark 0 g.receiver.held) ≡ 1
      one = run_one g.receiver.held (e.holds 1 ∙ m1)

      here : r_data 16 g.receiver (byte g) (payload g) ≡ came g 1
      here = comes_is 1 m0 one

-- ---- many rounds

-- j rounds further on; what was handed out stays in the history
record Further (j k : ℕ) (m : Marks) (g h : Channel) : Type 0 where
  steps : Steps 16 g h
  even : Even (j + k) (shift j m) h
  sent : (f : Sent) → Memᴰ f g.hist.sent → Memᴰ f h.hist.sent

marked_as : (k l : ℕ) (m n : Marks) (g : Channel) → k ≡ l → ((i : ℕ) → m i ≡ n i) → Even k m g → Even l n g
marked_as k l m n g q same e = record {
  live = e.live;
  start = e.start ∙ ap (λ (x : ℕ). byte_of (1 + x)) q;
  taken = e.taken;
  confirmed = e.confirmed ∙ q;
  unacknowledged = e.unacknowledged;
  accepted = e.accepted ∙ q;
  ropen = e.ropen;
  rstart = e.rstart ∙ ap (λ (x : ℕ). byte_of (1 + x)) q;
  holds = λ i. e.holds i ∙ same i;
  idle = e.idle;
  untagged = e.untagged;
  delivered = e.delivered ∙ q;
}

-- as long as the receiver holds none of the next numbers
rounds : (j k : ℕ) (m : Marks) (g : Channel) → ((i : ℕ) → i < suc j → m i ≡ false) → Even k m g → (h : Channel) × Further j k m g h
rounds zero k m g free e = (
  g,
  record {
    steps = done;
    even = marked_as k (0 + k) m (shift 0 m) g (omega arith) (λ i. ap m (omega arith)) e;
    sent = λ f q. q;
  },
)
rounds (suc j) k m g free e = go (rounds j (suc k) (shift 1 m) (counts g) (λ i l. free (1 + i) (omega arith)) (round k m g e (free 0 (omega arith)) (free 1 (omega arith))))
  where
    go : (h : Channel) × Further j (suc k) (shift 1 m) (counts g) h → (h : Channel) × Further (suc j) k m g h
    go (h, x) = (
      h,
      record {
        steps = joined (to_counts k m g e) x.steps;
        even = marked_as (j + suc k) (suc j + k) (shift j (shift 1 m)) (shift (suc j) m) h (omega arith) (λ i. ap m (omega arith)) x.even;
        sent = λ f q. x.sent f (Memᴰ.tail q);
      },
    )

-- ---- the run

-- a run's beginning, to Open
abbrev g0 : Channel
g0 = record {
  sender = record {
    state = s_enabled false;
    start = 1;
    taken = 0;
    handed = none;
    acknowledged = none;
    payloads = λ i. [];
    accepted = 0;
    confirmed = 0;
  };
  receiver = record { state = r_open; start = 1; held = none; payloads = λ i. []; waiting = [] };
  hist = blank [] [];
}

abbrev g1 : Channel
g1 = g_hand (s_state (s_enabled true) g0.sender) reset g0

abbrev g2 : Channel
g2 = g_reset (new 0) g1

abbrev g3 : Channel
g3 = g_answer 0 [] (new 0) [] g2

abbrev g4 : Channel
g4 = with_sender (s_ack 16 g3.sender 0) g3

begins : Start g0
begins = record { enabled = refl; none_accepted = refl; none_out = refl; none_back = refl; all_old = refl; no_data = refl }

opens : Steps 16 g0 g4
opens = then (then (then (then done
    (reset_out g0 false refl))
    (reset_in g1 (Memᴰ.head refl) refl tt))
    (ack_out g2 0 [] (new 0) [] refl refl))
    (ack_in g3 0 0 (Memᴰ.head refl) (omega arith))

open_even : Even 0 none g4
open_even = record {
  live = refl;
  start = refl;
  taken = refl;
  confirmed = refl;
  unacknowledged = λ i. refl;
  accepted = refl;
  ropen = refl;
  rstart = refl;
  holds = λ i. refl;
  idle = refl;
  untagged = refl;
  delivered = refl;
}

-- number 5 is handed out in the fifth round, and 245 payloads are delivered: the start is 246
record AtTurn (g : Channel) : Type 0 where
  steps : Steps 16 g0 g
  even : Even 245 none g
  old_payload : Pay
  fifth : Memᴰ (data! 5 5 old_payload) g.hist.sent

at_turn : (g : Channel) × AtTurn g
at_turn = to_four (rounds 4 0 none g4 (λ i l. refl) open_even)
  where
    rest : (g : Channel) (e : Even 4 none g) → Steps 16 g0 g → (h : Channel) × Further 240 5 (shift 1 none) (counts g) h → (h : Channel) × AtTurn h
    rest g e ss (h, x) = (
      h,
      record {
        steps = joined (joined ss (to_counts 4 none g e)) x.steps;
        even = x.even;
        old_payload = payload g;
        fifth = x.sent _ (subst (λ (f : Sent). Memᴰ f (counts g).hist.sent) is_fifth (Memᴰ.head refl));
      },
    )
      where
        is_fifth : data! (number g) (byte g) (payload g) ≡ data! 5 5 (payload g)
        is_fifth =
            let en : number g ≡ 5 = omega (arith, e.confirmed) in
            let eb : byte g ≡ 5 = omega (arith, e.start) in
            cc

    to_four : (g : Channel) × Further 4 0 none g4 g → (h : Channel) × AtTurn h
    to_four (g, x) =
        rest g x.even (joined opens x.steps)
        (rounds 240 5 (shift 1 none) (counts g) (λ i l. refl) (round 4 none g x.even refl refl))

-- number 5 comes in once more, and its acknowledgement goes out, to be lost
abbrev again : Channel → Pay → Channel
again g p = g_data (new 5) true 5 p (r_data 16 g.receiver 5 p) g

abbrev strays : Channel → Pay → Channel
strays g p = g_answer 5 [] (new 5) [] (again g p)

module _ (g : Channel) (x : AtTurn g) where
  to_strays : Laters 16 g0 (strays g x.old_payload)
  to_strays = and_later (and_later (all_in_time none_yet x.steps)
      (late g 5 5 x.old_payload x.fifth (omega (arith, x.even.delivered)) x.even.ropen))
      (in_time (ack_out (again g x.old_payload) 5 [] (new 5) []
      (data_wait 16 g.receiver 5 x.old_payload ∙ ap (λ (l : List ℕ). l ++ (5 ∷ [])) x.even.idle)
      (rw x.even.untagged)))

  -- it seems to be number 261, and is held as that
  stray_held : Even 245 (mark 15 none) (strays g x.old_payload)
  stray_held = record {
    live = x.even.live;
    start = x.even.start;
    taken = x.even.taken;
    confirmed = x.even.confirmed;
    unacknowledged = x.even.unacknowledged;
    accepted = x.even.accepted;
    ropen = ap (λ (t : Taken). t.next.state) here ∙ x.even.ropen;
    rstart = ap (λ (t : Taken). t.next.start) here ∙ omega (arith, x.even.rstart);
    holds = λ i. ap (λ (t : Taken). t.next.held i) here ∙ held_now i;
    idle = refl;
    untagged = refl;
    delivered = ap (λ (t : Taken). length (g.hist.delivered ++ t.given)) here
        ∙ longer g.hist.delivered 245 0 _ x.even.delivered (given_length _ 0 0);
  }
    where
      here : r_data 16 g.receiver 5 x.old_payload
          ≡ r_pass g.receiver 5 (mark 15 g.receiver.held) (put 15 x.old_payload g.receiver.payloads) 0
      here = takes_new g.receiver 5 x.old_payload 15 0 (omega (arith, x.even.rstart)) (omega arith) (x.even.holds 15)
          (run_none 15 g.receiver.held (x.even.holds 0))

      held_now : (i : ℕ) → shift 0 (mark 15 g.receiver.held) i ≡ mark 15 none i
      held_now i = ap (mark 15 g.receiver.held) (zero-add i) ∙ ap (λ (b : Bool). pick (eqb i 15) true b) (x.even.holds i)

  -- numbers 246 to 259 are delivered, then 260 and the stray after it: 261 payloads, of 260 accepted
  broken : (h : Channel) × Further 14 245 (mark 15 none) (strays g x.old_payload) h
      → (h : Channel) × Laters 16 g0 h × Live h.sender.state × (AsPromised h.sender.accepted h.sender.confirmed h.hist → ⊥)
  broken (h, y) = (
    comes h,
    all_in_time to_strays (joined y.steps (to_comes 259 _ h y.even)),
    subst Live (sym y.even.live) tt,
    λ k.
        let all = came_length 259 _ h y.even 2 refl (run_two h.receiver.held (y.even.holds 1) (y.even.holds 2)) in
        omega (arith, k.delivered_le, all, accepted_length 259 _ h y.even),
  )

from_turn : (g : Channel) × AtTurn g
    → (h : Channel) × Laters 16 g0 h × Live h.sender.state × (AsPromised h.sender.accepted h.sender.confirmed h.hist → ⊥)
from_turn (g, x) =
    let free : (i : ℕ) → i < 15 → mark 15 none i ≡ false = λ i l. put_other 15 true none i (λ q. omega arith) in
    broken g x (rounds 14 245 (mark 15 none) (strays g x.old_payload) free (stray_held g x))

-- THE TURN TOO FAR: by steps of which one is a number late, from a run's beginning to a moment at which the sender is open and the promise is broken
pub turn_too_far : (g : Channel) × Start g
    × ((h : Channel) × Laters 16 g h × Live h.sender.state × (AsPromised h.sender.accepted h.sender.confirmed h.hist → ⊥))
turn_too_far = (g0, begins, from_turn at_turn)
