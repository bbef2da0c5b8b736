-- The promise over two machines is not empty: a run of two machines, each set up from a table and opened, that meets every premise, with
-- frames lost, repeated, late and overtaking each other. Every call is computed: its answer, what is seen of it, and what it leaves. All
-- three payloads are delivered in order and confirmed. Assumes nothing.
use Prim.Native.Nat.{ℕ, ◌+◌, ◌-◌}
use mathlib.Core.Path.{◌≡◌, refl, sym, ap, subst, subst₂}
use mathlib.Core.Bool.{Bool, true, false}
use mathlib.Core.List.{List, [], ◌∷◌, Memᴰ}
use native.Mathlib.Omega.{arith}
use lib.ListN.{length, replicate}
use lib.Seq.{sets}
use lib.Count.{ones}
use lib.Dec.{T, leb, leb→le}
use lib.Pow.{are_bytes}
use Rattle.units.specs.Bytes.{get16_of, get32_of, be16, be32}
use Rattle.units.specs.Sizes.{default_size}
use Rattle.check8.specs.Polynomial.{times_x, times_xs, step_byte, check_from}
use Rattle.table.specs.Layout.{entry_of, entry_from}
use Rattle.table.specs.Areas.{area_of, place_of, store_of}
use Rattle.table.specs.Rules.{good_table, head_good, is_address, every_below, entry_good, form_good, numbers_good, apart, fits}
use Rattle.frame.specs.Layout.{payload_of, frame_bytes, body_bytes, head_bytes}
use Rattle.frame.specs.Reading.{sound_of, header_of, read_of}
use Rattle.frame.proofs.Parts.{byte}
use Rattle.arrive_lookup.specs.Fitting as fitting
use Rattle.blocks.specs.Blocks.{offsets, joined_up, block_of}
use Rattle.blocks.specs.Reading.{payload_in, payloads_in, read_block, never_fall, is_block, is_plan}
use Rattle.machine.specs.Calls.{Call, opens, sends, plans, arrives, hands_out, reports, ticks, Answer, Fed}
use Rattle.machine.specs.Machine as machine
use Rattle.machine.specs.Machine.{Machine, begun, step, SetUp}
use Rattle.promise.specs.History.{Pay, SState, s_enabled, s_open, s_first, reset, data!, Tag, old, new, ack, SSeen, s_quiet, s_accepts, s_resets, s_sends, s_hears, RSeen, r_quiet, r_acks, r_resets, r_takes, SOwn, ROwn, s_note, r_note}
use Rattle.promise.specs.Promise.{SSide, RSide, Sys, begin, Move, at_sender, at_receiver, ack_comes, reset_comes, data_comes, Moves, no_move, and_then, Reach, at_setup, by_call, AsPromised, Demand3}
use Rattle.promise.specs.Seen.{Event, s_seen, r_seen}
use Rattle.promise.specs.Link.{Did, sender, receiver, Paired, Promise}

-- ---- what a call is computed with: who unfolds `computes` unfolds all of it

frames : Unit {0}
unfolding get16_of be16 be32 times_x times_xs step_byte check_from payload_of frame_bytes body_bytes head_bytes sound_of header_of read_of
frames = tt

tables : Unit {0}
unfolding default_size ones entry_of entry_from area_of place_of store_of good_table head_good is_address every_below entry_good form_good numbers_good apart fits
tables = tt

blocks : Unit {0}
unfolding offsets joined_up block_of get32_of payload_in payloads_in read_block never_fall is_block is_plan
blocks = tt

calls : Unit {0}
unfolding machine.without machine.enabled machine.listed machine.begun machine.opening machine.sending machine.sending_all machine.planning machine.handing_out machine.in_order machine.going_out machine.frame_of machine.reporting machine.reported machine.ticking machine.each machine.ticked machine.ticked_all machine.any_spent machine.again_from machine.running machine.bits_from machine.step
calls = tt

coming : Unit {0}
unfolding fitting.fits machine.place_of machine.arriving machine.reading machine.taken_in machine.acking machine.acked_run machine.receiving machine.resetting machine.held_run machine.held_count
coming = tt

computes : Unit {0}
unfolding frames tables blocks calls coming s_seen r_seen
computes = tt

-- ---- the tables

-- address 64 sends to 65 on channel 7: M = 3, W = 2, P = 2, T = 1
abbrev pub sends_table : List ℕ
sends_table = 0 ∷ 1 ∷ 0 ∷ 8 ∷ 64 ∷ 238 ∷ 0 ∷ 0 ∷ 0 ∷ 65 ∷ 7 ∷ 3 ∷ 0 ∷ 2 ∷ 0 ∷ 2 ∷ 0 ∷ 1 ∷ 0 ∷ 0 ∷ []

-- address 65 receives from 64 on channel 7
abbrev pub receives_table : List ℕ
receives_table = 0 ∷ 1 ∷ 0 ∷ 8 ∷ 65 ∷ 238 ∷ 0 ∷ 0 ∷ 1 ∷ 64 ∷ 7 ∷ 0 ∷ 0 ∷ 2 ∷ 0 ∷ 2 ∷ 0 ∷ 0 ∷ 0 ∷ 0 ∷ []

paired : Paired sends_table 0 receives_table 0
unfolding computes
paired =
    record {
      known = omega arith;
      known' = omega arith;
      kind = refl;
      kind' = refl;
      there = refl;
      back = refl;
      channel = refl;
      protocol = refl;
      window = refl;
    }

abbrev pub A : SSide
A = sender sends_table 0

abbrev pub B : RSide
B = receiver receives_table 0

-- the window in force, which is 2
abbrev pub W : ℕ
W = (entry_of sends_table 0).window

-- ---- set up and opened

-- with as much store as the table takes
abbrev set_s : Machine
set_s = begun sends_table 6

abbrev set_r : Machine
set_r = begun receives_table 4

-- what a call answers, and what it leaves
abbrev answer : Machine → Call → Answer
answer m c = (step m c).answer

abbrev after : Machine → Call → Machine
after m c = (step m c).machine

abbrev pub a : Machine
a = after set_s (opens 0)

abbrev pub b : Machine
b = after set_r (opens 0)

-- a call, with what it answers
abbrev event : Call → Answer → Event
event c x = record { call = c; answer = x }

-- numbers alone; a frame in its buffer of P + 9 bytes; payloads in their block of 6 + W (P + 4) bytes
abbrev says : List ℕ → Answer
says ns = record { numbers = ns; out = [] }

abbrev buffer : List ℕ
buffer = replicate 11 0

abbrev went : List ℕ → Answer
went f = record { numbers = 0 ∷ length f ∷ []; out = sets buffer 0 f }

abbrev block : List ℕ
block = replicate 18 0

abbrev wrote : List Pay → Answer
wrote given = record { numbers = 0 ∷ 4 ∷ 0 ∷ length (block_of given) ∷ []; out = sets block 0 (block_of given) }

-- it was done, if that is what it answers
did : (n : Machine) (c : Call) (x : Answer) → Fed c → answer n c ≡ x → Did n (event c x) (after n c)
did n c x fed said = record { fed = fed; answered = sym said; left = refl }

set_s_up : SetUp sends_table set_s
unfolding computes
set_s_up =
    record { room = 6; bytes = λ k. byte sends_table k tt; passed = refl; is = refl }

set_r_up : SetUp receives_table set_r
unfolding computes
set_r_up =
    record { room = 4; bytes = λ k. byte receives_table k tt; passed = refl; is = refl }

reached : Reach A.Node A.Call A.SetUp A.Did A.Lends a
unfolding computes
reached = by_call set_s a (event (opens 0) (says (0 ∷ []))) (at_setup set_s set_s_up) (did set_s (opens 0) (says (0 ∷ [])) tt refl)

reached' : Reach B.Node B.Call B.SetUp B.Did B.Lends b
unfolding computes
reached' = by_call set_r b (event (opens 0) (says (0 ∷ []))) (at_setup set_r set_r_up) (did set_r (opens 0) (says (0 ∷ [])) tt refl)

enabled : A.state a ≡ s_enabled false
unfolding computes
enabled = refl

-- ---- the moves

-- what a call leads to, by what is seen of it; m payloads are confirmed before
abbrev s_does : Sys A B → Call → ℕ → SSeen → Sys A B
s_does s c m y = record { sender = after s.sender c; receiver = s.receiver; hist = s_note m y s.hist }

abbrev r_does : Sys A B → Call → Tag → Bool → RSeen → Sys A B
r_does s c tag d y = record { sender = s.sender; receiver = after s.receiver c; hist = r_note tag d y s.hist }

-- an answer beside a number of the machine before the call: one equation, so that the machine is worked out once
abbrev beside : (Machine → ℕ) → Machine → Call → Answer × ℕ
beside count n c = (answer n c, count n)

-- at the sender: a call that brings no frame in
s_own : (s : Sys A B) (c : Call) (x : Answer) (m : ℕ) (y : SSeen)
    → Fed c
    → beside A.confirmed s.sender c ≡ (x, m)
    → A.seen (event c x) ≡ y
    → SOwn y
    → Move W A B s (s_does s c m y)
s_own s c x m y fed said seen own =
    subst₂ (λ (k : ℕ) (z : SSeen). SOwn z → Move W A B s (s_does s c k z)) (ap (λ (q : Answer × ℕ). q.1) said) seen
    (λ o. at_sender s (event c x) (after s.sender c) (did s.sender c x fed (ap (λ (q : Answer × ℕ). q.0) said)) o) own

-- the number at which its window starts
abbrev first : Machine → ℕ
first n = s_first (A.state n) (A.confirmed n)

ack_in : (s : Sys A B) (f : List ℕ) (x : Answer) (m n : ℕ)
    → T (are_bytes f)
    → beside first s.sender (arrives [] f) ≡ (x, m)
    → A.seen (event (arrives [] f) x) ≡ s_hears n
    → Memᴰ (ack n n) s.hist.back
    → T (leb m (n + (256 - W)))
    → Move W A B s (s_does s (arrives [] f) 0 (s_hears n))
ack_in s f x m n fed said seen out near =
    ack_comes s (event (arrives [] f) x) (after s.sender (arrives [] f)) n n
    (did s.sender (arrives [] f) x (λ k. byte f k fed) (ap (λ (q : Answer × ℕ). q.0) said)) seen out
    (rw (ap (λ (q : Answer × ℕ). q.1) said) (leb→le m (n + (256 - W)) near))

-- at the receiver: a call that brings no frame in
r_own : (s : Sys A B) (c : Call) (x : Answer) (y : RSeen)
    → Fed c
    → answer s.receiver c ≡ x
    → B.seen (event c x) ≡ y
    → ROwn y
    → Move W A B s (r_does s c (old 0) s.hist.data_in y)
r_own s c x y fed said seen own =
    subst (λ (z : RSeen). ROwn z → Move W A B s (r_does s c (old 0) s.hist.data_in z)) seen
    (λ o. at_receiver s (event c x) (after s.receiver c) (did s.receiver c x fed said) o) own

-- a Reset comes in, where nothing is held
reset_in : (s : Sys A B) (f : List ℕ)
    → T (are_bytes f)
    → answer s.receiver (arrives [] f) ≡ says (0 ∷ 3 ∷ 0 ∷ 0 ∷ [])
    → B.seen (event (arrives [] f) (says (0 ∷ 3 ∷ 0 ∷ 0 ∷ []))) ≡ r_resets
    → Memᴰ reset s.hist.sent
    → s.hist.data_in ≡ false
    → Move W A B s (r_does s (arrives [] f) (new 0) false r_resets)
reset_in s f fed said seen out before =
    reset_comes s (event (arrives [] f) (says (0 ∷ 3 ∷ 0 ∷ 0 ∷ []))) (after s.receiver (arrives [] f))
    (did s.receiver (arrives [] f) (says (0 ∷ 3 ∷ 0 ∷ 0 ∷ [])) (λ k. byte f k fed) said) seen out before

data_in_holds : (s : Sys A B) (f : List ℕ) (n : ℕ) (p : Pay) (given : List Pay)
    → T (are_bytes f)
    → answer s.receiver (arrives block f) ≡ wrote given
    → B.seen (event (arrives block f) (wrote given)) ≡ r_takes n p given
    → Memᴰ (data! n n p) s.hist.sent
    → T (leb (1 + length s.hist.delivered) (n + (256 - W)))
    → Move W A B s (r_does s (arrives block f) (new n) true (r_takes n p given))
data_in_holds s f n p given fed said seen out near =
    data_comes s (event (arrives block f) (wrote given)) (after s.receiver (arrives block f)) n n p given
    (did s.receiver (arrives block f) (wrote given) (λ k. byte f k fed) said) seen out
    (leb→le (1 + length s.hist.delivered) (n + (256 - W)) near)

-- ---- payloads and frames

abbrev p1 : Pay
p1 = 7 ∷ []

abbrev p2 : Pay
p2 = 8 ∷ 9 ∷ []

abbrev p3 : Pay
p3 = 10 ∷ []

-- a plan of the first and of an empty payload, which stops it
abbrev plan! : List ℕ
plan! = 0 ∷ 2 ∷ 0 ∷ 0 ∷ 0 ∷ 14 ∷ 0 ∷ 0 ∷ 0 ∷ 15 ∷ 0 ∷ 0 ∷ 0 ∷ 15 ∷ 7 ∷ []

-- what arrives is, byte for byte, what an earlier move handed out
abbrev reset! : List ℕ
reset! = 65 ∷ 238 ∷ 64 ∷ 2 ∷ 0 ∷ 0 ∷ 7 ∷ 0 ∷ 133 ∷ []

abbrev data1 : List ℕ
data1 = 65 ∷ 238 ∷ 64 ∷ 0 ∷ 0 ∷ 1 ∷ 7 ∷ 1 ∷ 7 ∷ 214 ∷ []

abbrev data2 : List ℕ
data2 = 65 ∷ 238 ∷ 64 ∷ 0 ∷ 0 ∷ 2 ∷ 7 ∷ 2 ∷ 8 ∷ 9 ∷ 203 ∷ []

abbrev data3 : List ℕ
data3 = 65 ∷ 238 ∷ 64 ∷ 0 ∷ 0 ∷ 1 ∷ 7 ∷ 3 ∷ 10 ∷ 223 ∷ []

abbrev ack0 : List ℕ
ack0 = 64 ∷ 238 ∷ 65 ∷ 1 ∷ 0 ∷ 0 ∷ 7 ∷ 0 ∷ 25 ∷ []

abbrev ack1 : List ℕ
ack1 = 64 ∷ 238 ∷ 65 ∷ 1 ∷ 0 ∷ 0 ∷ 7 ∷ 1 ∷ 30 ∷ []

abbrev ack2 : List ℕ
ack2 = 64 ∷ 238 ∷ 65 ∷ 1 ∷ 0 ∷ 0 ∷ 7 ∷ 2 ∷ 23 ∷ []

abbrev ack3 : List ℕ
ack3 = 64 ∷ 238 ∷ 65 ∷ 1 ∷ 0 ∷ 0 ∷ 7 ∷ 3 ∷ 16 ∷ []

-- ---- the run: the port reports the end of every frame that is handed out

abbrev g0 : Sys A B
g0 = begin A B a b []

-- the first Reset is lost; a tick later it waits again, goes out and arrives; its acknowledgement comes back: the sender is Open
abbrev g1 : Sys A B
g1 = s_does g0 (hands_out buffer) 0 s_resets

abbrev g2 : Sys A B
g2 = s_does g1 reports 0 s_quiet

abbrev g3 : Sys A B
g3 = s_does g2 ticks 0 s_quiet

abbrev g4 : Sys A B
g4 = s_does g3 (hands_out buffer) 0 s_resets

abbrev g5 : Sys A B
g5 = s_does g4 reports 0 s_quiet

abbrev g6 : Sys A B
g6 = r_does g5 (arrives [] reset!) (new 0) false r_resets

abbrev g7 : Sys A B
g7 = r_does g6 (hands_out buffer) (old 0) g6.hist.data_in (r_acks 0)

abbrev g8 : Sys A B
g8 = r_does g7 reports (old 0) g7.hist.data_in r_quiet

abbrev g9 : Sys A B
g9 = s_does g8 (arrives [] ack0) 0 (s_hears 0)

starts : Moves W A B g0 g9
unfolding computes
starts =
    and_then (and_then (and_then (and_then (and_then (and_then (and_then (and_then (and_then no_move
    (s_own g0 (hands_out buffer) (went reset!) 0 s_resets tt refl refl tt))
    (s_own g1 reports (says (0 ∷ [])) 0 s_quiet tt refl refl tt))
    (s_own g2 ticks (says (0 ∷ [])) 0 s_quiet tt refl refl tt))
    (s_own g3 (hands_out buffer) (went reset!) 0 s_resets tt refl refl tt))
    (s_own g4 reports (says (0 ∷ [])) 0 s_quiet tt refl refl tt))
    (reset_in g5 reset! tt refl refl (Memᴰ.head refl) refl))
    (r_own g6 (hands_out buffer) (went ack0) (r_acks 0) tt refl refl tt))
    (r_own g7 reports (says (0 ∷ [])) r_quiet tt refl refl tt))
    (ack_in g8 ack0 (says (0 ∷ 2 ∷ 0 ∷ [])) 1 0 tt refl refl (Memᴰ.head refl) tt)

-- two payloads are accepted, the first of a plan that stops behind it, and handed out; the first is lost; the second arrives, and once more: it is held
abbrev g10 : Sys A B
g10 = s_does g9 (plans 0 plan!) 0 (s_accepts (p1 ∷ []))

abbrev g11 : Sys A B
g11 = s_does g10 (sends 0 p2) 0 (s_accepts (p2 ∷ []))

abbrev g12 : Sys A B
g12 = s_does g11 (hands_out buffer) 0 (s_sends 1 p1)

abbrev g13 : Sys A B
g13 = s_does g12 reports 0 s_quiet

abbrev g14 : Sys A B
g14 = s_does g13 (hands_out buffer) 0 (s_sends 2 p2)

abbrev g15 : Sys A B
g15 = s_does g14 reports 0 s_quiet

abbrev g16 : Sys A B
g16 = r_does g15 (arrives block data2) (new 2) true (r_takes 2 p2 [])

abbrev g17 : Sys A B
g17 = r_does g16 (arrives block data2) (new 2) true (r_takes 2 p2 [])

holds : Moves W A B g0 g17
unfolding computes
holds =
    and_then (and_then (and_then (and_then (and_then (and_then (and_then (and_then starts
    (s_own g9 (plans 0 plan!) (says (0 ∷ 1 ∷ 5 ∷ [])) 0 (s_accepts (p1 ∷ [])) tt refl refl tt))
    (s_own g10 (sends 0 p2) (says (0 ∷ [])) 0 (s_accepts (p2 ∷ [])) tt refl refl tt))
    (s_own g11 (hands_out buffer) (went data1) 0 (s_sends 1 p1) tt refl refl tt))
    (s_own g12 reports (says (0 ∷ [])) 0 s_quiet tt refl refl tt))
    (s_own g13 (hands_out buffer) (went data2) 0 (s_sends 2 p2) tt refl refl tt))
    (s_own g14 reports (says (0 ∷ [])) 0 s_quiet tt refl refl tt))
    (data_in_holds g15 data2 2 p2 [] tt refl refl (Memᴰ.head refl) tt))
    (data_in_holds g16 data2 2 p2 [] tt refl refl (Memᴰ.head refl) tt)

-- a tick later both wait again; the first goes out and arrives: both are delivered
abbrev g18 : Sys A B
g18 = s_does g17 ticks 0 s_quiet

abbrev g19 : Sys A B
g19 = s_does g18 (hands_out buffer) 0 (s_sends 1 p1)

abbrev g20 : Sys A B
g20 = s_does g19 reports 0 s_quiet

abbrev g21 : Sys A B
g21 = r_does g20 (arrives block data1) (new 1) true (r_takes 1 p1 (p1 ∷ p2 ∷ []))

delivers : Moves W A B g0 g21
unfolding computes
delivers =
    and_then (and_then (and_then (and_then holds
    (s_own g17 ticks (says (0 ∷ [])) 0 s_quiet tt refl refl tt))
    (s_own g18 (hands_out buffer) (went data1) 0 (s_sends 1 p1) tt refl refl tt))
    (s_own g19 reports (says (0 ∷ [])) 0 s_quiet tt refl refl tt))
    (data_in_holds g20 data1 1 p1 (p1 ∷ p2 ∷ []) tt refl refl (Memᴰ.head refl) tt)

-- three acknowledgements go out, and the last of them comes first: one payload is confirmed
abbrev g22 : Sys A B
g22 = r_does g21 (hands_out buffer) (old 0) g21.hist.data_in (r_acks 2)

abbrev g23 : Sys A B
g23 = r_does g22 reports (old 0) g22.hist.data_in r_quiet

abbrev g24 : Sys A B
g24 = r_does g23 (hands_out buffer) (old 0) g23.hist.data_in (r_acks 2)

abbrev g25 : Sys A B
g25 = r_does g24 reports (old 0) g24.hist.data_in r_quiet

abbrev g26 : Sys A B
g26 = r_does g25 (hands_out buffer) (old 0) g25.hist.data_in (r_acks 1)

abbrev g27 : Sys A B
g27 = r_does g26 reports (old 0) g26.hist.data_in r_quiet

abbrev g28 : Sys A B
g28 = s_does g27 (arrives [] ack1) 0 (s_hears 1)

confirms : Moves W A B g0 g28
unfolding computes
confirms =
    and_then (and_then (and_then (and_then (and_then (and_then (and_then delivers
    (r_own g21 (hands_out buffer) (went ack2) (r_acks 2) tt refl refl tt))
    (r_own g22 reports (says (0 ∷ [])) r_quiet tt refl refl tt))
    (r_own g23 (hands_out buffer) (went ack2) (r_acks 2) tt refl refl tt))
    (r_own g24 reports (says (0 ∷ [])) r_quiet tt refl refl tt))
    (r_own g25 (hands_out buffer) (went ack1) (r_acks 1) tt refl refl tt))
    (r_own g26 reports (says (0 ∷ [])) r_quiet tt refl refl tt))
    (ack_in g27 ack1 (says (0 ∷ 1 ∷ 0 ∷ 1 ∷ [])) 1 1 tt refl refl (Memᴰ.head refl) tt)

-- there is room for a third payload; the second, which still waits, goes out before it and arrives after it, when it is passed
abbrev g29 : Sys A B
g29 = s_does g28 (sends 0 p3) 1 (s_accepts (p3 ∷ []))

abbrev g30 : Sys A B
g30 = s_does g29 (hands_out buffer) 1 (s_sends 2 p2)

abbrev g31 : Sys A B
g31 = s_does g30 reports 1 s_quiet

abbrev g32 : Sys A B
g32 = s_does g31 (hands_out buffer) 1 (s_sends 3 p3)

abbrev g33 : Sys A B
g33 = s_does g32 reports 1 s_quiet

abbrev g34 : Sys A B
g34 = r_does g33 (arrives block data3) (new 3) true (r_takes 3 p3 (p3 ∷ []))

abbrev g35 : Sys A B
g35 = r_does g34 (arrives block data2) (new 2) true (r_takes 2 p2 [])

passes : Moves W A B g0 g35
unfolding computes
passes =
    and_then (and_then (and_then (and_then (and_then (and_then (and_then confirms
    (s_own g28 (sends 0 p3) (says (0 ∷ [])) 1 (s_accepts (p3 ∷ [])) tt refl refl tt))
    (s_own g29 (hands_out buffer) (went data2) 1 (s_sends 2 p2) tt refl refl tt))
    (s_own g30 reports (says (0 ∷ [])) 1 s_quiet tt refl refl tt))
    (s_own g31 (hands_out buffer) (went data3) 1 (s_sends 3 p3) tt refl refl tt))
    (s_own g32 reports (says (0 ∷ [])) 1 s_quiet tt refl refl tt))
    (data_in_holds g33 data3 3 p3 (p3 ∷ []) tt refl refl (Memᴰ.head refl) tt))
    (data_in_holds g34 data2 2 p2 [] tt refl refl (Memᴰ.tail (Memᴰ.head refl)) tt)

-- the third's acknowledgement comes before the second's, which was handed out long before it, and comes once more
abbrev g36 : Sys A B
g36 = r_does g35 (hands_out buffer) (old 0) g35.hist.data_in (r_acks 3)

abbrev g37 : Sys A B
g37 = r_does g36 reports (old 0) g36.hist.data_in r_quiet

abbrev g38 : Sys A B
g38 = s_does g37 (arrives [] ack3) 0 (s_hears 3)

abbrev g39 : Sys A B
g39 = s_does g38 (arrives [] ack2) 0 (s_hears 2)

abbrev g40 : Sys A B
g40 = s_does g39 (arrives [] ack2) 0 (s_hears 2)

runs : Moves W A B g0 g40
unfolding computes
runs =
    and_then (and_then (and_then (and_then (and_then passes
    (r_own g35 (hands_out buffer) (went ack3) (r_acks 3) tt refl refl tt))
    (r_own g36 reports (says (0 ∷ [])) r_quiet tt refl refl tt))
    (ack_in g37 ack3 (says (0 ∷ 1 ∷ 0 ∷ 0 ∷ [])) 2 3 tt refl refl (Memᴰ.head refl) tt))
    (ack_in g38 ack2 (says (0 ∷ 1 ∷ 0 ∷ 2 ∷ [])) 2 2 tt refl refl (Memᴰ.tail (Memᴰ.tail (Memᴰ.head refl))) tt))
    (ack_in g39 ack2 (says (0 ∷ 0 ∷ 0 ∷ [])) 4 2 tt refl refl (Memᴰ.tail (Memᴰ.tail (Memᴰ.head refl))) tt)

-- ---- what it shows

-- state and counts, worked out at once
abbrev shown : Machine → SState × ℕ × ℕ
shown n = (A.state n, A.accepted n, A.confirmed n)

at_end : shown g40.sender ≡ (s_open, 3, 3)
unfolding computes
at_end = refl

-- the premises of the promise, and what became of three payloads
pub record Worked (end : Sys A B) : Type 0 where
  pub paired : Paired sends_table 0 receives_table 0
  pub window : W ≡ 2
  pub reached : Reach A.Node A.Call A.SetUp A.Did A.Lends a
  pub reached' : Reach B.Node B.Call B.SetUp B.Did B.Lends b
  pub enabled : A.state a ≡ s_enabled false
  pub moves : Moves W A B (begin A B a b []) end
  pub opened : A.state end.sender ≡ s_open
  pub accepted : end.hist.accepted ≡ p1 ∷ p2 ∷ p3 ∷ []
  pub delivered : end.hist.delivered ≡ p1 ∷ p2 ∷ p3 ∷ []
  pub counted : A.accepted end.sender ≡ 3
  pub confirmed : A.confirmed end.sender ≡ 3

window_2 : W ≡ 2
unfolding computes
window_2 = refl

worked : Worked g40
worked =
    record {
      paired = paired;
      window = window_2;
      reached = reached;
      reached' = reached';
      enabled = enabled;
      moves = runs;
      opened = ap (λ (q : SState × ℕ × ℕ). q.0) at_end;
      accepted = refl;
      delivered = refl;
      counted = ap (λ (q : SState × ℕ × ℕ). q.1) at_end;
      confirmed = ap (λ (q : SState × ℕ × ℕ). q.2) at_end;
    }

pub worked_machines : (end : Sys A B) × Worked end
worked_machines = (g40, worked)

-- the promise speaks of this run
pub applies : Promise → AsPromised (A.accepted g40.sender) (A.confirmed g40.sender) g40.hist
unfolding Promise Demand3
applies promise =
    promise sends_table 0 receives_table 0 paired a b [] reached reached' enabled g40 runs (rw worked.opened tt)
