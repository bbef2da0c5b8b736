-- The promise is not empty: a run with W = 2 in which frames are lost, repeated and overtake each other meets every premise, and both
-- payloads are delivered in order and confirmed. And a Reset after Data, were it taken, would break the promise. Assumes nothing.
use Prim.Native.Nat.{ℕ, ◌≤◌}
use mathlib.Core.Path.{◌≡◌, refl}
use mathlib.Core.Bool.{true, false}
use mathlib.Core.List.{[], ◌∷◌, Memᴰ}
use native.Mathlib.Omega.{arith}
use Rattle.promise.specs.History.{s_enabled, Live, reset, old, new, blank}
use Rattle.promise.specs.Promise.{AsPromised}
use Rattle.promise.proofs.Windows.{none, run}
use Rattle.promise.proofs.Channel.{s_state, s_hand, s_data, s_ack, r_open, Up, outs, r_data, Channel, with_sender, g_send, g_hand, g_answer, g_reset, g_data, send, reset_out, data_out, ack_out, reset_in, data_in_holds, ack_in, Steps, done, then, Start}

-- ---- the run

-- the sender is Enabled with counts of an earlier run, the receiver Open, and an acknowledgement of an earlier run waits
abbrev g0 : Channel
g0 = record {
  sender = record {
    state = s_enabled false;
    start = 1;
    taken = 0;
    handed = none;
    acknowledged = none;
    payloads = λ i. [];
    accepted = 9;
    confirmed = 9;
  };
  receiver = record { state = r_open; start = 77; held = none; payloads = λ i. []; waiting = 76 ∷ [] };
  hist = blank [] (old 76 ∷ []);
}

-- a Reset, its acknowledgement
abbrev g1 : Channel
g1 = g_hand (s_state (s_enabled true) g0.sender) reset g0

abbrev g2 : Channel
g2 = g_reset (new 0) g1

abbrev g3 : Channel
g3 = g_answer 0 [] (new 0) [] g2

abbrev g4 : Channel
g4 = with_sender (s_ack 2 g3.sender 0) g3

-- two payloads, both handed out
abbrev g5 : Channel
g5 = g_send g4 (7 ∷ [])

abbrev g6 : Channel
g6 = g_send g5 (8 ∷ [])

abbrev out : ℕ → Channel → Channel
out i g = g_hand (s_hand i g.sender) (s_data g.sender i) g

abbrev g7 : Channel
g7 = out 0 g6

abbrev g8 : Channel
g8 = out 1 g7

-- the second arrives first, and once more; the first was lost, is handed out again and arrives
abbrev g9 : Channel
g9 = g_data (new 2) true 2 (8 ∷ []) (r_data 2 g8.receiver 2 (8 ∷ [])) g8

abbrev g10 : Channel
g10 = g_data (new 2) true 2 (8 ∷ []) (r_data 2 g9.receiver 2 (8 ∷ [])) g9

abbrev g11 : Channel
g11 = out 0 g10

abbrev g12 : Channel
g12 = g_data (new 1) true 1 (7 ∷ []) (r_data 2 g11.receiver 1 (7 ∷ [])) g11

-- three acknowledgements go out, of which one of the second payload's is lost
abbrev g13 : Channel
g13 = g_answer 2 (2 ∷ 1 ∷ []) (new 2) (new 2 ∷ new 1 ∷ []) g12

abbrev g14 : Channel
g14 = g_answer 2 (1 ∷ []) (new 2) (new 1 ∷ []) g13

abbrev g15 : Channel
g15 = g_answer 1 [] (new 1) [] g14

abbrev g16 : Channel
g16 = with_sender (s_ack 2 g15.sender 2) g15

abbrev g17 : Channel
g17 = with_sender (s_ack 2 g16.sender 1) g16

-- ---- what it shows

begins : Start g0
begins = record { enabled = refl; none_accepted = refl; none_out = refl; none_back = refl; all_old = refl; no_data = refl }

runs : Steps 2 g0 g17
unfolding run outs
runs =
    then (then (then (then (then (then (then (then (then (then (then (then (then (then (then (then (then done
    (reset_out g0 false refl))
    (reset_in g1 (Memᴰ.head refl) refl tt))
    (ack_out g2 0 [] (new 0) [] refl refl))
    (ack_in g3 0 0 (Memᴰ.head refl) (omega arith)))
    (send g4 (7 ∷ []) refl (omega arith)))
    (send g5 (8 ∷ []) refl (omega arith)))
    (data_out g6 0 refl (omega arith)))
    (data_out g7 1 refl (omega arith)))
    (data_in_holds g8 2 2 (8 ∷ []) (Memᴰ.head refl) (omega arith) refl))
    (data_in_holds g9 2 2 (8 ∷ []) (Memᴰ.head refl) (omega arith) refl))
    (data_out g10 0 refl (omega arith)))
    (data_in_holds g11 1 1 (7 ∷ []) (Memᴰ.head refl) (omega arith) refl))
    (ack_out g12 2 (2 ∷ 1 ∷ []) (new 2) (new 2 ∷ new 1 ∷ []) refl refl))
    (ack_out g13 2 (1 ∷ []) (new 2) (new 1 ∷ []) refl refl))
    (ack_out g14 1 [] (new 1) [] refl refl))
    (ack_in g15 2 2 (Memᴰ.tail (Memᴰ.head refl)) (omega arith)))
    (ack_in g16 1 1 (Memᴰ.head refl) (omega arith))

delivers : g17.hist.delivered ≡ (7 ∷ []) ∷ (8 ∷ []) ∷ []
unfolding run outs
delivers = refl

confirms : (g16.sender.confirmed ≡ 0) × (g17.sender.confirmed ≡ 2)
unfolding run
confirms = (refl, refl)

-- the premises are met by a run that delivers and confirms
pub worked : Start g0 × Steps 2 g0 g17 × (g17.hist.delivered ≡ (7 ∷ []) ∷ (8 ∷ []) ∷ []) × (g17.sender.confirmed ≡ 2)
worked = (begins, runs, delivers, confirms.1)

-- the premise that no Reset comes after Data is needed: it is the only one missing here
pub reset_after_data : Memᴰ reset g17.hist.sent × Up g17.receiver.state × Live g17.sender.state
    × (AsPromised g17.sender.accepted g17.sender.confirmed (g_reset (new 0) g17).hist → ⊥)
unfolding run
reset_after_data = (
  Memᴰ.tail (Memᴰ.tail (Memᴰ.tail (Memᴰ.head refl))),
  tt,
  tt,
  λ k. let h : 2 ≤ 0 = k.confirmed_le in omega arith,
)
