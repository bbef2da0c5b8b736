-- An arrival: which answer, and what all that was lent holds afterwards. Cited by the call. Assumes nothing.
use Rattle.std.specs.Prelude.{ℕ, ◌+◌, ◌*◌, Bool, not, ◌&&◌, List, [], ◌∷◌, length, get_or, eqb, leb, ltb, Result, Ok}
use Rattle.std.specs.Prelude.{Err}
use Rattle.units.specs.Refusals.{verdict, Verdict}
use Rattle.units.specs.declared.refusals.Refusal.{Refusal}
use Rattle.units.specs.declared.refusals.Refusal.TheVariants as refusal
use Rattle.memory.specs.Layout.{ack_places}
use Rattle.waiting.specs.Acks.{waiting_of}
use Rattle.frame.specs.Layout.{destination_byte, protocol_byte, payload_of}
use Rattle.frame.specs.Types.{carries, answered}
use Rattle.frame.specs.Reading.{sound_of, header_of}
use Rattle.frame.specs.declared.Header.{Header}
use Rattle.frame.specs.declared.FrameType.{FrameType}
use Rattle.frame.specs.declared.FrameType.TheVariants as type
use Rattle.end_points.specs.Ends.{end_of}
use Rattle.end_points.specs.Heads.{count_in, own_in, protocol_in, need_in}
use Rattle.end_points.specs.Lent.{Lent}
use Rattle.end_points.specs.States.{is_closed, is_open}
use Rattle.end_points.specs.declared.EndPoint.{EndPoint}
use Rattle.end_points.specs.declared.answers.Was.{Was}
use Rattle.arrive_ack.specs.Acking.{ack_answer, ack_after}
use Rattle.arrive_data.specs.Receiving.{reset_answer, reset_after, data_answer, data_after, urgent_answer, urgent_after}
use Rattle.arrive_lookup.specs.Lookup.{entry_for}
use Rattle.blocks.specs.Blocks.{empty, offset_bytes}
use Rattle.end_points.specs.declared.answers.Arrival.{Arrival}

-- destination and protocol ID are ours [F2, F3, R11]
abbrev pub ours : List ℕ → List ℕ → Bool
ours ws f = eqb (get_or f destination_byte 0) (own_in ws).0 && eqb (get_or f protocol_byte 0) (protocol_in ws)

-- the room that Data and Urgent need [B2]
abbrev pub block_room : EndPoint → ℕ
block_room e = empty + e.run.window.size * (offset_bytes + e.entry.largest)

-- ---- 13, 5, 14, 6

-- of a frame of type t with a payload of n bytes, for entry i of the count, which is e; with a store and a block of so
-- many bytes [E14, R5, R6, R13, R14]
abbrev pub entry_tests : List ℕ → ℕ → EndPoint → FrameType → ℕ → ℕ → ℕ → List (Bool × Refusal)
entry_tests ws i e t n store block =
    (leb (count_in ws) i, refusal.NoEndPoint)
    ∷ (is_closed e.state, refusal.NoEndPoint)
    ∷ (carries t && not (is_open e.state), refusal.NoEndPoint)
    ∷ (carries t && ltb e.entry.largest n, refusal.PayloadLength)
    ∷ (answered t && leb ack_places (waiting_of ws), refusal.AcksFull)
    ∷ (ltb store (need_in ws), refusal.TooShort)
    ∷ (carries t && ltb block (block_room e), refusal.TooShort)
    ∷ []

-- the entry that a frame is for, and the verdict there [F16, R13]
abbrev pub entry_of : Lent → Header → ℕ
entry_of x h = entry_for x.node h.kind h.source.0 h.channel.0

abbrev pub entry_verdict : Lent → ℕ → Header → Verdict
entry_verdict x i h = verdict (entry_tests x.node i (end_of x.node i) h.kind h.length (length x.store)
    (length x.out))

-- ---- what it was

-- taken in by entry i, which is e: a frame of type t, number s, payload p [F16]
unfoldable pub taken_in_answer : Lent → ℕ → EndPoint → FrameType → ℕ → List ℕ → Was
taken_in_answer x i e type.Data s p = data_answer x i e s p
taken_in_answer x i e type.Acknowledge s p = ack_answer e e.state s
taken_in_answer x i e type.Reset s p = reset_answer e
taken_in_answer x i e type.Urgent s p = urgent_answer x.out p

abbrev pub answer_as : Verdict → Result Arrival Refusal → Result Arrival Refusal
answer_as (Ok _) a = a
answer_as (Err w) a = Err w

-- 13, 5, 14, 6 at entry i; else which entry that is, and what the frame was there [R37, O8]
unfoldable pub entry_answer : Lent → ℕ → Header → List ℕ → Result Arrival Refusal
entry_answer x i h p =
    let was = taken_in_answer x i (end_of x.node i) h.kind h.seq.0 p in
    answer_as (entry_verdict x i h) (Ok (record { entry = i; was = was }))

-- refused for the header's fault, or judged at the entry that the frame is for [R15, R16, R17, R18, R37]
unfoldable pub read_answer : Lent → Result Header Refusal → List ℕ → Result Arrival Refusal
read_answer x (Err w) p = Err w
read_answer x (Ok h) p = entry_answer x (entry_of x h) h p

-- 10, 11, and then the rest [R10, R11]
abbrev pub frame_tests : List ℕ → List ℕ → List (Bool × Refusal)
frame_tests ws f = (not (sound_of f), refusal.BadFrame) ∷ (not (ours ws f), refusal.NotOurs) ∷ []

-- the answer to a frame that arrives [R37]
unfoldable pub arrival_answer : Lent → List ℕ → Result Arrival Refusal
arrival_answer x f = answer_as (verdict (frame_tests x.node f)) (read_answer x (header_of f) (payload_of f))

-- ---- what it leaves

unfoldable pub taken_in_after : Lent → ℕ → EndPoint → FrameType → ℕ → List ℕ → Lent
taken_in_after x i e type.Data s p = data_after x i e s p
taken_in_after x i e type.Acknowledge s p = ack_after x i e e.state s
taken_in_after x i e type.Reset s p = reset_after x i e
taken_in_after x i e type.Urgent s p = urgent_after x p

-- a refused one leaves all as it was [R44]
abbrev pub after_as : Verdict → Lent → Lent → Lent
after_as (Ok _) x y = y
after_as (Err w) x y = x

unfoldable pub entry_after : Lent → ℕ → Header → List ℕ → Lent
entry_after x i h p = after_as (entry_verdict x i h) x (taken_in_after x i (end_of x.node i) h.kind h.seq.0 p)

unfoldable pub read_after : Lent → Result Header Refusal → List ℕ → Lent
read_after x (Err w) p = x
read_after x (Ok h) p = entry_after x (entry_of x h) h p

-- what a frame that arrives leaves [R44]
unfoldable pub arrival_after : Lent → List ℕ → Lent
arrival_after x f = after_as (verdict (frame_tests x.node f)) x (read_after x (header_of f) (payload_of f))
