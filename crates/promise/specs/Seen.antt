-- What a bystander sees of a call at the sender's or the receiver's node: nothing is read but the call, the numbers
-- that it answered, and the bytes of frames and blocks. Cited by the promise. Assumes nothing.
use Rattle.std.specs.Prelude.{ℕ, ◌/◌, ◌%◌, ◌^◌, Bool, false, ◌&&◌, List, [], ◌∷◌, take, get_or, eqb, Result, Ok, Err}
use Rattle.units.specs.Refusals.{pick}
use Rattle.table.specs.declared.Entry.{Entry}
use Rattle.frame.specs.Layout.{payload_of}
use Rattle.frame.specs.Reading.{read_of}
use Rattle.frame.specs.declared.Header.{Header}
use Rattle.frame.specs.declared.FrameType.{FrameType}
use Rattle.frame.specs.declared.FrameType.TheVariants as type
use Rattle.end_points.specs.declared.State.{State}
use Rattle.end_points.specs.declared.State.TheVariants as state
use Rattle.blocks.specs.Reading.{read_block}
use Rattle.machine.specs.Calls.{Call, opens, closes, counts, sends, urges, plans, arrives, hands_out, reports, ticks}
use Rattle.machine.specs.Calls.{Answer}
use Rattle.promise.specs.History.{Pay, SState, s_closed, s_enabled, s_open, s_failing}
use Rattle.promise.specs.History.{SSeen, s_quiet, s_accepts, s_resets, s_sends, s_hears, s_ends}
use Rattle.promise.specs.History.{RSeen, r_quiet, r_acks, r_resets, r_takes, r_closes}
use Rattle.units.specs.declared.refusals.Refusal.{Refusal}

-- ---- a call and what came back

pub record Event : Type 0 where
  pub call : Call
  pub answer : Answer

-- the first number is 0 where it was not refused [P6]
abbrev pub is_done : List ℕ → Bool
is_done [] = false
is_done (n ∷ ns) = eqb n 0

-- a frame names an entry by the other end's address and the channel [F16, P6]
abbrev pub names : Entry → ℕ → ℕ → Bool
names e address channel = eqb e.remote.0 address && eqb e.channel.0 channel

-- the frame that was handed out: as many bytes of the buffer as was answered
abbrev pub frame_in : Answer → List ℕ
frame_in a = take (get_or a.numbers 1 0) a.out

-- the payloads of a plan that were accepted: as many of its first as was answered [E18, O10]
abbrev pub accepted_in : List ℕ → Answer → List Pay
accepted_in block a = take (get_or a.numbers 1 0) (read_block block)

-- bit i of a tick's answer
abbrev pub bit_of : ℕ → ℕ → Bool
bit_of n i = eqb (n / 2 ^ i % 2) 1

-- ---- seen at the sender's node, for entry e, which is its i-th

abbrev pub s_came : Entry → Header → FrameType → SSeen
s_came e h type.Data = s_quiet
s_came e h type.Acknowledge = pick (names e h.source.0 h.channel.0) (s_hears h.seq.0) s_quiet
s_came e h type.Reset = s_quiet
s_came e h type.Urgent = s_quiet

abbrev pub s_went : Entry → Header → List ℕ → FrameType → SSeen
s_went e h p type.Data = pick (names e h.destination.0 h.channel.0) (s_sends h.seq.0 p) s_quiet
s_went e h p type.Acknowledge = s_quiet
s_went e h p type.Reset = pick (names e h.destination.0 h.channel.0) s_resets s_quiet
s_went e h p type.Urgent = s_quiet

abbrev pub s_in : Entry → Result Header Refusal → SSeen
s_in e (Ok h) = s_came e h h.kind
s_in e (Err w) = s_quiet

abbrev pub s_out : Entry → Result Header Refusal → List ℕ → SSeen
s_out e (Ok h) p = s_went e h p h.kind
s_out e (Err w) p = s_quiet

-- what a call was for the sender's entry e, its i-th; a refused one is nothing to it [P1, P2, P6]
unfoldable pub s_seen : Entry → ℕ → Call → Answer → SSeen
s_seen e i (opens j) a = pick (is_done a.numbers && eqb j i) s_ends s_quiet
s_seen e i (closes j) a = pick (is_done a.numbers && eqb j i) s_ends s_quiet
s_seen e i (counts j) a = s_quiet
s_seen e i (sends j p) a = pick (is_done a.numbers && eqb j i) (s_accepts (p ∷ [])) s_quiet
s_seen e i (urges j p) a = s_quiet
s_seen e i (plans j block) a = pick (is_done a.numbers && eqb j i) (s_accepts (accepted_in block a)) s_quiet
s_seen e i (arrives block f) a = pick (is_done a.numbers) (s_in e (read_of f)) s_quiet
s_seen e i (hands_out buffer) a =
    pick (is_done a.numbers) (s_out e (read_of (frame_in a)) (payload_of (frame_in a))) s_quiet
s_seen e i reports a = s_quiet
s_seen e i ticks a = pick (bit_of (get_or a.numbers 0 0) i) s_ends s_quiet

-- ---- seen at the receiver's node

abbrev pub r_came : Entry → Header → List ℕ → List Pay → FrameType → RSeen
r_came e h p given type.Data = pick (names e h.source.0 h.channel.0) (r_takes h.seq.0 p given) r_quiet
r_came e h p given type.Acknowledge = r_quiet
r_came e h p given type.Reset = pick (names e h.source.0 h.channel.0) r_resets r_quiet
r_came e h p given type.Urgent = r_quiet

abbrev pub r_went : Entry → Header → FrameType → RSeen
r_went e h type.Data = r_quiet
r_went e h type.Acknowledge = pick (names e h.destination.0 h.channel.0) (r_acks h.seq.0) r_quiet
r_went e h type.Reset = r_quiet
r_went e h type.Urgent = r_quiet

abbrev pub r_in : Entry → Result Header Refusal → List ℕ → List Pay → RSeen
r_in e (Ok h) p given = r_came e h p given h.kind
r_in e (Err w) p given = r_quiet

abbrev pub r_out : Entry → Result Header Refusal → RSeen
r_out e (Ok h) = r_went e h h.kind
r_out e (Err w) = r_quiet

-- what a call was for the receiver's entry e, its j-th [P2, P3, P6]
unfoldable pub r_seen : Entry → ℕ → Call → Answer → RSeen
r_seen e j (opens i) a = r_quiet
r_seen e j (closes i) a = pick (is_done a.numbers && eqb i j) r_closes r_quiet
r_seen e j (counts i) a = r_quiet
r_seen e j (sends i p) a = r_quiet
r_seen e j (urges i p) a = r_quiet
r_seen e j (plans i block) a = r_quiet
r_seen e j (arrives block f) a =
    pick (is_done a.numbers) (r_in e (read_of f) (payload_of f) (read_block a.out)) r_quiet
r_seen e j (hands_out buffer) a = pick (is_done a.numbers) (r_out e (read_of (frame_in a))) r_quiet
r_seen e j reports a = r_quiet
r_seen e j ticks a = r_quiet

-- ---- a sender's state, as far as the promise speaks of it

-- an end point's state, as the promise has it [E1, E2]
abbrev pub s_state_of : State → SState
s_state_of state.Closed = s_closed
s_state_of (state.Enabled t sent) = s_enabled sent
s_state_of state.Open = s_open
s_state_of (state.Failing n) = s_failing
