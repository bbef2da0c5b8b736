-- Handing out, one frame a call: which answer, and what all that was lent holds afterwards. Cited by the call.
-- Assumes nothing.
use Rattle.std.specs.Prelude.{ℕ, ◌+◌, ◌%◌, true, not, List, [], length, take, drop, ◌==◌, nat_le, nat_lt, slice_set}
use Rattle.std.specs.Prelude.{Result, Ok, Err}
use Rattle.std.proofs.lemmas.List.Edits.{sets}
use Rattle.units.specs.Refusals.{pick}
use Rattle.units.specs.declared.refusals.Refusal.TheVariants as refusal
use Rattle.memory.specs.Layout.{entry_at, handed_word, resets, urgents, resends, datas, queues, timer_at}
use Rattle.memory.specs.Layout.{reset_entry, urgent_entry, id_cell, id_entry, id_slot}
use Rattle.timing.specs.Timing.{standing}
use Rattle.waiting.specs.Queues.{next_of, unlinked}
use Rattle.waiting.specs.Acks.{waiting_of, oldest_of, ack_of, popped}
use Rattle.waiting.specs.Port.{under_in, begun}
use Rattle.waiting.specs.declared.acks.Ack.{Ack}
use Rattle.table.specs.declared.Entry.{Entry}
use Rattle.frame.specs.Layout.{frame_bytes}
use Rattle.frame.specs.Types.{type_number}
use Rattle.frame.specs.declared.FrameType.{FrameType}
use Rattle.frame.specs.declared.FrameType.TheVariants as type
use Rattle.frame.specs.declared.Fields.{Fields}
use Rattle.end_points.specs.Ends.{end_of, saved}
use Rattle.end_points.specs.Heads.{own_in, protocol_in, need_in}
use Rattle.end_points.specs.Runs.{urgent_gone}
use Rattle.end_points.specs.Lent.{Lent}
use Rattle.end_points.specs.declared.EndPoint.{EndPoint}
use Rattle.end_points.specs.declared.State.TheVariants.{Enabled}
use Rattle.end_points.specs.declared.Run.{Run}
use Rattle.slots.specs.Slots.{spot, number_in, length_in}
use Rattle.call_hand_out.specs.declared.Next.{Next}
use Rattle.call_hand_out.specs.declared.Next.TheVariants as next
use Rattle.units.specs.declared.refusals.Refusal.{Refusal}

-- what goes out next: the sorts in their order; a queue that is followed by a queue's own number is empty
-- [H1, H2, H3]
unfoldable pub next_out : List ℕ → List ℕ → Next
next_out ws b =
    pick (nat_lt 0 (waiting_of ws)) (next.Ack (ack_of (oldest_of ws)))
    (pick (nat_le queues (next_of b resets)) (next.Reset (next_of b resets))
    (pick (nat_le queues (next_of b urgents)) (next.Urgent (next_of b urgents))
    (pick (nat_le queues (next_of b resends)) (next.Resend (next_of b resends))
    (pick (nat_le queues (next_of b datas)) (next.Data (next_of b datas))
    next.Nothing))))

-- the fields of a frame of type t, with number s, to the end that an entry names [F5, H6]
unfoldable pub fields_to : List ℕ → Entry → FrameType → ℕ → Fields
fields_to ws e t s =
    record {
      destination = e.remote;
      protocol = protocol_in ws;
      source = own_in ws;
      kind = type_number t;
      user = 0;
      channel = e.channel;
      seq = record { 0 = s };
    }

-- of a frame from entry i
abbrev pub fields_from : List ℕ → ℕ → FrameType → ℕ → Fields
fields_from ws i t s = fields_to ws (end_of ws i).entry t s

-- the payload in a slot of an end point's, and its Urgent's
abbrev pub slot_payload : List ℕ → List ℕ → EndPoint → ℕ → List ℕ
slot_payload b st e n = take (length_in b (id_cell n)) (drop (spot e.place e.entry.largest (id_slot n)) st)

abbrev pub urgent_payload : List ℕ → EndPoint → List ℕ
urgent_payload st e = take e.run.urgent (drop (spot e.place e.entry.largest e.run.window.size) st)

-- ---- the frames: of node, book and store

-- an Acknowledge [F13]
unfoldable pub ack_frame : List ℕ → Ack → List ℕ
ack_frame ws a = frame_bytes (fields_from ws a.entry type.Acknowledge a.seq.0) []

-- a Reset, whose number is 0 [F13, F14]
unfoldable pub reset_frame : List ℕ → ℕ → List ℕ
reset_frame ws n = frame_bytes (fields_from ws (reset_entry n) type.Reset 0) []

-- an Urgent, whose number is 0 [F15]
unfoldable pub urgent_frame : List ℕ → List ℕ → ℕ → List ℕ
urgent_frame ws st n =
    frame_bytes (fields_from ws (urgent_entry n) type.Urgent 0) (urgent_payload st (end_of ws (urgent_entry n)))

-- the data in a slot: first time or again [D5]
unfoldable pub data_frame : List ℕ → List ℕ → List ℕ → ℕ → List ℕ
data_frame ws b st n =
    frame_bytes (fields_from ws (id_entry n) type.Data (number_in (end_of ws (id_entry n)).run.window (id_slot n)))
    (slot_payload b st (end_of ws (id_entry n)) n)

-- the frame that goes out [H1]
unfoldable pub frame_out : Lent → Next → List ℕ
frame_out x next.Nothing = []
frame_out x (next.Ack a) = ack_frame x.node a
frame_out x (next.Reset n) = reset_frame x.node n
frame_out x (next.Urgent n) = urgent_frame x.node x.store n
frame_out x (next.Resend n) = data_frame x.node x.book x.store n
frame_out x (next.Data n) = data_frame x.node x.book x.store n

-- ---- the answer: 19, then 6 for the store, then with something waiting 6 for the frame buffer

-- a frame and its buffer [H4, H5, R6]
abbrev pub fitted : List ℕ → List ℕ → Result ℕ Refusal
fitted out f = pick (nat_lt (length out) (length f)) (Err refusal.TooShort) (Ok (length f))

-- 19 while a frame is under way, then 6 for the store, then the frame and its buffer [H8, R19, R38, R42]
unfoldable pub hand_out_answer : Lent → Result ℕ Refusal
hand_out_answer x =
    pick (not (under_in x.book == 0)) (Err refusal.UnderWay)
    (pick (nat_lt (length x.store) (need_in x.node)) (Err refusal.TooShort)
    (fitted x.out (frame_out x (next_out x.node x.book))))

-- ---- what it leaves

-- of one thing that was lent: as it was where the call is refused, else anew [R44]
abbrev pub once : Result ℕ Refusal → List ℕ → List ℕ → List ℕ
once (Err w) old new = old
once (Ok n) old new = new

-- a run with one number more handed out [A2]
unfoldable pub handed_run : Run → Run
handed_run r =
    record {
      window = r.window;
      taken = r.taken;
      handed = (r.handed + 1) % 256;
      accepted = r.accepted;
      confirmed = r.confirmed;
      urgent = r.urgent;
    }

-- a Reset went out; its timer stands while it is under way [E2, D2]
abbrev pub reset_node : List ℕ → ℕ → EndPoint → List ℕ
reset_node ws i e = saved ws i (Enabled standing true) e.run

-- its Urgent waits no more [H1]
abbrev pub urgent_node : List ℕ → ℕ → EndPoint → List ℕ
urgent_node ws i e = saved ws i e.state (urgent_gone e.run)

-- one number more is handed out, and no other word of the end point alters: the run that is loaded then is `handed_run`
-- of the one before [A2]
abbrev pub handed_node : List ℕ → ℕ → Run → List ℕ
handed_node ws i r = slice_set ws (entry_at i + handed_word) ((r.handed + 1) % 256)

-- a slot's timer stands while its frame is under way [D2]
abbrev pub stood : List ℕ → ℕ → List ℕ
stood b n = slice_set (unlinked b n) (timer_at (id_cell n)) standing

-- a frame of entry i with number s goes under way [H8]
abbrev pub sent : List ℕ → FrameType → ℕ → ℕ → List ℕ
sent b t i s = begun b (type_number t) i s

-- so does the data in a slot, first time or again [D2, H8]
unfoldable pub data_sent : List ℕ → List ℕ → ℕ → List ℕ
data_sent ws b n =
    sent (stood b n) type.Data (id_entry n) (number_in (end_of ws (id_entry n)).run.window (id_slot n))

-- what each sort leaves of node and book [D2, H1, H8]
unfoldable pub out_node : List ℕ → Next → List ℕ
out_node ws next.Nothing = ws
out_node ws (next.Ack a) = popped ws
out_node ws (next.Reset n) = reset_node ws (reset_entry n) (end_of ws (reset_entry n))
out_node ws (next.Urgent n) = urgent_node ws (urgent_entry n) (end_of ws (urgent_entry n))
out_node ws (next.Resend n) = ws
out_node ws (next.Data n) = handed_node ws (id_entry n) (end_of ws (id_entry n)).run

unfoldable pub out_book : List ℕ → List ℕ → Next → List ℕ
out_book ws b next.Nothing = b
out_book ws b (next.Ack a) = sent b type.Acknowledge a.entry a.seq.0
out_book ws b (next.Reset n) = sent (unlinked b n) type.Reset (reset_entry n) 0
out_book ws b (next.Urgent n) = sent (unlinked b n) type.Urgent (urgent_entry n) 0
out_book ws b (next.Resend n) = data_sent ws b n
out_book ws b (next.Data n) = data_sent ws b n

-- the frame stands at the buffer's start, and the bytes after it stay [H1, H4]
abbrev pub handed_out : Lent → Next → Lent
handed_out x n =
    record {
      node = out_node x.node n;
      book = out_book x.node x.book n;
      store = x.store;
      out = sets x.out 0 (frame_out x n);
    }

-- refused, all is as it was [R44]
unfoldable pub hand_out_after : Lent → Result ℕ Refusal → Lent
hand_out_after x (Err w) = x
hand_out_after x (Ok n) = handed_out x (next_out x.node x.book)
