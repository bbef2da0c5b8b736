-- THE PAPER AS A MACHINE: a node in lists and records alone; for every call, what it answers and what it leaves. This
-- is what a reader must believe of demand 2. That the nodes of crates/node are this machine is proved in
-- crates/refinement. Frames, blocks, tables and states are those of their own crates. In square brackets: the rules
-- of docs/RULES.md that a definition states. Assumes nothing.
use Rattle.std.specs.Prelude.{ℕ, zero, suc, ◌+◌, ◌-◌, ◌*◌, ◌^◌, ◌≡◌, Bool, true, false, not, ◌&&◌, ◌||◌, List, [], ◌∷◌}
use Rattle.std.specs.Prelude.{◌++◌, length, drop, get_or, set, replicate, eqb, leb, ltb, Result, Ok, Err}
use Rattle.std.proofs.Math.Option.{Option, none, some}
use Rattle.std.proofs.Math.ListN.{get_elem?}
use Rattle.std.proofs.lemmas.List.Edits.{sets}
use Rattle.units.specs.Limits.{most_accepted}
use Rattle.units.specs.Refusals.{pick, verdict, Verdict}
use Rattle.units.specs.declared.Address.{Address}
use Rattle.units.specs.declared.refusals.Refusal.{Refusal}
use Rattle.units.specs.declared.refusals.Refusal.TheVariants as refusal
use Rattle.window.specs.Numbers.{distance_of, byte_of}
use Rattle.table.specs.Layout.{count_of, own_of, protocol_of, entry_of}
use Rattle.table.specs.Areas.{store_of}
use Rattle.table.specs.Rules.{good_table}
use Rattle.table.specs.declared.Entry.{Entry}
use Rattle.frame.specs.Layout.{destination_byte, protocol_byte, payload_of, frame_bytes}
use Rattle.frame.specs.Types.{type_number, carries, answered, for_sender}
use Rattle.frame.specs.Reading.{sound_of, header_of}
use Rattle.frame.specs.declared.Header.{Header}
use Rattle.frame.specs.declared.FrameType.{FrameType}
use Rattle.frame.specs.declared.FrameType.TheVariants as type
use Rattle.end_points.specs.States.{is_sends, is_closed, is_open, is_over}
use Rattle.end_points.specs.Answers.{state_number, answer_of, counted_of, planned_of, arrived_of, handed_of}
use Rattle.end_points.specs.declared.State.{State}
use Rattle.end_points.specs.declared.State.TheVariants.{Closed, Enabled, Open, Failing}
use Rattle.end_points.specs.declared.answers.Was.{Was}
use Rattle.end_points.specs.declared.answers.Was.TheVariants as was
use Rattle.arrive_lookup.specs.Fitting.{fits}
use Rattle.blocks.specs.Blocks.{empty, offset_bytes, block_of}
use Rattle.blocks.specs.Reading.{read_block, is_plan}
use Rattle.machine.specs.Calls.{Call, opens, closes, counts, sends, urges, plans, arrives, hands_out, reports}
use Rattle.machine.specs.Calls.{ticks}
use Rattle.machine.specs.Calls.{Answer, Bytes}

-- ---- what a node is made of

-- a number that a sender has taken: its payload, its retries, whether it was handed out, whether it was acknowledged,
-- and its timer, 0 while it does not run [W2, A2, D3, D5]
pub record Number : Type 0 where
  pub payload : List ℕ
  pub retries : ℕ
  pub handed : Bool
  pub acked : Bool
  pub timer : ℕ

-- an end point. From the window's start on: the numbers that a sender has taken, and a receiver's W places with what is
-- held in them. [E1, E15, E17, W3, W4]
pub record End : Type 0 where
  pub entry : Entry
  pub state : State
  pub accepted : ℕ
  pub confirmed : ℕ
  pub start : ℕ
  pub numbers : List Number
  pub places : List (Option (List ℕ))
  pub urgent : Option (List ℕ)

-- the sorts of what waits, in the order in which they go out [H2]
pub data Sort : Type 0 where
  acks resets urgents resends datas : Sort

-- a frame that waits: whose it is and its sequence number [H3]
pub record Item : Type 0 where
  pub entry : ℕ
  pub number : ℕ

-- a frame that was handed out: its type, whose it is and its sequence number [H8]
abbrev pub Out : Type 0
Out = FrameType × Item

-- a node: its address and protocol ID, how many bytes of store its table asks for and how many it was lent, its end
-- points in table order, what waits, each sort in the order in which it began to wait, and the frame under way
-- [T17, E1, H3, H8, I2]
pub record Machine : Type 0 where
  pub own : Address
  pub protocol : ℕ
  pub need : ℕ
  pub room : ℕ
  pub ends : List End
  pub waiting : Sort → List Item
  pub under : Option Out

-- what a call answers, and the machine that it leaves [O1]
pub record Outcome : Type 0 where
  pub answer : Answer
  pub machine : Machine

-- ---- a field altered and all others as they were: these lines are here because a record has no update

-- a number by its parts [I3]
abbrev pub number : List ℕ → ℕ → Bool → Bool → ℕ → Number
number p r handed acked t = record { payload = p; retries = r; handed = handed; acked = acked; timer = t }

-- an end point by its parts [I3]
abbrev pub end : Entry → State → ℕ → ℕ → ℕ → List Number → List (Option (List ℕ)) → Option (List ℕ) → End
end x s a c k ns ps u =
    record { entry = x; state = s; accepted = a; confirmed = c; start = k; numbers = ns; places = ps; urgent = u }

-- in another state [E1, I3]
abbrev pub stated : State → End → End
stated s e = end e.entry s e.accepted e.confirmed e.start e.numbers e.places e.urgent

-- with other counts, accepted and confirmed [E17, I3]
abbrev pub counted : ℕ → ℕ → End → End
counted a c e = end e.entry e.state a c e.start e.numbers e.places e.urgent

-- with another start and other numbers taken [W3, I3]
abbrev pub numbered : ℕ → List Number → End → End
numbered k ns e = end e.entry e.state e.accepted e.confirmed k ns e.places e.urgent

-- with another start and other payloads held [W4, I3]
abbrev pub holding : ℕ → List (Option (List ℕ)) → End → End
holding k ps e = end e.entry e.state e.accepted e.confirmed k e.numbers ps e.urgent

-- with another Urgent waiting, or none [E15, I3]
abbrev pub urging : Option (List ℕ) → End → End
urging u e = end e.entry e.state e.accepted e.confirmed e.start e.numbers e.places u

-- with other end points and other frames waiting; what setup took from the table stays [T17, I3]
abbrev pub node : Machine → List End → (Sort → List Item) → Machine
node m es w =
    record {
      own = m.own;
      protocol = m.protocol;
      need = m.need;
      room = m.room;
      ends = es;
      waiting = w;
      under = m.under;
    }

-- with another frame under way, or none [H8, I3]
abbrev pub port : Option Out → Machine → Machine
port u m =
    record {
      own = m.own;
      protocol = m.protocol;
      need = m.need;
      room = m.room;
      ends = m.ends;
      waiting = m.waiting;
      under = u;
    }

-- lent another store, of so many bytes: its length comes with each call that is lent one [P11, R42]
abbrev pub lending : ℕ → Machine → Machine
lending room m =
    record {
      own = m.own;
      protocol = m.protocol;
      need = m.need;
      room = room;
      ends = m.ends;
      waiting = m.waiting;
      under = m.under;
    }

-- ---- entries and what waits

-- what f makes of an end point; a where there is none [R2]
abbrev pub found : {A : Type 0} → Option End → A → (End → A) → A
found none a f = a
found (some e) a f = f e

-- what f makes of entry i; a where there is no such entry [R2]
abbrev pub at : {A : Type 0} → Machine → ℕ → A → (End → A) → A
at m i a f = found (get_elem? m.ends i) a f

-- entry i is e now, and every other is as it was [I1]
abbrev pub turned : ℕ → End → Machine → Machine
turned i e m = node m (set m.ends i e) m.waiting

-- what waits is altered, sort by sort [I2]
abbrev pub waiting_as : (Sort → List Item → List Item) → Machine → Machine
waiting_as f m = node m m.ends (λ q. f q (m.waiting q))

-- the sorts by number, in the order in which they go out [H2]
abbrev pub rank : Sort → ℕ
rank acks = 0
rank resets = 1
rank urgents = 2
rank resends = 3
rank datas = 4

-- of one sort only [I3]
abbrev pub only : Sort → (List Item → List Item) → Sort → List Item → List Item
only q f r xs = pick (eqb (rank r) (rank q)) (f xs) xs

-- number s of entry i begins to wait: it is the last of its sort [H3]
abbrev pub waits : Sort → ℕ → ℕ → Machine → Machine
waits q i s = waiting_as (only q (λ xs. xs ++ (record { entry = i; number = s } ∷ [])))

-- what waits but for what the test holds of, in its order [H3]
unfoldable pub without : (Item → Bool) → List Item → List Item
without test [] = []
without test (x ∷ xs) = pick (test x) (without test xs) (x ∷ without test xs)

-- nothing of entry i waits any more [E7, D8]
abbrev pub silent : ℕ → Machine → Machine
silent i = waiting_as (λ q. without (λ x. eqb x.entry i))

-- no retransmission of its number s waits any more [A3]
abbrev pub not_again : ℕ → ℕ → Machine → Machine
not_again i s = waiting_as (only resends (without (λ x. eqb x.entry i && eqb x.number s)))

-- the number k past the window's start: after 255 comes 0 [W2]
abbrev pub past : End → ℕ → ℕ
past e k = byte_of (e.start + k)

-- how far past the window's start the number s lies [W1]
abbrev pub offset : End → ℕ → ℕ
offset e s = distance_of e.start s

-- becoming Closed or Enabled: start 1, nothing handed out, held or acknowledged; the counts are kept [E8]
abbrev pub anew : State → End → End
anew s e = stated s (numbered 1 [] (holding 1 (replicate e.entry.window none) (urging none e)))

-- entry i becomes Enabled; a sender then has a Reset waiting [E4, E5, D10]
unfoldable pub enabled : ℕ → End → Machine → Machine
enabled i e m =
    let m' = turned i (anew (Enabled 0 false) e) m in
    pick (is_sends e.entry.kind) (waits resets i 0 m') m'

-- ---- answers: the first test that fits refuses, and then all is as before

-- the numbers of the answer, what block or frame buffer then hold, and the machine [O1]
abbrev pub answers : List ℕ → List ℕ → Machine → Outcome
answers numbers out m = record { answer = record { numbers = numbers; out = out }; machine = m }

-- done, with nothing more to say [O3]
abbrev pub done : Machine → Outcome
done m = answers (answer_of (Ok tt)) [] m

-- o where the tests pass; else the refusal, with all as before [R44]
abbrev pub judged : Verdict → List ℕ → Machine → Outcome → Outcome
judged (Ok _) out m o = o
judged (Err w) out m o = answers (answer_of (Err w)) out m

-- o unless a test refuses; out is what the block or frame buffer holds [R43, R44]
abbrev pub unless : List (Bool × Refusal) → List ℕ → Machine → Outcome → Outcome
unless tests = judged (verdict tests)

-- 6: the store is tested in every call that is lent one [R6, R42]
abbrev pub too_short : Machine → Bool × Refusal
too_short m = (ltb m.room m.need, refusal.TooShort)

-- on entry i; 2 where there is no such entry [R2]
abbrev pub on_entry : Machine → ℕ → (End → Outcome) → Outcome
on_entry m i f = at m i (answers (answer_of (Err refusal.NoEntry)) [] m) f

-- ---- setup

-- what f gives of the numbers below n, in their order: end points are in table order [E1]
unfoldable pub listed : {A : Type 0} → ℕ → (ℕ → A) → List A
listed zero f = []
listed (suc n) f = listed n f ++ (f n ∷ [])

-- Closed, window start 1, counts 0 [E3]
abbrev pub first : Entry → End
first x = end x Closed 0 0 1 [] (replicate x.window none) none

-- from the table t with a store of room bytes: all Closed, no frame waiting and none under way [T17, E3]
unfoldable pub begun : List ℕ → ℕ → Machine
begun t room =
    record {
      own = own_of t;
      protocol = protocol_of t;
      need = store_of t;
      room = room;
      ends = listed (count_of t) (λ i. first (entry_of t i));
      waiting = λ q. [];
      under = none;
    }

-- a new node: count, own address and protocol ID 0 [N1]
abbrev pub blank : ℕ → Machine
blank room =
    record { own = record { 0 = 0 }; protocol = 0; need = 0; room = room; ends = []; waiting = λ q. []; under = none }

-- 1, 6 [R1, R6, R31]
abbrev pub setup_tests : List ℕ → ℕ → List (Bool × Refusal)
setup_tests t room = (not (good_table t), refusal.BadTable) ∷ (ltb room (store_of t), refusal.TooShort) ∷ []

-- setup, whatever was there before [E3, R31]
unfoldable pub setting : Machine → List ℕ → ℕ → Outcome
setting m t room = unless (setup_tests t room) [] m (done (begun t room))

-- ---- open, close, counts, state

-- 2, 4 [E4, R2, R4, R32]
unfoldable pub opening : Machine → ℕ → Outcome
opening m i =
    on_entry m i λ e.
    unless ((not (is_closed e.state), refusal.WrongState) ∷ []) [] m (done (enabled i e m))

-- 2, 4; its held payloads, timers and waiting frames go [E6, E7, E8, R2, R4, R33]
unfoldable pub closing : Machine → ℕ → Outcome
closing m i =
    on_entry m i λ e.
    unless ((is_closed e.state, refusal.WrongState) ∷ []) [] m (done (silent i (turned i (anew Closed e) m)))

-- 2, 3 [E17, R2, R3, R34]
unfoldable pub counting : Machine → ℕ → Outcome
counting m i =
    on_entry m i λ e.
    unless ((not (is_sends e.entry.kind), refusal.OtherKind) ∷ []) [] m
    (answers
    (counted_of (Ok (record { accepted = record { 0 = e.accepted }; confirmed = record { 0 = e.confirmed } })))
    [] m)

-- 2; it alters nothing, so that it is no step of the machine [E1, R2, R45]
unfoldable pub stating : Machine → ℕ → List ℕ
stating m i = at m i (answer_of (Err refusal.NoEntry)) (λ e. 0 ∷ state_number e.state ∷ [])

-- ---- send and Urgent

-- 3, 4, 5 [R3, R4, R5]
abbrev pub sender_tests : End → List ℕ → List (Bool × Refusal)
sender_tests e p =
    (not (is_sends e.entry.kind), refusal.OtherKind)
    ∷ (not (is_open e.state), refusal.WrongState)
    ∷ (eqb (length p) 0, refusal.PayloadLength)
    ∷ (ltb e.entry.largest (length p), refusal.PayloadLength)
    ∷ []

-- and then 8, 7, 6 [W3, R7, R8, R35]
abbrev pub send_tests : Machine → End → List ℕ → List (Bool × Refusal)
send_tests m e p =
    sender_tests e p
    ++ (eqb e.accepted most_accepted, refusal.RunFull)
    ∷ (leb e.entry.window (length e.numbers), refusal.WindowFull)
    ∷ too_short m
    ∷ []

-- the next number is taken for the payload p [W2]
abbrev pub taking : List ℕ → End → End
taking p e =
    counted (e.accepted + 1) e.confirmed (numbered e.start (e.numbers ++ (number p 0 false false 0 ∷ [])) e)

-- and its frame waits [W2, R35]
unfoldable pub sending : Machine → ℕ → List ℕ → Outcome
sending m i p =
    on_entry m i λ e.
    unless (send_tests m e p) [] m (done (waits datas i (past e (length e.numbers)) (turned i (taking p e) m)))

-- whether there is one: an Urgent that waits, a payload that is held [E15, W4]
abbrev pub is_some : {A : Type 0} → Option A → Bool
is_some none = false
is_some (some a) = true

-- 2, 3, 4, 5, 9, 6; one waits per entry [E15, R9, R36]
unfoldable pub urgent_sending : Machine → ℕ → List ℕ → Outcome
urgent_sending m i p =
    on_entry m i λ e.
    unless (sender_tests e p ++ (is_some e.urgent, refusal.UrgentWaits) ∷ too_short m ∷ []) [] m
    (done (waits urgents i 0 (turned i (urging (some p) e) m)))

-- ---- a plan: a block of payloads, each sent as though alone

-- whether what a send came to was no refusal [E18]
abbrev pub accepts : Outcome → Bool
accepts o = eqb (get_or o.answer.numbers 0 0) 0

-- payloads sent in order, up to and including the first that is refused, n being accepted before them: it answers how
-- many were accepted, and what the last send answered if it was refused, or 0 [E18, O10]
unfoldable pub sending_all : Machine → ℕ → ℕ → List (List ℕ) → Outcome
sending_all m i n [] = answers (planned_of (Ok (record { accepted = n; stop = Ok tt }))) [] m
sending_all m i n (p ∷ ps) =
    let o = sending m i p in
    pick (accepts o) (sending_all o.machine i (n + 1) ps) (answers (0 ∷ n ∷ o.answer.numbers) [] o.machine)

-- 22 before everything; then the payloads of the block [B5, R22, R50]
unfoldable pub planning : Machine → ℕ → List ℕ → Outcome
planning m i block = unless ((not (is_plan block), refusal.BadBlock) ∷ []) [] m (sending_all m i 0 (read_block block))

-- ---- an acknowledgement

-- the number s; one that was never handed out where it is not taken [A2]
abbrev pub number_at : End → ℕ → Number
number_at e s = get_or e.numbers (offset e s) (number [] 0 false false 0)

-- the numbers, with s handed out, its timer at t, acknowledged or not [A3, D2]
abbrev pub timed : ℕ → Bool → End → ℕ → List Number
timed t acked e s =
    let x = number_at e s in
    set e.numbers (offset e s) (number x.payload x.retries true acked t)

-- how many are acknowledged without a gap, from the first on [W8]
unfoldable pub acked_run : List Number → ℕ
acked_run [] = 0
acked_run (x ∷ xs) = pick x.acked (suc (acked_run xs)) 0

-- how many timers run [E2]
unfoldable pub running : List Number → ℕ
running [] = 0
running (x ∷ xs) = pick (eqb x.timer 0) (running xs) (suc (running xs))

-- the start passes n of the numbers ns, and confirmed grows by n [W8, A4]
abbrev pub passing : ℕ → List Number → End → End
passing n ns e = counted e.accepted (e.confirmed + n) (numbered (past e n) (drop n ns) e)

-- which entry an arrival was for, and what it was there [O3, O8]
abbrev pub told : ℕ → Was → List ℕ → Machine → Outcome
told i a out m = answers (arrived_of (Ok (record { entry = i; was = a }))) out m

-- it counts if its number is in the window, handed out and not yet acknowledged; its timer stops. Else it is ignored.
-- [A2, A3, A5]
abbrev pub acked : Machine → List ℕ → ℕ → End → ℕ → (End → Machine) → Outcome
acked m out i e s f =
    let ns = timed 0 true e s in
    pick ((number_at e s).handed && not (number_at e s).acked)
    (told i (was.Acknowledged (acked_run ns)) out (f (passing (acked_run ns) ns e)))
    (told i was.Ignored out m)

-- at Enabled, number 0 after a Reset was handed out: Open, start 1, counts 0, timer and waiting Reset gone; at Open a
-- waiting retransmission goes; Failing says how many timers still run [E2, E9, E10, A3, A5]
unfoldable pub acking : Machine → List ℕ → ℕ → End → ℕ → State → Outcome
acking m out i e s Closed = told i was.Ignored out m
acking m out i e s (Enabled timer sent) =
    pick (sent && eqb s 0)
    (told i was.Opened out (silent i (turned i (counted 0 0 (anew Open e)) m)))
    (told i was.Ignored out m)
acking m out i e s Open = acked m out i e s λ e'. not_again i s (turned i e' m)
acking m out i e s (Failing timers) = acked m out i e s λ e'. turned i (stated (Failing (running e'.numbers)) e') m

-- ---- a Reset, Data and an Urgent

-- how many payloads are held [E13]
unfoldable pub held_count : List (Option (List ℕ)) → ℕ
held_count [] = 0
held_count (p ∷ ps) = pick (is_some p) (suc (held_count ps)) (held_count ps)

-- those held without a gap, from the first on [W5]
unfoldable pub held_run : List (Option (List ℕ)) → List (List ℕ)
held_run [] = []
held_run (none ∷ ps) = []
held_run (some p ∷ ps) = p ∷ held_run ps

-- the payloads go into the host's block; beyond its end nothing alters [B3, B4]
abbrev pub delivering : ℕ → (ℕ → Was) → List (List ℕ) → List ℕ → Machine → Outcome
delivering i what ps out m = told i (what (length (block_of ps))) (sets out 0 (block_of ps)) m

-- the start passes n of the places [W5]
abbrev pub handing_on : ℕ → List (Option (List ℕ)) → End → End
handing_on n ps e = holding (past e n) (drop n ps ++ replicate n none) e

-- in the window and new: there is a place for it, and nothing is held there [W1, W4, W6]
abbrev pub is_new : End → ℕ → Bool
is_new e s = not (is_some (get_or e.places (offset e s) (some [])))

-- in all cases an acknowledgement waits [W4, W5, W6, A1]
unfoldable pub receiving : Machine → List ℕ → ℕ → End → ℕ → List ℕ → Outcome
receiving m out i e s p =
    let ps = set e.places (offset e s) (some p) in
    let e' = handing_on (length (held_run ps)) ps e in
    pick (is_new e s)
    (delivering i was.Data (held_run ps) out (waits acks i s (turned i e' m)))
    (delivering i was.Data [] out (waits acks i s m))

-- Open, start 1, held payloads and its waiting acknowledgements dropped, acknowledgement 0 waits; the answer says how
-- many were held [E11, E12, E13]
unfoldable pub resetting : Machine → List ℕ → ℕ → End → Outcome
resetting m out i e =
    told i (was.Reset (held_count e.places)) out (waits acks i 0 (silent i (turned i (anew Open e) m)))

-- taken in by entry i, which is e: a frame of number s with payload p; an Urgent is delivered and not acknowledged
-- [F16, E16]
unfoldable pub taken_in : Machine → List ℕ → ℕ → End → FrameType → ℕ → List ℕ → Outcome
taken_in m out i e type.Data s p = receiving m out i e s p
taken_in m out i e type.Acknowledge s p = acking m out i e s e.state
taken_in m out i e type.Reset s p = resetting m out i e
taken_in m out i e type.Urgent s p = delivering i was.Urgent (p ∷ []) out m

-- ---- an arrival

-- the most acknowledgements that wait in a node [I2, R14]
abbrev pub most_acks : ℕ
most_acks = 32

-- the room in the block that Data and Urgent need [B2]
abbrev pub block_room : Entry → ℕ
block_room x = empty + x.window * (offset_bytes + x.largest)

-- 13, 5, 14, 6: for entry e a frame of type t with n bytes of payload, and a block of so many bytes
-- [E14, R5, R6, R13, R14, R37]
abbrev pub entry_tests : Machine → End → FrameType → ℕ → ℕ → List (Bool × Refusal)
entry_tests m e t n block =
    (is_closed e.state, refusal.NoEndPoint)
    ∷ (carries t && not (is_open e.state), refusal.NoEndPoint)
    ∷ (carries t && ltb e.entry.largest n, refusal.PayloadLength)
    ∷ (answered t && leb most_acks (length (m.waiting acks)), refusal.AcksFull)
    ∷ too_short m
    ∷ (carries t && ltb block (block_room e.entry), refusal.TooShort)
    ∷ []

-- where the first end point stands that the test holds of [R13]
unfoldable pub place_of : (End → Bool) → List End → ℕ
place_of test [] = 0
place_of test (e ∷ es) = pick (test e) 0 (suc (place_of test es))

-- the entry that a frame is for: the first of the fitting kind, source and channel [F16, R13]
abbrev pub entry_for : Machine → Header → ℕ
entry_for m h = place_of (λ e. fits e.entry (for_sender h.kind) h.source.0 h.channel.0) m.ends

-- the header's fault, then 13 where there is no such entry [R13, R15, R16, R17, R18, R37]
unfoldable pub reading : Machine → List ℕ → Result Header Refusal → List ℕ → Outcome
reading m out (Err w) p = answers (answer_of (Err w)) out m
reading m out (Ok h) p =
    let i = entry_for m h in
    at m i (answers (answer_of (Err refusal.NoEndPoint)) out m) λ e.
    unless (entry_tests m e h.kind h.length (length out)) out m (taken_in m out i e h.kind h.seq.0 p)

-- destination and protocol ID are ours [F2, F3, R11]
abbrev pub is_ours : Machine → List ℕ → Bool
is_ours m f = eqb (get_or f destination_byte 0) m.own.0 && eqb (get_or f protocol_byte 0) m.protocol

-- 10, 11 [R10, R11, R37]
unfoldable pub arriving : Machine → List ℕ → List ℕ → Outcome
arriving m out f =
    unless ((not (sound_of f), refusal.BadFrame) ∷ (not (is_ours m f), refusal.NotOurs) ∷ []) out m
    (reading m out (header_of f) (payload_of f))

-- ---- handing out

-- the type of the frames of a sort: a retransmission is Data [F6, H7]
abbrev pub type_of : Sort → FrameType
type_of acks = type.Acknowledge
type_of resets = type.Reset
type_of urgents = type.Urgent
type_of resends = type.Data
type_of datas = type.Data

-- its payload, where an Urgent waits [F12]
abbrev pub or_none : Option (List ℕ) → List ℕ
or_none none = []
or_none (some p) = p

-- what a frame of a sort carries [F12, F13, D5]
abbrev pub carried : Sort → End → ℕ → List ℕ
carried acks e s = []
carried resets e s = []
carried urgents e s = or_none e.urgent
carried resends e s = (number_at e s).payload
carried datas e s = (number_at e s).payload

-- the frame of a sort from end point e, with number s: from our address to its remote end, over its channel [F5, H6]
unfoldable pub frame_of : Machine → Sort → End → ℕ → List ℕ
frame_of m q e s =
    frame_bytes
    (record {
      destination = e.entry.remote;
      protocol = m.protocol;
      source = m.own;
      kind = type_number (type_of q);
      user = 0;
      channel = e.entry.channel;
      seq = record { 0 = s };
    })
    (carried q e s)

-- an end point says that a Reset or a number was handed out; no timer runs of it yet [E2, A2, D2]
abbrev pub handed : Sort → End → ℕ → End
handed acks e s = e
handed resets e s = stated (Enabled 0 true) e
handed urgents e s = urging none e
handed resends e s = numbered e.start (timed 0 false e s) e
handed datas e s = numbered e.start (timed 0 false e s) e

-- of a sort: the first that waits goes out and is under way, or 6; where none waits, other
-- [H1, H3, H4, H8, R6, R38]
unfoldable pub going_out : Machine → List ℕ → Sort → List Item → Outcome → Outcome
going_out m out q [] other = other
going_out m out q (x ∷ xs) other =
    at m x.entry other λ e.
    let f = frame_of m q e x.number in
    unless ((ltb (length out) (length f), refusal.TooShort) ∷ []) out m
    (answers (handed_of (Ok (length f))) (sets out 0 f)
    (port (some (type_of q, x)) (waiting_as (only q (drop 1)) (turned x.entry (handed q e x.number) m))))

-- sort after sort; nothing waiting: length 0, with any frame buffer [H2, H5]
unfoldable pub in_order : Machine → List ℕ → List Sort → Outcome
in_order m out [] = answers (handed_of (Ok 0)) out m
in_order m out (q ∷ qs) = going_out m out q (m.waiting q) (in_order m out qs)

-- 19, 6; acknowledgements first, then Resets, Urgents, retransmissions, data [H2, R6, R19, R38, R42]
unfoldable pub handing_out : Machine → List ℕ → Outcome
handing_out m out =
    unless ((is_some m.under, refusal.UnderWay) ∷ too_short m ∷ []) out m
    (in_order m out (acks ∷ resets ∷ urgents ∷ resends ∷ datas ∷ []))

-- ---- the end of the frame under way, which the port reports

-- the timer of Data with number s starts at T if that is still handed out and not acknowledged [D2, D12]
abbrev pub data_timed : End → ℕ → End
data_timed e s =
    pick ((number_at e s).handed && not (number_at e s).acked)
    (numbered e.start (timed e.entry.timeout false e s) e) e

-- and a Failing end says how many run then [E2]
abbrev pub recounted : State → End → End
recounted Closed e = e
recounted (Enabled timer sent) e = e
recounted Open e = e
recounted (Failing timers) e = stated (Failing (running e.numbers)) e

-- that of a Reset if its end is still Enabled and one was handed out since Enabled began: it was this one, since no
-- other frame has gone out [D2, D12]
abbrev pub reset_timed : State → End → End
reset_timed Closed e = e
reset_timed (Enabled timer sent) e = pick sent (stated (Enabled e.entry.timeout true) e) e
reset_timed Open e = e
reset_timed (Failing timers) e = e

-- what the end of a frame with number s makes of its end point; an Acknowledge and an Urgent start nothing [D2, D12]
abbrev pub ended : FrameType → End → ℕ → End
ended type.Data e s = recounted e.state (data_timed e s)
ended type.Acknowledge e s = e
ended type.Reset e s = reset_timed e.state e
ended type.Urgent e s = e

-- 20 where none is under way; else none is any more [H8, R20, R49]
unfoldable pub reported : Machine → Option Out → Outcome
reported m none = answers (answer_of (Err refusal.NoneUnderWay)) [] m
reported m (some f) =
    let i = f.1.entry in
    done (port none (at m i m (λ e. turned i (ended f.0 e f.1.number) m)))

-- the report [H8, R20, R49]
unfoldable pub reporting : Machine → Outcome
reporting m = reported m m.under

-- ---- a tick

-- its timer comes to zero after M retries [D6]
abbrev pub is_spent : ℕ → Number → Bool
is_spent M x = eqb x.timer 1 && leb M x.retries

-- every running timer falls by one; at zero it is one retry more, unless the end is Failing [D3, D5, D9]
abbrev pub fallen : Bool → Number → Number
fallen again x =
    let tries = pick (again && eqb x.timer 1) (x.retries + 1) x.retries in
    number x.payload tries x.handed x.acked (x.timer - 1)

-- in window order; from the first that is spent on the end is Failing [D6, D7]
unfoldable pub ticked_all : ℕ → Bool → List Number → List Number
ticked_all M again [] = []
ticked_all M again (x ∷ xs) = let on = again && not (is_spent M x) in fallen on x ∷ ticked_all M on xs

-- some timer comes to zero after M retries [D6]
unfoldable pub any_spent : ℕ → List Number → Bool
any_spent M [] = false
any_spent M (x ∷ xs) = is_spent M x || any_spent M xs

-- those whose timer comes to zero wait as retransmissions, in window order [D5, D7]
unfoldable pub again_from : ℕ → End → ℕ → List Number → Machine → Machine
again_from i e k [] m = m
again_from i e k (x ∷ xs) m = again_from i e (suc k) xs (pick (eqb x.timer 1) (waits resends i (past e k) m) m)

-- Failing, with the numbers ns: it says how many timers still run; its Urgent goes [E2, D8]
abbrev pub failing : List Number → End → End
failing ns e = urging none (stated (Failing (running ns)) (numbered e.start ns e))

-- entry i, by its state; a Reset waits again without limit [D3, D4, D5, D6, D8, D9]
unfoldable pub ticked : Machine → ℕ → End → State → Machine
ticked m i e Closed = m
ticked m i e (Enabled timer sent) =
    let m' = turned i (stated (Enabled (timer - 1) sent) e) m in
    pick (eqb timer 0) m (pick (eqb timer 1) (waits resets i 0 m') m')
ticked m i e Open =
    let ns = ticked_all e.entry.retries true e.numbers in
    pick (any_spent e.entry.retries e.numbers)
    (silent i (turned i (failing ns e) m))
    (again_from i e 0 e.numbers (turned i (numbered e.start ns e) m))
ticked m i e (Failing timers) = turned i (failing (ticked_all e.entry.retries false e.numbers) e) m

-- entry after entry, in table order [D7]
unfoldable pub each : ℕ → (ℕ → End → Machine → Machine) → Machine → Machine
each zero f m = m
each (suc n) f m = let m' = each n f m in at m' n m' (λ e. f n e m')

-- the frame under way is entry i's [D10]
abbrev pub is_of : ℕ → Option Out → Bool
is_of i none = false
is_of i (some f) = eqb f.1.entry i

-- Failing, with no timer running and, where u is under way, no frame of its own under way [D10]
abbrev pub may_recover : Option Out → ℕ → End → Bool
may_recover u i e = is_over e.state && not (is_of i u)

-- such an end is Enabled with a Reset waiting, and its bit is answered, entry 0 lowest [D10, D11]
abbrev pub recovered : ℕ → End → Machine → Machine
recovered i e m = pick (may_recover m.under i e) (enabled i e m) m

-- a bit for each such end, entry 0 lowest [D11]
unfoldable pub bits_from : Option Out → ℕ → List End → ℕ
bits_from u i [] = 0
bits_from u i (e ∷ es) = pick (may_recover u i e) (2 ^ i) 0 + bits_from u (suc i) es

-- first all entries' timers, then the entries that are done with; a tick refuses nothing [D10, D11, R39]
unfoldable pub ticking : Machine → Outcome
ticking m =
    let n = length m.ends in
    let m' = each n (λ i e m. ticked m i e e.state) m in
    answers (bits_from m'.under 0 m'.ends ∷ []) [] (each n recovered m')

-- ---- the calls as one

-- what a call does: time passes by ticks alone [D1, O1]
unfoldable pub step : Machine → Call → Outcome
step m (opens i) = opening m i
step m (closes i) = closing m i
step m (counts i) = counting m i
step m (sends i p) = sending m i p
step m (urges i p) = urgent_sending m i p
step m (plans i block) = planning m i block
step m (arrives block f) = arriving m block f
step m (hands_out buffer) = handing_out m buffer
step m reports = reporting m
step m ticks = ticking m

-- what setup leaves of a table that it does not refuse [P11]
pub record SetUp (t : List ℕ) (m : Machine) : Type 0 where
  pub room : ℕ
  pub bytes : Bytes t
  pub passed : verdict (setup_tests t room) ≡ Ok tt
  pub is : m ≡ begun t room
