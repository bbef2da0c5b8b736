-- A REPLAY IS SO MANY SINGLE CALLS: what is proved of a good trace file whose records are made one after the other.
-- Assumes nothing.
use Rattle.std.specs.Prelude.{ℕ, suc, ◌≤◌, ◌<◌, ◌≡◌, ◌≢◌, true, List, ◌∷◌, length, get_or, eqb, Ok, Err}
use Rattle.units.specs.Limits.{most_store}
use Rattle.units.specs.Refusals.{number_of, pick}
use Rattle.units.specs.declared.refusals.Refusal.{Refusal}
use Rattle.units.specs.declared.refusals.Refusal.TheVariants as refusal
use Rattle.memory.specs.Layout.{node_words, book_halves}
use Rattle.end_points.specs.Lent.{Lent}
use Rattle.call_open.specs.Setup.{setup_answer}
use Rattle.trace.specs.Kinds.{open_kind, close_kind, send_kind, urgent_kind, arrival_kind, tick_kind, hand_out_kind}
use Rattle.trace.specs.Layout.{count_of, begin_of, head_from, bytes_from}
use Rattle.trace.specs.Rules.{good_trace}
use Rattle.trace_step.specs.Told.{told_of}
use Rattle.trace_step.specs.Steps.{stored_of}
use Rattle.trace_step.specs.Replay.{state_after, told_at, made_of}
use Rattle.machine.specs.Calls.{Call, opens, closes, counts, sends, urges, plans, arrives, hands_out, reports, ticks}
use Rattle.machine.specs.Calls.{Bytes, Fed}
use Rattle.machine.specs.LawsRoom.{most_out}
use Rattle.good.specs.Calls.{kept, answer, after, SetUp, Reach}

-- ---- the calls of a file

-- its table: the bytes of its first record [L8]
abbrev pub table_in : List ℕ → List ℕ
table_in f = bytes_from f (begin_of f 0)

-- the call that a record of another kind names, with its index i and its bytes b; `out` is the block or the frame
-- buffer that it is lent [L6]
abbrev pub call_named : ℕ → ℕ → List ℕ → List ℕ → Call
call_named kind i b out =
    pick (eqb kind open_kind) (opens i)
    (pick (eqb kind close_kind) (closes i)
    (pick (eqb kind send_kind) (sends i b)
    (pick (eqb kind urgent_kind) (urges i b)
    (pick (eqb kind arrival_kind) (arrives out b)
    (pick (eqb kind tick_kind) ticks
    (pick (eqb kind hand_out_kind) (hands_out out)
    reports))))))

-- the call of record k [L6]
abbrev pub call_at : List ℕ → ℕ → List ℕ → Call
call_at f k out =
    let at = begin_of f k in
    call_named (head_from f at).kind (head_from f at).index (bytes_from f at) out

-- ---- one single call

-- what the buffer holds afterwards: of an arrival and of handing out what the call answers, else what it held
abbrev pub buffer_after : Call → List ℕ → List ℕ → List ℕ
buffer_after (opens i) out new = out
buffer_after (closes i) out new = out
buffer_after (counts i) out new = out
buffer_after (sends i p) out new = out
buffer_after (urges i p) out new = out
buffer_after (plans i block) out new = out
buffer_after (arrives block f) out new = new
buffer_after (hands_out buffer) out new = new
buffer_after reports out new = out
buffer_after ticks out new = out

-- what a replay tells of the call's numbers: those, and before a tick's bits that it was not refused [L12]
abbrev pub numbers_told : Call → List ℕ → List ℕ
numbers_told (opens i) ns = ns
numbers_told (closes i) ns = ns
numbers_told (counts i) ns = ns
numbers_told (sends i p) ns = ns
numbers_told (urges i p) ns = ns
numbers_told (plans i block) ns = ns
numbers_told (arrives block f) ns = ns
numbers_told (hands_out buffer) ns = ns
numbers_told reports ns = ns
numbers_told ticks ns = 0 ∷ ns

-- a public call of the node that x has, as its contract says (`answer` and `after`, crates/good): what it leaves is y,
-- and what it tells are these numbers [L10, O1]
pub record Single (x y : Lent) (c : Call) (numbers : List ℕ) : Type 0 where
  pub fed : Fed c
  pub left : kept y ≡ after (kept x) c
  pub buffer : y.out ≡ buffer_after c x.out (answer (kept x) c).out
  pub told : numbers ≡ numbers_told c (answer (kept x) c).numbers

-- ---- the theorem

-- what a replay is given: a node and a book of their lengths, with any content, and a good file
pub record Given (x : Lent) (f : List ℕ) : Type 0 where
  pub node : length x.node ≡ node_words
  pub book : length x.book ≡ book_halves
  pub bytes : Bytes f
  pub good : good_trace f ≡ true

-- the first record is a setup, and each one after it is one single call on what the records before it left
pub record SingleCalls (x : Lent) (f : List ℕ) : Type 0 where
  pub first : SetUp (table_in f) (kept (state_after x f 1))
  pub then : (k : ℕ) → 0 < k → k < count_of f → let y = state_after x f k in
      Single y (state_after x f (suc k)) (call_at f k y.out) (told_of (told_at x f k))

-- the state after record n is what n single calls give, for every file and every n, where the table is not refused
-- [L10]
unfoldable pub ReplayIsCalls : Type 0
ReplayIsCalls = (x : Lent) (f : List ℕ) → Given x f → setup_answer (stored_of x) (table_in f) ≡ Ok tt → SingleCalls x f

-- where it is refused no other call is made, and all is as it was [L11, R44]
pub record Ended (x : Lent) (f : List ℕ) : Type 0 where
  pub made : made_of x f ≡ 1
  pub left : state_after x f 1 ≡ x

-- so of every file whose table is refused [L11, R44]
unfoldable pub RefusedEnds : Type 0
RefusedEnds = (x : Lent) (f : List ℕ) → Given x f → (w : Refusal) → setup_answer (stored_of x) (table_in f) ≡ Err w
    → Ended x f

-- so after each record the node is one that setup and calls can give, of which crates/good and crates/refinement speak
-- [L10, O2]
unfoldable pub ReplayReaches : Type 0
ReplayReaches = (x : Lent) (f : List ℕ) → Given x f → setup_answer (stored_of x) (table_in f) ≡ Ok tt
    → (n : ℕ) → 0 < n → n ≤ count_of f → Reach (table_in f) (kept (state_after x f n))

-- with a store as long as any table takes, and a buffer as long as any block, no record answers 6 [L9, R6]
unfoldable pub NeverSix : Type 0
NeverSix = (x : Lent) (f : List ℕ) → Given x f → most_store ≤ length x.store → most_out ≤ length x.out
    → (k : ℕ) → k < made_of x f → get_or (told_of (told_at x f k)) 0 0 ≢ number_of refusal.TooShort
