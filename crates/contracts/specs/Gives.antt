-- From contract to call: an outcome that a call's contract allows is the call that the promise speaks of (`Did`), and
-- through it the machine's. Cited by the laws of proofs/, for every call of a node. Assumes nothing.
use Rattle.std.specs.Prelude.{ℕ, ◌<◌, ◌≡◌, ◌≢◌, true, List, [], length, Ok}
use Rattle.std.specs.Borrow.{MutBor}
use Rattle.memory.specs.Layout.{node_words, book_halves}
use Rattle.end_points.specs.Lent.{Lent}
use Rattle.trace.specs.Kinds.{table_kind, is_kind}
use Rattle.trace.specs.Layout.{count_of}
use Rattle.trace.specs.Rules.{good_trace}
use Rattle.trace_step.specs.Told.{told_of}
use Rattle.trace_step.specs.Replay.{state_after, made_of}
use Rattle.trace_step.specs.declared.Told.{Told}
use Rattle.trace_step.specs.declared.Told.TheVariants as told
use Rattle.good.specs.Calls.{Memory, kept, SetUp}
use Rattle.replayed.specs.Replayed.{table_in, call_named, call_at, Single, Given}
use Rattle.machine.specs.Calls.{Call, Answer, Bytes, Fed}
use Rattle.promise.specs.Nodes.{Did}
use Rattle.units.specs.Refusals.{Verdict}

-- what a host keeps: node and book as they were lent, and its store
abbrev pub memory : MutBor (List ℕ) → MutBor (List ℕ) → List ℕ → Memory
memory node book store = record { node = node.now; book = book.now; store = store }

-- an answer in the paper's numbers, of a call that writes neither block nor frame
abbrev pub plain : List ℕ → Answer
plain numbers = record { numbers = numbers; out = [] }

-- what the contract says of arguments, answer and arguments at exit is what `Did` says of the memory before, the call
-- with its answer, and the memory after [O1]
abbrev pub Gives :
    {L A R : Type 0} → (L → A → R → A → Type 0) → (A → Call) → (R → A → Answer) → (A → Memory) → (A → A → Memory)
    → Type 0
Gives {L} {A} {R} Post call told before after =
    (u : L) (a : A) (r : R) (e : A) → Post u a r e → Fed (call a)
    → Did (before a) (record { call = call a; answer = told r e }) (after a e)

-- and of a setup that passed: what `SetUp` says of the table and the memory after [P11]
abbrev pub SetsUp : {L A : Type 0} → (L → A → Verdict → A → Type 0) → (A → Lent) → (A → List ℕ) → (A → A → Memory)
    → Type 0
SetsUp {L} {A} Post before table after =
    (u : L) (a : A) (r : Verdict) (e : A) → Post u a r e → r ≡ Ok tt
    → length (before a).node ≡ node_words → length (before a).book ≡ book_halves → Bytes (table a)
    → SetUp (table a) (after a e)

-- ---- records of a trace

-- what the contract says of a record's call, of a kind other than a table's, is one single call of the node [L9]
abbrev pub Makes : {L A : Type 0} → (L → A → Told → A → Type 0) → (A → Lent) → (A → ℕ) → (A → ℕ) → (A → List ℕ) → Type 0
Makes {L} {A} Post lent kind index bytes =
    (u : L) (a : A) (r : Told) (e : A) → Post u a r e → Bytes (bytes a) → is_kind (kind a) ≡ true → kind a ≢ table_kind
    → Single (lent a) (lent e) (call_named (kind a) (index a) (bytes a) (lent a).out) (told_of r)

-- and of the step to record k of a good file: the first sets a node up, or is refused, and every other is one single
-- call [L9, L10]
pub record Step (x y : Lent) (f : List ℕ) (k : ℕ) (t : Told) : Type 0 where
  pub first : k ≡ 0 → t ≡ told.Plain (Ok tt) → SetUp (table_in f) (kept y)
  pub then : 0 < k → Single x y (call_at f k x.out) (told_of t)

abbrev pub Steps : {L A : Type 0} → (L → A → Told → A → Type 0) → (A → Lent) → (A → List ℕ) → (A → ℕ) → Type 0
Steps {L} {A} Post lent file k =
    (u : L) (a : A) (r : Told) (e : A) → Post u a r e → Given (lent a) (file a) → k a < count_of (file a)
    → Step (lent a) (lent e) (file a) (k a) r

-- a replay of a good file leaves what its records' calls leave, one after the other [L10]
abbrev pub Replays : {L A R : Type 0} → (L → A → R → A → Type 0) → (A → Lent) → (A → List ℕ) → Type 0
Replays {L} {A} {R} Post lent file =
    (u : L) (a : A) (r : R) (e : A) → Post u a r e → good_trace (file a) ≡ true
    → lent e ≡ state_after (lent a) (file a) (made_of (lent a) (file a))
