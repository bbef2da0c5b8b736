-- DEMAND 3 of two nodes and their public calls: the promise of Link.antt, with what the calls' contracts say in the
-- machine's place. Assumes nothing.
use Rattle.std.specs.Prelude.{ℕ, ◌≤◌, ◌≡◌, List, [], ◌∷◌, length, eqb}
use Rattle.units.specs.Refusals.{pick}
use Rattle.memory.specs.Layout.{ack_entry, ack_number}
use Rattle.waiting.specs.Order.{acks_in}
use Rattle.table.specs.Areas.{store_of}
use Rattle.table.specs.Layout.{entry_of}
use Rattle.end_points.specs.Ends.{end_of}
use Rattle.good.specs.Calls.{Memory, answer, after, relent, SetUp}
use Rattle.machine.specs.Calls.{Fed}
use Rattle.promise.specs.Promise.{SSide, RSide, Demand3}
use Rattle.promise.specs.Seen.{Event, s_seen, r_seen, s_state_of}
use Rattle.promise.specs.Link.{Paired}

-- what the contracts say of a call [O1]
pub record Did (n : Memory) (e : Event) (m : Memory) : Type 0 where
  pub fed : Fed e.call
  pub answered : e.answer ≡ answer n e.call
  pub left : m ≡ after n e.call

-- the host lends another store, of any content, that is long enough for the table [P11]
pub record Lends (t : List ℕ) (n m : Memory) : Type 0 where
  pub store : List ℕ
  pub long : store_of t ≤ length store
  pub is : m ≡ relent store n

-- entry i of a node that was set up from table t [P11]
abbrev pub sender : List ℕ → ℕ → SSide
sender t i =
    record {
      Node = Memory;
      Call = Event;
      Did = Did;
      SetUp = SetUp t;
      Lends = Lends t;
      seen = λ e. s_seen (entry_of t i) i e.call e.answer;
      state = λ n. s_state_of (end_of n.node i).state;
      accepted = λ n. (end_of n.node i).run.accepted.0;
      confirmed = λ n. (end_of n.node i).run.confirmed.0;
    }

-- the sequence bytes of the acknowledgements that wait for entry j
abbrev pub owed_in : ℕ → List ℕ → List ℕ
owed_in j [] = []
owed_in j (w ∷ ws) = pick (eqb (ack_entry w) j) (ack_number w ∷ owed_in j ws) (owed_in j ws)

abbrev pub receiver : List ℕ → ℕ → RSide
receiver u j =
    record {
      Node = Memory;
      Call = Event;
      Did = Did;
      SetUp = SetUp u;
      Lends = Lends u;
      seen = λ e. r_seen (entry_of u j) j e.call e.answer;
      waiting = λ n. owed_in j (acks_in n.node);
    }

-- THE PROMISE, of two nodes [P1, P2, P3, P4, P5, P6, P7, P8, P9, P10, P11, P12, P13, O5]
unfoldable pub NodesPromise : Type 0
NodesPromise = (t : List ℕ) (i : ℕ) (u : List ℕ) (j : ℕ) → Paired t i u j
    → Demand3 (entry_of t i).window (sender t i) (receiver u j)
