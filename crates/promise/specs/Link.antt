-- DEMAND 3 of two machines: the two sides of the promise, and the entries that the channel goes between. Assumes
-- nothing.
use Rattle.std.specs.Prelude.{ℕ, ◌≤◌, ◌<◌, ◌≡◌, List, [], ◌∷◌, eqb}
use Rattle.units.specs.Refusals.{pick}
use Rattle.table.specs.Layout.{count_of, own_of, protocol_of, entry_of}
use Rattle.table.specs.Areas.{store_of}
use Rattle.table.specs.declared.Kind.TheVariants.{Sends, Receives}
use Rattle.machine.specs.Calls.{Fed}
use Rattle.machine.specs.Machine.{Item, acks, Machine, lending, at, step, SetUp}
use Rattle.promise.specs.History.{s_closed}
use Rattle.promise.specs.Promise.{SSide, RSide, Demand3}
use Rattle.promise.specs.Seen.{Event, s_seen, r_seen, s_state_of}

-- ---- the two sides

-- what the machine says of a call [O1]
pub record Did (m : Machine) (e : Event) (m' : Machine) : Type 0 where
  pub fed : Fed e.call
  pub answered : e.answer ≡ (step m e.call).answer
  pub left : m' ≡ (step m e.call).machine

-- the host lends another store, long enough for the table: a machine's payloads are its own, so only the length is
-- another [P11]
pub record Lends (t : List ℕ) (m m' : Machine) : Type 0 where
  pub room : ℕ
  pub long : store_of t ≤ room
  pub is : m' ≡ lending room m

-- entry i of a machine that was set up from table t [P11]
abbrev pub sender : List ℕ → ℕ → SSide
sender t i =
    record {
      Node = Machine;
      Call = Event;
      Did = Did;
      SetUp = SetUp t;
      Lends = Lends t;
      seen = λ e. s_seen (entry_of t i) i e.call e.answer;
      state = λ m. at m i s_closed (λ e. s_state_of e.state);
      accepted = λ m. at m i 0 (λ e. e.accepted);
      confirmed = λ m. at m i 0 (λ e. e.confirmed);
    }

-- the sequence bytes of the acknowledgements that wait for entry j
abbrev pub owed_to : ℕ → List Item → List ℕ
owed_to j [] = []
owed_to j (x ∷ xs) = pick (eqb x.entry j) (x.number ∷ owed_to j xs) (owed_to j xs)

abbrev pub receiver : List ℕ → ℕ → RSide
receiver u j =
    record {
      Node = Machine;
      Call = Event;
      Did = Did;
      SetUp = SetUp u;
      Lends = Lends u;
      seen = λ e. r_seen (entry_of u j) j e.call e.answer;
      waiting = λ m. owed_to j (m.waiting acks);
    }

-- ---- the entries

-- entry i of table t sends to entry j of table u: each names the other, on one channel, with one protocol ID and one
-- window in force [P5]
pub record Paired (t : List ℕ) (i : ℕ) (u : List ℕ) (j : ℕ) : Type 0 where
  pub known : i < count_of t
  pub known' : j < count_of u
  pub kind : (entry_of t i).kind ≡ Sends
  pub kind' : (entry_of u j).kind ≡ Receives
  pub there : (entry_of t i).remote ≡ own_of u
  pub back : (entry_of u j).remote ≡ own_of t
  pub channel : (entry_of t i).channel ≡ (entry_of u j).channel
  pub protocol : protocol_of t ≡ protocol_of u
  pub window : (entry_of t i).window ≡ (entry_of u j).window

-- THE PROMISE, of two machines [P1, P2, P3, P4, P5, P6, P7, P8, P9, P10, P11, P12, P13, O5]
unfoldable pub Promise : Type 0
Promise = (t : List ℕ) (i : ℕ) (u : List ℕ) (j : ℕ) → Paired t i u j
    → Demand3 (entry_of t i).window (sender t i) (receiver u j)
