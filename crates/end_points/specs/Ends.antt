-- An end point in the node's words: what is read of entry i, and the words it is put back as (Layout.antt has the
-- places). Cited by every call on an entry. Assumes nothing.
use Rattle.std.specs.Prelude.{ℕ, ◌+◌, ◌%◌, Bool, true, false, List, [], ◌∷◌, ◌++◌, get_or, eqb}
use Rattle.std.proofs.lemmas.List.Edits.{sets}
use Rattle.units.specs.Refusals.{pick}
use Rattle.memory.specs.Layout.{entry_at, remote_word, channel_word, retries_word, window_word, largest_word}
use Rattle.memory.specs.Layout.{timeout_word, place_word, state_word}
use Rattle.memory.specs.Layout.{state_value_word, state_flag_word, start_word, low_marks_word, high_marks_word}
use Rattle.memory.specs.Layout.{taken_word}
use Rattle.memory.specs.Layout.{handed_word, accepted_word, confirmed_word, urgent_word}
use Rattle.table.specs.declared.Kind.{Kind}
use Rattle.table.specs.declared.Kind.TheVariants.{Sends, Receives}
use Rattle.table.specs.declared.Entry.{Entry}
use Rattle.end_points.specs.declared.State.{State}
use Rattle.end_points.specs.declared.State.TheVariants.{Closed, Enabled, Open, Failing}
use Rattle.end_points.specs.declared.Run.{Run}
use Rattle.end_points.specs.declared.EndPoint.{EndPoint}

-- word k of entry i
abbrev pub word : List ℕ → ℕ → ℕ → ℕ
word ws i k = get_or ws (entry_at i + k) 0

-- ---- what is read

abbrev pub kind_of : ℕ → Kind
kind_of w = pick (eqb (w % 2) 0) Sends Receives

-- the state that three words say: a timer and a flag at Enabled, a count at Failing [E1, E2, G7]
unfoldable pub state_of : ℕ → ℕ → ℕ → State
state_of tag value flag =
    pick (eqb (tag % 4) 0) Closed
    (pick (eqb (tag % 4) 1) (Enabled (value % 65536) (eqb (flag % 2) 1))
    (pick (eqb (tag % 4) 2) Open
    (Failing (value % 65536))))

-- what the table says, and where its area of the store begins
unfoldable pub load_entry : List ℕ → ℕ → Entry
load_entry ws i =
    record {
      kind = kind_of (get_or ws (entry_at i) 0);
      remote = record { 0 = word ws i remote_word % 256 };
      channel = record { 0 = word ws i channel_word % 256 };
      retries = word ws i retries_word % 256;
      window = word ws i window_word % 65536;
      largest = word ws i largest_word % 65536;
      timeout = word ws i timeout_word % 65536;
    }

abbrev pub place_in : List ℕ → ℕ → ℕ
place_in ws i = word ws i place_word % 65536

-- the state
abbrev pub load_state : List ℕ → ℕ → State
load_state ws i = state_of (word ws i state_word) (word ws i state_value_word) (word ws i state_flag_word)

-- the run, whose window has a size
unfoldable pub load_run : List ℕ → ℕ → ℕ → Run
load_run ws i size =
    record {
      window = record {
        start = record { 0 = word ws i start_word % 256 };
        size = size;
        marks = record { 0 = word ws i low_marks_word; 1 = word ws i high_marks_word };
      };
      taken = word ws i taken_word % 256;
      handed = word ws i handed_word % 256;
      accepted = record { 0 = word ws i accepted_word % 4294967296 };
      confirmed = record { 0 = word ws i confirmed_word % 4294967296 };
      urgent = word ws i urgent_word % 65536;
    }

-- end point i
unfoldable pub end_of : List ℕ → ℕ → EndPoint
end_of ws i =
    record {
      entry = load_entry ws i;
      place = place_in ws i;
      state = load_state ws i;
      run = load_run ws i ((load_entry ws i).window % 256);
    }

-- ---- what is put back

abbrev pub flag_of : Bool → ℕ
flag_of true = 1
flag_of false = 0

-- the three words of a state [E2]
abbrev pub state_words : State → List ℕ
state_words Closed = 0 ∷ 0 ∷ 0 ∷ []
state_words (Enabled t sent) = 1 ∷ t ∷ flag_of sent ∷ []
state_words Open = 2 ∷ 0 ∷ 0 ∷ []
state_words (Failing n) = 3 ∷ n ∷ 0 ∷ []

abbrev pub run_words : Run → List ℕ
run_words r =
    r.window.start.0 ∷ r.window.marks.0 ∷ r.window.marks.1 ∷ r.taken ∷ r.handed ∷ r.accepted.0
    ∷ r.confirmed.0 ∷ r.urgent ∷ []

-- entry i with a state and a run; what the table says of it stays
unfoldable pub saved : List ℕ → ℕ → State → Run → List ℕ
saved ws i s r = sets ws (entry_at i + state_word) (state_words s ++ run_words r)

-- entry i as the table has it, at its place in the store
abbrev pub kind_number : Kind → ℕ
kind_number Sends = 0
kind_number Receives = 1

abbrev pub entry_words : Entry → ℕ → List ℕ
entry_words e place =
    kind_number e.kind ∷ e.remote.0 ∷ e.channel.0 ∷ e.retries ∷ e.window ∷ e.largest ∷ e.timeout ∷ place ∷ []

unfoldable pub saved_entry : List ℕ → ℕ → Entry → ℕ → List ℕ
saved_entry ws i e place = sets ws (entry_at i) (entry_words e place)
