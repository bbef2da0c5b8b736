-- The channel table's bytes: what its head and its entries say. A byte past the end counts as 0. Cited by the table's
-- readers and by whatever is set up from a table. Assumes nothing.
use Rattle.std.specs.Prelude.{ℕ, ◌+◌, ◌*◌, List, get_or, eqb}
use Rattle.units.specs.Bytes.{get16_of}
use Rattle.units.specs.Refusals.{pick}
use Rattle.units.specs.Sizes.{in_force}
use Rattle.units.specs.declared.Address.{Address}
use Rattle.table.specs.declared.Kind.{Kind}
use Rattle.table.specs.declared.Kind.TheVariants.{Sends, Receives}
use Rattle.table.specs.declared.Entry.{Entry}

-- the bytes of the head [T1]
abbrev pub head_size : ℕ
head_size = 8

-- and of an entry [T1]
abbrev pub entry_size : ℕ
entry_size = 12

-- where entry i begins: after the head and the entries before it. With the count for i, where the table ends [T1]
abbrev pub start_of : ℕ → ℕ
start_of i = head_size + entry_size * i

-- the head: count of entries [T2]
abbrev pub count_of : List ℕ → ℕ
count_of t = get16_of t 0

-- offset of the first entry [T2, T4]
abbrev pub first_of : List ℕ → ℕ
first_of t = get16_of t 2

-- own address [T2, U1]
abbrev pub own_of : List ℕ → Address
own_of t = record { 0 = get_or t 4 0 }

-- protocol ID [T2]
abbrev pub protocol_of : List ℕ → ℕ
protocol_of t = get_or t 5 0

-- two zeros [T2, T4]
abbrev pub head_zeros_of : List ℕ → ℕ
head_zeros_of t = get16_of t 6

-- a kind's byte [T5]
abbrev pub byte_of : Kind → ℕ
byte_of Sends = 0
byte_of Receives = 1

-- and the kind of a byte [T5]
abbrev pub kind_of : ℕ → Kind
kind_of b = pick (eqb b 0) Sends Receives

-- of an entry that begins at a byte: its kind [T3, T5]
abbrev pub kind_byte_from : List ℕ → ℕ → ℕ
kind_byte_from t at = get_or t at 0

-- the W that it writes [T3, T10]
abbrev pub window_from : List ℕ → ℕ → ℕ
window_from t at = get16_of t (at + 4)

-- its two zeros [T3, T6]
abbrev pub zeros_from : List ℕ → ℕ → ℕ
zeros_from t at = get16_of t (at + 10)

-- and all that it says: kind, remote address, channel, retries M, window W in force, largest payload P, timeout T
-- [T3, T11, U1]
unfoldable pub entry_from : List ℕ → ℕ → Entry
entry_from t at =
    record {
      kind = kind_of (kind_byte_from t at);
      remote = record { 0 = get_or t (at + 1) 0 };
      channel = record { 0 = get_or t (at + 2) 0 };
      retries = get_or t (at + 3) 0;
      window = in_force (window_from t at);
      largest = get16_of t (at + 6);
      timeout = get16_of t (at + 8);
    }

-- entry i, with its window in force [T1, T11]
unfoldable pub entry_of : List ℕ → ℕ → Entry
entry_of t i = entry_from t (start_of i)
