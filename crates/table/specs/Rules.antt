-- Which tables are not refused with 1. Cited by whatever takes a table. Assumes nothing.
use Rattle.std.specs.Prelude.{ℕ, zero, suc, Bool, true, not, ◌&&◌, List, length, eqb, leb}
use Rattle.units.specs.Sizes.{may_write}
use Rattle.units.specs.Limits.{most_entries, most_store}
use Rattle.units.specs.declared.Address.{Address}
use Rattle.table.specs.declared.Kind.{Kind}
use Rattle.table.specs.declared.Kind.TheVariants.{Sends, Receives}
use Rattle.table.specs.declared.Entry.{Entry}
use Rattle.table.specs.Layout.{head_size, start_of, count_of, first_of, own_of, protocol_of, head_zeros_of, byte_of}
use Rattle.table.specs.Layout.{kind_byte_from, window_from, zeros_from, entry_of}
use Rattle.table.specs.Areas.{store_of}

-- a test holds of every number below n
unfoldable pub every_below : ℕ → (ℕ → Bool) → Bool
every_below zero test = true
every_below (suc k) test = every_below k test && test k

-- addresses are 32 to 254 [T8]
unfoldable pub is_address : Address → Bool
is_address a = leb 32 a.0 && leb a.0 254

-- at most 16 entries, no byte missing or left over, the first entry right after the head; protocol ID 1 or more, which
-- a byte keeps to 255 [T1, T4, T7, T8, T9]
unfoldable pub head_good : List ℕ → Bool
head_good t =
    leb (count_of t) most_entries
    && eqb (length t) (start_of (count_of t))
    && eqb (first_of t) head_size
    && is_address (own_of t)
    && leb 1 (protocol_of t)
    && eqb (head_zeros_of t) 0

-- a sender's timeout is 1 or more, which two bytes keep to 65,535, and its retries are free; a receiver has neither
-- [T13, T14]
abbrev pub timed : Kind → ℕ → ℕ → Bool
timed Sends timeout retries = leb 1 timeout
timed Receives timeout retries = eqb timeout 0 && eqb retries 0

-- an entry's own numbers: remote address, largest payload, timeout and retries [T8, T12, T13, T14]
unfoldable pub numbers_good : Entry → Bool
numbers_good e = is_address e.remote && leb 1 e.largest && leb e.largest most_store
    && timed e.kind e.timeout e.retries

-- the bytes of entry i: a kind that there is, a window that may be written, two zeros, its numbers [T5, T6, T10]
unfoldable pub form_good : List ℕ → ℕ → Bool
form_good t i =
    leb (kind_byte_from t (start_of i)) 1
    && may_write (window_from t (start_of i))
    && eqb (zeros_from t (start_of i)) 0
    && numbers_good (entry_of t i)

-- two entries of one kind for the same remote address and channel [T15]
unfoldable pub agree : Entry → Entry → Bool
agree a b = eqb (byte_of a.kind) (byte_of b.kind) && eqb a.remote.0 b.remote.0
    && eqb a.channel.0 b.channel.0

-- entry i agrees with none before it [T15]
unfoldable pub apart : List ℕ → ℕ → Bool
apart t i = every_below i (λ j. not (agree (entry_of t i) (entry_of t j)))

-- entry i keeps its rules [T15, R1]
unfoldable pub entry_good : List ℕ → ℕ → Bool
entry_good t i = form_good t i && apart t i

-- the areas come to at most 32,768 bytes [T16]
unfoldable pub fits : List ℕ → Bool
fits t = leb (store_of t) most_store

-- a table that breaks no rule [R1]
unfoldable pub good_table : List ℕ → Bool
good_table t = head_good t && every_below (count_of t) (entry_good t) && fits t
