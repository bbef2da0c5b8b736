-- The protocol's limits that more than one crate names. Assumes nothing.
use Rattle.std.specs.Prelude.{ℕ}

-- entries of a table [T1]
abbrev pub most_entries : ℕ
most_entries = 16

-- sequence numbers of a window [T10]
abbrev pub most_window : ℕ
most_window = 128

-- bytes of store that a table's entries take, and so of one payload [T12, T16]
abbrev pub most_store : ℕ
most_store = 32768

-- payloads of a plan [B5]
abbrev pub most_planned : ℕ
most_planned = 64

-- payloads that one run accepts [R8]
abbrev pub most_accepted : ℕ
most_accepted = 4294967295
