-- The entries' areas of the lent store: their sizes, their places, and the whole. Cited by whatever lays out or
-- checks a store. Assumes nothing.
use Rattle.std.specs.Prelude.{ℕ, zero, suc, ◌+◌, ◌*◌, List}
use Rattle.table.specs.declared.Kind.{Kind}
use Rattle.table.specs.declared.Kind.TheVariants.{Sends, Receives}
use Rattle.table.specs.declared.Entry.{Entry}
use Rattle.table.specs.Layout.{count_of, entry_of}

-- how many slots an end point of a kind has for a window: a sender has one more, for its Urgent [S1, S4]
abbrev pub slots_of : Kind → ℕ → ℕ
slots_of Sends w = w + 1
slots_of Receives w = w

-- an entry's area: a slot is as long as the largest payload [S1]
unfoldable pub area_of : Entry → ℕ
area_of e = slots_of e.kind e.window * e.largest

-- where entry i's area begins: entries lie in table order [S2]
unfoldable pub place_of : List ℕ → ℕ → ℕ
place_of t zero = 0
place_of t (suc k) = place_of t k + area_of (entry_of t k)

-- the store that a table takes [S1, V8]
unfoldable pub store_of : List ℕ → ℕ
store_of t = place_of t (count_of t)
