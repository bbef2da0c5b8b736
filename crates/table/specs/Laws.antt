-- Laws of good tables; proved in proofs/Good.antt and proofs/Places.antt. Assumes nothing.
use Rattle.std.specs.Prelude.{ℕ, ◌+◌, ◌≤◌, ◌<◌, ◌≡◌, true, List}
use Rattle.units.specs.Limits.{most_store}
use Rattle.table.specs.Layout.{count_of, entry_of}
use Rattle.table.specs.Areas.{area_of, place_of, store_of}
use Rattle.table.specs.Rules.{good_table}

-- a kind, a remote address and a channel belong to one entry [T15]
abbrev pub OneEntry : Type 0
OneEntry = (t : List ℕ) → good_table t ≡ true → (i j : ℕ) → i < count_of t → j < count_of t
    → (entry_of t i).kind ≡ (entry_of t j).kind → (entry_of t i).remote.0 ≡ (entry_of t j).remote.0
    → (entry_of t i).channel.0 ≡ (entry_of t j).channel.0 → i ≡ j

-- the entries' areas of the store lie apart, the lower entry's before [S2]
abbrev pub AreasApart : Type 0
AreasApart = (t : List ℕ) (i j : ℕ) → i < j → place_of t i + area_of (entry_of t i) ≤ place_of t j

-- and inside the store that the table takes [S1]
abbrev pub AreasInside : Type 0
AreasInside = (t : List ℕ) (i : ℕ) → i < count_of t → place_of t i + area_of (entry_of t i) ≤ store_of t

-- which is at most 32,768 bytes [T16]
abbrev pub StoreFits : Type 0
StoreFits = (t : List ℕ) → good_table t ≡ true → store_of t ≤ most_store
