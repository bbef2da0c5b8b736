-- The frame under way: a half word of the book, 0 where there is none, else the frame's type, whose it is and its
-- sequence number. Cited by handing out, by the report of its end and by the tick. Assumes nothing.
use Rattle.std.specs.Prelude.{ℕ, ◌+◌, ◌*◌, ◌/◌, ◌%◌, Bool, not, ◌&&◌, List, get_or, set, eqb}
use Rattle.units.specs.Limits.{most_entries}
use Rattle.units.specs.Refusals.{pick}
use Rattle.memory.specs.Layout.{under_at}

-- what is under way [H8]
abbrev pub under_in : List ℕ → ℕ
under_in b = get_or b under_at 0

-- the parts of the half word: a number takes so many values, all entries' numbers come to so many, and there are so
-- many types [H8]
abbrev pub per_entry : ℕ
per_entry = 256

abbrev pub per_type : ℕ
per_type = 4096

abbrev pub types : ℕ
types = 4

-- a frame of entry i with number s, by its type's number; a type counts from 1, since 0 says that there is none [H8]
abbrev pub out_word : ℕ → ℕ → ℕ → ℕ
out_word t i s = (t % types + 1) * per_type + i % most_entries * per_entry + s

-- whose it is, and its number [H8]
abbrev pub out_entry : ℕ → ℕ
out_entry u = u / per_entry % most_entries

abbrev pub out_number : ℕ → ℕ
out_number u = u % per_entry

-- type and entry of entry 0's Data, and of its Reset
abbrev pub first_data : ℕ
first_data = 16

abbrev pub first_reset : ℕ
first_reset = 48

-- it is entry i's Data, or its Reset [D2]
abbrev pub is_data : ℕ → ℕ → Bool
is_data u i = eqb (u / per_entry) (first_data + i)

abbrev pub is_reset : ℕ → ℕ → Bool
is_reset u i = eqb (u / per_entry) (first_reset + i)

-- it goes under way; its end was reported [H8]
abbrev pub begun : List ℕ → ℕ → ℕ → ℕ → List ℕ
begun b t i s = set b under_at (out_word t i s)

abbrev pub ended : List ℕ → List ℕ
ended b = set b under_at 0

-- ---- of entry i

-- a frame of its own is under way [D10]
abbrev pub is_own : List ℕ → ℕ → Bool
is_own b i = not (eqb (under_in b) 0) && eqb (out_entry (under_in b)) i

-- its Data is, of this number; no number where none is [D2]
abbrev pub no_number : ℕ
no_number = per_entry

abbrev pub data_out : List ℕ → ℕ → ℕ
data_out b i = pick (is_data (under_in b) i) (out_number (under_in b)) no_number
